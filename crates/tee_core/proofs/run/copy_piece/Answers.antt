use Rattle.std.proofs.{Common.{◌∙◌, ap, length, refl}, lemmas.List.length-map}
use Rattle.tee_core.proofs.{CopyLemmas.{outputs_changed, stepped, streams_kept}, TellLemmas.count_standings}
use Rattle.tee_core.proofs.run.copy_piece.Goals as goal

pub feed-requires : goal.feed-requires
feed-requires g c = λ live. c.requires.ready

pub tell_broken-requires-clause-streams : goal.tell_broken-requires-clause-streams
tell_broken-requires-clause-streams g c =
    let gets = outputs_changed c.requires.tee (c.feed.ensures.gets c.requires.tee.live) in
    rw (length-map c.args.job.now.names.now _) at
    (streams_kept c.requires.streams gets.count (gets.others 1 (λ is. is.0 refl)))

pub tell_broken-requires-clause-known : goal.tell_broken-requires-clause-known
tell_broken-requires-clause-known g c =
    rw (length-map c.args.job.now.names.now _) at (ap length c.requires.known ∙ count_standings c.requires.streams)

pub returns : goal.returns
returns g c =
    let gets = outputs_changed c.requires.tee (c.feed.ensures.gets c.requires.tee.live) in
    let step = stepped c.requires.streams (λ is. is.0 refl) c.requires.known gets c.tell_broken.ensures.seen
    c.tell_broken.ensures.said in
    record { same = c.feed.ensures.same; copies = step.0; known = step.1 }
