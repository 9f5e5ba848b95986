use Rattle.std.proofs.{Common.{◌∙◌, ap, arith, length}, lemmas.List.length-map}
use Rattle.tee_core.proofs.{CopyLemmas.{files_changed, stepped, streams_kept}, TellLemmas.count_standings}
use Rattle.tee_core.proofs.run.close_all.Goals as goal

pub close-requires : goal.close-requires
close-requires g c = λ live. c.requires.ready

pub tell_broken-requires-clause-streams : goal.tell_broken-requires-clause-streams
tell_broken-requires-clause-streams g c =
    let closes = files_changed c.requires.tee (c.close.ensures.closes c.requires.tee.live) in
    rw (length-map c.args.job.now.names.now _) at
    (streams_kept c.requires.streams closes.count (closes.others 1 (λ file. omega (arith, file.0))))

pub tell_broken-requires-clause-known : goal.tell_broken-requires-clause-known
tell_broken-requires-clause-known g c =
    rw (length-map c.args.job.now.names.now _) at (ap length c.requires.known ∙ count_standings c.requires.streams)

pub returns : goal.returns
returns g c =
    let closes = files_changed c.requires.tee (c.close.ensures.closes c.requires.tee.live) in
    let step = stepped c.requires.streams (λ file. omega (arith, file.0)) c.requires.known closes c.tell_broken.ensures.seen
    c.tell_broken.ensures.said in
    record { closes = step.0; known = step.1 }
