use Rattle.std.proofs.Common.{false}
use Rattle.ports_core.specs.declared.calling.Calling.TheVariants.{Cutters}
use Rattle.tools_core.{specs.Run.{whole_run, visible_by}, proofs.RunLemmas.refused_words}
use Rattle.tools_core.proofs.follow.run_follow.Goals as goal

pub returns-in-Ok : goal.returns-in-Ok
returns-in-Ok g c visible inputs = rw c.in-Ok.ensures.ok (c.follow_asked.ensures visible inputs)

pub returns-in-Err : goal.returns-in-Err
returns-in-Err g c visible inputs =
    let watch = c.args.watch.now in
    refused_words (visible_by visible _ _) (whole_run Cutters c.args.words.now inputs
    (false, g.W.Watch.shows watch, g.W.Watch.seen watch, g.W.Watch.watched watch)
    (g.O.Outs.slots c.refuse_words.new.outs) c.refuse_words.result) c.args.looks (c.requires.unseen, c.requires.unwatched) c.in-Err.ensures.err c.refuse_words.ensures
