use Rattle.csplit_core.proofs.StageLemmas.{finishes_by, held_is, passes_by}
use Rattle.csplit_core.proofs.csplitter.CsplitterStage.TheImpl.Goals as goal

pub pass-tells : goal.pass-tells
pass-tells g c = passes_by g.O.Outs.visible c.args.self.now c.new.self.now c.args.piece.now _ _ c.result c.ensures.passes c.requires.ready c.ensures.taken c.requires.fits

pub finish-tells : goal.finish-tells
finish-tells g c = finishes_by g.O.Outs.visible c.args.self.now c.new.self.now _ _ c.ensures.closes c.requires.ready c.ensures.bound

pub waits-tells : goal.waits-tells
waits-tells g c x few holds = held_is holds few c.ensures
