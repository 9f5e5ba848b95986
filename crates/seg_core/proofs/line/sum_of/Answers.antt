use Rattle.std.proofs.{Common.replicate, lemmas.Simd.dot4_Fits}
use Rattle.seg_core.{specs.declared.line.TheConstants.STEP, proofs.Lanes.{fours_fit, fold-fours}}
use Rattle.seg_core.proofs.line.sum_of.Goals as goal

pub dot4 : goal.dot4
dot4 c = (dot4_Fits c.args.lanes (replicate STEP 1) c.fits-lanes.1 tt, tt)

pub overflow_add-result : goal.overflow_add-result
overflow_add-result c = fours_fit c.args.lanes c.fits-lanes.0 c.fits-lanes.1

pub returns : goal.returns
returns c = fold-fours c.args.lanes c.fits-lanes.0
