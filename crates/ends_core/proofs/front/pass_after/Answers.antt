use Rattle.std.proofs.{lemmas.{Grind.common_steps, List.take_rest}, Common.{◌∙◌, arith}}
use Rattle.ends_core.proofs.KeptLemmas.{after_is_drop, broke_in}
use Rattle.ends_core.proofs.front.pass_after.Goals as goal

pub returns-in-Ok-clause-wrote : goal.returns-in-Ok-clause-wrote
returns-in-Ok-clause-wrote g c = grind (arith, common_steps, take_rest, after_is_drop)

pub returns-in-Err-clause-wrote : goal.returns-in-Err-clause-wrote
returns-in-Err-clause-wrote g c = record {
  out = tt;
  cut = broke_in g.O.Outs.visible
      (take_rest c.args.piece.now c.take_in-bytes.result
      ∙ after_is_drop _ _ _ c.take_in-bytes.result c.args.piece.now c.take_in-bytes.ensures.front) c.in-Err.ensures.cut;
}
