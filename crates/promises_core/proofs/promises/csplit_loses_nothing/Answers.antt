use Rattle.std.proofs.{Common.arith, lemmas.Grind.common_steps}
use Rattle.promises_core.proofs.CsplitPromises.{are_numbered, is_csplit, none_is_lost, none_missing}
use Rattle.promises_core.proofs.promises.csplit_loses_nothing.Goals as goal

pub returns : goal.returns
returns c = record {
  numbered = are_numbered;
  joined = none_is_lost;
  sections = λ run asked input does has.
      let split = is_csplit does has in (split.operands, split.asks, grind (arith, common_steps, none_missing));
}
