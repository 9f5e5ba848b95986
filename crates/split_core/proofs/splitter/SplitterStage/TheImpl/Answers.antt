use Rattle.std.proofs.Common.{◌∙◌, sym}
use Rattle.split_core.proofs.RoundLemmas.{held_is}
use Rattle.split_core.proofs.splitter.SplitterStage.TheImpl.Goals as goal

pub waits-tells : goal.waits-tells
waits-tells c x few holds = c.ensures ∙ held_is _ x holds

pub is_done-tells : goal.is_done-tells
is_done-tells c = record {
  complete = c.ensures;
  exact = λ x holds. (λ done. sym (c.ensures x holds) ∙ done, λ done. c.ensures x holds ∙ done);
}

pub wanted-tells : goal.wanted-tells
wanted-tells c = record {
  some = λ x holds going. c.ensures.some;
  few = c.ensures.few;
}
