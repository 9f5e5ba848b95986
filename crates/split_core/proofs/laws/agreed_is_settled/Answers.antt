use Rattle.split_core.proofs.{AgreedLemmas.agreed_at, UndecidedLemmas.{least_at, placed_at, placed_quiet, undecided_at}}
use Rattle.split_core.proofs.laws.agreed_is_settled.Goals as goal

pub returns : goal.returns
returns c = record {
  outputs = λ plan some x. agreed_at _ _ _ some;
  waits = λ plan some x. undecided_at _ _ _ some;
  placed = λ plan some quiet. placed_quiet _ _ _ some quiet;
  files = λ plan some. placed_at _ _ _ some;
  least = λ plan some. least_at _ _ _ some;
}
