use Rattle.std.proofs.Common.{◌≡◌, ℕ, ◌+◌, List, [], ◌∷◌, Ok, refl}
use Rattle.words_core.{
  specs.{declared.spelling.State.TheVariants.OnlyOperands, Table.OptionRow, Spelling.spelled, Laws.as_operands},
}
use Rattle.words_core.proofs.laws.operands_follow_the_end.Goals as goal

only_operands : (rows : List OptionRow) (words : List (List ℕ)) (place : ℕ)
    → spelled rows words place OnlyOperands ≡ Ok (record { options = []; operands = as_operands place words })
only_operands rows [] place = refl
only_operands rows (word ∷ words) place = rw (only_operands rows words (place + 1))

pub returns : goal.returns
returns c rows words place = rw (only_operands rows words (place + 1))
