use Rattle.std.{proofs.Common.{◌≡◌, ◌==◌, drop}, specs.List.list_all}
use Rattle.words_core.proofs.value.are_zeros.Given as goal

abbrev pub invariant-loop-digit : goal.invariant-loop-digit
invariant-loop-digit l = list_all (λ digit. digit == 48) (drop l.digit-index l.digits) ≡ list_all (λ digit. digit == 48) l.digits
