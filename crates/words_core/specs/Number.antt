-- Numbers in words, and what is wrong with them. A number that isn't of its form is reported first, then a number that
-- is too large, then 0.
use Rattle.std.specs.Prelude.{ℕ, List, ◌==◌, nat_le, Result, Ok, Err, if◌then◌else◌}
use Rattle.seg_core.specs.{Count.digits_of, declared.count.CountFault.{CountFault, TheVariants.TooLarge}}
use Rattle.ports_core.specs.declared.fault.UsageKind.{UsageKind, TheVariants.{BadNumber, NumberTooLarge, Zero}}

-- the next check, of the value, or the fault if something is already wrong
abbrev pub then_check : {A B E : Type 0} → Result A E → (A → Result B E) → Result B E
then_check (Ok value) next = next value
then_check (Err fault) next = Err fault

abbrev pub number_fault : CountFault → UsageKind
number_fault TooLarge = NumberTooLarge
number_fault fault = BadNumber

-- a number that was read, or its fault as a fault of words
abbrev pub counted : {A : Type 0} → Result A CountFault → Result A UsageKind
counted (Ok number) = Ok number
counted (Err fault) = Err (number_fault fault)

-- a number that is at most the limit
abbrev pub up_to : ℕ → Result ℕ CountFault → Result ℕ UsageKind
up_to limit number = then_check (counted number) (λ those. if nat_le those limit then Ok those else Err NumberTooLarge)

-- a number that is at least 1
abbrev pub not_zero : ℕ → Result ℕ UsageKind
not_zero number = if number == 0 then Err Zero else Ok number

-- what digits alone write: a number from 1 to the limit
abbrev pub positive_in : (limit : ℕ) → (text : List ℕ) → Result ℕ UsageKind
positive_in limit text = then_check (up_to limit (digits_of text)) not_zero
