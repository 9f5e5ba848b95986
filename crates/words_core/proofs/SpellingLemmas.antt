-- Lemmas on what words spell, word after word.
use Rattle.std.proofs.{
  lemmas.Grind.common_steps,
  Common.{rules, ◌≡◌, ℕ, ◌+◌, Bool, if◌then◌else◌, arith, List, [], ◌∷◌, ◌++◌, Result, Ok, Err},
}
use Rattle.ports_core.specs.declared.fault.{
  Fault.{Fault, TheVariants.Usage},
  UsageKind.{UsageKind, TheVariants.MissingValue},
}
use Rattle.words_core.specs.{
  declared.spelling.State.State,
  Table.OptionRow,
  Given.Given,
  Spelling.{Meaning, given_before, onward, meaning_of, spelled},
}

-- what is true of both values is true of the one that a test picks
pub either : {A : Type 0} (P : A → Type 0) (test : Bool) (one other : A) → P one → P other
    → P (if test then one else other)
either P test one other first second = search rules

-- A fault among the first words stays, whatever words follow.

pub of_more : (given : Given) (meant : Result Given Fault) {fault : Fault} → given_before given meant ≡ Err fault
    → meant ≡ Err fault
of_more given meant is = search rules

still_told : (first more : List (List ℕ)) (rows : List OptionRow) (place : ℕ) (meant : Result Meaning Fault)
    (kind : UsageKind) (word : ℕ)
    → ((state : State) → spelled rows first (place + 1) state ≡ Err (Usage kind word)
    → spelled rows (first ++ more) (place + 1) state ≡ Err (Usage kind word))
    → onward (spelled rows first (place + 1)) meant ≡ Err (Usage kind word)
    → onward (spelled rows (first ++ more) (place + 1)) meant ≡ Err (Usage kind word)
still_told first more rows place (Ok meaning) kind word rest is = grind (arith, common_steps)
still_told first more rows place (Err fault) kind word rest is = is

pub told_whatever_follows : (first more : List (List ℕ)) (rows : List OptionRow) (place : ℕ) (state : State)
    {kind : UsageKind} (word : ℕ) → (kind ≡ MissingValue → ⊥)
    → spelled rows first place state ≡ Err (Usage kind word)
    → spelled rows (first ++ more) place state ≡ Err (Usage kind word)
told_whatever_follows [] more rows place state word other is = grind (arith, common_steps)
told_whatever_follows (front ∷ first) more rows place state {kind} word other is =
    still_told first more rows place (meaning_of rows state place front) kind word
    (λ next. told_whatever_follows first more rows (place + 1) next word other) is
