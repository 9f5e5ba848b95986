use Rattle.std.proofs.{Common.{◌≡◌, ◌≤◌, ℕ, ◌+◌, arith, List, [], ◌∷◌, ◌++◌, length, Result, Ok, Err, rules}}
use Rattle.ports_core.specs.declared.fault.{Fault.{Fault, TheVariants.Usage}, UsageKind.UsageKind}
use Rattle.words_core.{
  specs.{
    declared.spelling.State.{State},
    Table.OptionRow,
    Given.Given,
    Spelling.{Meaning, ended, given_before, meaning_of, onward, spelled},
  },
  proofs.{MeaningLemmas.{Awaits, GivesItself, meaning-gives}, SpellingLemmas.{of_more, told_whatever_follows}},
}
use Rattle.words_core.proofs.laws.leftmost_fault_decides.Goals as goal

well_more : (given whole : Given) (meant : Result Given Fault) → given_before given meant ≡ Ok whole
    → (rest : Given) × (meant ≡ Ok rest)
well_more given whole meant is = search rules

ends_after : (least : ℕ) (state : State) (kind : UsageKind) (word : ℕ) → Awaits least state
    → ended state ≡ Err (Usage kind word) → least ≤ word
ends_after least state kind word awaits is = search rules

awaits_later : (least place : ℕ) (state : State) → least ≤ place → Awaits place state → Awaits least state
awaits_later least place state within awaits = search rules

module _ (rows : List OptionRow) (kind : UsageKind) (word : ℕ) where
  goes_after : (least : ℕ) {place : ℕ} (front : List ℕ) (rest : State → Result Given Fault)
      (meant : Result Meaning Fault) → least ≤ place → GivesItself rows place front meant
      → ((state : State) → Awaits least state → rest state ≡ Err (Usage kind word) → least ≤ word)
      → onward rest meant ≡ Err (Usage kind word) → least ≤ word
  goes_after least {place} front rest (Ok meaning) within stands later is =
      later meaning.next (awaits_later least place meaning.next within stands.2)
      (of_more meaning.given (rest meaning.next) is)
  goes_after least front rest (Err fault) within stands later is = search rules

  fault_after : (words : List (List ℕ)) (least place : ℕ) (state : State) → least ≤ place → Awaits least state
      → spelled rows words place state ≡ Err (Usage kind word) → least ≤ word
  fault_after [] least place state within awaits is = ends_after least state kind word awaits is
  fault_after (front ∷ words) least place state within awaits is =
      goes_after least front (spelled rows words (place + 1)) (meaning_of rows state place front) within (meaning-gives rows place state front)
      (λ next awaited. fault_after words least (place + 1) next (omega arith) awaited) is

  well_end : (state : State) {given : Given} (least : ℕ) → ended state ≡ Ok given → Awaits least state
  well_end state least is = search rules

  later_by : (first more : List (List ℕ)) (place : ℕ) {given : Given} (meant : Result Meaning Fault)
      → ((state : State) (rest : Given) → spelled rows first (place + 1) state ≡ Ok rest
      → spelled rows (first ++ more) (place + 1) state ≡ Err (Usage kind word) → place + 1 + length first ≤ word)
      → onward (spelled rows first (place + 1)) meant ≡ Ok given
      → onward (spelled rows (first ++ more) (place + 1)) meant ≡ Err (Usage kind word)
      → place + 1 + length first ≤ word
  later_by first more place {given} (Ok meaning) later well is =
      let rest = well_more meaning.given given (spelled rows first (place + 1) meaning.next) well in
      later meaning.next rest.0 rest.1 (of_more meaning.given (spelled rows (first ++ more) (place + 1) meaning.next) is)
  later_by first more place (Err fault) later well is = absurd (cc)

  -- if the first words have no fault, a fault stands after them
  stands_later : (first more : List (List ℕ)) (place : ℕ) (state : State) (given : Given)
      → spelled rows first place state ≡ Ok given → spelled rows (first ++ more) place state ≡ Err (Usage kind word)
      → place + length first ≤ word
  stands_later [] more place state given well is =
      let least = fault_after more place place state (omega arith) (well_end state place well) is in omega arith
  stands_later (front ∷ first) more place state given well is =
      let least = later_by first more place (meaning_of rows state place front)
      (λ next rest. stands_later first more (place + 1) next rest) well is in omega arith

pub returns : goal.returns
returns c = record {
  decides = λ start first more kind word is other.
      told_whatever_follows first more start.rows start.place start.state word other is;
  later = λ start first more given kind word.
      stands_later start.rows kind word first more start.place start.state given;
}
