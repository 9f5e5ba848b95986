-- Lemmas on the ways in which the value of an option is spelled.
use Rattle.std.proofs.{
  lemmas.{Grind.common_steps, Bool.{cond-false, cond-true, eq-eqb, ne_eqb, or_parts}},
  Common.{◌≡◌, ◌≢◌, ℕ, ◌+◌, ◌==◌, not, false, arith, List, [], ◌∷◌, ◌++◌, length, Option, Some, None, Result, Ok},
  Common.{cond, refl, ap, ◌∙◌, append-nil, rules},
  Math.Seq.{take-append_seam, drop-append-add, take-length},
}
use Rattle.std.specs.List.{list_any, position_or_len, before_first}
use Rattle.words_core.specs.{
  declared.{choice.{Choice.Choice, Kind.Kind}, table.Takes.Takes, spelling.State.TheVariants.Reading},
  Table.{OptionRow, alone, option_called},
  Choice.{choice_in, seen},
  Given.bare,
  Spelling.{after_equals, awaiting, is_equals, long, mixed, named, reading, valued},
  Laws.{Gives, IsLetter, IsLong, MayHave, kind_of},
}
use Rattle.ports_core.specs.declared.fault.UsageKind.{UsageKind}
use Rattle.words_core.specs.declared.table.Takes.TheVariants as takes

-- A value right after the letter of its option.

pub value_attached : (rows : List OptionRow) (letter : ℕ) (kind : Kind) (value : List ℕ) (choice : Choice)
    → IsLetter rows letter kind → value ≢ [] → choice_in kind value ≡ Ok choice
    → Gives rows Reading ((45 ∷ letter ∷ value) ∷ []) choice
value_attached rows letter kind value choice is some reads words place = search rules

-- A value in the word after its option.

awaited : (rows : List OptionRow) (kind : Kind) (word value : List ℕ) {choice : Choice}
    → ((place : ℕ) → mixed rows place word ≡ awaiting kind place) → choice_in kind value ≡ Ok choice
    → Gives rows Reading (word ∷ value ∷ []) choice
awaited rows kind word value awaits reads words place = let here = awaits place in search rules

pub value_after_letter : (rows : List OptionRow) (letter : ℕ) (kind : Kind) (value : List ℕ) (choice : Choice)
    → IsLetter rows letter kind → choice_in kind value ≡ Ok choice
    → Gives rows Reading ((45 ∷ letter ∷ []) ∷ value ∷ []) choice
value_after_letter rows letter kind value choice is reads words place = search rules

-- A value after a long name.

place_of_equals : (front rest : List ℕ) → list_any is_equals front ≡ false → position_or_len is_equals rest ≡ 0
    → position_or_len is_equals (front ++ rest) ≡ length front
place_of_equals [] rest none here = here
place_of_equals (byte ∷ front) rest none here =
    let both = or_parts (byte == 61) _ none in
    let past = place_of_equals front rest both.1 here in
    ap (λ test. cond (not test) (1 + position_or_len is_equals (front ++ rest)) 0) both.0 ∙ omega arith

no_place : (front : List ℕ) → list_any is_equals front ≡ false → position_or_len is_equals front ≡ length front
no_place front none = cc (append-nil front, place_of_equals front [] none refl)

equals_in : (front : List ℕ) {value : List ℕ} → list_any is_equals front ≡ false
    → after_equals (front ++ 61 ∷ value) ≡ Some value
equals_in front {value} none = grind (arith, common_steps, place_of_equals, cond-false, ne_eqb, drop-append-add)

name_in : (front value : List ℕ) → list_any is_equals front ≡ false
    → before_first is_equals (front ++ 61 ∷ value) ≡ front
name_in front value none = rw (place_of_equals front (61 ∷ value) none refl, take-append_seam front (61 ∷ value))

no_equals_in : (front : List ℕ) → list_any is_equals front ≡ false → after_equals front ≡ None
no_equals_in front none = grind (arith, common_steps, cond-true, eq-eqb, no_place)

all_name : (front : List ℕ) → list_any is_equals front ≡ false → before_first is_equals front ≡ front
all_name front none = rw (no_place front none, take-length front)

by_its_name : (rows : List OptionRow) (place : ℕ) (word : List ℕ) {name : List ℕ} {meant : Result Takes UsageKind}
    {value : Option (List ℕ)} → before_first is_equals word ≡ name → after_equals word ≡ value
    → option_called rows name ≡ meant
    → long rows place word ≡ named place meant value
by_its_name rows place word front rest is = rw (rest, front, is)

long_equals : {rows : List OptionRow} (name : List ℕ) {meant : Result Takes UsageKind} (value : List ℕ) (place : ℕ)
    → IsLong rows name meant
    → mixed rows place (45 ∷ 45 ∷ name ++ 61 ∷ value) ≡ named place meant (Some value)
long_equals [] value place is = absurd (is.some refl)
long_equals {rows} (byte ∷ name) value place is =
    let front : List ℕ = 45 ∷ 45 ∷ byte ∷ name in
    by_its_name rows place (front ++ 61 ∷ value) (name_in front value is.no_equals) (equals_in front is.no_equals) is.called

pub long_name : {rows : List OptionRow} (name : List ℕ) {meant : Result Takes UsageKind} (place : ℕ)
    → IsLong rows name meant
    → mixed rows place (45 ∷ 45 ∷ name) ≡ named place meant None
long_name [] place is = absurd (is.some refl)
long_name {rows} (byte ∷ name) place is =
    let front : List ℕ = 45 ∷ 45 ∷ byte ∷ name in
    by_its_name rows place front (all_name front is.no_equals) (no_equals_in front is.no_equals) is.called

with_value : (takes : Takes) {kind : Kind} (place : ℕ) (value : List ℕ) → kind_of takes ≡ Some kind
    → named place (Ok takes) (Some value) ≡ valued kind place place value
with_value takes place value is = search rules

pub value_after_equals : (rows : List OptionRow) (name : List ℕ) (takes : Takes) (value : List ℕ) (choice : Choice)
    → IsLong rows name (Ok takes) → MayHave takes value choice
    → Gives rows Reading ((45 ∷ 45 ∷ name ++ 61 ∷ value) ∷ []) choice
value_after_equals rows name takes value choice is has words place =
    rw (long_equals name value place is, with_value takes place value has.taken, has.asked)

pub value_after_name : (rows : List OptionRow) (name : List ℕ) (kind : Kind) (value : List ℕ) (choice : Choice)
    → IsLong rows name (Ok (takes.Value kind)) → choice_in kind value ≡ Ok choice
    → Gives rows Reading ((45 ∷ 45 ∷ name) ∷ value ∷ []) choice
value_after_name rows name kind value choice is =
    awaited rows kind (45 ∷ 45 ∷ name) value (λ place. long_name name place is)

without_value : (takes : Takes) {choice : Choice} (place : ℕ) → alone takes ≡ Some choice
    → named place (Ok takes) None ≡ reading (bare choice place)
without_value takes place is = search rules

pub long_alone : (rows : List OptionRow) (name : List ℕ) (takes : Takes) (choice : Choice)
    → IsLong rows name (Ok takes) → alone takes ≡ Some choice → Gives rows Reading ((45 ∷ 45 ∷ name) ∷ []) (seen choice)
long_alone rows name takes choice is takes_none words place =
    rw (long_name name place is, without_value takes place takes_none)
