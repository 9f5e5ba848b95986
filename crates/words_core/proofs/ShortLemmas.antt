-- Lemmas on values that may be cut short by a tool's own name: what `cutters` takes means the same there.
use Rattle.std.proofs.Common.{◌≡◌, refl, ap, ◌∙◌, arith, suc, ℕ, ◌+◌, ◌==◌, ◌&&◌, Bool, List, [], ◌∷◌}
use Rattle.std.proofs.Common.{map, rules}
use Rattle.std.proofs.Common.{if◌then◌else◌, Option, Some, None, option_map, Result, Ok, Err, ok_or, ◌⊎◌, inl, inr, ◌↔◌}
use Rattle.std.specs.{List.{before_first, list_all}, Option.{option_map_or, option_or, unwrap_or}, Prelude.nat_lt}
use Rattle.seg_core.specs.{Count.{after_digits, is_number}}
use Rattle.ports_core.specs.declared.{
  calling.Calling.{Calling, TheVariants.{Cutters, OwnName}},
  fault.{Fault.{Fault, TheVariants.Usage}, UsageKind.{UsageKind, TheVariants.{BadFollow, BadMode}}},
}
use Rattle.words_core.specs.{
  declared.{
    choice.{Choice.Choice, Kind.Kind},
    spelling.State.{State, TheVariants.{First, Reading}},
    table.{Letters.{Letters, TheVariants.{OfTail}}, Takes.Takes},
  },
  Choice.{asking, choice_in},
  Given.{Given},
  Lettered.{is_known, is_lettered, is_start, others, switched},
  Spelling.{Meaning, after_equals, cluster, dashed, foremost, given_before, is_equals, lettered, meaning_of},
  Spelling.{mixed, named, onward, said, spelled},
  Table.{OptionRow, beginning, begins_one, is_among, only_one, option_called, option_lettered, option_named},
  Laws.{AreCutShort, HasShortValue, IsCutShort},
  Refusal.word_at,
  Value.{follow_values, on_broken_values, only_value, value_by, value_in, values_from},
}
use Rattle.words_core.specs.declared.choice.Choice.TheVariants as choice
use Rattle.words_core.specs.declared.choice.Kind.TheVariants as kind
use Rattle.words_core.specs.declared.table.Takes.TheVariants as takes

-- a value in full is taken exactly, and one that is cut short where it is the only one

only_is : {A : Type 0} (found : List (List ℕ × A)) (value : A)
    → (only_value found ≡ Some value) ↔ ((name : List ℕ) × (found ≡ (name, value) ∷ []))
only_is (one ∷ []) value = (
  λ is. (one.0, ap (λ said. (one.0, unwrap_or said one.1) ∷ []) is),
  λ is. ap only_value is.1,
)
only_is found value = search rules

in_full : {A : Type 0} (calling : Calling) (values : List (List ℕ × A)) (text : List ℕ) {value : A}
    → value_in values text ≡ Some value → value_by calling values text ≡ Some value
in_full Cutters values text is = is
in_full OwnName values text is = rw is refl

pub are_cut_short : {A : Type 0} (values : List (List ℕ × A)) → AreCutShort values
are_cut_short values = record {
  full = λ calling text value. in_full calling values text;
  short = λ text value none. rw none (only_is (values_from values text) value);
  cutters = λ text. refl;
}

-- The kind of a value by a tool's own name, where that of `cutters` is this. What the value says is the same, or
-- `cutters` has this fault, since the value is cut short.

abbrev pub own_follow : Kind → Kind
own_follow (kind.Follow calling) = kind.Follow OwnName
own_follow other = other

abbrev pub own_on_broken : Kind → Kind
own_on_broken (kind.OnBroken calling) = kind.OnBroken OwnName
own_on_broken other = other

abbrev pub Alike : {A : Type 0} → List (List ℕ × A) → UsageKind → (Kind → Kind) → Kind → List ℕ → Type 0
Alike values bad own kind text = (choice_in (own kind) text ≡ choice_in kind text)
    ⊎ ((choice_in kind text ≡ Err bad) × IsCutShort values text)

alike : {A : Type 0} (make : A → Choice) (bad : UsageKind) (found short : Option A)
    → (asking make (ok_or (option_or found short) bad) ≡ asking make (ok_or found bad))
    ⊎ ((asking make (ok_or found bad) ≡ Err bad)
    × ((found ≡ None) × (value : A) × (option_or found short ≡ Some value)))
alike make bad found short = search rules

pub follow_alike : (kind : Kind) (text : List ℕ) → Alike follow_values BadFollow own_follow kind text
follow_alike (kind.Follow Cutters) text = alike choice.Follow BadFollow _ _
follow_alike other text = search rules

pub on_broken_alike : (kind : Kind) (text : List ℕ) → Alike on_broken_values BadMode own_on_broken kind text
on_broken_alike (kind.OnBroken Cutters) text = alike choice.OnBroken BadMode _ _
on_broken_alike other text = search rules

-- what is true of both pairs is true of the pair that a test picks
both_ways : {A : Type 0} (P : A → A → Type 0) (test : Bool) {own one other rest : A} → P own one → P other rest
    → P (if test then own else other) (if test then one else rest)
both_ways P test first second = search rules

module _ {A : Type 0} (values : List (List ℕ × A)) (own : Kind → Kind) (bad : UsageKind) where
  -- Words from this place on spell the same, or `cutters` has this fault in one of them, in which a value is cut short.

  abbrev pub SpellAlike : {B : Type 0} → ℕ → List (List ℕ) → Result B Fault → Result B Fault → Type 0
  SpellAlike place words own cutters = (own ≡ cutters) ⊎ ((at number : ℕ) × (at ≡ place + number)
      × (cutters ≡ Err (Usage bad at)) × HasShortValue values (word_at words number))

  -- the rows of a table by a tool's own name: kinds of values that may be missing differ

  abbrev pub own_takes : Takes → Takes
  own_takes (takes.Optional choice kind) = takes.Optional choice (own kind)
  own_takes other = other

  abbrev pub own_row : OptionRow → OptionRow
  own_row row = record row { takes = own_takes row.takes }

  abbrev pub own_rows : List OptionRow → List OptionRow
  own_rows rows = map own_row rows

  abbrev own_found : Result Takes UsageKind → Result Takes UsageKind
  own_found (Ok takes) = Ok (own_takes takes)
  own_found (Err fault) = Err fault

  found_so : (rows : List OptionRow) (name : List ℕ)
      → option_named (own_rows rows) name ≡ option_map own_takes (option_named rows name)
  found_so [] name = refl
  found_so (row ∷ rows) name =
      both_ways (λ own one. option_map (λ row. row.takes) own ≡ option_map own_takes (option_map (λ row. row.takes) one))
      (is_among row.names name) refl (found_so rows name)

  begun_so : (rows : List OptionRow) (start : List ℕ)
      → beginning (own_rows rows) start ≡ own_rows (beginning rows start)
  begun_so [] start = refl
  begun_so (row ∷ rows) start = both_ways (λ own one. own ≡ own_rows one) (begins_one row.names start)
      (ap (λ rows. own_row row ∷ rows) (begun_so rows start)) (begun_so rows start)

  full_so : (found : Option Takes) (begun : List OptionRow)
      → option_map_or Ok (option_map own_takes found) (only_one (own_rows begun))
      ≡ own_found (option_map_or Ok found (only_one begun))
  full_so found begun = search rules

  module _ (alike : (kind : Kind) (text : List ℕ) → Alike values bad own kind text) (rows : List OptionRow) where
    -- letters: to them no value belongs that may be missing

    letter_so : (letter : ℕ)
        → option_lettered (own_rows rows) letter ≡ option_map own_takes (option_lettered rows letter)
    letter_so letter = both_ways (λ own one. own ≡ option_map own_takes one) (nat_lt letter 128)
        (found_so rows (45 ∷ letter ∷ [])) refl

    lettered_so : (place : ℕ) (rest : List ℕ) (others : Result Meaning Fault) (option : Option Takes)
        → lettered place rest others (option_map own_takes option) ≡ lettered place rest others option
    lettered_so place rest others option = search rules

    cluster_so : (place : ℕ) (letters : List ℕ) → cluster (own_rows rows) place letters ≡ cluster rows place letters
    cluster_so place [] = refl
    cluster_so place (letter ∷ rest) = rw (letter_so letter, cluster_so place rest)
        (lettered_so place rest (cluster rows place rest) (option_lettered rows letter))

    switched_so : (option : Option Takes) → switched (option_map own_takes option) ≡ switched option
    switched_so option = search rules

    known_so : (letters : List ℕ) → list_all (is_known (own_rows rows)) letters ≡ list_all (is_known rows) letters
    known_so [] = refl
    known_so (letter ∷ letters) = rw (letter_so letter, switched_so (option_lettered rows letter), known_so letters) refl

    start_so : (calling : Calling) (letters : Letters) (text : List ℕ)
        → is_start calling (own_rows rows) letters text ≡ is_start calling rows letters text
    start_so OwnName OfTail text = rw (known_so (after_digits text)) refl
    start_so calling letters text = search rules

    -- one word, and all

    long_so : (place : ℕ) (word : List ℕ) (words : List (List ℕ)) (option : Result Takes UsageKind)
        (value : Option (List ℕ)) → after_equals word ≡ value
        → SpellAlike place (word ∷ words) (named place (own_found option) value) (named place option value)
    long_so place word words (Ok (takes.Optional choice kind)) (Some text) is = elim (alike kind text) [
      | inl same ↦ inl (ap (said place place) same)
      | inr (fault, short) ↦ inr (place, 0, omega arith, ap (said place place) fault, (text, is, short))
    ]
    long_so place word words option value is = search rules

    dashed_so : (place : ℕ) (word rest : List ℕ) (words : List (List ℕ))
        → SpellAlike place (word ∷ words) (dashed (own_rows rows) place word rest) (dashed rows place word rest)
    dashed_so place word [] words = inl refl
    dashed_so place word (byte ∷ rest) words =
        let name : List ℕ = before_first is_equals word in
        rw (found_so rows name, begun_so rows name, full_so (option_named rows name) (beginning rows name))
        (long_so place word words (option_called rows name) (after_equals word) refl)

    mixed_so : (place : ℕ) (word : List ℕ) (words : List (List ℕ))
        → SpellAlike place (word ∷ words) (mixed (own_rows rows) place word) (mixed rows place word)
    mixed_so place [] words = inl refl
    mixed_so place (byte ∷ []) words = inl refl
    mixed_so place (byte ∷ next ∷ rest) words =
        let Both : Result Meaning Fault → Result Meaning Fault → Type 0 = SpellAlike place ((byte ∷ next ∷ rest) ∷ words) in
        both_ways Both (byte == 45) (both_ways Both (next == 45) (dashed_so place (byte ∷ next ∷ rest) rest words)
        (inl (cluster_so place (next ∷ rest)))) (inl refl)

    meaning_so : (state : State) (place : ℕ) (word : List ℕ) (words : List (List ℕ))
        → SpellAlike place (word ∷ words) (meaning_of (own_rows rows) state place word)
        (meaning_of rows state place word)
    unfolding foremost
    meaning_so (First calling kind letters) place [] words = inl refl
    meaning_so (First calling kind letters) place (byte ∷ text) words =
        let Both : Result Meaning Fault → Result Meaning Fault → Type 0 = SpellAlike place ((byte ∷ text) ∷ words) in
        rw (known_so (after_digits text), start_so calling letters text, cluster_so place (others (after_digits text)))
        (both_ways Both (byte == 45 && is_number text) (inl refl)
        (both_ways Both (byte == 45 && is_lettered rows letters text) (inl refl)
        (both_ways Both (byte == 43 && is_start calling rows letters text) (inl refl) (mixed_so place (byte ∷ text) words))))
    meaning_so Reading place word words = mixed_so place word words
    meaning_so other place word words = search rules

    onward_so : (place : ℕ) (word : List ℕ) (words : List (List ℕ)) {own_rest rest : State → Result Given Fault}
        (meant : Result Meaning Fault) → ((state : State) → SpellAlike (place + 1) words (own_rest state) (rest state))
        → SpellAlike place (word ∷ words) (onward own_rest meant) (onward rest meant)
    onward_so place word words (Err fault) after = inl refl
    onward_so place word words (Ok meaning) after = elim (after meaning.next) [
      | inl same ↦ inl (ap (given_before meaning.given) same)
      | inr (at, number, is, fault, short) ↦ inr (at, suc number, omega arith, ap (given_before meaning.given) fault, short)
    ]

    words_so : (words : List (List ℕ)) (place : ℕ) (state : State)
        → SpellAlike place words (spelled (own_rows rows) words place state) (spelled rows words place state)
    words_so [] place state = inl refl
    words_so (word ∷ words) place state = elim (meaning_so state place word words) [
      | inl same ↦ rw same (onward_so place word words (meaning_of rows state place word) (words_so words (place + 1)))
      | inr (at, number, is, fault, short) ↦ inr (at, number, is, ap (onward (spelled rows words (place + 1))) fault, short)
    ]

    pub alike_after : (name : List ℕ) (words : List (List ℕ)) (state : State)
        → (spelled (own_rows rows) words 1 state ≡ spelled rows words 1 state)
        ⊎ ((place : ℕ) × (spelled rows words 1 state ≡ Err (Usage bad place))
        × HasShortValue values (word_at (name ∷ words) place))
    alike_after name words state = elim (words_so words 1 state) [
      | inl same ↦ inl same
      | inr (at, number, is, fault, short) ↦ inr (suc number, fault ∙ ap (λ at. Err (Usage bad at)) (omega (arith, is)), short)
    ]
