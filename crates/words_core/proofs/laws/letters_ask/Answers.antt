use Rattle.std.{
  proofs.lemmas.{
    Bool.{and_parts, lt-ltb, Decides.nat_tests},
    List.{
      take-append-drop,
      Elements.{All-weaker},
      Sums.{AllPass-from_list_all, list_all-from_AllPass, take_while-cons},
    },
  },
  proofs.Common.{◌≡◌, ◌≢◌, ◌⊎◌, ◌||◌, inl, inr, refl, sym, ◌∙◌, arith, rules, if◌then◌else◌, ℕ, Bool, true, false, is_some},
  proofs.Math.Bool.or-true,
  proofs.Common.{◌↔◌, ◌≤◌, zero, suc, ap, List, [], ◌∷◌, length, Option, None, Some},
  specs.{Prelude.{filter, nat_lt}, Char.is_ascii_digit, List.{Contains, list_all, prefix_len}, Option.unwrap_or},
}
use Rattle.seg_core.specs.{Count.{after_digits, leading_digits}, declared.unit.Unit.Unit as Measured}
use Rattle.ports_core.specs.declared.calling.Calling.{Calling, TheVariants.OwnName}
use Rattle.words_core.{
  specs.declared.{choice.Choice.Choice, table.{Takes.Takes}},
  specs.Laws.{HasLetters, IsNumberWithLetters, IsSwitch},
  specs.Lettered.{are_known, is_known, is_unit, switched, unit_in, unit_of},
  specs.Table.{OptionRow, alone, head_table, option_lettered, tail_table},
  proofs.{LetteredLemmas.{as_parts}, SpellingLemmas.either},
}
use Rattle.words_core.specs.declared.table.Takes.TheVariants as takes
use Rattle.words_core.proofs.laws.letters_ask.Goals as goal

pub returns-clause-asks : goal.returns-clause-asks
returns-clause-asks c rows sign text digits letters place is =
    let (first, rest) = as_parts text digits letters is in rw (first, rest) refl

-- The leading digits are digits.

leading_with : (byte : ℕ) (text : List ℕ) (test : Bool) → is_ascii_digit byte ≡ test
    → list_all is_ascii_digit (leading_digits text) ≡ true
    → list_all is_ascii_digit (leading_digits (byte ∷ text)) ≡ true
leading_with byte text true is are = rw (take_while-cons is_ascii_digit byte text, is, is, are) refl
leading_with byte text false is are = rw (take_while-cons is_ascii_digit byte text, is) refl

leading_are : (text : List ℕ) → list_all is_ascii_digit (leading_digits text) ≡ true
leading_are [] = refl
leading_are (byte ∷ text) = leading_with byte text (is_ascii_digit byte) refl (leading_are text)

unit_is_no_digit : (letter : ℕ) → is_unit letter ≡ true → is_ascii_digit letter ≡ false
unit_is_no_digit letter is = search rules

-- A letter that is known.

is_alone : (option : Option Takes) → is_some (switched option) ≡ true
    → (takes : Takes) × (choice : Choice) × (option ≡ Some takes) × (alone takes ≡ Some choice)
is_alone (Some (takes.Nothing choice)) is = (takes.Nothing choice, choice, refl, refl)
is_alone (Some (takes.Optional choice kind)) is = (takes.Optional choice kind, choice, refl, refl)
is_alone option is = absurd (cc)

module _ (rows : List OptionRow) where
  abbrev IsKnown : ℕ → Type 0
  IsKnown letter = (is_unit letter ≡ true) ⊎ ((choice : Choice) × IsSwitch rows letter choice)

  abbrev IsSafe : ℕ → Type 0
  IsSafe letter = (is_ascii_digit letter ≡ false) × (letter ≢ 45)

  abbrev Each : ℕ → Type 0
  Each letter = (is_ascii_digit letter ≡ false) × IsKnown letter

  known : (letter : ℕ) (unit : Bool) (option : Option Takes)
      → is_unit letter ≡ unit → option_lettered rows letter ≡ option
      → (unit || is_some (switched option)) ≡ true → (is_some (switched option) ≡ true → IsSafe letter)
      → Each letter
  known letter true option unit found is safe = (unit_is_no_digit letter unit, inl unit)
  known letter false option unit found is safe =
      let (one, choice, some, alone) = is_alone option is in
      ((safe is).0, inr (choice, record { takes = one; named = found ∙ some; alone = alone; no_hyphen = (safe is).1 }))

  known_so : (letter : ℕ) → IsKnown letter → is_known rows letter ≡ true
  known_so letter (inl unit) = rw unit refl
  known_so letter (inr (choice, is)) = rw (is.named, is.alone) (or-true (is_unit letter))

  -- known letters after the digits of a text
  has_letters : ((letter : ℕ) → is_some (switched (option_lettered rows letter)) ≡ true → IsSafe letter)
      → (text : List ℕ) → are_known rows (after_digits text) ≡ true
      → HasLetters rows text (leading_digits text) (after_digits text)
  has_letters safe text is =
      let (all, few) = and_parts (list_all (is_known rows) (after_digits text)) _ is in
      let each = All-weaker (λ letter. is_known rows letter ≡ true) Each
      (λ letter is. known letter (is_unit letter) (option_lettered rows letter) refl refl is (safe letter))
      (after_digits text) (AllPass-from_list_all (is_known rows) (after_digits text) all) in
      record {
        parted = record {
          whole = sym (take-append-drop (prefix_len is_ascii_digit text) text);
          number = leading_are text;
          others = All-weaker Each (λ letter. is_ascii_digit letter ≡ false) (λ letter is. is.0) (after_digits text) each;
        };
        few = (grind (arith, nat_tests));
        known = All-weaker Each IsKnown (λ letter is. is.1) (after_digits text) each;
      }

  are_known_so : {text digits letters : List ℕ} → HasLetters rows text digits letters → are_known rows letters ≡ true
  are_known_so {letters = letters} has =
      let all = list_all-from_AllPass (is_known rows) letters (All-weaker IsKnown
      (λ letter. is_known rows letter ≡ true) known_so letters has.known) in
      rw all (lt-ltb (length (filter is_unit letters)) 2 (omega (arith, has.few)))

safe_head : (letter : ℕ) → is_some (switched (option_lettered head_table letter)) ≡ true → IsSafe head_table letter
safe_head letter is = (grind (arith, nat_tests), grind (arith, nat_tests))

safe_tail : (calling : Calling) (letter : ℕ) → is_some (switched (option_lettered (tail_table calling) letter)) ≡ true
    → IsSafe head_table letter
safe_tail calling letter is = (grind (arith, nat_tests), grind (arith, nat_tests))

some_digits : (digits : List ℕ) → (nat_lt 0 (length digits) ≡ true) ↔ (digits ≢ [])
some_digits [] = (λ some. absurd (cc), λ some. absurd (some refl))
some_digits (digit ∷ digits) = (λ some none. absurd (cc), λ some. lt-ltb 0 (length (digit ∷ digits)) (omega arith))

pub returns-clause-head : goal.returns-clause-head
returns-clause-head c text = (
  λ is.
      let (known, some) = and_parts (are_known head_table (after_digits text)) _ is in
      (leading_digits text, after_digits text, (some_digits (leading_digits text)).0 some, has_letters head_table safe_head text known),
  λ (digits, letters, some, has).
      let (first, rest) = as_parts text digits letters has.parted in
      rw (rest, are_known_so head_table has, first) ((some_digits digits).1 some),
)

tail_shape : (calling : Calling) (text : List ℕ) → are_known (tail_table calling) (after_digits text) ≡ true
    → IsNumberWithLetters (tail_table calling) text
tail_shape calling text is =
    (leading_digits text, after_digits text, has_letters (tail_table calling) (safe_tail calling) text is)

pub returns-clause-tail : goal.returns-clause-tail
returns-clause-tail c calling text is = tail_shape calling text (and_parts (are_known (tail_table calling) (after_digits text)) _ is).0

pub returns-clause-start : goal.returns-clause-start
returns-clause-start c text is = tail_shape OwnName text (and_parts (are_known (tail_table OwnName) (after_digits text)) _ is).0

-- The unit is that of the only letter that stands for one.

some_unit : (letters : List ℕ) (letter : ℕ) → Contains letters letter → is_unit letter ≡ true
    → 1 ≤ length (filter is_unit letters)
some_unit [] letter (place, within, is) unit = absurd (omega arith)
some_unit (first ∷ letters) letter (zero, within, is) unit = rw (ap is_unit is ∙ unit) (omega arith)
some_unit (first ∷ letters) letter (suc place, within, is) unit =
    let more = some_unit letters letter (place, omega arith, is) unit in
    either (λ units. 1 ≤ length units) (is_unit first) _ _ (omega arith) more

is_later : (found : Option (Measured × ℕ)) (first : ℕ) (units : List ℕ) {rest unit : Measured × ℕ} → 1 ≤ length units
    → length (if is_some found then first ∷ units else units) ≤ 1 → (length units ≤ 1 → rest ≡ unit)
    → unwrap_or found rest ≡ unit
is_later None first units some few is = is few
is_later (Some other) first units some few is = absurd (omega arith)

only_unit : (letters : List ℕ) (letter : ℕ) {unit : Measured × ℕ} → length (filter is_unit letters) ≤ 1
    → Contains letters letter → unit_of letter ≡ Some unit → unit_in letters ≡ unit
only_unit [] letter few (place, within, is) said = absurd (omega arith)
only_unit (first ∷ letters) letter few (zero, within, is) said = rw (ap unit_of is ∙ said) refl
only_unit (first ∷ letters) letter few (suc place, within, is) said =
    let here : Contains letters letter = (place, omega arith, is) in
    is_later (unit_of first) first (filter is_unit letters) (some_unit letters letter here (ap is_some said)) few
    (λ fewer. only_unit letters letter fewer here said)

pub returns-clause-unit : goal.returns-clause-unit
returns-clause-unit c rows text digits letters letter unit has = only_unit letters letter has.few
