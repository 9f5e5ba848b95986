-- Lemmas on a first word that is a number with letters: a hyphen or a `+`, digits and letters.
use Rattle.std.proofs.{
  lemmas.{Grind.common_steps, Bool.{and_parts, lt-ltb, ne_eqb}, List.Elements.All-head},
  Math.Seq.{drop-append_seam, take-append_seam},
  Common.{◌≡◌, refl, ℕ, ◌≤◌, ◌<◌, ◌==◌, ◌||◌, Bool, true, false, arith, List, [], ◌∷◌, ◌++◌},
  Common.{length, append_assoc, None, Result, Ok, Err, sym, ◌∙◌, rules, All},
}
use Rattle.std.specs.{Char.is_ascii_digit, List.{list_all, prefix_len}}
use Rattle.seg_core.specs.{
  declared.{count.{Count.Count, Sign.Sign}, unit.Unit.Unit as Measured},
  Count.{after_digits, leading_digits},
}
use Rattle.ports_core.specs.declared.{
  calling.Calling.{Calling, TheVariants.OwnName},
  fault.{Fault.{Fault, TheVariants.Usage}, UsageKind.{UsageKind, TheVariants.UnknownOption}},
}
use Rattle.words_core.specs.{
  declared.{table.{Letters.{Letters, TheVariants.{OfHead, OfTail}}}, spelling.State.State},
  declared.{choice.Choice.{TheVariants.Amount}},
  Given.{Given, joined, one_option},
  Laws.IsParted,
  Lettered.{are_known, are_of_tail, has_digits, is_lettered, is_start, others, times, unit_in, without_digits},
  Spelling.{Meaning, before, cluster, mixed, with_letters},
  Table.{OptionRow, head_table, is_among, option_lettered, tail_table},
  inner.Spelling.Adds,
}

-- What calls add one after another.

before_both : (old one : Given) (more : Result Meaning Fault)
    → before (joined old one) more ≡ before old (before one more)
before_both old one (Ok meaning) = grind (arith, common_steps, append_assoc)
before_both old one (Err fault) = refl

pub adds_both : (old one : Given) (more : Result Meaning Fault) (new : Given) (result : Result State Fault)
    → Adds more (joined old one) new result → Adds (before one more) old new result
adds_both old one more new (Ok next) is = rw (before_both old one more) at is
adds_both old one more new (Err fault) is = rw (before_both old one more) at is

-- a call added the count and then the options
pub adds_count : (rows : List OptionRow) (sign : Sign) (place : ℕ) (text : List ℕ) (unit : Measured × ℕ)
    (counted : Result Count UsageKind) {count : Count} (old mid new : Given) (result : Result State Fault)
    → unit ≡ unit_in (after_digits text) → counted ≡ times sign (leading_digits text) unit.1 → counted ≡ Ok count
    → mid ≡ joined old (one_option (Amount unit.0 count) place)
    → Adds (cluster rows place (others (after_digits text))) mid new result
    → Adds (with_letters rows sign place text) old new result
adds_count rows sign place text unit counted {count} old mid new result which many is met adds =
    let told : times sign (leading_digits text) (unit_in (after_digits text)).1 ≡ Ok count = rw (← which) (sym many ∙ is) in
    rw told (rw (← which) (adds_both old (one_option (Amount unit.0 count) place) _ new result (rw met at adds)))

pub start_known : (calling : Calling) (rows : List OptionRow) (letters : Letters) (text : List ℕ)
    → is_start calling rows letters text ≡ true → are_known rows (after_digits text) ≡ true
start_known OwnName rows OfTail text is = (and_parts (are_known rows (after_digits text)) _ is).0
start_known calling rows letters text is = absurd (cc)

-- The digits and the letters of a number with letters.

abbrev pub HasParts : (text digits letters : List ℕ) → Type 0
HasParts text digits letters = (leading_digits text ≡ digits) × (after_digits text ≡ letters)

digits_in : (digits rest : List ℕ) → list_all is_ascii_digit digits ≡ true → prefix_len is_ascii_digit rest ≡ 0
    → prefix_len is_ascii_digit (digits ++ rest) ≡ length digits
digits_in [] rest all none = none
digits_in (digit ∷ digits) rest all none =
    let both = and_parts (is_ascii_digit digit) _ all in
    let more = digits_in digits rest both.1 none in
    rw (both.0) (omega arith)

pub parts : (digits letters : List ℕ) → list_all is_ascii_digit digits ≡ true → prefix_len is_ascii_digit letters ≡ 0
    → HasParts (digits ++ letters) digits letters
parts digits letters all none =
    let count = digits_in digits letters all none in
    (rw count (take-append_seam digits letters), rw count (drop-append_seam digits letters))

no_first : (letters : List ℕ) → All (λ letter. is_ascii_digit letter ≡ false) letters
    → prefix_len is_ascii_digit letters ≡ 0
no_first [] are = refl
no_first (letter ∷ letters) are = rw (All-head (λ letter. is_ascii_digit letter ≡ false) letter letters are) refl

pub as_parts : (text digits letters : List ℕ) → IsParted text digits letters → HasParts text digits letters
as_parts text digits letters is = rw is.whole (parts digits letters is.number (no_first letters is.others))

-- A word that is read as a number with letters means nothing else.
unknown_first : (rows : List OptionRow) (place byte : ℕ) (rest : List ℕ) → option_lettered rows byte ≡ None
    → (byte == 45) ≡ false → mixed rows place (45 ∷ byte ∷ rest) ≡ Err (Usage UnknownOption place)
unknown_first rows place byte rest none other = rw (other, none)

begins_with_digit : (rows : List OptionRow) (place : ℕ) (text : List ℕ)
    → ((byte : ℕ) → 48 ≤ byte → byte ≤ 57 → option_lettered rows byte ≡ None) → has_digits text ≡ true
    → mixed rows place (45 ∷ text) ≡ Err (Usage UnknownOption place)
begins_with_digit rows place [] none some = absurd (cc)
begins_with_digit rows place (byte ∷ rest) none some = grind (arith, common_steps, unknown_first)

head_has_no_digit : (byte : ℕ) → 48 ≤ byte → byte ≤ 57 → option_lettered head_table byte ≡ None
head_has_no_digit byte least most = search rules

tail_has_no_digit : (calling : Calling) (byte : ℕ) → 48 ≤ byte → byte ≤ 57
    → option_lettered (tail_table calling) byte ≡ None
tail_has_no_digit calling byte least most =
    let no : (letter : ℕ) → 57 < letter → (letter == byte) ≡ false = λ letter above. ne_eqb letter byte (omega arith) in
    rw (
      lt-ltb byte 128 (omega arith),
      ne_eqb 45 byte (omega arith),
      no 110 (omega arith),
      no 99 (omega arith),
      no 113 (omega arith),
      no 118 (omega arith),
      no 122 (omega arith),
      no 102 (omega arith),
      no 70 (omega arith),
      no 115 (omega arith),
    ) refl

pub head_letters : (text : List ℕ) (place : ℕ) → is_lettered head_table OfHead text ≡ true
    → mixed head_table place (45 ∷ text) ≡ Err (Usage UnknownOption place)
head_letters text place is =
    begins_with_digit head_table place text head_has_no_digit (and_parts (are_known head_table (after_digits text)) _ is).1

begins_with_unit : (calling : Calling) (text : List ℕ) (place : ℕ) → is_among without_digits text ≡ true
    → mixed (tail_table calling) place (45 ∷ text) ≡ Err (Usage UnknownOption place)
begins_with_unit calling [] place among = absurd (cc)
begins_with_unit calling (byte ∷ text) place among = grind (arith, common_steps)

pub tail_letters : (calling : Calling) (text : List ℕ) (place : ℕ)
    → is_lettered (tail_table calling) OfTail text ≡ true
    → mixed (tail_table calling) place (45 ∷ text) ≡ Err (Usage UnknownOption place)
tail_letters calling text place is =
    let taken = (and_parts (are_known (tail_table calling) (after_digits text)) _ is).1 in
    by (has_digits text) refl (and_parts (are_of_tail (after_digits text)) _ taken).1 where
      by : (some : Bool) → has_digits text ≡ some → (some || is_among without_digits text) ≡ true
          → mixed (tail_table calling) place (45 ∷ text) ≡ Err (Usage UnknownOption place)
      by true some either = begins_with_digit (tail_table calling) place text (tail_has_no_digit calling) some
      by false some among = begins_with_unit calling text place among
