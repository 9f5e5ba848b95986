-- Lemmas on how a format is read.
use Rattle.std.proofs.{
  lemmas.{
    Grind.common_steps,
    Bool.{cases_lt, Decides.nat_tests},
    List.{take-append-drop, take_rest},
    Str.{IsCharBoundary-after_ascii, IsCharBoundary-before_ascii, IsCharBoundary-end},
  },
  Common.{rules, ◌≡◌, ℕ, ◌+◌, ◌-◌, ◌^◌, ◌<◌, ◌≤◌, ◌==◌, ◌&&◌, suc, min, not, nat_le, Bool, true, false, cond, List},
  Common.{[], ◌∷◌, ◌++◌, length, take, drop, get_or, Option, Some, None, inl, inr, refl, sym, subst, ◌∙◌, ap, arith},
  Common.{append_assoc, length-append, ◌⊎◌},
  Math.{Bool.and-false, Seq.{drop-append-add, get_or-append_seam}},
}
use Rattle.std.specs.{
  Prelude.{IfSome, option_and_then, option_map, slice_range},
  Str.{IsCharBoundary, IsUtf8},
  Char.is_ascii_digit,
  List.{after_first, before_first, position_or_len, prefix_len},
}
use Rattle.ports_core.specs.declared.form.{Base.Base, Form.Form}
use Rattle.seg_core.specs.Count.{after_digits}
use Rattle.words_core.specs.{
  Format.{before_it, conversion_in, format_in, after_precision, after_text, form_of, with_letter, base_of},
  Format.{go_with, plain_text, text as at_place},
  inner.Format.{AfterLetter, without_percent},
}

-- Numbers above the limit are all treated alike.

clipped : (n : ℕ)
    → (min n (2 ^ 64 - 1) ≡ n) ⊎ ((nat_le n 255 ≡ false) × (nat_le (min n (2 ^ 64 - 1)) 255 ≡ false))
clipped n = elim (cases_lt 255 n) [
  | inl large ↦ inr (grind (arith, nat_tests), grind (arith, nat_tests))
  | inr within ↦ inl (omega arith)
]

width_clipped : (flags : List ℕ) (width : ℕ) (precision : Option ℕ) (base : Base)
    → form_of flags (min width (2 ^ 64 - 1)) precision base ≡ form_of flags width precision base
width_clipped flags width precision base = elim (clipped width) [
  | inl same ↦ rw same refl
  | inr (one, other) ↦ rw (one, other, and-false (go_with base flags)) refl
]

form_clipped : (flags : List ℕ) (width : ℕ) (precision : Option ℕ) (base : Base)
    → form_of flags (min width (2 ^ 64 - 1)) (option_map (λ digits. min digits (2 ^ 64 - 1)) precision) base
    ≡ form_of flags width precision base
form_clipped flags width None base = width_clipped flags width None base
form_clipped flags width (Some digits) base = width_clipped flags width (Some (min digits (2 ^ 64 - 1))) base ∙ elim (clipped digits) [
  | inl same ↦ rw same refl
  | inr (one, other) ↦ rw (one, other, and-false (nat_le width 255), and-false (go_with base flags)) refl
]

pub letter_clipped : (flags : List ℕ) (width : ℕ) (precision : Option ℕ) (text : List ℕ)
    → with_letter flags (min width (2 ^ 64 - 1)) (option_map (λ digits. min digits (2 ^ 64 - 1)) precision) text
    ≡ with_letter flags width precision text
letter_clipped flags width precision [] = refl
letter_clipped flags width precision (letter ∷ rest) = λ i.
    option_map (λ form. (form, rest)) (option_and_then (λ base. form_clipped flags width precision base i) (base_of letter))

-- What follows a letter.

pub after_drop : (n : ℕ) (text : List ℕ) {rest : List ℕ} → AfterLetter (drop n text) rest → AfterLetter text rest
after_drop n text (front, letter, ascii, is) = (
  take n text ++ front,
  letter,
  ascii,
  sym (take-append-drop n text)
      ∙ ap (λ back. take n text ++ back) is ∙ sym (append_assoc (take n text) front _),
)

after_more : (byte : ℕ) {text rest : List ℕ} → AfterLetter text rest → AfterLetter (byte ∷ text) rest
after_more byte (front, letter, ascii, is) = (byte ∷ front, letter, ascii, ap (λ text. byte ∷ text) is)

pub after_letter_of_precision : (text : List ℕ) {rest : List ℕ} → AfterLetter (after_precision text) rest
    → AfterLetter text rest
after_letter_of_precision [] is = is
after_letter_of_precision (byte ∷ text) {rest} is = by (byte == 46) is where
  by : (dot : Bool) → AfterLetter (cond dot (after_digits text) (byte ∷ text)) rest → AfterLetter (byte ∷ text) rest
  by true is = after_more byte (after_drop (prefix_len is_ascii_digit text) text is)
  by false is = is

letter_ends : {text rest : List ℕ} → IsUtf8 text → AfterLetter text rest
    → (length rest ≤ length text) × IsCharBoundary text (length text - length rest)
letter_ends {text} {rest} utf8 (front, letter, ascii, is) =
    let size = ap length is ∙ length-append front (letter ∷ rest) in
    let at : get_or text (length front) 0 ≡ letter = ap (λ text. get_or text (length front) 0) is ∙ get_or-append_seam front letter rest 0 in
    let place : length text - length rest ≡ length front + 1 = omega arith in
    (omega arith, rw place (IsCharBoundary-after_ascii text (length front) utf8 (omega arith) (omega arith)))

-- Texts as slices.

-- a text is its first byte and what follows it
pub first_and_rest : (text : List ℕ) → 1 ≤ length text → text ≡ get_or text 0 0 ∷ take (length text - 1) (drop 1 text)
first_and_rest [] some = elim some [ ]
first_and_rest (byte ∷ text) some = grind (arith, common_steps)

pub after_slice : (n : ℕ) (text : List ℕ) {rest : List ℕ} → AfterLetter (take (length text - n) (drop n text)) rest
    → AfterLetter text rest
after_slice n text {rest} is = after_drop n text (subst (λ slice. AfterLetter slice rest) (take_rest text n) is)

pub some_too : {T : Type 0} {P Q : T → Type 0} (found : Option T) → ((value : T) → P value → Q value) → IfSome found P
    → IfSome found Q
some_too found goes is = search rules

-- What `after_text` leaves is an end of the text, and is empty or begins with a `%`.

abbrev IsPercentOrEnd : List ℕ → Type 0
IsPercentOrEnd [] = Unit {0}
IsPercentOrEnd (byte ∷ text) = byte ≡ 37

abbrev IsEnd : List ℕ → List ℕ → Type 0
IsEnd text rest = (front : List ℕ) × (text ≡ front ++ rest) × IsPercentOrEnd rest

end_of_more : (byte : ℕ) {text rest : List ℕ} → IsEnd text rest → IsEnd (byte ∷ text) rest
end_of_more byte (front, is, begins) = (byte ∷ front, ap (λ text. byte ∷ text) is, begins)

is_end : (text : List ℕ) → IsEnd text (after_text text)
is_end [] = ([], refl, tt)
is_end (byte ∷ []) = alone (byte == 37) refl where
  alone : (percent : Bool) → (byte == 37) ≡ percent → IsEnd (byte ∷ []) (cond percent (byte ∷ []) [])
  alone true is = ([], refl, grind (arith, nat_tests))
  alone false is = (byte ∷ [], refl, tt)
is_end (byte ∷ next ∷ rest) = by (byte == 37) (next == 37) refl (is_end rest) (is_end (next ∷ rest)) where
  by : (percent second : Bool) → (byte == 37) ≡ percent → IsEnd rest (after_text rest)
      → IsEnd (next ∷ rest) (after_text (next ∷ rest))
      → IsEnd (byte ∷ next ∷ rest)
      (cond percent (cond second (after_text rest) (byte ∷ next ∷ rest)) (after_text (next ∷ rest)))
  by true true is ends more = end_of_more byte (end_of_more next ends)
  by true false is ends more = ([], refl, grind (arith, nat_tests))
  by false second is ends more = end_of_more byte more

boundary_at : (text front rest : List ℕ) → text ≡ front ++ rest → IsPercentOrEnd rest
    → IsCharBoundary text (length front)
boundary_at text front [] is begins =
    let size : length text ≡ length front = ap length is ∙ length-append front [] ∙ omega arith in
    rw (← size) (IsCharBoundary-end text)
boundary_at text front (byte ∷ rest) is begins =
    let size = ap length is ∙ length-append front (byte ∷ rest) in
    let at : get_or text (length front) 0 ≡ byte = ap (λ text. get_or text (length front) 0) is ∙ get_or-append_seam front byte rest 0 in
    IsCharBoundary-before_ascii text (length front) (omega arith) (omega arith)

pub conversion_begins : (text : List ℕ)
    → (length (after_text text) ≤ length text) × IsCharBoundary text (length text - length (after_text text))
conversion_begins text =
    let (front, is, begins) = is_end text in
    let size : length text ≡ length front + length (after_text text) = ap length is ∙ length-append front (after_text text) in
    let place : length text - length (after_text text) ≡ length front = omega arith in
    (omega arith, rw place (boundary_at text front (after_text text) is begins))

-- What follows the conversion is an end of the text.

letter_rest : {text rest : List ℕ} → AfterLetter text rest → drop (length text - length rest) text ≡ rest
letter_rest {text} {rest} (front, letter, ascii, is) =
    let size = ap length is ∙ length-append front (letter ∷ rest) in
    let place : length text - length rest ≡ length front + 1 = omega arith in
    ap (λ n. drop n text) place ∙ ap (drop (length front + 1)) is ∙ drop-append-add front (letter ∷ rest) 1

after_conversion : (text : List ℕ) {rest : List ℕ} → AfterLetter (after_text text) rest → AfterLetter text rest
after_conversion text {rest} (front, letter, ascii, is) =
    let (before, all, begins) = is_end text in
    (before ++ front, letter, ascii, all ∙ ap (λ back. before ++ back) is ∙ sym (append_assoc before front (letter ∷ rest)))

abbrev pub EndsAt : List ℕ → List ℕ → Type 0
EndsAt text rest = (length rest ≤ length text) × IsCharBoundary text (length text - length rest) × (drop (length text - length rest) text ≡ rest)

pub rest_ends : (text : List ℕ) {bytes conversion rest : List ℕ} → bytes ≡ text → conversion ≡ after_text bytes
    → IsUtf8 text → AfterLetter conversion rest → EndsAt text rest
rest_ends text {bytes} {conversion} {rest} same is utf8 after =
    let there : AfterLetter text rest = after_conversion text (subst (λ conversion. AfterLetter conversion rest) (is ∙ ap after_text same) after) in
    let ends = letter_ends utf8 there in
    (ends.0, ends.1, letter_rest there)

-- what was read is the format of a text
pub is_format : (text : List ℕ) {bytes conversion rest front back : List ℕ} {form : Form} → bytes ≡ text
    → conversion ≡ after_text bytes → EndsAt text rest
    → Some (form, rest) ≡ conversion_in conversion → (length (after_text rest) == 0) ≡ true
    → front ≡ slice_range text 0 (length bytes - length conversion) → back ≡ drop (length bytes - length rest) text
    → Some (record { before = at_place (plain_text front); form = form; after = at_place (plain_text back) })
    ≡ format_in text
is_format text {bytes} {conversion} {rest} {front} {back} {form} same is ends read none first last =
    let conv : conversion ≡ after_text text = is ∙ ap after_text same in
    let size : length bytes ≡ length text = ap length same in
    let before : front ≡ before_it text = first ∙ ap (λ n. take n text)
    (let n : length bytes - length conversion - 0 ≡ length text - length (after_text text) =
    omega (arith, ap length conv) in n) in
    let after : back ≡ rest = last
    ∙ ap (λ n. drop n text) (let n : length bytes - length rest ≡ length text - length rest = omega arith in n) ∙ ends.2 in
    rw (before, after, ← conv, ← read, none) refl

-- A text in which two `%` are one, piece by piece.

abbrev pub is_percent : ℕ → Bool
is_percent byte = byte == 37

plain_other : (byte : ℕ) (text : List ℕ) → is_percent byte ≡ false → plain_text (byte ∷ text) ≡ byte ∷ plain_text text
plain_other byte [] other = refl
plain_other byte (next ∷ rest) other =
    ap (λ percent. cond (percent && is_percent next) (37 ∷ plain_text rest) (byte ∷ plain_text (next ∷ rest))) other

plain_percent : (byte : ℕ) (text : List ℕ) → is_percent byte ≡ true
    → plain_text (byte ∷ text) ≡ 37 ∷ plain_text (without_percent text)
plain_percent byte [] is = let same : byte ≡ 37 = grind (arith, nat_tests) in ap (λ byte. byte ∷ []) same
plain_percent byte (next ∷ rest) is =
    let same : byte ≡ 37 = grind (arith, nat_tests) in
    ap (λ percent. cond (percent && is_percent next) (37 ∷ plain_text rest) (byte ∷ plain_text (next ∷ rest))) is
    ∙ ap (λ byte. cond (is_percent next) (37 ∷ plain_text rest) (byte ∷ plain_text (next ∷ rest))) same
    ∙ by (is_percent next) where
      by : (second : Bool)
          → cond second (37 ∷ plain_text rest) (37 ∷ plain_text (next ∷ rest))
          ≡ 37 ∷ plain_text (cond second rest (next ∷ rest))
      by second = search rules

pub percent_at : (text : List ℕ) → position_or_len is_percent text < length text
    → plain_text text ≡ before_first is_percent text ++ 37 ∷ plain_text (without_percent (after_first is_percent text))
percent_at [] some = absurd (omega arith)
percent_at (byte ∷ text) some = by (is_percent byte) refl some (percent_at text) where
  at : ℕ
  at = position_or_len is_percent text

  Is : ℕ → Type 0
  Is n = plain_text (byte ∷ text) ≡ take n (byte ∷ text) ++ 37 ∷ plain_text (without_percent (drop (n + 1) (byte ∷ text)))

  by : (percent : Bool) → is_percent byte ≡ percent → cond (not percent) (1 + at) 0 < suc (length text)
      → (at < length text
      → plain_text text ≡ before_first is_percent text
      ++ 37 ∷ plain_text (without_percent (after_first is_percent text))) → Is (cond (not percent) (1 + at) 0)
  by true is some more = plain_percent byte text is
  by false is some more =
      let next : suc at ≡ 1 + at = omega arith in
      let after : suc (at + 1) ≡ suc at + 1 = omega arith in
      subst Is next (plain_other byte text is ∙ ap (λ rest. byte ∷ rest) (more (omega arith))
      ∙ ap (λ n. byte ∷ take at text ++ 37 ∷ plain_text (without_percent (drop n (byte ∷ text)))) after)

pub no_percent : (text : List ℕ) → position_or_len is_percent text ≡ length text → plain_text text ≡ text
no_percent [] none = refl
no_percent (byte ∷ text) none = grind (arith, common_steps, plain_other, no_percent text)
