-- How many lines a text has.
use Rattle.std.{
  proofs.lemmas.{Grind.common_steps, Bool.{eq-eqb, ne_eqb, false≢true}},
  proofs.Common.{◌≡◌, ◌≢◌, ℕ, zero, suc, ◌+◌, ◌-◌, ◌<◌, ◌≤◌, Bool, true, false, not, cond, eqb, List, [], ◌∷◌},
  proofs.Common.◌++◌,
  proofs.Common.{length, take, drop, get_or, refl, sym, ap, ◌∙◌, arith, rules, take_all, length-append, length-take-le},
  specs.List.onto_first,
}
use mir.Val.{bool_byte}
use Rattle.seg_core.{
  specs.Line.{lines_of, delimiters, ends_with, line_count},
  proofs.Delimiters.{delimiters-append, delimiters-one_yes, delimiters_more},
}

-- a byte before lines makes a line more, or none; at least one is there then
cons_step : (is_delim : Bool) (byte : ℕ) (lines : List (List ℕ))
    → let now = length (cond is_delim ((byte ∷ []) ∷ lines) (onto_first byte lines)) in (length lines ≤ now)
    × (now ≤ suc (length lines)) × (0 < now)
cons_step true byte lines = search rules
cons_step false byte [] = search rules
cons_step false byte (line ∷ lines) = search rules

pub line_count-some : (delim : ℕ) (x : List ℕ) → 0 < length x → 0 < line_count delim x
line_count-some delim [] some = absurd (omega arith)
line_count-some delim (byte ∷ x) some = grind (arith, common_steps)

pub line_count-le-length : (delim : ℕ) (x : List ℕ) → line_count delim x ≤ length x
line_count-le-length delim [] = omega arith
line_count-le-length delim (byte ∷ x) = let here = cons_step (eqb byte delim) byte (lines_of delim x) in omega (arith, line_count-le-length delim x)

-- what is left of a text has no more lines
pub line_count-drop : (delim k : ℕ) (x : List ℕ) → line_count delim (drop k x) ≤ line_count delim x
line_count-drop delim zero x = omega arith
line_count-drop delim (suc k) [] = omega arith
line_count-drop delim (suc k) (byte ∷ x) = let here = cons_step (eqb byte delim) byte (lines_of delim x) in omega (arith, line_count-drop delim k x)

count_step : (is_delim : Bool) (byte : ℕ) (lines : List (List ℕ)) → 0 < length lines
    → length (cond is_delim ((byte ∷ []) ∷ lines) (onto_first byte lines))
    ≡ cond is_delim (length lines + 1) (length lines)
count_step true byte lines some = omega arith
count_step false byte [] some = absurd (omega arith)
count_step false byte (line ∷ lines) some = refl

line_count-cons : (delim byte : ℕ) (x : List ℕ) → 0 < length x
    → line_count delim (byte ∷ x) ≡ cond (eqb byte delim) (line_count delim x + 1) (line_count delim x)
line_count-cons delim byte x some = count_step (eqb byte delim) byte (lines_of delim x) (line_count-some delim x some)

-- a text that ends with a delimiter has as many lines as delimiters
pub line_count-closed : (delim : ℕ) (x : List ℕ) → ends_with delim x ≡ true → line_count delim x ≡ delimiters delim x
line_count-closed delim [] ends = cc
line_count-closed delim (byte ∷ []) ends = grind (arith, common_steps)
line_count-closed delim (byte ∷ next ∷ x) ends =
    line_count-cons delim byte (next ∷ x) (omega arith) ∙ ap (λ n. cond (eqb byte delim) (n + 1) n) (line_count-closed delim (next ∷ x) ends)

open_step : (is_delim : Bool) (n : ℕ) → cond is_delim (n + 1 + 1) (n + 1) ≡ cond is_delim (n + 1) n + 1
open_step true n = refl
open_step false n = refl

-- a text with an open last line has one line more
pub line_count-open : (delim : ℕ) (x : List ℕ) → 0 < length x → ends_with delim x ≡ false
    → line_count delim x ≡ delimiters delim x + 1
line_count-open delim [] some open_end = absurd (omega arith)
line_count-open delim (byte ∷ []) some open_end = grind (arith, common_steps)
line_count-open delim (byte ∷ next ∷ x) some open_end =
    line_count-cons delim byte (next ∷ x) (omega arith)
    ∙ ap (λ n. cond (eqb byte delim) (n + 1) n) (line_count-open delim (next ∷ x) (omega arith) open_end)
    ∙ open_step (eqb byte delim) (delimiters delim (next ∷ x))

-- how a text ends
pub ends_with-append : (delim : ℕ) (x y : List ℕ) → 0 < length y → ends_with delim (x ++ y) ≡ ends_with delim y
ends_with-append delim [] y some = refl
ends_with-append delim (byte ∷ []) [] some = absurd (omega arith)
ends_with-append delim (byte ∷ []) (next ∷ y) some = refl
ends_with-append delim (byte ∷ next ∷ x) y some = ends_with-append delim (next ∷ x) y some

pub ends_with-some : (delim : ℕ) (x : List ℕ) → ends_with delim x ≡ true → 0 < length x
ends_with-some delim [] ends = absurd (false≢true ends)
ends_with-some delim (byte ∷ x) ends = omega arith

pub ends_with-last : (delim : ℕ) (x : List ℕ) (n : ℕ) → n + 1 ≡ length x → ends_with delim x ≡ eqb (get_or x n 0) delim
ends_with-last delim (byte ∷ []) zero last = refl
ends_with-last delim (byte ∷ next ∷ x) (suc n) last = ends_with-last delim (next ∷ x) n (omega arith)
ends_with-last delim x n last = absurd (omega arith)

-- how many lines a byte adds
near_step : (is_delim : Bool) (byte n : ℕ) (lines : List (List ℕ)) → n ≤ length lines → length lines ≤ n + 1
    → (cond is_delim (n + 1) n ≤ length (cond is_delim ((byte ∷ []) ∷ lines) (onto_first byte lines)))
    × (length (cond is_delim ((byte ∷ []) ∷ lines) (onto_first byte lines)) ≤ cond is_delim (n + 1) n + 1)
near_step true byte n lines low high = (omega arith, omega arith)
near_step false byte n [] low high = (omega arith, omega arith)
near_step false byte n (line ∷ lines) low high = (omega arith, omega arith)

-- a text has as many lines as delimiters, or one more
pub line_count_near : (delim : ℕ) (x : List ℕ)
    → (delimiters delim x ≤ line_count delim x) × (line_count delim x ≤ delimiters delim x + 1)
line_count_near delim [] = (omega arith, omega arith)
line_count_near delim (byte ∷ x) = let near = line_count_near delim x in near_step (eqb byte delim) byte (delimiters delim x) (lines_of delim x) near.0 near.1

-- a text has as many lines as delimiters, and one more if its end is open
pub line_count-by_end : (delim : ℕ) (x : List ℕ) (closed : Bool) → 0 < length x → closed ≡ ends_with delim x
    → line_count delim x ≡ delimiters delim x + bool_byte (not closed)
line_count-by_end delim x true some is = line_count-closed delim x (sym is) ∙ omega arith
line_count-by_end delim x false some is = line_count-open delim x some (sym is)

-- a block before a text that isn't empty adds as many lines as it has delimiters
pub line_count-front : (delim : ℕ) (block x : List ℕ) → 0 < length x
    → line_count delim (block ++ x) ≡ delimiters delim block + line_count delim x
line_count-front delim block x some = grind (arith, common_steps, length-append, line_count-by_end, ends_with-append, delimiters-append)

-- without its last delimiter a text has one delimiter less
pub closed_delimiters : {delim : ℕ} (x : List ℕ) (n : ℕ) → n + 1 ≡ length x → get_or x n 0 ≡ delim
    → delimiters delim x ≡ delimiters delim (take n x) + (length x - length (take n x))
closed_delimiters {delim} x n last is = grind (arith, common_steps, delimiters-one_yes, eq-eqb, delimiters_more, take_all, length-take-le)

-- the lines of a text that goes on, by what stands before its last delimiter
pub closed_text : {delim : ℕ} (before x : List ℕ) (n : ℕ) → n + 1 ≡ length x → get_or x n 0 ≡ delim
    → line_count delim (before ++ x) ≡ delimiters delim before + delimiters delim (take n x) + 1
closed_text {delim} before x n last is =
    grind (arith, common_steps, ends_with-append, ends_with-last, eq-eqb, closed_delimiters, length-take-le, delimiters-append, line_count-closed)

pub open_text : (delim : ℕ) (before x : List ℕ) (n : ℕ) → n + 1 ≡ length x → get_or x n 0 ≢ delim
    → line_count delim (before ++ x) ≡ delimiters delim before + delimiters delim x + 1
open_text delim before x n last other = grind (arith, common_steps, ends_with-append, ends_with-last, ne_eqb, length-append, line_count-open, delimiters-append)
