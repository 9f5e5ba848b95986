-- How many delimiters a text has.
use Rattle.std.proofs.{
  lemmas.{Grind.common_steps, List.{take_more, take-append-drop}},
  Common.{◌≡◌, ◌≢◌, ℕ, ◌+◌, ◌-◌, ◌<◌, ◌≤◌, Bool, true, false, cond, eqb, List, [], ◌∷◌, ◌++◌, length, take, drop},
  Common.{get_or, sym, ap, ◌∙◌, arith, take-add, eq-eqb, ne_eqb},
}
use Rattle.seg_core.specs.Line.{delimiters}

append_step : (is_delim : Bool) (m n : ℕ) {k : ℕ} → k ≡ m + n → cond is_delim (k + 1) k ≡ cond is_delim (m + 1) m + n
append_step true m n e = omega arith
append_step false m n e = e

pub delimiters-append : (delim : ℕ) (x y : List ℕ) → delimiters delim (x ++ y) ≡ delimiters delim x + delimiters delim y
delimiters-append delim [] y = omega arith
delimiters-append delim (byte ∷ x) y = append_step (eqb byte delim) (delimiters delim x) (delimiters delim y) (delimiters-append delim x y)

length_step : (is_delim : Bool) (n m : ℕ) → n ≤ m → cond is_delim (n + 1) n ≤ m + 1
length_step true n m h = omega arith
length_step false n m h = omega arith

pub delimiters-le-length : (delim : ℕ) (x : List ℕ) → delimiters delim x ≤ length x
delimiters-le-length delim [] = omega arith
delimiters-le-length delim (byte ∷ x) = omega (arith, length_step (eqb byte delim) (delimiters delim x) (length x) (delimiters-le-length delim x))

pub delimiters-take-drop : (delim k : ℕ) (x : List ℕ)
    → delimiters delim x ≡ delimiters delim (take k x) + delimiters delim (drop k x)
delimiters-take-drop delim k x = ap (delimiters delim) (sym (take-append-drop k x)) ∙ delimiters-append delim (take k x) (drop k x)

pub delimiters-take-le : (delim k : ℕ) (x : List ℕ) → delimiters delim (take k x) ≤ delimiters delim x
delimiters-take-le delim k x = omega (arith, delimiters-take-drop delim k x)

pub delimiters_more : (delim : ℕ) (x : List ℕ) (i : ℕ) → i < length x
    → delimiters delim (take (i + 1) x) ≡ delimiters delim (take i x) + delimiters delim (get_or x i 0 ∷ [])
delimiters_more delim x i h = ap (delimiters delim) (take_more x i 0 h) ∙ delimiters-append delim (take i x) (get_or x i 0 ∷ [])

pub delimiters-one_yes : (delim byte : ℕ) → eqb byte delim ≡ true → delimiters delim (byte ∷ []) ≡ 1
delimiters-one_yes delim byte e = cc

pub delimiters-one_no : (delim byte : ℕ) → eqb byte delim ≡ false → delimiters delim (byte ∷ []) ≡ 0
delimiters-one_no delim byte e = cc

pub delimiters-take-add : (delim i k : ℕ) (x : List ℕ)
    → delimiters delim (take (i + k) x) ≡ delimiters delim (take i x) + delimiters delim (take k (drop i x))
delimiters-take-add delim i k x = ap (delimiters delim) (take-add i k x) ∙ delimiters-append delim (take i x) (take k (drop i x))

-- a count that goes on by a stretch
pub count_stretch : (delim : ℕ) (x : List ℕ) (at width : ℕ) {n : ℕ} (more : ℕ) → n ≡ delimiters delim (take at x)
    → more ≡ delimiters delim (take (at + width - at) (drop at x)) → n + more ≡ delimiters delim (take (at + width) x)
count_stretch delim x at width more so_far is = grind (arith, common_steps, delimiters-take-add)

-- a count that goes on by one byte
pub count_more : (delim : ℕ) (x : List ℕ) (i : ℕ) {n : ℕ} (one : ℕ) → n ≡ delimiters delim (take i x) → i < length x
    → one ≡ delimiters delim (get_or x i 0 ∷ []) → n + one ≡ delimiters delim (take (i + 1) x)
count_more delim x i one so_far h here = omega (arith, delimiters_more delim x i h)

-- a count that goes on byte by byte
pub count_yes : {delim : ℕ} (x : List ℕ) (i : ℕ) {n : ℕ} → n ≡ delimiters delim (take i x) → i < length x
    → get_or x i 0 ≡ delim → n + 1 ≡ delimiters delim (take (i + 1) x)
count_yes {delim} x i so_far h here = grind (arith, common_steps, count_more, delimiters-one_yes, eq-eqb)

pub count_no : (delim : ℕ) (x : List ℕ) (i : ℕ) {n : ℕ} → n ≡ delimiters delim (take i x) → i < length x
    → get_or x i 0 ≢ delim → n ≡ delimiters delim (take (i + 1) x)
count_no delim x i so_far h here = grind (arith, common_steps, count_more, delimiters-one_no, ne_eqb)
