-- Delimiters that are counted from the end of a text.
use Rattle.std.proofs.{
  lemmas.{Grind.common_steps, List.{take_more, drop-drop}},
  Common.{◌≡◌, ℕ, ◌+◌, ◌-◌, ◌<◌, ◌≤◌, Bool, true, false, eqb, List, [], ◌∷◌, length, take, drop, get_or, refl, arith},
  Common.rules,
}
use mir.Val.{bool_byte}
use Rattle.seg_core.{
  specs.Line.{delimiters, BeginsAt},
  proofs.{Delimiters.delimiters-take-drop, LineCounts.ends_with-append},
}

-- what is added for a byte is its delimiters
pub added : (delim byte n : ℕ) → n ≡ bool_byte (eqb byte delim) → n ≡ delimiters delim (byte ∷ [])
added delim byte n is = search rules

is_one : (is_delim : Bool) → 0 < bool_byte is_delim → is_delim ≡ true
is_one true some = refl
is_one false some = absurd (omega arith)

-- a test counts as no more than one
pub at_most_one : (is_delim : Bool) → bool_byte is_delim ≤ 1
at_most_one true = omega arith
at_most_one false = omega arith

-- the byte that brings the count to n is a delimiter
pub begins_after : {delim : ℕ} {x : List ℕ} (i : ℕ) {n seen : ℕ} (one : ℕ) → i < length x
    → seen ≡ delimiters delim (drop (i + 1) x) → one ≡ bool_byte (eqb (get_or x i 0) delim) → seen < n → seen + one ≡ n
    → BeginsAt delim n x (i + 1)
begins_after {delim} {x} i one here so_far is fewer full = grind (arith, common_steps, at_most_one, is_one, take_more, ends_with-append)

-- the delimiters of a stretch that ends at `end`, and those after it
pub stretch_back : (delim : ℕ) (x : List ℕ) (end width : ℕ) {n : ℕ} (more : ℕ) → width ≤ end
    → n ≡ delimiters delim (drop end x) → more ≡ delimiters delim (take (end - (end - width)) (drop (end - width) x))
    → n + more ≡ delimiters delim (drop (end - width) x)
stretch_back delim x end width more fits so_far is = grind (arith, common_steps, drop-drop, delimiters-take-drop)
