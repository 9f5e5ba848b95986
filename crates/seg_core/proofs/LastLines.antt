-- The last lines of a text, and of a text that goes on.
use Rattle.std.proofs.{
  lemmas.Grind.common_steps,
  Common.{◌≡◌, ℕ, zero, suc, ◌+◌, ◌-◌, ◌<◌, ◌≤◌, true, List, [], ◌∷◌, ◌++◌, length, take, drop, refl, sym, ap, ◌∙◌},
  Common.{arith, take-append-drop, take-take, append_assoc, length-append, length-take-le},
}
use Rattle.seg_core.{
  specs.Line.{delimiters, ends_with, first_lines, line_count, but_last_lines, BeginsAt},
  proofs.{
    Delimiters.{delimiters-append, delimiters-take-drop},
    FirstLines.{first_lines-all, first_lines-full},
    LineCounts.{line_count-closed, line_count-le-length, ends_with-append, ends_with-some},
  },
}

pub but_last_lines-few : (delim n : ℕ) (x : List ℕ) → line_count delim x ≤ n → but_last_lines delim n x ≡ []
but_last_lines-few delim n x few = grind (arith, common_steps)

pub but_last_lines-zero : (delim : ℕ) {x : List ℕ} → but_last_lines delim 0 x ≡ x
but_last_lines-zero delim {x} = first_lines-all delim (line_count delim x - 0) (omega arith)

first_lines-some : (delim n : ℕ) (x : List ℕ) → 0 < n → 0 < length x → 0 < length (first_lines delim n x)
first_lines-some delim zero x one some = absurd (omega arith)
first_lines-some delim (suc n) [] one some = absurd (omega arith)
first_lines-some delim (suc n) (byte ∷ x) one some = grind (arith, common_steps)

few_step : (delim n k : ℕ) (x : List ℕ) → line_count delim x - n ≡ k → first_lines delim k x ≡ []
    → line_count delim x ≤ n
few_step delim n zero x is none = omega arith
few_step delim n (suc k) x is none =
    let some : 0 < length x = omega (arith, line_count-le-length delim x) in
    let long = first_lines-some delim (suc k) x (omega arith) some in
    let nothing : length (first_lines delim (suc k) x) ≡ 0 = ap length none in
    absurd (omega arith)

-- if nothing stands before the last n lines, there are no more lines
pub few_from_nothing : (delim n : ℕ) (x : List ℕ) → but_last_lines delim n x ≡ [] → line_count delim x ≤ n
few_from_nothing delim n x none = few_step delim n (line_count delim x - n) x refl none

-- complete lines, and what follows
pub first_lines-whole : (delim : ℕ) (x y : List ℕ) (n : ℕ) → ends_with delim x ≡ true → n ≡ delimiters delim x
    → first_lines delim n (x ++ y) ≡ x
first_lines-whole delim x y n ends is = grind (arith, common_steps, first_lines-full, first_lines-all, line_count-closed)

-- the piece has the last n lines by itself; `front` is the piece without its last delimiter
pub over_begins : {delim n : ℕ} (held piece front : List ℕ) {at : ℕ} → front ≡ take (length front) piece
    → line_count delim (held ++ piece) ≡ delimiters delim held + delimiters delim front + 1 → BeginsAt delim n front at
    → length held + at ≡ length (but_last_lines delim n (held ++ piece))
over_begins {delim} {n} held piece front {at} is lines begins =
    let some : 0 < length (take at front) = ends_with-some delim (take at front) begins.after in
    let same : take at front ≡ take at piece = ap (take at) is ∙ take-take at (length front) piece begins.within in
    let split : held ++ piece ≡ (held ++ take at front) ++ drop at piece =
    sym (ap (λ x. (held ++ x) ++ drop at piece) same ∙ append_assoc held (take at piece) (drop at piece) ∙ ap (λ x. held ++ x) (take-append-drop at piece)) in
    let ends = ends_with-append delim held (take at front) some ∙ begins.after in
    let cut = delimiters-take-drop delim at front in
    let both = delimiters-append delim held (take at front) in
    let count : line_count delim (held ++ piece) - n ≡ delimiters delim (held ++ take at front) = omega arith in
    sym (
    ap (λ x. length (first_lines delim (line_count delim (held ++ piece) - n) x)) split
    ∙ ap length (first_lines-whole delim (held ++ take at front) (drop at piece) (line_count delim (held ++ piece) - n) ends count)
    ∙ length-append held (take at front) ∙ ap (λ k. length held + k) (length-take-le at front begins.within)
    )

-- the piece has fewer lines: the lines that go are complete in what is held
pub over_short : (delim n : ℕ) (held piece : List ℕ) {lines : ℕ} → line_count delim (held ++ piece) ≡ lines
    → lines - n ≤ delimiters delim held
    → length (first_lines delim (lines - n) held) ≡ length (but_last_lines delim n (held ++ piece))
over_short delim n held piece {lines} is enough = grind (arith, common_steps, first_lines-full)

-- what stands after the last delimiters of a text, by the number of lines before it
pub begins_first : {delim n : ℕ} (lines : ℕ) {x : List ℕ} {at : ℕ} → n + lines ≡ delimiters delim x + 1
    → BeginsAt delim n x at → at ≡ length (first_lines delim lines x)
begins_first {delim} lines {x} {at} is begins =
    let after = begins.counted in
    let count : lines ≡ delimiters delim (take at x) = omega (arith, delimiters-take-drop delim at x) in
    sym (
    ap (λ y. length (first_lines delim lines y)) (sym (take-append-drop at x))
    ∙ ap length (first_lines-whole delim (take at x) (drop at x) lines begins.after count) ∙ length-take-le at x begins.within
    )
