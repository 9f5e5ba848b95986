-- The first lines of a text, and of a text that goes on.
use Rattle.std.proofs.{
  Common.{rules, ◌≡◌, ℕ, zero, suc, ◌+◌, ◌-◌, ◌<◌, ◌≤◌, Bool, true, false, cond, eqb, inl, List, [], ◌∷◌, ◌++◌, length},
  Common.{take, drop, get_or, refl, sym, ap, ◌∙◌, arith},
  lemmas.{
    List.{take_more, take-append-drop, take_at, drop_at, take_all, length-take-le, append-nil, append_assoc},
    List.length-append,
    Grind.common_steps,
  },
}
use Rattle.seg_core.{
  specs.Line.{AreLines, joined, lines_of, line_count, delimiters, first_lines, after_lines, EndsAt},
  proofs.{
    Delimiters.delimiters-take-le,
    LinesOf.{joined-lines_of, lines_of-joined, AreLines-lines_of},
    LineCounts.{line_count_near, line_count-le-length},
  },
}

pub first_lines-nil : (delim n : ℕ) → first_lines delim n [] ≡ []
first_lines-nil delim zero = refl
first_lines-nil delim (suc n) = refl

pub first_lines-zero : (delim : ℕ) (x : List ℕ) → first_lines delim 0 x ≡ []
first_lines-zero delim x = refl

pub first_lines-cons : (delim byte n : ℕ) (x : List ℕ)
    → first_lines delim (suc n) (byte ∷ x)
    ≡ byte ∷ cond (eqb byte delim) (first_lines delim n x) (first_lines delim (suc n) x)
first_lines-cons delim byte n x = grind (arith, common_steps)

append_step : (delim : ℕ) (is_delim : Bool) (n : ℕ) (x y : List ℕ)
    → first_lines delim n (x ++ y) ≡ first_lines delim n x ++ first_lines delim (n - delimiters delim x) y
    → first_lines delim (suc n) (x ++ y)
    ≡ first_lines delim (suc n) x ++ first_lines delim (suc n - delimiters delim x) y
    → cond is_delim (first_lines delim n (x ++ y)) (first_lines delim (suc n) (x ++ y))
    ≡ cond is_delim (first_lines delim n x) (first_lines delim (suc n) x)
    ++ first_lines delim (suc n - cond is_delim (delimiters delim x + 1) (delimiters delim x)) y
append_step delim true n x y here there = search rules
append_step delim false n x y here there = there

-- the first lines of a text that goes on: those of the text so far, and as many of what follows as are missing
pub first_lines-append : (delim n : ℕ) (x y : List ℕ)
    → first_lines delim n (x ++ y) ≡ first_lines delim n x ++ first_lines delim (n - delimiters delim x) y
first_lines-append delim n [] y = grind (arith, common_steps)
first_lines-append delim zero (byte ∷ x) y = search rules
first_lines-append delim (suc n) (byte ∷ x) y =
    first_lines-cons delim byte n (x ++ y)
    ∙ ap (λ z. byte ∷ z) (append_step delim (eqb byte delim) n x y (first_lines-append delim n x y) (first_lines-append delim (suc n) x y))
    ∙ ap (λ z. z ++ first_lines delim (suc n - delimiters delim (byte ∷ x)) y) (sym (first_lines-cons delim byte n x))

-- a text has no more than its lines
pub first_lines-all : (delim n : ℕ) {x : List ℕ} → line_count delim x ≤ n → first_lines delim n x ≡ x
first_lines-all delim n {x} h = ap joined (take_all n (lines_of delim x) h) ∙ joined-lines_of delim x

-- a text with fewer delimiters than n has no more than n lines
pub first_lines-short : (delim n : ℕ) (x : List ℕ) → delimiters delim x < n → first_lines delim n x ≡ x
first_lines-short delim n x h = first_lines-all delim n (omega (arith, (line_count_near delim x).1))

-- once n lines are complete, what follows adds nothing
pub first_lines-full : (delim n : ℕ) (x y : List ℕ) → n ≤ delimiters delim x
    → first_lines delim n (x ++ y) ≡ first_lines delim n x
first_lines-full delim n x y h = grind (arith, common_steps, first_lines-append, append-nil)

-- while n lines aren't complete, the next byte belongs to them
pub first_lines-more : (delim n : ℕ) (x : List ℕ) (byte : ℕ) → delimiters delim x < n
    → first_lines delim n (x ++ byte ∷ []) ≡ x ++ byte ∷ []
first_lines-more delim n x byte h = grind (arith, common_steps, first_lines-append, first_lines-short, first_lines-all, line_count-le-length)

pub joined-append : (front back : List (List ℕ)) → joined (front ++ back) ≡ joined front ++ joined back
joined-append [] back = refl
joined-append (line ∷ front) back = ap (λ x. line ++ x) (joined-append front back) ∙ sym (append_assoc line (joined front) (joined back))

-- the first lines are the beginning of the text
pub first_lines_then_rest : (delim n : ℕ) (x : List ℕ) → first_lines delim n x ++ joined (drop n (lines_of delim x)) ≡ x
first_lines_then_rest delim n x =
    sym (joined-append (take n (lines_of delim x)) (drop n (lines_of delim x))) ∙ ap joined (take-append-drop n (lines_of delim x)) ∙ joined-lines_of delim x

pub length-first_lines-le : (delim n : ℕ) (x : List ℕ) → length (first_lines delim n x) ≤ length x
length-first_lines-le delim n x =
    omega (arith, sym (length-append (first_lines delim n x) (joined (drop n (lines_of delim x)))) ∙ ap length (first_lines_then_rest delim n x))

pub first_lines-is_take : (delim n : ℕ) (x : List ℕ) → first_lines delim n x ≡ take (length (first_lines delim n x)) x
first_lines-is_take delim n x =
    let rest = joined (drop n (lines_of delim x)) in
    sym (take_at (first_lines delim n x) rest (length (first_lines delim n x)) refl)
    ∙ ap (take (length (first_lines delim n x))) (first_lines_then_rest delim n x)

-- what stands after the first lines is what is left once their bytes are dropped
pub after_lines-is_drop : (delim n : ℕ) (x : List ℕ) → after_lines delim n x ≡ drop (length (first_lines delim n x)) x
after_lines-is_drop delim n x =
    sym (drop_at (first_lines delim n x) (after_lines delim n x) (length (first_lines delim n x)) refl)
    ∙ ap (drop (length (first_lines delim n x))) (first_lines_then_rest delim n x)

full_step : (delim : ℕ) (is_delim : Bool) {n : ℕ} (x : List ℕ)
    → suc n ≤ cond is_delim (delimiters delim x + 1) (delimiters delim x)
    → (n ≤ delimiters delim x → delimiters delim (first_lines delim n x) ≡ n)
    → (suc n ≤ delimiters delim x → delimiters delim (first_lines delim (suc n) x) ≡ suc n)
    → cond is_delim (delimiters delim (cond is_delim (first_lines delim n x) (first_lines delim (suc n) x)) + 1)
    (delimiters delim (cond is_delim (first_lines delim n x) (first_lines delim (suc n) x))) ≡ suc n
full_step delim true x h here there = grind (arith, common_steps)
full_step delim false x h here there = there h

pub delimiters-first_lines : (delim n : ℕ) (x : List ℕ) → n ≤ delimiters delim x
    → delimiters delim (first_lines delim n x) ≡ n
delimiters-first_lines delim zero x h = refl
delimiters-first_lines delim (suc n) [] h = absurd (omega arith)
delimiters-first_lines delim (suc n) (byte ∷ x) h =
    ap (delimiters delim) (first_lines-cons delim byte n x)
    ∙ full_step delim (eqb byte delim) x h (delimiters-first_lines delim n x) (delimiters-first_lines delim (suc n) x)

-- if a byte brings the count to n, the n lines end after it
pub EndsAt_counted : {delim n : ℕ} {x : List ℕ} (i : ℕ) → i < length x → delimiters delim (take i x) < n
    → delimiters delim (take (i + 1) x) ≡ n → EndsAt delim n x (i + 1)
EndsAt_counted {delim} {n} {x} i h few counted =
    let enough : n ≤ delimiters delim (take (i + 1) x) = omega arith in
    record {
      within = omega arith;
      lines = sym (
          ap (first_lines delim n) (sym (take-append-drop (i + 1) x)) ∙ first_lines-full delim n (take (i + 1) x) (drop (i + 1) x) enough
          ∙ ap (first_lines delim n) (take_more x i 0 h) ∙ first_lines-more delim n (take i x) (get_or x i 0) few ∙ sym (take_more x i 0 h)
          );
      complete = counted;
    }

-- a text has the n lines that end in it
pub EndsAt-enough : (delim n : ℕ) (x : List ℕ) (end : ℕ) → EndsAt delim n x end → n ≤ delimiters delim x
EndsAt-enough delim n x end ends = omega (arith, delimiters-take-le delim end x)

AreLines-take : (delim k : ℕ) (lines : List (List ℕ)) → AreLines delim lines → AreLines delim (take k lines)
AreLines-take delim zero lines each = tt
AreLines-take delim (suc zero) (line ∷ next ∷ lines) (complete, each) = inl complete
AreLines-take delim (suc (suc k)) (line ∷ next ∷ lines) (complete, each) = (complete, AreLines-take delim (suc k) (next ∷ lines) each)
AreLines-take delim k lines each = each

-- the lines of the first lines
pub lines_of-first_lines : (delim n : ℕ) (x : List ℕ)
    → lines_of delim (first_lines delim n x) ≡ take n (lines_of delim x)
lines_of-first_lines delim n x = grind (arith, common_steps, lines_of-joined, AreLines-take, AreLines-lines_of)

AreLines-drop : (delim k : ℕ) (lines : List (List ℕ)) → AreLines delim lines → AreLines delim (drop k lines)
AreLines-drop delim zero lines each = each
AreLines-drop delim (suc k) (line ∷ next ∷ lines) (complete, each) = AreLines-drop delim k (next ∷ lines) each
AreLines-drop delim (suc zero) lines each = tt
AreLines-drop delim (suc (suc k)) lines each = tt

-- the lines of what stands after the first lines
pub lines_of-after_lines : (delim k : ℕ) (x : List ℕ)
    → lines_of delim (after_lines delim k x) ≡ drop k (lines_of delim x)
lines_of-after_lines delim k x = grind (arith, common_steps, lines_of-joined, AreLines-drop, AreLines-lines_of)

-- the lines of what stands after the first lines, by the bytes of these
pub lines_of-after : (delim n : ℕ) (x : List ℕ) → n ≤ delimiters delim x
    → lines_of delim (drop (length (first_lines delim n x)) x) ≡ drop n (lines_of delim x)
lines_of-after delim n x h = ap (lines_of delim) (sym (after_lines-is_drop delim n x)) ∙ lines_of-after_lines delim n x

-- the lines of what stands after the first lines, by the place at which these end
pub EndsAt-rest : (delim n : ℕ) (x : List ℕ) (end : ℕ) → EndsAt delim n x end
    → lines_of delim (drop end x) ≡ drop n (lines_of delim x)
EndsAt-rest delim n x end ends =
    let long : end ≡ length (first_lines delim n x) = sym (length-take-le end x ends.within) ∙ ap length ends.lines in
    ap (λ k. lines_of delim (drop k x)) long ∙ lines_of-after delim n x (EndsAt-enough delim n x end ends)
