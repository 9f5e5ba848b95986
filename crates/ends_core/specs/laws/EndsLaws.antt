-- Laws that traits cite: what stands at the ends of an input, and of a longer input.
use Rattle.std.proofs.{
  lemmas.{
    Grind.common_steps,
    List.{append-nil, take_all, drop-drop, drop-append-le, take-append-drop, append_cancel_left, append_cancel_right},
    Bool.cases_lt,
  },
  Common.{◌≡◌, ℕ, ◌+◌, ◌-◌, ◌<◌, ◌≤◌, zero, suc, List, [], ◌∷◌, ◌++◌, length, take, drop, refl, sym, ◌∙◌},
  Common.{ap, arith, append_assoc, length-append, length-drop, inl, inr},
}
use Rattle.seg_core.{
  specs.{Line.line_count, declared.unit.Unit.{Unit as Counted, TheVariants.{Lines, Bytes}}},
  proofs.{
    Delimiters.delimiters-append,
    FirstLines.{first_lines-append, first_lines-short, first_lines_then_rest},
    EndLines.last_lines-append,
  },
}
use Rattle.ends_core.specs.Ends.{measure, first_of, after_of, last_of, but_last_of}

pub measure-append : (delim : ℕ) (unit : Counted) (x y : List ℕ)
    → measure delim unit (x ++ y) ≡ measure delim unit x + measure delim unit y
measure-append delim Lines x y = delimiters-append delim x y
measure-append delim Bytes x y = length-append x y

take_both : (n : ℕ) (x y : List ℕ) → take n (x ++ y) ≡ take n x ++ take (n - length x) y
take_both zero [] y = refl
take_both (suc n) [] y = grind (arith, common_steps)
take_both zero (byte ∷ x) y = grind (arith, common_steps)
take_both (suc n) (byte ∷ x) y =
    let less : n - length x ≡ suc n - suc (length x) = omega arith in
    ap (λ rest. byte ∷ rest) (take_both n x y ∙ ap (λ m. take n x ++ take m y) less)

-- the first n of a longer text: those of the text, and of what follows as many as are missing
pub first_of-append : (delim : ℕ) (unit : Counted) (n : ℕ) (x y : List ℕ)
    → first_of delim unit n (x ++ y) ≡ first_of delim unit n x ++ first_of delim unit (n - measure delim unit x) y
first_of-append delim Lines n x y = first_lines-append delim n x y
first_of-append delim Bytes n x y = take_both n x y

pub first_of-zero : (delim : ℕ) (unit : Counted) (x : List ℕ) → first_of delim unit 0 x ≡ []
first_of-zero delim Lines x = cc
first_of-zero delim Bytes x = refl

-- a text with fewer than n complete lines or bytes is its own first n, and so is that text with one byte more
pub first_of-short : (delim : ℕ) (unit : Counted) (n : ℕ) {x : List ℕ} → measure delim unit x < n
    → first_of delim unit n x ≡ x
first_of-short delim Lines n {x} short = first_lines-short delim n x short
first_of-short delim Bytes n {x} short = take_all n x (omega arith)

-- once a text has n, what follows adds nothing to its first n
pub first_of-full : (delim : ℕ) (unit : Counted) (n : ℕ) (x y : List ℕ) → n ≤ measure delim unit x
    → first_of delim unit n (x ++ y) ≡ first_of delim unit n x
first_of-full delim unit n x y full = grind (arith, common_steps, first_of-append, first_of-zero, append-nil)

-- the first n of a text and what stands after them are the text
pub first_then_after : (delim : ℕ) (unit : Counted) (n : ℕ) (x : List ℕ)
    → first_of delim unit n x ++ after_of delim unit n x ≡ x
first_then_after delim Lines n x = first_lines_then_rest delim n x
first_then_after delim Bytes n x = take-append-drop n x

-- what stands after the first n of a longer text
pub after_of-append : (delim : ℕ) (unit : Counted) (n : ℕ) (x y : List ℕ)
    → after_of delim unit n (x ++ y) ≡ after_of delim unit n x ++ after_of delim unit (n - measure delim unit x) y
after_of-append delim unit n x y =
    append_cancel_left (first_of delim unit n x ++ first_of delim unit (n - measure delim unit x) y) _ _
    (ap (λ front. front ++ after_of delim unit n (x ++ y))
    (sym (first_of-append delim unit n x y)) ∙ first_then_after delim unit n (x ++ y)
    ∙ ap (λ z. z ++ y) (sym (first_then_after delim unit n x))
    ∙ ap (λ z. (first_of delim unit n x ++ after_of delim unit n x) ++ z)
    (sym (first_then_after delim unit (n - measure delim unit x) y))
    ∙ swapped) where
      -- one of the two in the middle is empty
      swapped : (first_of delim unit n x ++ after_of delim unit n x)
          ++ (first_of delim unit (n - measure delim unit x) y ++ after_of delim unit (n - measure delim unit x) y)
          ≡ (first_of delim unit n x ++ first_of delim unit (n - measure delim unit x) y)
          ++ (after_of delim unit n x ++ after_of delim unit (n - measure delim unit x) y)
      swapped = elim (cases_lt (measure delim unit x) n) [
        | inl short ↦
            let none : after_of delim unit n x ≡ [] = append_cancel_left x _ _
            (ap (λ z. z ++ after_of delim unit n x)
            (sym (first_of-short delim unit n short)) ∙ first_then_after delim unit n x ∙ sym (append-nil x)) in
            simp (none, append-nil, append_assoc)
        | inr full ↦
            let none : first_of delim unit (n - measure delim unit x) y
            ≡ [] = ap (λ k. first_of delim unit k y) (omega arith) ∙ first_of-zero delim unit y in
            simp (none, append-nil, append_assoc)
      ]

-- what stands before the last n of a text, and these, are the text
pub ends_together : (delim : ℕ) (unit : Counted) (n : ℕ) (x : List ℕ)
    → but_last_of delim unit n x ++ last_of delim unit n x ≡ x
ends_together delim Lines n x = first_then_after delim Lines (line_count delim x - n) x
ends_together delim Bytes n x = grind (arith, common_steps)

last_bytes-append : (n : ℕ) (x y : List ℕ)
    → drop (length (x ++ y) - n) (x ++ y) ≡ drop (length (drop (length x - n) x ++ y) - n) (drop (length x - n) x ++ y)
last_bytes-append n x y =
    let k = length x - n in
    let within : k ≤ length x = omega arith in
    let long : length (x ++ y) ≡ length x + length y = length-append x y in
    let here : drop k (x ++ y) ≡ drop k x ++ y = drop-append-le k x y within in
    let short : length (drop k x ++ y) ≡ length (x ++ y) - k = ap length (sym here) ∙ length-drop k (x ++ y) in
    let both : k + (length (drop k x ++ y) - n) ≡ length (x ++ y) - n = omega arith in
    sym (ap (drop (length (drop k x ++ y) - n)) (sym here) ∙ drop-drop (length (drop k x ++ y) - n) k (x ++ y) ∙ ap
    (λ m. drop m (x ++ y)) both)

-- the last n of a longer text are among the last n of the text and what follows: nothing else need be kept
pub last_of-append : (delim : ℕ) (unit : Counted) (n : ℕ) (x y : List ℕ)
    → last_of delim unit n (x ++ y) ≡ last_of delim unit n (last_of delim unit n x ++ y)
last_of-append delim Lines n x y = last_lines-append delim n x y
last_of-append delim Bytes n x y = last_bytes-append n x y

-- what stands before the last n of a text stays there in a longer text, and some of the last n join it
pub but_last_of-append : (delim : ℕ) (unit : Counted) (n : ℕ) (x y : List ℕ)
    → but_last_of delim unit n (x ++ y) ≡ but_last_of delim unit n x
    ++ but_last_of delim unit n (last_of delim unit n x ++ y)
but_last_of-append delim unit n x y =
    let z = last_of delim unit n x ++ y in
    append_cancel_right (but_last_of delim unit n (x ++ y)) (but_last_of delim unit n x ++ but_last_of delim unit n z)
    (last_of delim unit n z)
    (ap (λ last. but_last_of delim unit n (x ++ y) ++ last)
    (sym (last_of-append delim unit n x y)) ∙ ends_together delim unit n (x ++ y)
    ∙ ap (λ w. w ++ y) (sym (ends_together delim unit n x)) ∙ append_assoc (but_last_of delim unit n x)
    (last_of delim unit n x) y
    ∙ ap (λ w. but_last_of delim unit n x ++ w) (sym (ends_together delim unit n z))
    ∙ sym (append_assoc (but_last_of delim unit n x) (but_last_of delim unit n z) (last_of delim unit n z)))
