-- The first line of a text and the rest, from where the first delimiter stands.
use Rattle.std.proofs.{
  lemmas.{
    Grind.common_steps,
    Bool.{eq-eqb, ne_eqb, eqb-true, false≢true},
    List.{take_more, take-append-drop, take_all, drop_all, length-append},
  },
  Common.{◌≡◌, ℕ, zero, suc, ◌+◌, ◌<◌, ◌≤◌, Bool, true, false, cond, List, [], ◌∷◌, ◌++◌, length, take, drop, get_or},
  Common.{refl, sym, ap, subst, ◌∙◌, arith},
}
use Rattle.memchr.specs.Find.{Nowhere, Passes, is_byte}
use Rattle.seg_core.{
  specs.Line.{HasNone, lines_of, delimiters, ends_with},
  proofs.{
    Delimiters.{delimiters-append, delimiters-one_yes},
    LineCounts.ends_with-append,
    LinesOf.{lines_of-complete, lines_of-open},
  },
}

-- what `next_line` says of a text x, its first line and the rest
pub record IsCutFrom (delim : ℕ) (x line rest : List ℕ) : Type 0 where
  pub first : 0 < length x → lines_of delim x ≡ line ∷ lines_of delim rest
  pub some : 0 < length x → 0 < length line
  pub count : delimiters delim x ≡ cond (ends_with delim line) (delimiters delim rest + 1) (delimiters delim rest)
  pub last : ends_with delim line ≡ false → rest ≡ []

HasNone-take : (delim k : ℕ) (x : List ℕ) → k ≤ length x → Nowhere (Passes (is_byte delim) x) 0 k
    → HasNone delim (take k x)
HasNone-take delim zero x h none = tt
HasNone-take delim (suc k) [] h none = tt
HasNone-take delim (suc k) (byte ∷ x) h none =
    (λ e. none 0 (omega arith) (omega arith) (eq-eqb byte delim e), HasNone-take delim k x (omega arith) (λ i low high. none (suc i) (omega arith) (omega arith)))

pub delimiters-none : (delim : ℕ) (x : List ℕ) → HasNone delim x → delimiters delim x ≡ 0
delimiters-none delim [] none = refl
delimiters-none delim (byte ∷ x) (other, none) = ap (λ (c : Bool). cond c (delimiters delim x + 1) (delimiters delim x)) (ne_eqb byte delim other) ∙ delimiters-none delim x none

ends-complete : (delim : ℕ) (text : List ℕ) → ends_with delim (text ++ delim ∷ []) ≡ true
ends-complete delim text = ends_with-append delim text (delim ∷ []) (omega arith) ∙ eq-eqb delim delim refl

ends-none : (delim : ℕ) (x : List ℕ) → HasNone delim x → ends_with delim x ≡ false
ends-none delim [] none = refl
ends-none delim (byte ∷ []) (other, none) = ne_eqb byte delim other
ends-none delim (byte ∷ next ∷ x) (other, none) = ends-none delim (next ∷ x) none

complete_cut : {delim : ℕ} (text : List ℕ) {rest : List ℕ} → HasNone delim text
    → IsCutFrom delim ((text ++ delim ∷ []) ++ rest) (text ++ delim ∷ []) rest
complete_cut {delim} text {rest} none =
    let counted : delimiters delim ((text ++ delim ∷ []) ++ rest) ≡ delimiters delim rest + 1 =
    omega (arith, delimiters-append delim (text ++ delim ∷ []) rest, delimiters-append delim text (delim ∷ []), delimiters-one_yes delim delim (eq-eqb delim delim refl), delimiters-none delim text none) in
    record {
      first = λ some. lines_of-complete delim text rest none;
      some = λ some. omega (arith, length-append text (delim ∷ []));
      count = counted ∙ sym (ap (λ (c : Bool). cond c (delimiters delim rest + 1) (delimiters delim rest)) (ends-complete delim text));
      last = λ no. absurd (false≢true (sym no ∙ ends-complete delim text));
    }

open_cut : {delim : ℕ} {x : List ℕ} → HasNone delim x → IsCutFrom delim x x []
open_cut {delim} {x} none = grind (arith, common_steps, lines_of-open, delimiters-none, ends-none)

pub cut_after : {delim : ℕ} {x : List ℕ} {k : ℕ} (line : List ℕ) {rest : List ℕ} → k < length x
    → Passes (is_byte delim) x k → Nowhere (Passes (is_byte delim) x) 0 k
    → line ≡ take (k + 1) x → rest ≡ drop (k + 1) x → IsCutFrom delim x line rest
cut_after {delim} {x} {k} line {rest} h here none front back =
    let ends : line ≡ take k x ++ delim ∷ [] = front ∙ take_more x k 0 h ∙ ap (λ byte. take k x ++ byte ∷ []) (eqb-true (get_or x k 0) delim here) in
    let whole : (take k x ++ delim ∷ []) ++ rest ≡ x = let all = take-append-drop (k + 1) x in cc in
    let cut = complete_cut (take k x) (HasNone-take delim k x (omega arith) none) in
    rw ends (subst (λ z. IsCutFrom delim z (take k x ++ delim ∷ []) rest) whole cut)

pub cut_at_end : {delim : ℕ} {x : List ℕ} (line : List ℕ) {rest : List ℕ}
    → Nowhere (Passes (is_byte delim) x) 0 (length x) → line ≡ take (length x) x → rest ≡ drop (length x) x
    → IsCutFrom delim x line rest
cut_at_end {delim} {x} line {rest} none front back =
    let whole = take_all (length x) x (omega arith) in
    let cut = open_cut (rw whole at (HasNone-take delim (length x) x (omega arith) none)) in
    rw (front ∙ whole) (rw (back ∙ drop_all (length x) x (omega arith)) cut)
