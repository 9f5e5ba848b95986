-- Lemmas on what of an input isn't used.
use Rattle.std.proofs.{
  lemmas.{
    Grind.common_steps,
    Bool.{false≢true, cases_lt},
    List.{length-append, take-append-drop, take-append-le, take_at},
  },
  Common.{◌≡◌, ℕ, ◌≤◌, ◌<◌, true, false, List, [], ◌++◌, length, take, drop, ◌⊎◌, inl, inr, refl, sym, ◌∙◌, ap},
  Common.arith,
}
use Rattle.engine_core.specs.Work.{Work, IsLawful, IsComplete, IsNeeded, IsSpare}

-- while the output isn't complete, all bytes are used
pub all_used : (work : Work) (x : List ℕ) → work.is_complete x ≡ false → IsSpare work x 0
all_used work x going = grind (arith, common_steps)

pub none_spare : (work : Work) (x : List ℕ) (n : ℕ) → IsLawful work → work.is_complete x ≡ false → IsSpare work x n
    → n ≡ 0
none_spare work x n lawful going spare = grind arith

-- if the output is complete, it is complete with the bytes that are used
pub complete_used : (work : Work) (x : List ℕ) (n : ℕ) (spare : IsSpare work x n) → work.is_complete x ≡ true
    → work.is_complete spare.used ≡ true
complete_used work x n spare done = grind (arith, common_steps)

-- no more bytes are spare than the last piece has, if the output was not complete before this piece
pub spare_within : (work : Work) (most n : ℕ) (x : List ℕ) → IsLawful work → IsNeeded work.is_complete most x
    → IsSpare work x n → n ≤ most
spare_within work most n x lawful (inl none) spare = omega (arith, ap length none, ap length spare.joined ∙ length-append spare.used spare.rest)
spare_within work most n x lawful (inr (before, piece, is, few, going)) spare = by (cases_lt (length before) (length spare.used)) spare.enough where
  by : (length before < length spare.used) ⊎ (length spare.used ≤ length before)
      → (spare.rest ≡ []) ⊎ (work.is_complete spare.used ≡ true) → n ≤ most
  by over (inl none) = omega (arith, ap length none)
  by (inl over) (inr complete) = omega (arith, ap length is ∙ length-append before piece, ap length spare.joined ∙ length-append spare.used spare.rest)
  by (inr short) (inr complete) =
      let used : take (length spare.used) before ≡ spare.used = sym
      (take-append-le (length spare.used) before piece short) ∙ ap (take (length spare.used))
      (sym is ∙ spare.joined) ∙ take_at spare.used spare.rest (length spare.used) refl in
      let all : spare.used ++ drop (length spare.used) before ≡ before =
      grind (arith, take-append-drop) in
      let stays : IsComplete work spare.used (drop (length spare.used) before) = grind arith in
      absurd (false≢true (sym going ∙ ap work.is_complete (sym all) ∙ stays.still))
