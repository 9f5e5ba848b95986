-- By no right spots fewer bytes wait.
use Rattle.std.proofs.{
  lemmas.{Bool.cases_lt, List.{append-nil, get_or_append_left}},
  Common.{◌≡◌, ◌≢◌, ℕ, ◌+◌, ◌-◌, ◌<◌, ◌≤◌, ◌↔◌, zero, suc, List, [], ◌++◌, length, get_or, inl, inr, refl, sym, ◌∙◌, ap},
  Common.{arith, length-append, subst},
}
use Rattle.engine_core.specs.{
  Written.IsBeginning,
  Work.Work,
  Agreed.{ArePlaced, DifferOn, GoesBy, GoesTo, NoFewerWait, Spot, output_at, spot},
}

-- no fewer than none wait
pub none_is_least : {comes : List ℕ → Type 0} (work : Work) (x : List ℕ) → NoFewerWait comes work x []
none_is_least work x spots_of other placed waits = omega arith

-- the first n bytes of x and one more go to the same spots under all continuations
abbrev pub AreDecided : (List ℕ → Type 0) → (List ℕ → ℕ → List Spot) → List ℕ → ℕ → Type 0
AreDecided comes spots_of x n = (i : ℕ) → i ≤ n → (y : List ℕ) (at : Spot) → comes y
    → GoesTo at (spots_of x i) ↔ GoesTo at (spots_of (x ++ y) i)

-- No fewer wait if by no right spots the first byte that waits is decided, and all before it.
pub least_by : {comes : List ℕ → Type 0} (work : Work) {x : List ℕ} (before waiting : List ℕ) → comes []
    → x ≡ before ++ waiting → ((spots_of : List ℕ → ℕ → List Spot) → ArePlaced work spots_of
    → AreDecided comes spots_of x (length before) → length before < length x → ⊥) → NoFewerWait comes work x waiting
least_by work {x} before waiting ends are_last none spots_of other placed waits =
    elim (cases_lt (length other) (length waiting)) [
      | inr enough ↦ enough
      | inl fewer ↦
          let long : length x ≡ length before + length waiting = ap length are_last ∙ length-append before waiting in
          let also : length x ≡ length waits.before + length other =
          ap length waits.are_last ∙ length-append waits.before other in
          absurd (none spots_of placed (λ i few y at can. let less : i < length waits.before = omega arith in
          subst (λ w. GoesTo at (spots_of w i) ↔ GoesTo at (spots_of (x ++ y) i)) (append-nil x)
          (waits.decided i less [] y at ends can, waits.decided i less y [] at can ends)) (omega arith))
    ]

module _ (work : Work) {spots_of : List ℕ → ℕ → List Spot} (placed : ArePlaced work spots_of) (x : List ℕ)
    (place : ℕ) where
  -- bytes of an output that stand so many bytes from each other came in at least as far from each other
  rises : (n low high i j : ℕ) → high ≡ low + n → high < length (output_at (work.whole x) place)
      → GoesTo (spot place low) (spots_of x i) → GoesTo (spot place high) (spots_of x j) → i + n ≤ j
  rises zero low high i j is within goes also = elim (cases_lt j i) [
    | inl less ↦ absurd (omega (arith, (placed.order x j i _ _ refl also goes).0 less))
    | inr past ↦ omega arith
  ]
  rises (suc n) low high i j is within goes also =
      let (k, here, to) = placed.filled x (spot place (low + n)) (omega arith) in
      omega (arith, rises n low (low + n) i k refl (omega arith) goes to, (placed.order x k j _ _ refl to also).1 (omega arith))

  -- as many bytes of an output stand before a byte as came in before it, at most
  pub no_sooner : (offset j : ℕ) → offset < length (output_at (work.whole x) place)
      → GoesTo (spot place offset) (spots_of x j) → offset ≤ j
  no_sooner offset j within goes = let (i, here, to) = placed.filled x (spot place 0) (omega arith) in
      omega (arith, rises offset 0 offset i j (omega arith) within to goes)

  -- as many bytes of an output stand after a byte as came in after it, at most
  pub early_enough : (offset i : ℕ) → offset < length (output_at (work.whole x) place)
      → GoesTo (spot place offset) (spots_of x i) → i + (length (output_at (work.whole x) place) - offset) ≤ length x
  early_enough offset i within goes =
      let last = length (output_at (work.whole x) place) - 1 in
      let (j, here, to) = placed.filled x (spot place last) (omega arith) in
      omega (arith, rises (last - offset) offset last i j (omega arith) (omega arith) goes to)

  -- If an output is a beginning of the input, and from some place on the input has but one byte over and over, then no
  -- byte goes elsewhere that stands in the output, and before that place a byte other than this one.
  module _ (last byte : ℕ) (begins : IsBeginning (output_at (work.whole x) place) x)
      (long : last ≤ length (output_at (work.whole x) place))
      (run : (j : ℕ) → last ≤ j → j < length x → get_or x j 0 ≡ byte) where
    other_stays : (n offset : ℕ) → last ≤ offset + n → offset < last → get_or x offset 0 ≢ byte
        → GoesTo (spot place offset) (spots_of x offset)
    other_stays zero offset most less differs = absurd (omega arith)
    other_stays (suc n) offset most less differs =
        let (i, here, to) = placed.filled x (spot place offset) (omega arith) in
        let past = no_sooner offset i (omega arith) to in
        let same : get_or x i 0 ≡ get_or x offset 0 = sym (placed.stands x i _ here to).1
        ∙ sym (ap (λ those. get_or those offset 0) begins.1 ∙ get_or_append_left (output_at (work.whole x) place) begins.0 0 offset (omega arith)) in
        elim (cases_lt offset i) [
          | inr no_later ↦ subst (λ k. GoesTo (spot place offset) (spots_of x k)) (omega arith) to
          | inl later ↦ elim (cases_lt i last) [
            | inr far ↦ absurd (differs (sym same ∙ run i far here))
            | inl near ↦
                let stays = other_stays n i (omega arith) near (λ is. differs (sym same ∙ is)) in
                absurd (omega (arith, (placed.order x i i _ _ refl to stays).1 later))
          ]
        ]

    pub first_stay : (offset i : ℕ) → offset < last → get_or x offset 0 ≢ byte → i ≤ offset
        → GoesTo (spot place i) (spots_of x i)
    first_stay offset i less differs few =
        let stays = other_stays last offset (omega arith) less differs in
        let (j, here, to) = placed.filled x (spot place i) (omega arith) in
        let past = no_sooner i j (omega arith) to in
        let near = rises (offset - i) i offset j offset (omega arith) (omega arith) to stays in
        subst (λ k. GoesTo (spot place i) (spots_of x k)) (omega arith) to
