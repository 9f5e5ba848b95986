-- Delimiters that are counted in the lanes of a vector.
use Rattle.std.{
  proofs.lemmas.{
    Grind.common_steps,
    Simd.{tops_compared, zip2_splat, Each2-of, Each1-zip2, sum_bound, bytes_below, sum_fits, sum_dots, sum_by-ones},
    Simd.fold-sum,
  },
  proofs.Common.{◌≡◌, ℕ, zero, suc, ◌+◌, ◌-◌, ◌*◌, ◌≤◌, Bool, true, false, cond, eqb, List, [], ◌∷◌, length, map},
  proofs.Common.{replicate, refl, sym, ap, ◌∙◌, arith, w8, w32, Fits},
  specs.Simd.Lanes.{Each1, Each2, zip2, sum_l, sel_l, top, products, dots, Steps, fold_l},
}
use Rattle.seg_core.specs.{declared.line.TheConstants.{STEP, RUN}, Line.delimiters}

-- 1 for each delimiter, and 0 for each other byte
abbrev pub flags_of : ℕ → List ℕ → List ℕ
flags_of delim x = map (λ byte. cond (eqb byte delim) 1 0) x

chosen : (p : ℕ → Bool) (x : List ℕ) (n one none : ℕ) → length x ≡ n
    → sel_l (map p x) (replicate n one) (replicate n none) ≡ map (λ byte. cond (p byte) one none) x
chosen p [] n one none long = refl
chosen p (byte ∷ x) zero one none long = absurd (omega arith)
chosen p (byte ∷ x) (suc n) one none long = ap (λ z. cond (p byte) one none ∷ z) (chosen p x n one none (omega arith))

-- what is chosen by the comparison with a delimiter
pub chosen_flags : (delim : ℕ) (x : List ℕ) {n : ℕ} → length x ≡ n
    → sel_l {A = ℕ} (map (top 7) (zip2 (λ a b. cond (eqb a b) 255 0) x (replicate n delim))) (replicate n 1)
    (replicate n 0) ≡ flags_of delim x
chosen_flags delim x {n} long =
    ap (λ m. sel_l {A = ℕ} m (replicate n 1) (replicate n 0)) (tops_compared w8 eqb x (replicate n delim) ∙ zip2_splat eqb x n delim long)
    ∙ chosen (λ byte. eqb byte delim) x n 1 0 long

sum_step : (is_delim : Bool) (n : ℕ) → cond is_delim 1 0 + n ≡ cond is_delim (n + 1) n
sum_step true n = omega arith
sum_step false n = omega arith

pub sum-flags : (delim : ℕ) (x : List ℕ) → sum_l (flags_of delim x) ≡ delimiters delim x
sum-flags delim [] = refl
sum-flags delim (byte ∷ x) = ap (λ n. cond (eqb byte delim) 1 0 + n) (sum-flags delim x) ∙ sum_step (eqb byte delim) (delimiters delim x)

flag_small : (is_delim : Bool) → cond is_delim 1 0 ≤ 1
flag_small true = omega arith
flag_small false = omega arith

pub flags_small : (delim : ℕ) (x : List ℕ) → Each1 (λ lane. lane ≤ 1) (flags_of delim x)
flags_small delim [] = tt
flags_small delim (byte ∷ x) = (flag_small (eqb byte delim), flags_small delim x)

-- after some steps of a run, of which `left` bytes are left
abbrev pub IsFew : ℕ → ℕ → Type 0
IsFew left lane = STEP * lane + left ≤ RUN

pub more_fit : (lanes step : List ℕ) (left : ℕ) → STEP ≤ left → Each1 (IsFew left) lanes → Each1 (λ lane. lane ≤ 1) step
    → Each2 (λ a b. Fits w8 (a + b)) lanes step
more_fit lanes step left some few small = grind (arith, common_steps, Each2-of)

pub more_few : (lanes step : List ℕ) (left : ℕ) → STEP ≤ left → Each1 (IsFew left) lanes → Each1 (λ lane. lane ≤ 1) step
    → Each1 (IsFew (left - STEP)) (zip2 (λ a b. a + b) lanes step)
more_few lanes step left some few small = grind (arith, common_steps, Each1-zip2, Each2-of)

-- the lanes in fours, and these summed
pub sum-fours : (lanes : List ℕ) → length lanes ≡ STEP → sum_l (dots lanes (replicate STEP 1)) ≡ sum_l lanes
sum-fours lanes long =
    (sum_dots 16 lanes (replicate STEP 1) long refl).0 ∙ ap (λ n. sum_l (products lanes (replicate n 1))) (sym long) ∙ sum_by-ones lanes

pub fours_fit : (lanes : List ℕ) → length lanes ≡ STEP → Each1 (Fits w8) lanes
    → Steps (λ s x. Fits w32 (s + x)) (λ s x. s + x) 0 (dots lanes (replicate STEP 1))
fours_fit lanes long fit = sum_fits w32 0 (dots lanes (replicate STEP 1)) (omega (arith, sum_bound 255 lanes (bytes_below lanes fit), sum-fours lanes long))

pub fold-fours : (lanes : List ℕ) → length lanes ≡ STEP
    → fold_l (λ s x. s + x) 0 (dots lanes (replicate STEP 1)) ≡ sum_l lanes
fold-fours lanes long = omega (arith, fold-sum 0 (dots lanes (replicate STEP 1)), sum-fours lanes long)
