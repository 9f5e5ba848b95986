-- Laws that traits cite: laws of parts that follow one another: what a text that goes on is cut into.
use Rattle.std.proofs.{
  lemmas.{Grind.common_steps, Bool.cases_Bool, List.drop-append-le},
  Common.{◌≡◌, ℕ, ◌≤◌, zero, suc, List, [], ◌++◌, length, true, false, refl, inl, inr, arith, length-drop, rules},
}
use Rattle.seg_core.{specs.{declared.cut.Limit.{Limit}}}
use Rattle.split_core.specs.{
  Parts.{is_full, first_part, after_first, cut_within, cut_up},
  inner.CutLaws.{Cuts, stops, goes, cut_so},
}
use Rattle.split_core.specs.laws.{LimitLaws.{first-append, first_some, measure-append, first_within}}

-- when a part is full

pub after-append : (limit : Limit) (x y : List ℕ) → is_full limit x ≡ true
    → after_first limit (x ++ y) ≡ after_first limit x ++ y
after-append limit x y full = rw (first-append limit x y full) (drop-append-le _ x y (first_within limit x))

after_less : (limit : Limit) (x : List ℕ) (bound : ℕ) → is_full limit x ≡ true → length x ≤ suc bound
    → length (after_first limit x) ≤ bound
after_less limit x bound full within =
    omega (arith, first_some limit x full, length-drop (length (first_part limit x)) x)

cuts_within : {limit : Limit} (bound : ℕ) {x : List ℕ} → length x ≤ bound
    → Cuts limit x (cut_within bound limit x).full (cut_within bound limit x).rest
cuts_within {limit} zero {x} within = stops x (grind (arith, common_steps))
cuts_within {limit} (suc bound) {x} within = elim (cases_Bool (is_full limit x)) [
  | inl full ↦ rw full (goes x _ _ full (cuts_within bound (after_less limit x bound full within)))
  | inr short ↦ rw short (stops x short)
]

pub cuts_up : {limit : Limit} {x : List ℕ} → Cuts limit x (cut_up limit x).full (cut_up limit x).rest
cuts_up {x} = cuts_within _ (omega arith)

once_within : {limit : Limit} (bound : ℕ) {x : List ℕ} {parts : List (List ℕ)} {rest : List ℕ} → length x ≤ bound
    → Cuts limit x parts rest → cut_within bound limit x ≡ cut_so parts rest
once_within zero within (stops _ short) = refl
once_within {limit} zero {x} within (goes _ parts rest full more) = grind (arith, common_steps)
once_within (suc bound) within (stops _ short) = cc
once_within {limit} (suc bound) {x} within (goes _ parts rest full more) =
    cc (once_within bound (after_less limit x bound full within) more)

-- a text is cut up in one way
pub cut_once : (limit : Limit) {x : List ℕ} {parts : List (List ℕ)} {rest : List ℕ} → Cuts limit x parts rest
    → cut_up limit x ≡ cut_so parts rest
cut_once limit {x} cuts = once_within _ (omega arith) cuts

cuts_on : {limit : Limit} (x y : List ℕ) {parts : List (List ℕ)} {rest : List ℕ} → Cuts limit x parts rest
    → Cuts limit (x ++ y) (parts ++ (cut_up limit (rest ++ y)).full) (cut_up limit (rest ++ y)).rest
cuts_on x y (stops _ short) = cuts_up
cuts_on {limit} x y (goes _ parts rest full after) =
    let left = cut_up limit (rest ++ y) in
    let all : is_full limit (x ++ y) ≡ true = grind (arith, measure-append) in
    let more : Cuts limit (after_first limit (x ++ y)) (parts ++ left.full) left.rest =
    rw (after-append limit x y full) (cuts_on _ y after) in
    rw (first-append limit x y full) at (goes (x ++ y) _ left.rest all more)

-- a longer text has the parts of the text, and then those of its rest and what follows
pub cut_on : (limit : Limit) (x y : List ℕ)
    → cut_up limit (x ++ y) ≡ cut_so ((cut_up limit x).full ++ (cut_up limit ((cut_up limit x).rest ++ y)).full)
    (cut_up limit ((cut_up limit x).rest ++ y)).rest
cut_on limit x y = cut_once _ (cuts_on x y cuts_up)

left_short : (limit : Limit) (x : List ℕ) {parts : List (List ℕ)} {rest : List ℕ} → Cuts limit x parts rest
    → is_full limit rest ≡ false
left_short limit x (stops _ short) = short
left_short limit x (goes _ parts _ full after) = left_short _ _ after

-- the rest has no full part
pub rest_short : (limit : Limit) (x : List ℕ) → is_full limit (cut_up limit x).rest ≡ false
rest_short limit x = left_short limit x cuts_up

-- Three ways to go on: no part is full yet; all of the text is one part; it is one part and a beginning of the next

pub cut_none : (limit : Limit) (x : List ℕ) → is_full limit x ≡ false → cut_up limit x ≡ cut_so [] x
cut_none limit x short = search rules
