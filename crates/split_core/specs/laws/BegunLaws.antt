-- Laws that traits cite: what of a text that goes on begins before a place.
use Rattle.std.proofs.lemmas.Grind.{common_steps}
use Rattle.std.{
  proofs.lemmas.{
    Bool.{cases_lt},
    List.{append-nil, take_all, length-append, length-drop, length-take, take-append-le, take-append-drop, take-take},
  },
  proofs.Common.{◌≡◌, ℕ, ◌+◌, ◌-◌, ◌<◌, ◌≤◌, max, zero, suc, cond, eqb, nat_lt, List, [], ◌∷◌, ◌++◌},
  proofs.Common.{length, take, drop, inl, inr, refl, sym, ap, arith},
}
use Rattle.seg_core.{
  specs.{Line.{joined, lines_of, delimiters, first_lines}, declared.unit.Unit.{Unit, TheVariants.{Bytes, Lines}}},
  proofs.Delimiters.{delimiters-append, delimiters-take-le},
  proofs.FirstLines.{first_lines-full, first_lines-is_take, first_lines-short, lines_of-first_lines},
  proofs.FirstLines.{first_lines-all, first_lines-append, first_lines-cons, first_lines_then_rest},
  proofs.FirstLines.{delimiters-first_lines, length-first_lines-le},
  proofs.LineCounts.line_count-le-length,
}
use Rattle.engine_core.{
  specs.Written.IsBeginning,
  proofs.{WrittenLemmas.{begins_itself, begins_more}, AgreedLemmas.beginning_short},
}
use Rattle.split_core.specs.{Chunks.{begun_before, open_from}}
use Rattle.split_core.specs.laws.LimitLaws.{first_lines_begin}

-- What of a text begins before a place

pub begun_first : (delim byte place : ℕ) (x : List ℕ) → 0 < place
    → begun_before Lines delim place (byte ∷ x) ≡ byte ∷ cond (eqb byte delim) (begun_before Lines delim (place - 1) x)
    (begun_before Lines delim (max (place - 1) 1) x)
begun_first delim byte zero x some = absurd (omega arith)
begun_first delim byte (suc zero) x some = first_lines-cons _ _ 0 x
begun_first delim byte (suc (suc place)) x some = grind arith

pub begun_some : (unit : Unit) (delim place : ℕ) (x : List ℕ) → 0 < place → 0 < length x
    → 0 < length (begun_before unit delim place x)
begun_some Bytes delim place x some has = omega (arith, length-take place x)
begun_some Lines delim place [] some has = absurd (omega arith)
begun_some Lines delim place (byte ∷ x) some has = rw (begun_first _ _ _ x some) (omega arith)

-- From where on a text may still get bytes

pub open_from_none : (delim : ℕ) (x : List ℕ) → delimiters delim x ≡ 0 → open_from Lines delim x ≡ 0
open_from_none delim x none = rw none refl

-- A text that goes on

-- the lines that begin before a place are one more than those that end before the last byte there
begun_is : (delim place : ℕ) (x : List ℕ)
    → begun_before Lines delim (suc place) x ≡ first_lines delim (suc (delimiters delim (take place x))) x
begun_is delim place x =
    let n = suc (delimiters delim (take place x)) in
    let one : n - delimiters delim (take place x) ≡ 1 = omega arith in
    cc (
      first_lines-append delim n (take place x) (drop place x),
      first_lines-short delim n
          (take place x) (omega arith),
      take-append-drop place x,
    )

-- lines that are longer than a stretch of the text don't all end within the stretch
few_before : (delim n place : ℕ) (x : List ℕ) → place < length (first_lines delim n x)
    → delimiters delim (take place x) < n
few_before delim n place x past = elim (cases_lt (delimiters delim _) n) [
  | inl few ↦ few
  | inr enough ↦ (let full = rw (take-append-drop place x) at (first_lines-full delim n _ (drop place x) enough) in
      absurd (omega (arith, ap length full, length-first_lines-le delim n (take place x), length-take place x)))
]

-- complete lines that aren't longer than a stretch of the text end within it
lines_before_all : (delim place : ℕ) (x : List ℕ) → open_from Lines delim x ≤ place
    → delimiters delim (take place x) ≡ delimiters delim x
lines_before_all delim place x within = let lines = first_lines delim (delimiters delim x) x in
    omega (
      arith,
      delimiters-take-le delim place x,
      delimiters-take-le delim (length lines) (take place x),
      ap (delimiters delim) (take-take _ place x within),
      ap (delimiters delim) (first_lines-is_take delim (delimiters delim x) x),
      delimiters-first_lines delim (delimiters delim x) x (omega arith),
    )

take_over : (n : ℕ) (x y : List ℕ) → take n (x ++ y) ≡ take n x ++ take (n - length x) y
take_over n [] y = grind (arith, common_steps)
take_over zero (byte ∷ x) y = grind arith
take_over (suc n) (byte ∷ x) y = let less : suc n - suc (length x) ≡ n - length x = omega arith in cc (take_over n x y)

-- what begins before a place stays, if the text can get no more before it
pub begun_stays : (unit : Unit) (delim place : ℕ) (x y : List ℕ) → place ≤ open_from unit delim x
    → begun_before unit delim place (x ++ y) ≡ begun_before unit delim place x
begun_stays Bytes delim place x y within = take-append-le place x y within
begun_stays Lines delim zero x y within = refl
begun_stays Lines delim (suc place) x y within =
    cc (
      begun_is delim place (x ++ y),
      begun_is delim place x,
      take-append-le place x y (omega (arith, length-first_lines-le delim (delimiters delim x) x)),
      first_lines-full delim (suc (delimiters delim (take place x))) x y (few_before _ _ place x within),
    )

-- if a text can get more before a place, all of it begins there, and what follows up to the place or to the open line's
-- end
pub begun_on : (unit : Unit) (delim place : ℕ) (x y : List ℕ) → open_from unit delim x < place
    → begun_before unit delim place (x ++ y) ≡ x ++ begun_before unit delim (max (place - length x) 1) y
begun_on Bytes delim place x y past = grind (arith, common_steps, take_over, take_all)
begun_on Lines delim zero x y past = absurd (omega arith)
begun_on Lines delim (suc place) x y past =
    let more : max (suc place - length x) 1 ≡ suc (place - length x) = omega arith in
    let n = delimiters delim (take place (x ++ y)) in let m = delimiters delim (take (place - length x) y) in
    let count : n ≡ delimiters delim x + m =
    rw (take_over place x y, delimiters-append, lines_before_all delim place x (omega arith)) in
    let left : suc n - delimiters delim x ≡ suc m = omega arith in
    cc (
      begun_is delim place (x ++ y),
      first_lines-append delim (suc n) x y,
      first_lines-short delim (suc n) x (omega (arith, count)),
      begun_is delim _ y,
    )

pub begun_of_none : (unit : Unit) (delim place : ℕ) → begun_before unit delim place [] ≡ []
begun_of_none Bytes delim zero = refl
begun_of_none Bytes delim (suc place) = refl
begun_of_none Lines delim zero = refl
begun_of_none Lines delim (suc zero) = refl
begun_of_none Lines delim (suc (suc place)) = refl

-- a text that can get more before a place begins before it
pub begun_all : (unit : Unit) (delim place : ℕ) (x : List ℕ) → open_from unit delim x < place
    → begun_before unit delim place x ≡ x
begun_all unit delim place x past =
    cc (append-nil x, begun_on unit delim place x [] past, begun_of_none unit delim _)

-- a text that ends before a place begins before it
pub begun_long : (unit : Unit) (delim place : ℕ) (x : List ℕ) → length x ≤ place → begun_before unit delim place x ≡ x
begun_long Bytes delim place x long = take_all place x long
begun_long Lines delim zero [] long = refl
begun_long Lines delim zero (byte ∷ x) long = absurd (omega arith)
begun_long Lines delim (suc place) x long =
    cc (
      first_lines-all delim 1 {x =
          drop place x} (omega (arith, line_count-le-length delim (drop place x), length-drop place x)),
      take-append-drop place x,
    )

-- the lines that begin before a place are the first of the lines that begin before a later place
pub begun_lines : (delim place other : ℕ) (x : List ℕ) → place ≤ other → (n : ℕ) × (0 < place → 0 < n)
    × (begun_before Lines delim place x ≡ first_lines delim n (begun_before Lines delim other x))
begun_lines delim zero other x within = (0, (λ none. absurd (omega arith)), refl)
begun_lines delim (suc place) zero x within = absurd (omega arith)
begun_lines delim (suc place) (suc other) x within =
    let n = suc (delimiters delim (take place x)) in let m = suc (delimiters delim (take other x)) in
    let fewer : delimiters delim (take place x) ≤ delimiters delim (take other x) =
    rw (take-take place other x (omega arith)) at (delimiters-take-le delim place (take other x)) in (
      n,
      (λ some. omega arith),
      cc (
        begun_is delim place x,
        begun_is delim other x,
        lines_of-first_lines delim m x,
        take-take n m (lines_of delim x) (omega arith),
      ),
    )

-- what of a text begins before a place begins what begins before a later place
pub begun_monotone : (unit : Unit) (delim : ℕ) {place other : ℕ} (x : List ℕ) → place ≤ other
    → IsBeginning (begun_before unit delim place x) (begun_before unit delim other x)
begun_monotone Bytes delim {place} {other} x within =
    (drop place _, rw (take-take place other x within) at (sym (take-append-drop place (take other x))))
begun_monotone Lines delim {place} {other} x within =
    let (n, some, is) = begun_lines delim place other x within in let whole = begun_before Lines delim other x in
    (joined (drop n (lines_of delim whole)), cc (first_lines_then_rest delim n whole))

pub begun_begins : (unit : Unit) (delim place : ℕ) (x : List ℕ) → IsBeginning (begun_before unit delim place x) x
begun_begins unit delim place x =
    rw (begun_long unit delim (max place (length x)) x (omega arith)) at
    (begun_monotone unit delim {place = place} {other = max place (length x)} x (omega arith))

pub begun_within : (unit : Unit) (delim place : ℕ) (x : List ℕ) → length (begun_before unit delim place x) ≤ length x
begun_within unit delim place x = beginning_short _ _ (begun_begins _ _ _ x)

-- what begins before a place begins before a later place
pub begun_later : (unit : Unit) (delim : ℕ) {place other : ℕ} (x : List ℕ) → place ≤ other
    → begun_before unit delim place x ≡ x → begun_before unit delim other x ≡ x
begun_later unit delim {place} {other} x within all =
    let (more, is) = begun_monotone unit delim {place = place} {other = other} x within in
    grind (arith, common_steps, begun_within unit delim other x)

pub begun_grows : (unit : Unit) (delim place : ℕ) (x y : List ℕ)
    → IsBeginning (begun_before unit delim place x) (begun_before unit delim place (x ++ y))
begun_grows unit delim place x y = elim (cases_lt (open_from unit delim x) place) [
  | inl past ↦ rw (begun_all _ _ _ x past, begun_on _ _ _ x y past) (begins_more x _)
  | inr within ↦ rw (begun_stays _ _ _ x y within) (begins_itself _)
]

-- what begins before a place, taken alone, begins before it
pub begun_again : (unit : Unit) (delim place : ℕ) (x : List ℕ)
    → begun_before unit delim place (begun_before unit delim place x) ≡ begun_before unit delim place x
begun_again unit delim place x = let (rest, is) = begun_begins unit delim place x in
    elim (cases_lt (open_from unit delim (begun_before unit delim place x)) place) [
      | inl past ↦ begun_all _ _ _ _ past
      | inr within ↦ cc (begun_stays unit delim place (begun_before unit delim place x) rest within)
    ]

-- Where the open line of a text is

pub open_within : (unit : Unit) (delim : ℕ) (x : List ℕ) → open_from unit delim x ≤ length x
open_within Bytes delim x = omega arith
open_within Lines delim x = length-first_lines-le _ _ x

pub open_grows : (unit : Unit) (delim : ℕ) (x y : List ℕ) → open_from unit delim x ≤ open_from unit delim (x ++ y)
open_grows Bytes delim x y = omega (arith, length-append x y)
open_grows Lines delim x y =
    grind (arith, delimiters-append, first_lines-append, length-append, beginning_short, first_lines_begin)

-- the open line of a text that goes on begins after the last delimiter of what follows, if this has one
pub open_append : (delim : ℕ) (x y : List ℕ) → open_from Lines delim (x ++ y)
    ≡ cond (nat_lt 0 (delimiters delim y)) (length x + open_from Lines delim y) (open_from Lines delim x)
open_append delim x y = grind (arith, delimiters-append, first_lines-append, first_lines-short, length-append)
