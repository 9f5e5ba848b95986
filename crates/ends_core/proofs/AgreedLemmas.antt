-- What all continuations agree on, of heads and tails, and where the bytes of an input go.
use Rattle.std.proofs.{
  lemmas.{
    Grind.common_steps,
    Bool.{cases_lt, cond_both, lt-ltb, le-ltb, eq-eqb, ne_eqb},
    List.{append-nil, drop-append-le, get_or_append_left, get_or-append_right, get_or-replicate, length-replicate},
  },
  Common.{◌≡◌, ◌≢◌, ℕ, ◌+◌, ◌-◌, ◌<◌, ◌≤◌, zero, suc, List, [], ◌∷◌, ◌++◌, length, drop, replicate, Bool},
  Common.{get_or, true, false, cond, nat_lt, inl, inr, refl, sym, ◌∙◌, ap, subst, arith, append_assoc, length-append, rules},
  Math.Seq.{drop-append_seam, get_or-append_seam},
}
use Rattle.seg_core.{
  specs.{Line.{delimiters, ends_with}, declared.unit.Unit.{Unit as Counted, TheVariants.{Lines, Bytes}}},
  proofs.{LinesOf.{lines_of-append, joined-lines_of}, LineCounts.{line_count-closed, ends_with-append}},
}
use Rattle.engine_core.{
  specs.{
    Written.{IsBeginning, nothing, only_out},
    Agreed.{CanCome, IsAgreed, IsUndecided, Spot, spot, spots_from, output_at, ArePlaced, GoesTo, NoFewerWait},
  },
  proofs.AgreedLemmas.{none_comes, one_comes, copies_come, other, other_differs, other_comes, agreed_now},
  proofs.AgreedLemmas.{beginning_short, common, spot_in, spot_past, some_spot, same_spots, spots_differ, spots_few},
  proofs.AgreedLemmas.{AtMostOne, IsStretch, stretch_placed},
  proofs.LeastLemmas.{early_enough, first_stay, least_by, none_is_least},
}
use Rattle.ends_core.specs.{
  Ends.{size, measure, first_of, last_of, but_last_of, head_of, tail_of, after_of},
  laws.EndsLaws.{measure-append, first_of-append, first_of-short, first_of-full, first_then_after, ends_together},
  laws.EndsLaws.but_last_of-append,
  Head.{head_work, head_waiting},
  Tail.{tail_work, tail_waiting},
  Place.{head_spots, skipped, tail_spots},
}
use Rattle.ends_core.proofs.KeptLemmas.{measure-delimiters, last_is_drop, last_is_small}
use Rattle.ends_core.specs.laws.WorkLaws as law

-- Some continuations

-- after enough further lines or bytes all that came in stands before the last n
far : (delim : ℕ) (unit : Counted) (n : ℕ) (x : List ℕ)
    → length x < length (but_last_of delim unit n (x ++ replicate (n + 1) delim))
far delim unit n x = elim (cases_lt (length x) (length (but_last_of delim unit n (x ++ replicate (n + 1) delim)))) [
  | inl past ↦ past
  | inr within ↦ absurd (too_many within)
] where
  too_many : length (but_last_of delim unit n (x ++ replicate (n + 1) delim)) ≤ length x → ⊥
  too_many within =
      let k = length (but_last_of delim unit n (x ++ replicate (n + 1) delim)) in
      let last : last_of delim unit n (x ++ replicate (n + 1) delim) ≡ drop k x ++ replicate (n + 1) delim
      = last_is_drop delim unit n (x ++ replicate (n + 1) delim) ∙ drop-append-le k x (replicate (n + 1) delim) within in
      omega (
        arith,
        ap (measure delim unit) last ∙ measure-append delim unit (drop k x) (replicate (n + 1) delim),
        measure-delimiters delim unit {k = n + 1},
        last_is_small delim unit n (x ++ replicate (n + 1) delim),
      )

-- Heads

pub head_agreed : (delim : ℕ) (unit : Counted) (but_last : Bool) (n : ℕ) {x : List ℕ}
    → IsAgreed (head_work delim unit but_last n) x ((head_work delim unit but_last n).settled x)
head_agreed delim unit but_last n {x} =
    agreed_now (head_work delim unit but_last n) x (common (head_work delim unit but_last n) (law.head_lawful delim unit but_last n) x) refl

-- Where the bytes of an input go that is cut in two after its front: those before the cut go to one place, and those after it to another.
record Cuts (spots_of : List ℕ → ℕ → List Spot) (front_of : List ℕ → List ℕ) : Type 0 where
  early : ℕ → List Spot
  late : ℕ → ℕ → List Spot
  before : (x : List ℕ) (i : ℕ) → i < length (front_of x) → spots_of x i ≡ early i
  after : (x : List ℕ) (i : ℕ) → length (front_of x) ≤ i → i < length x → spots_of x i ≡ late (length (front_of x)) i
  apart : (k i : ℕ) → early i ≢ late k i
  few : (x : List ℕ) (i : ℕ) → AtMostOne (spots_of x i)

-- the first n of a text that goes on have all of the text, if it has fewer
first_long : (delim : ℕ) (unit : Counted) (n : ℕ) (x y : List ℕ) → measure delim unit x < n
    → length x ≤ length (first_of delim unit n (x ++ y))
first_long delim unit n x y short = grind (arith, common_steps, first_of-append, first_of-short)

module _ {spots_of : List ℕ → ℕ → List Spot} (delim : ℕ) (unit : Counted) (n : ℕ) where
  first_decided : Cuts spots_of (first_of delim unit n) → (x : List ℕ) (i : ℕ) → i < length x → (y z : List ℕ)
      → spots_of (x ++ y) i ≡ spots_of (x ++ z) i
  first_decided cuts x i less y z = search (rules, cases_lt, first_long, first_of-full, length-append)

  first_undecided : Cuts spots_of (first_of delim unit n) → {x : List ℕ} → IsUndecided spots_of x []
  first_undecided cuts {x} = same_spots spots_of (first_decided cuts x)

  last_decided : Cuts spots_of (but_last_of delim unit n) → (x : List ℕ) (i : ℕ)
      → i < length (but_last_of delim unit n x) → (y : List ℕ)
      → spots_of (x ++ y) i ≡ spots_of x i
  last_decided cuts x i less y = search (rules, but_last_of-append, length-append)

  last_undecided : Cuts spots_of (but_last_of delim unit n) → delim < 256 → {x : List ℕ}
      → IsUndecided spots_of x (last_of delim unit n x)
  last_undecided cuts byte {x} = spots_differ spots_of (but_last_of delim unit n x) cuts.few
      (sym (ends_together delim unit n x))
      (λ i past within. ([], replicate (n + 1) delim, none_comes, copies_come (n + 1) delim byte, differ i past within))
      (λ i less y z can also. last_decided cuts x i less y ∙ sym (last_decided cuts x i less z)) where
        differ : (i : ℕ) → length (but_last_of delim unit n x) ≤ i → i < length x
            → spots_of (x ++ []) i ≢ spots_of (x ++ replicate (n + 1) delim) i
        differ i past within same = cuts.apart (length (but_last_of delim unit n x)) i
            (sym (cuts.before (x ++ replicate (n + 1) delim) i (omega (arith, far delim unit n x))) ∙ sym same ∙ ap (λ all. spots_of all i) (append-nil x)
            ∙ cuts.after x i past within)

head_cuts : (delim : ℕ) (unit : Counted) (but_last : Bool) (n : ℕ)
    → Cuts (head_spots delim unit but_last n) (head_of delim unit but_last n)
head_cuts delim unit but_last n = record {
  early = λ i. spot 0 i ∷ [];
  late = λ k i. [];
  before = λ x i less. spot_in 0 i (head_of delim unit but_last n x) [] less;
  after = λ x i past within. spot_past 0 i (head_of delim unit but_last n x) [] past;
  apart = λ k i. some_spot (spot 0 i) [];
  few = λ x i. spots_few 0 (head_of delim unit but_last n x ∷ []) i;
}

pub head_undecided : (delim : ℕ) → delim < 256 → (unit : Counted) (but_last : Bool) (n : ℕ) {x : List ℕ}
    → IsUndecided (head_spots delim unit but_last n) x (head_waiting delim unit but_last n x)
head_undecided delim byte unit false n = first_undecided delim unit n (head_cuts delim unit false n)
head_undecided delim byte unit true n = last_undecided delim unit n (head_cuts delim unit true n) byte

-- Tails: where a byte goes

abbrev pub tail_first : (delim : ℕ) (unit : Counted) (from_nth : Bool) (n : ℕ) → List ℕ → List ℕ
tail_first delim unit true n x = first_of delim unit (n - 1) x
tail_first delim unit false n x = but_last_of delim unit n x

pub tail_together : (delim : ℕ) (unit : Counted) (from_nth : Bool) (n : ℕ) {x : List ℕ}
    → tail_first delim unit from_nth n x ++ tail_of delim unit from_nth n x ≡ x
tail_together delim unit true n {x} = first_then_after delim unit (n - 1) x
tail_together delim unit false n {x} = ends_together delim unit n x

module _ (delim : ℕ) (unit : Counted) (from_nth : Bool) (n : ℕ) (x : List ℕ) where
  tail_long : length x ≡ length (tail_first delim unit from_nth n x) + length (tail_of delim unit from_nth n x)
  tail_long = ap length (sym (tail_together delim unit from_nth n)) ∙ length-append (tail_first delim unit from_nth n x) (tail_of delim unit from_nth n x)

  pub tail_nowhere : (i : ℕ) → i < length (tail_first delim unit from_nth n x)
      → tail_spots delim unit from_nth n x i ≡ []
  tail_nowhere i less = search (rules, lt-ltb, tail_long)

  pub tail_there : (i : ℕ) → length (tail_first delim unit from_nth n x) ≤ i
      → tail_spots delim unit from_nth n x i
      ≡ spots_from 0 (tail_of delim unit from_nth n x ∷ []) (i - length (tail_first delim unit from_nth n x))
  tail_there i past = search (rules, tail_long, le-ltb)

tail_cuts : (delim : ℕ) (unit : Counted) (from_nth : Bool) (n : ℕ)
    → Cuts (tail_spots delim unit from_nth n) (tail_first delim unit from_nth n)
tail_cuts delim unit from_nth n = record {
  early = λ i. [];
  late = λ k i. spot 0 (i - k) ∷ [];
  before = tail_nowhere delim unit from_nth n;
  after = λ x i past within. tail_there delim unit from_nth n x i past
      ∙ spot_in 0 (i - length (tail_first delim unit from_nth n x)) (tail_of delim unit from_nth n x) []
      (omega (arith, tail_long delim unit from_nth n x));
  apart = λ k i is. some_spot (spot 0 (i - k)) [] (sym is);
  few = λ x i. cond_both (nat_lt i (skipped delim unit from_nth n x)) _ _ AtMostOne (λ less. tt)
      (λ past. spots_few 0 (tail_of delim unit from_nth n x ∷ []) (i - skipped delim unit from_nth n x));
}

pub tail_undecided : (delim : ℕ) → delim < 256 → (unit : Counted) (from_nth : Bool) (n : ℕ) {x : List ℕ}
    → IsUndecided (tail_spots delim unit from_nth n) x (tail_waiting delim unit from_nth n x)
tail_undecided delim byte unit true n = first_undecided delim unit (n - 1) (tail_cuts delim unit true n)
tail_undecided delim byte unit false n = last_undecided delim unit n (tail_cuts delim unit false n) byte

-- Tails: two continuations of which the last n begin with other bytes

ends_there : (delim k : ℕ) → ends_with delim (replicate (suc k) delim) ≡ true
ends_there delim zero = eq-eqb delim delim refl
ends_there delim (suc k) = ends_there delim k

-- n lines, or n bytes, of which the first byte isn't the delimiter
abbrev others : ℕ → Counted → ℕ → List ℕ
others delim Lines k = replicate (suc k) delim
others delim Bytes k = replicate k (other delim)

others_come : (delim : ℕ) → delim < 256 → (unit : Counted) (k : ℕ) → CanCome (delim ∷ other delim ∷ others delim unit k)
others_come delim byte Lines k = grind (arith, common_steps, one_comes, other, other_comes, copies_come)
others_come delim byte Bytes k = grind (arith, common_steps)

others_size : (delim : ℕ) (unit : Counted) {k : ℕ} → size delim unit (other delim ∷ others delim unit k) ≡ suc k
others_size delim Lines {k} =
    line_count-closed delim (other delim ∷ replicate (suc k) delim)
    (ends_with-append delim (other delim ∷ []) (replicate (suc k) delim) (omega arith) ∙ ends_there delim k)
    ∙ ap (λ is. cond is (delimiters delim (replicate (suc k) delim) + 1) (delimiters delim (replicate (suc k) delim)))
    (ne_eqb (other delim) delim (λ is. other_differs delim (sym is)))
    ∙ measure-delimiters delim Lines
others_size delim Bytes = grind (arith, common_steps)

delimiters_size : (delim : ℕ) (unit : Counted) {k : ℕ} → size delim unit (replicate (suc k) delim) ≡ suc k
delimiters_size delim Lines {k} = line_count-closed delim (replicate (suc k) delim) (ends_there delim k) ∙ measure-delimiters delim Lines
delimiters_size delim Bytes {k} = length-replicate (suc k) delim

-- after a complete line these are the last n
last_exact : (delim : ℕ) (unit : Counted) {n : ℕ} (front : List ℕ) {back : List ℕ} → ends_with delim front ≡ true
    → size delim unit back ≡ n → last_of delim unit n (front ++ back) ≡ back
last_exact delim Lines front ends is = grind (arith, common_steps, lines_of-append, drop-append_seam, joined-lines_of)
last_exact delim Bytes front ends is = grind (arith, common_steps)

last_after : (delim : ℕ) (unit : Counted) {n : ℕ} (x : List ℕ) {back : List ℕ} → size delim unit back ≡ n
    → last_of delim unit n (x ++ delim ∷ back) ≡ back
last_after delim unit {n} x {back} is =
    ap (last_of delim unit n) (sym (append_assoc x (delim ∷ []) back))
    ∙ last_exact delim unit (x ++ delim ∷ []) (ends_with-append delim x (delim ∷ []) (omega arith) ∙ eq-eqb delim delim refl) is

-- texts with different first bytes have no beginning in common
none_common : (one two : ℕ) (rest more bytes : List ℕ) → one ≢ two → IsBeginning bytes (one ∷ rest)
    → IsBeginning bytes (two ∷ more) → length bytes ≤ 0
none_common one two rest more [] differ begins also = omega arith
none_common one two rest more (byte ∷ bytes) differ begins also = grind (arith, common_steps)

pub none_last : (delim : ℕ) (unit : Counted) (x : List ℕ) → length (last_of delim unit 0 x) ≤ 0
none_last delim Lines x = grind (arith, common_steps)
none_last delim Bytes x = grind (arith, common_steps)

-- two continuations after which the last n have no beginning in common
pub record Apart (delim : ℕ) (unit : Counted) (n : ℕ) (x : List ℕ) : Type 0 where
  pub y : List ℕ
  pub z : List ℕ
  pub y_comes : CanCome y
  pub z_comes : CanCome z
  pub nothing_common : (bytes : List ℕ) → IsBeginning bytes (last_of delim unit n (x ++ y))
      → IsBeginning bytes (last_of delim unit n (x ++ z)) → length bytes ≤ 0

apart : {delim : ℕ} → delim < 256 → {unit : Counted} (n : ℕ) {x : List ℕ} → Apart delim unit n x
apart {delim} byte {unit} zero {x} = record {
  y = [];
  z = [];
  y_comes = none_comes;
  z_comes = none_comes;
  nothing_common = λ bytes begins also. (let short = beginning_short bytes _ begins in let none = none_last delim unit (x ++ []) in omega arith);
}
apart {delim} byte {unit} (suc k) {x} = record {
  y = delim ∷ replicate (suc k) delim;
  z = delim ∷ other delim ∷ others delim unit k;
  y_comes = one_comes delim (replicate (suc k) delim) byte (copies_come (suc k) delim byte);
  z_comes = others_come delim byte unit k;
  nothing_common = λ bytes begins also. none_common delim (other delim) (replicate k delim) (others delim unit k) bytes (other_differs delim)
      (subst (IsBeginning bytes) (last_after delim unit x (delimiters_size delim unit)) begins)
      (subst (IsBeginning bytes) (last_after delim unit x (others_size delim unit)) also);
}

last_longest : {delim : ℕ} {unit : Counted} {n : ℕ} {x : List ℕ} → Apart delim unit n x → (place : ℕ) → place < 1
    → (y : List ℕ) × (z : List ℕ) × CanCome y × CanCome z
    × ((bytes : List ℕ) → IsBeginning bytes (output_at ((tail_work delim unit false n).whole (x ++ y)) place)
    → IsBeginning bytes (output_at ((tail_work delim unit false n).whole (x ++ z)) place)
    → length bytes ≤ length (output_at nothing place))
last_longest apart zero less = grind (arith, common_steps)
last_longest apart (suc place) less = search rules

pub tail_agreed : (delim : ℕ) → delim < 256 → (unit : Counted) (from_nth : Bool) (n : ℕ) {x : List ℕ}
    → IsAgreed (tail_work delim unit from_nth n) x ((tail_work delim unit from_nth n).settled x)
tail_agreed delim byte unit true n {x} =
    agreed_now (tail_work delim unit true n) x (common (tail_work delim unit true n) (law.tail_lawful delim unit true n) x) refl
tail_agreed delim byte unit false n {x} = record {
  common = λ y can. common (tail_work delim unit false n) (law.tail_lawful delim unit false n) x y;
  fewest = ([], none_comes, refl);
  longest = last_longest (apart byte n);
}

-- Spots are right: each of them writes one stretch of its input, and nothing else.

head_together : (delim : ℕ) (unit : Counted) (but_last : Bool) (n : ℕ) (x : List ℕ)
    → (rest : List ℕ) × (x ≡ head_of delim unit but_last n x ++ rest)
head_together delim unit false n x = (after_of delim unit n x, sym (first_then_after delim unit n x))
head_together delim unit true n x = (last_of delim unit n x, sym (ends_together delim unit n x))

pub head_stretch : (delim : ℕ) (unit : Counted) (but_last : Bool) (n : ℕ)
    → IsStretch (λ x. only_out (head_of delim unit but_last n x)) (head_spots delim unit but_last n) 0
    (λ x. head_of delim unit but_last n x ∷ [])
head_stretch delim unit but_last n = record {
  before = λ x. [];
  rest = λ x. x;
  parts = λ x. refl;
  front = λ x. (let all = head_together delim unit but_last n x in (all.0, all.1, tt));
  are = λ x. refl;
  nowhere = λ x i less. absurd (omega arith);
  there = λ x i past. ap (spots_from 0 (head_of delim unit but_last n x ∷ [])) (omega arith);
}

pub head_placed : (delim : ℕ) (unit : Counted) (but_last : Bool) (n : ℕ)
    → ArePlaced (head_work delim unit but_last n) (head_spots delim unit but_last n)
head_placed delim unit but_last n = stretch_placed (head_work delim unit but_last n) 0 (head_stretch delim unit but_last n)

pub tail_stretch : (delim : ℕ) (unit : Counted) (from_nth : Bool) (n : ℕ)
    → IsStretch (λ x. only_out (tail_of delim unit from_nth n x)) (tail_spots delim unit from_nth n) 0
    (λ x. tail_of delim unit from_nth n x ∷ [])
tail_stretch delim unit from_nth n = record {
  before = tail_first delim unit from_nth n;
  rest = tail_of delim unit from_nth n;
  parts = λ x. sym (tail_together delim unit from_nth n);
  front = λ x. ([], sym (append-nil (tail_of delim unit from_nth n x)), tt);
  are = λ x. refl;
  nowhere = tail_nowhere delim unit from_nth n;
  there = tail_there delim unit from_nth n;
}

pub tail_placed : (delim : ℕ) (unit : Counted) (from_nth : Bool) (n : ℕ)
    → ArePlaced (tail_work delim unit from_nth n) (tail_spots delim unit from_nth n)
tail_placed delim unit from_nth n = stretch_placed (tail_work delim unit from_nth n) 0 (tail_stretch delim unit from_nth n)

-- By no right spots do fewer bytes wait.

-- a text begins with its first byte
starts_with : (byte : ℕ) (x : List ℕ) → 0 < length x → get_or x 0 0 ≡ byte → IsBeginning (byte ∷ []) x
starts_with byte [] some is = absurd (omega arith)
starts_with byte (one ∷ x) some is = (x, ap (λ first. first ∷ x) is)

-- after a text and a byte more a run has its one byte at each place
run_there : (x : List ℕ) (next byte count j : ℕ) → length x < j → j ≤ length x + count
    → get_or (x ++ next ∷ replicate count byte) j 0 ≡ byte
run_there x next byte count j past within =
    get_or-append_right x (next ∷ replicate count byte) (length x) j 0 refl (omega arith)
    ∙ grind (arith, common_steps, get_or-replicate)

-- in this continuation the output has all that came in, and a byte more
head_stays : (delim : ℕ) (unit : Counted) (n : ℕ) (x : List ℕ) {spots_of : List ℕ → ℕ → List Spot}
    → ArePlaced (head_work delim unit true n) spots_of → (i : ℕ) → i ≤ length x
    → GoesTo (spot 0 i) (spots_of (x ++ other delim ∷ replicate (n + 1) delim) i)
head_stays delim unit n x placed i few =
    let next = other delim in
    let run = replicate (n + 1) delim in
    let there : x ++ next ∷ run ≡ (x ++ next ∷ []) ++ run = sym (append_assoc x (next ∷ []) run) in
    let all = head_together delim unit true n (x ++ next ∷ run) in
    first_stay (head_work delim unit true n) placed (x ++ next ∷ run) 0 (suc (length x)) delim all
    (let e = far delim unit n (x ++ next ∷ []) in rw there (omega (arith, length-append x (next ∷ []))))
    (λ j past within. run_there x next delim (n + 1) j past
    (omega (arith, length-append x (next ∷ run), length-replicate (n + 1) delim)))
    (length x) i (omega arith) (λ is. other_differs delim (sym (sym (get_or-append_seam x next run 0) ∙ is))) few

pub head_least : (delim : ℕ) → delim < 256 → (unit : Counted) (but_last : Bool) (n : ℕ) (x : List ℕ)
    → NoFewerWait CanCome (head_work delim unit but_last n) x (head_waiting delim unit but_last n x)
head_least delim byte unit false n x = none_is_least (head_work delim unit false n) x
head_least delim byte unit true n x = least_by (head_work delim unit true n) (but_last_of delim unit n x)
    (last_of delim unit n x) none_comes (sym (ends_together delim unit n x)) (λ spots_of placed decided less.
    let i = length (but_last_of delim unit n x) in
    let goes = (decided i (omega arith) (other delim ∷ replicate (n + 1) delim) (spot 0 i)
    (one_comes (other delim) _ (other_comes delim) (copies_come (n + 1) delim byte))).1
    (head_stays delim unit n x placed i (omega arith)) in
    omega (arith, (placed.stands x i _ less goes).0))

-- the first byte of the output came in no later than the first byte that waits
tail_first_early : (delim : ℕ) (unit : Counted) (n : ℕ) (x : List ℕ) {spots_of : List ℕ → ℕ → List Spot}
    → ArePlaced (tail_work delim unit false n) spots_of → length (but_last_of delim unit n x) < length x
    → (i : ℕ) × (i ≤ length (but_last_of delim unit n x)) × GoesTo (spot 0 0) (spots_of x i)
tail_first_early delim unit n x placed less =
    let long = tail_long delim unit false n x in
    let (i, here, to) = placed.filled x (spot 0 0) (omega arith) in
    (i, omega (arith, early_enough (tail_work delim unit false n) placed x 0 0 i (omega arith) to), to)

pub tail_least : (delim : ℕ) → delim < 256 → (unit : Counted) (from_nth : Bool) (n : ℕ) (x : List ℕ)
    → NoFewerWait CanCome (tail_work delim unit from_nth n) x (tail_waiting delim unit from_nth n x)
tail_least delim byte unit true n x = none_is_least (tail_work delim unit true n) x
tail_least delim byte unit false n x = least_by (tail_work delim unit false n) (but_last_of delim unit n x)
    (last_of delim unit n x) none_comes (sym (ends_together delim unit n x)) (λ spots_of placed decided less.
    let (i, early, to) = tail_first_early delim unit n x placed less in
    let begins = λ (y : List ℕ) (can : CanCome y). (
    let (some, is) = placed.stands (x ++ y) i (spot 0 0) (omega (arith, length-append x y)) ((decided i early y _ can).0 to) in
    starts_with (get_or x i 0) (last_of delim unit n (x ++ y)) some (is ∙ get_or_append_left x y 0 i (omega arith))) in
    let two = apart byte n in
    omega (arith, two.nothing_common (get_or x i 0 ∷ []) (begins two.y two.y_comes) (begins two.z two.z_comes)))
