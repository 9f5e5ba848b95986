-- What each limit cuts off, and what the next bytes of a piece do to the part that was begun. Laws that a trait cites,
-- and proofs of parts under any limit, go by these and have no case for a limit.
use Rattle.std.{
  proofs.{
    Common.{Bool, List, [], ap, append_assoc, arith, drop, false, inl, inr, length, length-append, length-drop, max},
    Common.{ne_eqb, refl, replicate, rules, suc, sym, take, true, zero, ℕ, ◌++◌, ◌+◌, ◌-◌, ◌<◌, ◌∙◌, ◌≡◌, ◌≤◌},
    Math.Seq.take-append-add,
    lemmas.{
      Bool.cases_lt,
      Grind.common_steps,
      List.{append-nil, append_cancel_left, drop_all, length-replicate, length-take, length-take-le},
      List.{take-append-drop, take-append-le, take-take, take_all},
    },
  },
}
use Rattle.seg_core.{
  proofs.{
    Delimiters.{delimiters-append, delimiters-le-length},
    EndLines.after_lines-append,
    FirstLines.{delimiters-first_lines, first_lines-append, first_lines-full, first_lines-is_take, first_lines-short},
    FirstLines.{first_lines_then_rest, length-first_lines-le, lines_of-first_lines},
  },
  specs.{
    Cut.most,
    Line.{EndsAt, LastEndsAt, delimiters, first_lines, lines_of},
    declared.cut.{Limit.{Limit, TheVariants.{Bytes, LineBytes, Lines}}},
  },
}
use Rattle.engine_core.{
  proofs.{AgreedLemmas.{copies_come, other, other_comes, other_differs}, WrittenLemmas.{begins_more, begins_trans}},
  specs.{Agreed.{CanCome}, Written.{IsBeginning}},
}
use Rattle.split_core.specs.{
  Parts.{first_part, is_full, measure, open_line, settled_rest, waiting_rest, whole_lines},
  PartsState.Lacks,
  inner.{Step.{IsBegun, IsTurned}},
}

pub full_some : (limit : Limit) (x : List ℕ) → is_full limit x ≡ true
    → (0 < most limit) × (most limit ≤ measure limit x)
full_some limit x full = grind arith

pub full_from : (limit : Limit) (x : List ℕ) → 0 < most limit → most limit ≤ measure limit x → is_full limit x ≡ true
full_from limit x some enough = search rules

pub short_some : (limit : Limit) (x : List ℕ) → is_full limit x ≡ false → 0 < most limit → measure limit x < most limit
short_some limit x short some = search rules

pub short_from : (limit : Limit) (x : List ℕ) → measure limit x < most limit → is_full limit x ≡ false
short_from limit x less = search rules

-- Whole lines

pub whole_of_lines : (delim : ℕ) (x : List ℕ) → 0 < delimiters delim x
    → whole_lines delim x ≡ first_lines delim (delimiters delim x) x
whole_of_lines delim x some = grind arith

pub whole_of_none : (delim : ℕ) (x : List ℕ) → delimiters delim x ≡ 0 → whole_lines delim x ≡ x
whole_of_none delim x none = grind arith

pub open_of_none : (delim : ℕ) (x : List ℕ) → delimiters delim x ≡ 0 → open_line delim x ≡ []
open_of_none delim x none = grind arith

pub whole_then_open : (delim : ℕ) {x : List ℕ} → whole_lines delim x ++ open_line delim x ≡ x
whole_then_open delim {x} = grind (arith, first_lines_then_rest delim (delimiters delim x) x, append-nil x)

pub whole_within : (delim : ℕ) (x : List ℕ) → length (whole_lines delim x) ≤ length x
whole_within delim x = grind (arith, length-first_lines-le delim (delimiters delim x) x)

pub whole_some : (delim : ℕ) (x : List ℕ) → 0 < length x → 0 < length (whole_lines delim x)
whole_some delim x some =
    grind (
      arith,
      delimiters-first_lines delim (delimiters delim x) x,
      delimiters-le-length delim
          (first_lines delim (delimiters delim x) x),
    )

-- bytes without a delimiter don't change the lines
pub lines_stay : (delim : ℕ) (x y : List ℕ) → 0 < delimiters delim x → delimiters delim y ≡ 0
    → whole_lines delim (x ++ y) ≡ whole_lines delim x
lines_stay delim x y some none = search (rules, delimiters-append, first_lines-full)

pub first_lines_begin : (delim k n : ℕ) (x : List ℕ) → k ≤ n
    → IsBeginning (first_lines delim k x) (first_lines delim n x)
first_lines_begin delim k n x less = (
  _,
  sym (rw (lines_of-first_lines delim n x, take-take k n (lines_of delim x) less) at
      (first_lines_then_rest delim k (first_lines delim n x))),
)

-- a text without a delimiter is one line
whole_is : (delim : ℕ) (x : List ℕ) → whole_lines delim x ≡ first_lines delim (max 1 (delimiters delim x)) x
whole_is delim x = grind (arith, common_steps, whole_of_lines, whole_of_none, first_lines-short)

whole_begins : (delim : ℕ) (x y : List ℕ) → IsBeginning (whole_lines delim x) (whole_lines delim (x ++ y))
whole_begins delim x y = rw (whole_is delim x, whole_is delim (x ++ y), first_lines-append delim _ x y)
    (begins_trans _ _ _ (first_lines_begin delim _ (max 1 (delimiters delim (x ++ y))) x
    (omega (arith, delimiters-append)))
    (begins_more _ _))

take_long : (n : ℕ) (x y : List ℕ) → length x < n → take n (x ++ y) ≡ x ++ take (n - length x) y
take_long n x y short = let all : n ≡ length x + (n - length x) = omega arith in
    cc (all, take-append-add x y (n - length x))

pub take-take_few : (k n : ℕ) (x : List ℕ) → k ≤ length (take n x) → take k (take n x) ≡ take k x
take-take_few k n x few = grind (arith, common_steps)

-- What a part is

pub measure-append : (limit : Limit) (x y : List ℕ) → measure limit (x ++ y) ≡ measure limit x + measure limit y
measure-append (Lines n delim) x y = delimiters-append _ x y
measure-append limit x y = length-append x y

pub first_within : (limit : Limit) (x : List ℕ) → length (first_part limit x) ≤ length x
first_within (Lines n delim) x = length-first_lines-le _ n x
first_within (Bytes n) x = omega (arith, length-take n x)
first_within (LineBytes n delim) x = omega (arith, whole_within, length-take n x)

pub first_is_take : (limit : Limit) (x : List ℕ) → first_part limit x ≡ take (length (first_part limit x)) x
first_is_take (Lines n delim) x = first_lines-is_take _ n x
first_is_take (Bytes n) x = grind (arith, common_steps)
first_is_take (LineBytes n delim) x = grind (arith, common_steps, first_lines-is_take, take-take_few, whole_within)

-- no part is empty
pub first_some : (limit : Limit) (x : List ℕ) → is_full limit x ≡ true → 0 < length (first_part limit x)
first_some (Lines n delim) x full =
    grind (arith, delimiters-first_lines, delimiters-le-length delim (first_lines delim n x))
first_some (Bytes n) x full = grind (arith, common_steps)
first_some (LineBytes n delim) x full =
    grind (arith, common_steps, full_some (LineBytes n delim) x full, whole_some, length-take-le)

pub first-append : (limit : Limit) (x y : List ℕ) → is_full limit x ≡ true
    → first_part limit (x ++ y) ≡ first_part limit x
first-append (Lines n delim) x y full = first_lines-full _ n x y (full_some (Lines n delim) x full).1
first-append (Bytes n) x y full = take-append-le n x y (full_some (Bytes n) x full).1
first-append (LineBytes n delim) x y full = grind (arith, common_steps)

-- What is left after the full parts

-- the rest is what is settled of it, and then what waits
pub settled_then_waiting : (limit : Limit) (rest : List ℕ) → settled_rest limit rest ++ waiting_rest limit rest ≡ rest
settled_then_waiting (LineBytes n delim) rest = whole_then_open _
settled_then_waiting limit rest = append-nil rest

pub settled_some : (limit : Limit) (rest : List ℕ) → 0 < length rest → 0 < length (settled_rest limit rest)
settled_some (LineBytes n delim) rest some = whole_some _ _ some
settled_some limit rest some = some

-- what waits is shorter than a part
pub waits_few : (limit : Limit) (rest : List ℕ) → 0 < most limit → is_full limit rest ≡ false
    → length (waiting_rest limit rest) < most limit
waits_few (LineBytes n delim) rest some short =
    grind (arith, common_steps, short_some, length-append, ap length (whole_then_open delim {x = rest}))
waits_few limit rest some short = some

-- what is settled of a text without a full part begins the first part of the longer text
pub settled_in_full : (limit : Limit) (x y : List ℕ) → measure limit x < most limit
    → IsBeginning (settled_rest limit x) (first_part limit (x ++ y))
settled_in_full (Lines n delim) x y short =
    rw (first_lines-append delim n x y, first_lines-short delim n x short) (begins_more _ _)
settled_in_full (Bytes n) x y short = rw (take_long n x y short) (begins_more _ _)
settled_in_full (LineBytes n delim) x y short = rw (take_long n x y short) (whole_begins _ x _)

pub settled_in_rest : (limit : Limit) (x y : List ℕ) → IsBeginning (settled_rest limit x) (settled_rest limit (x ++ y))
settled_in_rest (LineBytes n delim) x y = whole_begins _ x y
settled_in_rest limit x y = begins_more x y

none_among : (delim k : ℕ) → delimiters delim (replicate k (other delim)) ≡ 0
none_among delim zero = refl
none_among delim (suc k) = cc (ne_eqb (other delim) delim (λ is. other_differs delim (sym is)), none_among delim k)

-- these bytes may come, and end a part before what waits
pub record PartEnds (limit : Limit) (rest : List ℕ) : Type 0 where
  pub more : List ℕ
  pub come : CanCome more
  pub full : is_full limit (rest ++ more) ≡ true
  pub first_is : first_part limit (rest ++ more) ≡ settled_rest limit rest

-- under `-C`, bytes without a delimiter that fill the part end it before what waits
pub part_ends : (limit : Limit) (rest : List ℕ) → 0 < most limit → is_full limit rest ≡ false
    → 0 < length (waiting_rest limit rest) → PartEnds limit rest
part_ends (LineBytes n delim) rest some short waits = record {
  more = more;
  come = copies_come _ (other delim) (other_comes delim);
  full = full_from (LineBytes n delim) (rest ++ more) some (omega (arith, long));
  first_is = ap (whole_lines delim) (take_all n (rest ++ more) (omega (arith, long)))
      ∙ lines_stay delim rest more lines (none_among delim _);
} where
  more : List ℕ
  more = replicate (n - length rest) (other delim)

  long : length (rest ++ more) ≡ n
  long = omega (
    arith,
    length-append rest more,
    length-replicate (n - length rest) (other delim),
    short_some (LineBytes n delim) rest short some,
  )

  lines : 0 < delimiters delim rest
  lines = elim (cases_lt 0 (delimiters delim rest)) [
    | inl some ↦ some
    | inr none ↦ absurd (omega (arith, ap length (open_of_none delim rest (omega arith))))
  ]
part_ends limit rest some short waits = absurd (omega arith)

-- What the next bytes of a piece do to the part that was begun

pub after_take : (n : ℕ) (xs : List ℕ) → drop n (take n xs) ≡ []
after_take n xs = grind (arith, common_steps)

-- a part without a byte
pub begun_none : {limit : Limit} {next : List ℕ} → next ≡ [] → 0 < most limit
    → IsBegun limit next (most limit - length next) false
begun_none {limit} none some = grind arith

-- lines

pub first_itself : {delim n : ℕ} {x : List ℕ} (end : ℕ) → EndsAt delim n x end
    → first_lines delim n (take end x) ≡ take end x
first_itself {delim} {n} {x} end ends =
    cc (first_lines-full delim n (take end x) (drop end x) (omega arith), take-append-drop end x)

-- under `-C`

pub open_goes_on : (delim : ℕ) (x y : List ℕ) → 0 < delimiters delim x → delimiters delim y ≡ 0
    → open_line delim (x ++ y) ≡ open_line delim x ++ y
open_goes_on delim x y some none = grind (arith, delimiters-append, after_lines-append)

pub none_open : (delim : ℕ) {x : List ℕ} → whole_lines delim x ≡ x → open_line delim x ≡ []
none_open delim {x} is =
    append_cancel_left (whole_lines delim x) _ [] (cc (whole_then_open delim {x = x}, append-nil (whole_lines delim x)))

open_plain : (delim : ℕ) (x : List ℕ) → 0 < delimiters delim x → delimiters delim (open_line delim x) ≡ 0
open_plain delim x some =
    omega (
      arith,
      delimiters-append delim (whole_lines delim x) (open_line delim x),
      ap (delimiters delim) (whole_then_open delim {x = x}),
      ap (delimiters delim) (whole_of_lines delim x some),
      delimiters-first_lines delim (delimiters delim x) x (omega arith),
    )

-- the text and then a block up to its last delimiter are whole lines
pub ends_whole : {delim : ℕ} (x : List ℕ) {block : List ℕ} (end : ℕ) → LastEndsAt delim block end
    → whole_lines delim (x ++ take end block) ≡ x ++ take end block
ends_whole {delim} x {block} end ends =
    search (rules, delimiters-first_lines, delimiters-append, first_lines-append, first_lines-short, first_itself)

pub lines_at_end : {delim : ℕ} {block : List ℕ} (end : ℕ) → LastEndsAt delim block end
    → 0 < delimiters delim (take end block)
lines_at_end {delim} {block} end ends = grind (arith, delimiters-first_lines)

-- under `-C`, a text without a delimiter that is shorter than a part
pub begun_plain : (delim n : ℕ) {next : List ℕ} → delimiters delim next ≡ 0 → length next < n
    → IsBegun (LineBytes n delim) next (n - length next) false
begun_plain delim n {next} none short = grind arith

-- the part that the block fills

module _ {delim bytes : ℕ} (n : ℕ) {rest : List ℕ} (block : List ℕ) {has_line : Bool} (size : length block ≡ bytes)
    (lacks : Lacks (LineBytes n delim) rest bytes has_line) where
  turned : {first next : List ℕ} → whole_lines delim (rest ++ block) ≡ first → rest ++ block ≡ first ++ next
      → IsBegun (LineBytes n delim) next (n - length next) false
      → IsTurned (LineBytes n delim) (rest ++ block) first next
  turned is both begun = grind (arith, common_steps)

  pub block_ends : (end : ℕ) → LastEndsAt delim block end
      → IsTurned (LineBytes n delim) (rest ++ block) (rest ++ take end block) (drop end block)
  block_ends end ends =
      let split : rest ++ block ≡ (rest ++ take end block) ++ drop end block =
      cc (take-append-drop end block, append_assoc rest _ _) in
      let whole : whole_lines delim (rest ++ block) ≡ rest ++ take end block =
      rw split (grind (arith, common_steps, delimiters-append, lines_at_end, lines_stay, ends_whole)) in
      turned whole split
      (begun_plain delim n ends.none_after
      (omega (arith, length-drop end block, lacks.left_is, ends.some, ends.within)))

  pub block_begins : has_line ≡ true → delimiters delim block ≡ 0
      → IsTurned (LineBytes n delim) (rest ++ block) (whole_lines delim rest) (open_line delim rest ++ block)
  block_begins has none = let lines : 0 < delimiters delim rest = grind arith in
      turned (lines_stay delim rest block lines none)
      (cc (whole_then_open delim {x = rest}, append_assoc (whole_lines delim rest) (open_line delim rest) block))
      (begun_plain delim n (rw (delimiters-append, open_plain delim rest lines, none))
      (grind (arith, common_steps, whole_some, delimiters-le-length, ap length (whole_then_open delim {x = rest}))))

  pub block_is_long : has_line ≡ false → delimiters delim block ≡ 0
      → IsTurned (LineBytes n delim) (rest ++ block) (rest ++ block) (drop bytes block)
  block_is_long has none = rw (drop_all bytes block (omega arith))
      (turned (whole_of_none delim _ (grind (arith, delimiters-append)))
      (sym (append-nil _)) (begun_none refl (omega arith)))
