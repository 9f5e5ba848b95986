-- Lines of a text as operands see them, their bytes, and what follows the last newline, if more bytes come.
use Rattle.std.proofs.{
  Common.{◌≡◌, inl, inr, ℕ, zero, suc, ◌+◌, ◌-◌, ◌<◌, ◌≤◌, List, [], ◌∷◌, ◌++◌, length, map, take, drop, refl},
  Common.{sym, ◌∙◌, ap, arith, length-append, Bool, true, false, append_assoc, take-add, rules},
  lemmas.Bool.{cases_lt, cases_eq, eq-eqb, ne_eqb},
  lemmas.List.{take-append-drop, map-append, take-map, drop-map, length-map, length-drop, drop_all, drop-append-le},
  lemmas.List.{take-append-le, drop-drop, append-nil, append_cancel_left, length-take-le, take_at},
  Math.Seq.take-append-add,
  lemmas.Grind.common_steps,
}
use Rattle.seg_core.specs.{
  Line.{lines_of, line_count, delimiters, joined, first_lines, after_lines, ends_with, EndsAt, HasNone, AreLines},
  Line.{LastEndsAt, BeginsAt, but_last_lines},
}
use Rattle.seg_core.proofs.{
  LinesOf.{lines_of-append, AreLines-lines_of, lines_of-joined},
  LineCounts.{line_count-closed, ends_with-append, line_count-open, ends_with-some},
  FirstLines.{after_lines-is_drop, first_lines_then_rest, joined-append, lines_of-after_lines, first_lines-zero},
  FirstLines.{delimiters-first_lines, lines_of-first_lines},
  EndLines.after_lines-append,
  Delimiters.delimiters-append,
  LastLines.{first_lines-whole, over_begins},
}
use Rattle.csplit_core.specs.{
  Section.{lines_between, bytes_of},
  Input.{newline, marked, all_lines, complete_lines, open_line},
  inner.Cutter.{IsWhole, IsLine, Joins},
  Cutter.text_from,
  CsplitState.whole_lines,
}

-- the lines of complete lines and a text after them
pub lines-append : {x : List ℕ} (t : List ℕ) → Joins x t
    → lines_of newline (x ++ t) ≡ lines_of newline x ++ lines_of newline t
lines-append t fact = search (rules, lines_of-append)

pub all_lines-append : {x : List ℕ} (t : List ℕ) → Joins x t → all_lines (x ++ t) ≡ all_lines x ++ all_lines t
all_lines-append t whole = search (rules, lines-append, map-append)

pub all_lines-line : {x : List ℕ} (line : List ℕ) → IsWhole x → IsLine line
    → all_lines (x ++ line) ≡ all_lines x ++ marked line ∷ []
all_lines-line {x} line whole one = search (rules, all_lines-append)

pub length-all_lines : (x : List ℕ) → length (all_lines x) ≡ line_count newline x
length-all_lines x = length-map (lines_of newline x) marked

pub count-append : {x : List ℕ} (t : List ℕ) → Joins x t
    → line_count newline (x ++ t) ≡ line_count newline x + line_count newline t
count-append {x} t whole = search (rules, lines-append, length-append)

pub count-line : {x : List ℕ} (line : List ℕ) → IsWhole x → IsLine line
    → line_count newline (x ++ line) ≡ line_count newline x + 1
count-line {x} line whole one = search (rules, count-append)

-- complete lines have one delimiter each
pub whole_count : {x : List ℕ} → IsWhole x → line_count newline x ≡ delimiters newline x
whole_count fact = search (rules, line_count-closed)

pub whole-append : {x : List ℕ} (t : List ℕ) → IsWhole x → IsWhole t → IsWhole (x ++ t)
whole-append t whole other = grind (arith, common_steps, ends_with-append)

pub whole_drop : (n : ℕ) {text : List ℕ} → IsWhole text → IsWhole (drop n text)
whole_drop n (inl none) = inl (ap (drop n) none ∙ drop_all n [] (omega arith))
whole_drop n {text} (inr ends) = elim (cases_lt n (length text)) [
  | inl within ↦ inr (sym (search (rules, ends_with-append, length-drop))
      ∙ ap (ends_with newline) (take-append-drop n text) ∙ ends)
  | inr past ↦ inl (drop_all n text past)
]

-- the bytes of lines

pub bytes_marked : (lines : List (List ℕ)) → bytes_of (map marked lines) ≡ joined lines
bytes_marked [] = refl
bytes_marked (line ∷ lines) = search (rules, bytes_marked lines)

pub bytes_between : (first end : ℕ) (x : List ℕ)
    → bytes_of (lines_between first end (all_lines x)) ≡ first_lines newline (end - first) (text_from first x)
bytes_between first end x = search (rules, drop-map, take-map, bytes_marked, lines_of-after_lines)

-- how many lines stand from a line on
pub count_from : (first : ℕ) (x : List ℕ) → line_count newline (text_from first x) ≡ line_count newline x - (first - 1)
count_from first x = search (rules, lines_of-after_lines, length-drop)

-- the first lines of a text, and what follows these lines

pub rest_is : {n : ℕ} {x : List ℕ} (end : ℕ) → EndsAt newline n x end → drop end x ≡ after_lines newline n x
rest_is {n} {x} end ends = search (rules, length-take-le, after_lines-is_drop)

-- the first lines from a line on

-- what follows complete lines doesn't change these lines
first_within : (n first : ℕ) {x : List ℕ} (t : List ℕ) → Joins x t → 1 ≤ first → first + n ≤ line_count newline x + 1
    → first_lines newline n (text_from first (x ++ t)) ≡ first_lines newline n (text_from first x)
first_within n first t whole some within = search (rules, length-drop, lines_of-after_lines, lines-append, drop-append-le, take-append-le)

pub first_still : (n first : ℕ) {x : List ℕ} (t : List ℕ) → Joins x t → 1 ≤ first
    → n ≤ line_count newline x + 1 - first
    → first_lines newline n (text_from first (x ++ t)) ≡ first_lines newline n (text_from first x)
first_still zero first {x} t whole some within = first_lines-zero newline (text_from first (x ++ t)) ∙ sym (first_lines-zero newline (text_from first x))
first_still (suc n) first t whole some within = first_within (suc n) first t whole some (omega arith)

pub rest_more : (first : ℕ) {x : List ℕ} (t : List ℕ) → Joins x t → 1 ≤ first → first ≤ line_count newline x + 1
    → text_from first x ++ t ≡ text_from first (x ++ t)
rest_more first t fact some within = search (rules, after_lines-append, whole_count, append-nil)

-- nothing stands past the last line
pub none_from : (first : ℕ) (x : List ℕ) → line_count newline x < first → text_from first x ≡ []
none_from first x past = ap joined (drop_all (first - 1) (lines_of newline x) (omega arith))

pub from_further : (first n : ℕ) (x : List ℕ) → 1 ≤ first
    → after_lines newline n (text_from first x) ≡ text_from (first + n) x
from_further first n x some = search (rules, lines_of-after_lines, drop-drop)

pub first_further : (first a b : ℕ) (x : List ℕ) → 1 ≤ first
    → first_lines newline (a + b) (text_from first x)
    ≡ first_lines newline a (text_from first x) ++ first_lines newline b (text_from (first + a) x)
first_further first a b x some = search (rules, take-add, joined-append, lines_of-after_lines, from_further)

-- what is left of a slice after its first n bytes
pub rest_all : (n : ℕ) (left : List ℕ) → take (length left - n) (drop n left) ≡ drop n left
rest_all n left = grind (arith, common_steps)

-- The complete lines of a text and what follows them, if more bytes come.

pub whole_by : (x : List ℕ) (ends : Bool) → ends_with newline x ≡ ends → line_count newline x ≤ delimiters newline x
    → IsWhole x
whole_by x ends is few = grind (arith, common_steps, line_count-open)

pub lines_whole : (x : List ℕ) → IsWhole (whole_lines x)
lines_whole x = grind (arith, common_steps, whole_by, lines_of-first_lines, delimiters-first_lines)

pub lines_then_open : {x : List ℕ} → whole_lines x ++ open_line x ≡ x
lines_then_open {x} = first_lines_then_rest newline (delimiters newline x) x

pub open_unbroken : (x : List ℕ) → delimiters newline (open_line x) ≡ 0
open_unbroken x =
    let all : delimiters newline (whole_lines x) ≡ delimiters newline x = search (rules, delimiters-first_lines) in
    omega (arith, delimiters-append newline (whole_lines x) (open_line x), ap (delimiters newline) (lines_then_open {x = x}))

pub all_complete : (x : List ℕ) → all_lines (whole_lines x) ≡ complete_lines x
all_complete x = search (rules, lines_of-first_lines)

-- complete lines and an open line after them can be told apart in only one way

pub front_is : (front rest : List ℕ) → IsWhole front → delimiters newline rest ≡ 0 → whole_lines (front ++ rest) ≡ front
front_is front rest fact none = search (rules, first_lines-zero, first_lines-whole, delimiters-append)

pub tail_is : (front : List ℕ) {rest : List ℕ} → IsWhole front → delimiters newline rest ≡ 0
    → open_line (front ++ rest) ≡ rest
tail_is front {rest} whole none = append_cancel_left front (open_line (front ++ rest)) rest
    (search (rules, (front_is front rest whole none), lines_then_open {x = front ++ rest}))

-- more bytes complete the open line, or they don't

parted : (x y : List ℕ) → x ++ y ≡ (whole_lines x ++ whole_lines (open_line x ++ y)) ++ open_line (open_line x ++ y)
parted x y =
    rw (append_assoc, lines_then_open {x = open_line x ++ y}, ← append_assoc, lines_then_open {x = x}) refl

both_whole : (x y : List ℕ) → IsWhole (whole_lines x ++ whole_lines (open_line x ++ y))
both_whole x y = search (rules, whole-append, lines_whole)

pub lines_more : (x y : List ℕ) → whole_lines (x ++ y) ≡ whole_lines x ++ whole_lines (open_line x ++ y)
lines_more x y = search (rules, parted, front_is, both_whole, open_unbroken)

pub open_more : (x y : List ℕ) → open_line (x ++ y) ≡ open_line (open_line x ++ y)
open_more x y = search (rules, parted, tail_is, both_whole, open_unbroken)

-- a piece without a newline

pub no_newline : (rest piece : List ℕ) → delimiters newline rest ≡ 0 → delimiters newline piece ≡ 0
    → delimiters newline (rest ++ piece) ≡ 0
no_newline rest piece none also = search (rules, delimiters-append)

-- a piece with a newline

pub ends_by : (x : List ℕ) → IsWhole x → 0 < length x → ends_with newline x ≡ true
ends_by x fact some = search rules

pub piece_ends : {piece : List ℕ} (end : ℕ) → LastEndsAt newline piece end → ends_with newline (take end piece) ≡ true
piece_ends end last = search (rules, ends_by, lines_whole)

some_ends : (rest text : List ℕ) → ends_with newline text ≡ true → ends_with newline (rest ++ text) ≡ true
some_ends rest text ends = ends_with-append newline rest text (ends_with-some newline text ends) ∙ ends

split_piece : (rest piece : List ℕ) (end : ℕ) → rest ++ piece ≡ (rest ++ take end piece) ++ drop end piece
split_piece rest piece end = grind (arith, common_steps)

pub piece_lines : (rest : List ℕ) {piece : List ℕ} (end : ℕ) → LastEndsAt newline piece end
    → whole_lines (rest ++ piece) ≡ rest ++ take end piece
piece_lines rest {piece} end last = ap whole_lines (split_piece rest piece end)
    ∙ front_is (rest ++ take end piece) (drop end piece) (inr (some_ends rest (take end piece) (piece_ends end last))) last.none_after

pub piece_open : (rest : List ℕ) {piece : List ℕ} (end : ℕ) → LastEndsAt newline piece end
    → open_line (rest ++ piece) ≡ drop end piece
piece_open rest {piece} end last = ap open_line (split_piece rest piece end)
    ∙ tail_is (rest ++ take end piece) (inr (some_ends rest (take end piece) (piece_ends end last))) last.none_after

-- lines

none_in : (x : List ℕ) → delimiters newline x ≡ 0 → HasNone newline x
none_in [] is = tt
none_in (byte ∷ x) is = search (rules, cases_eq, eq-eqb, ne_eqb, none_in x)

none-append : (a b : List ℕ) → HasNone newline a → HasNone newline b → HasNone newline (a ++ b)
none-append [] b none also = also
none-append (byte ∷ a) b (other, none) also = (other, none-append a b none also)

pub line_by : (line : List ℕ) → AreLines newline (line ∷ []) → IsLine line
line_by line is = ap (lines_of newline) (sym (append-nil line)) ∙ lines_of-joined newline (line ∷ []) is

-- the first line of a text is a line
pub first_line : (text line rest : List ℕ) → lines_of newline text ≡ line ∷ lines_of newline rest → IsLine line
first_line text line rest is = search (rules, AreLines-lines_of, line_by)

pub open_is_line : (rest : List ℕ) → 0 < length rest → delimiters newline rest ≡ 0 → IsLine rest
open_is_line rest some none = line_by rest (inr (some, none_in rest none))

pub joined_line : (rest end : List ℕ) → delimiters newline rest ≡ 0 → IsLine end → IsLine (rest ++ end)
joined_line rest end none is = grind (arith, common_steps, line_by, none_in, AreLines-lines_of, none-append)

-- the first of complete lines is complete, and so are the lines after it

pub first_complete : {text : List ℕ} (line : List ℕ) {rest : List ℕ} → (ends_with newline line ≡ false → rest ≡ [])
    → text ≡ line ++ rest → ends_with newline text ≡ true → ends_with newline line ≡ true
first_complete line last joined whole = search rules

pub others_whole : {text : List ℕ} (line rest : List ℕ) → text ≡ line ++ rest → ends_with newline text ≡ true
    → IsWhole rest
others_whole line rest joined whole = grind (arith, common_steps, ends_with-append)

pub open_complete : (rest line : List ℕ) → ends_with newline line ≡ true → IsWhole (rest ++ line)
open_complete rest line ends = inr (some_ends rest line ends)

-- what stands before the last lines of a text, of which `front` lacks the last newline

pub before_begins : (held text : List ℕ) {front : List ℕ} {n start : ℕ} → front ≡ take (length front) text
    → line_count newline (held ++ text) ≡ delimiters newline held + delimiters newline front + 1
    → BeginsAt newline n front start → held ++ take start text ≡ but_last_lines newline n (held ++ text)
before_begins held text {front} {n} {start} is lines begins =
    let all = but_last_lines newline n (held ++ text) in
    let long : length held + start ≡ length all = over_begins held text front is lines begins in
    let count = line_count newline (held ++ text) - n in
    sym (take-append-add held text start) ∙ ap (λ k. take k (held ++ text)) long
    ∙ ap (λ those. take (length all) those) (sym (first_lines_then_rest newline count (held ++ text)))
    ∙ take_at all (after_lines newline count (held ++ text)) (length all) refl
