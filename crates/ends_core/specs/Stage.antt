-- The one stage of `head` and `tail`, as contracts see it.
use Rattle.std.specs.Prelude.{◌≡◌, ℕ, ◌-◌, ◌<◌, ◌≤◌, Bool, true, false, List, [], length, IsTrue}
use Rattle.engine_core.specs.{Work.Work, Engine.Terms}
use Rattle.ports_core.specs.Slot.{is_writable}
use Rattle.seg_core.specs.declared.unit.Unit.{Unit as Counted, TheVariants.{Lines, Bytes}}
use Rattle.ends_core.specs.{
  declared.ends.Portion.{Portion, TheVariants.{First, ButLast, FromNth, Last, Between}},
  Ends.{first_of, measure},
  Head.{head_work, IsDone},
  Tail.tail_work,
  Shown.between_work,
  Kept.{held_of, most_of, may_lack_of, delim_of as kept_delim, unit_of as kept_unit},
}

-- which part of an input is written
pub data Stretch : Type 0 where
  the_first : Stretch
  all_but_last : Stretch
  from_the_nth : Stretch
  the_last : Stretch
  -- the bytes from one place up to another, of an input that showed them
  between : (from end : ℕ) → Stretch

-- whether the last lines or bytes are kept
abbrev pub keeps : Stretch → Bool
keeps the_first = false
keeps all_but_last = true
keeps from_the_nth = false
keeps the_last = true
keeps (between from end) = false

-- the work of a stretch, if n lines or bytes were asked for
abbrev pub work_in : Stretch → ℕ → Counted → ℕ → Work
work_in the_first delim unit n = head_work delim unit false n
work_in all_but_last delim unit n = head_work delim unit true n
work_in from_the_nth delim unit n = tail_work delim unit true n
work_in the_last delim unit n = tail_work delim unit false n
work_in (between from end) delim unit n = between_work from end

-- how many lines or bytes at the front are written, or passed over
abbrev pub front_in : Stretch → ℕ → ℕ
front_in the_first n = n
front_in all_but_last n = n
front_in from_the_nth n = n - 1
front_in the_last n = n
front_in (between from end) n = from

abbrev pub stretch_of : Portion → Stretch
stretch_of (First count front) = the_first
stretch_of (ButLast kept) = all_but_last
stretch_of (FromNth count front) = from_the_nth
stretch_of (Last kept) = the_last
stretch_of (Between span) = between span.from span.end

abbrev pub unit_of : Portion → Counted
unit_of (First count front) = front.unit
unit_of (ButLast kept) = kept_unit kept
unit_of (FromNth count front) = front.unit
unit_of (Last kept) = kept_unit kept
unit_of (Between span) = Bytes

-- the byte with which lines end, if lines are counted
abbrev pub delim_of : Portion → ℕ
delim_of (First count front) = front.delim
delim_of (ButLast kept) = kept_delim kept
delim_of (FromNth count front) = front.delim
delim_of (Last kept) = kept_delim kept
delim_of (Between span) = 0

-- how many lines or bytes were asked for
abbrev pub count_of : Portion → ℕ
count_of (First count front) = count
count_of (ButLast kept) = most_of kept
count_of (FromNth count front) = count
count_of (Last kept) = most_of kept
count_of (Between span) = span.end

-- what a stage was asked for; only lines have a delimiter
pub record IsAsked (stretch : Stretch) (unit : Counted) (count delim : ℕ) (ends : Portion) : Type 0 where
  pub stretch_is : stretch_of ends ≡ stretch
  pub unit_is : unit_of ends ≡ unit
  pub count_is : count_of ends ≡ count
  pub delim_is : unit ≡ Lines → delim_of ends ≡ delim

-- how many lines or bytes at the front are still to come
abbrev pub left_of : Portion → ℕ
left_of (First count front) = front.left
left_of (ButLast kept) = 0
left_of (FromNth count front) = front.left
left_of (Last kept) = 0
left_of (Between span) = span.from - span.came

-- how many bytes came in after the last byte that is written
abbrev pub past_of : Portion → ℕ
past_of (First count front) = front.past
past_of (ButLast kept) = 0
past_of (FromNth count front) = 0
past_of (Last kept) = 0
past_of (Between span) = span.came - span.end

-- how many bytes an input has at least, if it didn't change after it showed them
abbrev pub least_in : Stretch → ℕ
least_in the_first = 0
least_in all_but_last = 0
least_in from_the_nth = 0
least_in the_last = 0
least_in (between from end) = end

-- how many bytes of an unchanged input are still to come
abbrev pub missing_of : Portion → ℕ
missing_of (First count front) = 0
missing_of (ButLast kept) = 0
missing_of (FromNth count front) = 0
missing_of (Last kept) = 0
missing_of (Between span) = span.end - span.came

-- how many bytes of an input stand past what its first lines or bytes, or a stretch up to an offset, take
abbrev pub past_in : Stretch → ℕ → Counted → ℕ → List ℕ → ℕ
past_in the_first delim unit n x = length x - length (first_of delim unit n x)
past_in all_but_last delim unit n x = 0
past_in from_the_nth delim unit n x = 0
past_in the_last delim unit n x = 0
past_in (between from end) delim unit n x = length x - end

-- the bytes that wait
abbrev pub waiting_of : Portion → List ℕ
waiting_of (First count front) = []
waiting_of (ButLast kept) = held_of kept
waiting_of (FromNth count front) = []
waiting_of (Last kept) = held_of kept
waiting_of (Between span) = []

-- whether there may be no memory for more waiting bytes
abbrev pub may_lack : Portion → Bool
may_lack (First count front) = false
may_lack (ButLast kept) = may_lack_of kept
may_lack (FromNth count front) = false
may_lack (Last kept) = may_lack_of kept
may_lack (Between span) = false

abbrev pub work : Portion → Work
work ends = work_in (stretch_of ends) (delim_of ends) (unit_of ends) (count_of ends)

abbrev pub waiting : Portion → List ℕ → List ℕ
waiting ends x = (work ends).waiting x

-- the stage may have been fed x
pub record Holds (ends : Portion) (x : List ℕ) : Type 0 where
  -- the delimiter is a byte
  pub byte : delim_of ends < 256
  pub left : keeps (stretch_of ends) ≡ false
      → left_of ends ≡ front_in (stretch_of ends) (count_of ends) - measure (delim_of ends) (unit_of ends) x
  pub waits : waiting_of ends ≡ waiting ends x
  pub past : past_of ends ≡ past_in (stretch_of ends) (delim_of ends) (unit_of ends) (count_of ends) x
  pub missing : missing_of ends ≡ least_in (stretch_of ends) - length x
  -- if nothing waits, no memory can be lacking
  pub none : keeps (stretch_of ends) ≡ false → may_lack ends ≡ false
  -- if bytes are kept, and as many came in, no memory can be lacking
  pub full : unit_of ends ≡ Bytes → count_of ends ≤ length x → may_lack ends ≡ false

-- Nothing after x changes the output: the head of x stays; between two places all bytes came. A tail is never done.
abbrev pub done_in : Stretch → ℕ → Counted → ℕ → List ℕ → Type 0
done_in the_first delim unit n x = IsDone delim unit false n x
done_in all_but_last delim unit n x = IsDone delim unit true n x
done_in from_the_nth delim unit n x = ⊥
done_in the_last delim unit n x = ⊥
done_in (between from end) delim unit n x = end ≤ length x

abbrev pub is_done : Portion → List ℕ → Type 0
is_done ends x = done_in (stretch_of ends) (delim_of ends) (unit_of ends) (count_of ends) x

-- how many bytes the stage has to count
abbrev pub size_of : Portion → ℕ
size_of (First count front) = front.past
size_of (ButLast kept) = length (held_of kept)
size_of (FromNth count front) = 0
size_of (Last kept) = length (held_of kept)
size_of (Between span) = span.came

-- what the stage owes; it writes to standard output alone
abbrev pub terms : Terms Portion
terms = record {
  Holds = Holds;
  work = work;
  IsDone = is_done;
  size = size_of;
  may_lack = λ ends piece. may_lack ends;
  Ready = λ ends slots. IsTrue (is_writable slots 0);
  Owns = λ ends first slots. Unit {0};
  files = λ ends. [];
}
