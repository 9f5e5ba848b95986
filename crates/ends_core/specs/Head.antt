-- The first part of an input, as an engine writes it: POSIX.1-2017, XCU head; the option -c is GNU's.
use Rattle.std.specs.Prelude.{◌≡◌, ℕ, ◌<◌, ◌&&◌, not, nat_le, Bool, false, List, [], ◌++◌, All, if◌then◌else◌}
use Rattle.engine_core.specs.{Written.only_out, Work.{Work, on_output, always_well}}
use Rattle.seg_core.specs.declared.unit.Unit.{Unit as Counted, TheVariants.{Lines, Bytes}}
use Rattle.ends_core.specs.Ends.{measure, last_of, head_of}

-- How many bytes a head may be given past the last byte that it uses. Bytes are counted before they are read, so none.
-- Of lines, the last one may end within a piece; one read asks for 4,096 bytes at most if others read the input later.
abbrev pub ahead_of : Counted → ℕ
ahead_of Lines = 4096
ahead_of Bytes = 0

-- what came in and waits: the last n lines or bytes, if all except these are asked for
abbrev pub head_waiting : ℕ → Counted → Bool → ℕ → List ℕ → List ℕ
head_waiting delim unit but_last n x = if but_last then last_of delim unit n x else []

-- The work of `head`. What belongs to the head, whatever comes, is written at once. The first n are complete once n
-- came in. All except the last n never are, and take memory for what waits.
abbrev pub head_work : ℕ → Counted → Bool → ℕ → Work
head_work delim unit but_last n = record {
  settled = λ x. only_out (head_of delim unit but_last n x);
  whole = λ x. only_out (head_of delim unit but_last n x);
  waiting = head_waiting delim unit but_last n;
  is_complete = λ x. not but_last && nat_le n (measure delim unit x);
  verdict = always_well;
  clears = false;
  means = on_output but_last;
  ahead = ahead_of unit;
}

-- the numbers of a text are bytes
abbrev pub AreBytes : List ℕ → Type 0
AreBytes x = All (λ byte. byte < 256) x

-- whatever bytes come after x, the head stays that of x
abbrev pub IsDone : ℕ → Counted → Bool → ℕ → List ℕ → Type 0
IsDone delim unit but_last n x = (y : List ℕ) → AreBytes y
    → head_of delim unit but_last n (x ++ y) ≡ head_of delim unit but_last n x
