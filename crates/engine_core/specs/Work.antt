-- What a tool makes of an input, whatever engine does it: what is written once some bytes came in, and what is written
-- at the end.
use Rattle.std.specs.Prelude.{◌≡◌, ◌≤◌, ◌⊎◌, Bool, true, false, List, [], ◌++◌, ℕ, length, Option, Some, None}
use Rattle.engine_core.specs.Written.{Written, Begins, Output, gets_bytes}
use Rattle.ports_core.specs.declared.verdict.Verdict.{Verdict}

-- what a call of an engine may need; this decides which faults the call can return
pub record Needs : Type 0 where
  -- memory, for bytes that wait or for names
  pub memory : Bool
  -- new files
  pub files : Bool

-- what an engine uses
pub record Means : Type 0 where
  -- what the engine writes to standard output
  pub output : Output
  -- whether the engine writes to files that it opens
  pub files : Bool
  -- what the engine may need as it takes in a piece, and at the end of the input
  pub feeding : Needs
  pub closing : Needs

abbrev pub no_needs : Needs
no_needs = record { memory = false; files = false }

-- an engine that writes to standard output alone, and may need memory for a piece if `memory` says so
abbrev pub on_output : Bool → Means
on_output memory = record {
  output = gets_bytes;
  files = false;
  feeding = record { memory = memory; files = false };
  closing = no_needs;
}

pub record Work : Type 0 where
  -- what is written once these bytes came in
  pub settled : List ℕ → Written
  -- what is written if the input ends after these bytes, before any file is removed
  pub whole : List ℕ → Written
  -- which of these bytes aren't written yet, since what follows decides where they go
  pub waiting : List ℕ → List ℕ
  -- whether the output is complete: whatever comes after these bytes, it stays
  pub is_complete : List ℕ → Bool
  -- the verdict if the input ends after these bytes and the work doesn't end well
  pub verdict : List ℕ → Option Verdict
  -- whether the tool's files are removed after a fault or a verdict, and after an input that breaks off
  pub clears : Bool
  pub means : Means
  -- how many more bytes than it uses the tool may be given, of an input that others read after it
  pub ahead : ℕ

-- the verdicts of a tool whose work always ends well: none
abbrev pub always_well : List ℕ → Option Verdict
always_well x = None

-- the work ends with this verdict if the input ends after x
abbrev pub Judges : Work → List ℕ → Verdict → Type 0
Judges work x verdict = work.verdict x ≡ Some verdict

-- the work ends with this verdict, whatever comes after x
abbrev pub IsSettled : Work → List ℕ → Verdict → Type 0
IsSettled work x verdict = (work.is_complete x ≡ true) × Judges work x verdict

-- the output is complete with x, and y after it changes nothing
pub record IsComplete (work : Work) (x y : List ℕ) : Type 0 where
  pub still : work.is_complete (x ++ y) ≡ true
  pub settled_stays : work.settled (x ++ y) ≡ work.settled x
  pub whole_stays : work.whole (x ++ y) ≡ work.settled x
  pub verdict_stays : work.verdict (x ++ y) ≡ work.verdict x

-- What came in was needed: the last piece has at most `most` bytes, and the output was not complete before this piece.
abbrev pub IsNeeded : (List ℕ → Bool) → ℕ → List ℕ → Type 0
IsNeeded is_complete most x = (x ≡ [])
    ⊎ ((before : List ℕ) × (piece : List ℕ) × (x ≡ before ++ piece) × (length piece ≤ most)
    × (is_complete before ≡ false))

-- The last n bytes of x are not used: the output is complete before them, and was not before the last byte that is
-- used. If the output isn't complete, all bytes are used.
pub record IsSpare (work : Work) (x : List ℕ) (n : ℕ) : Type 0 where
  pub used : List ℕ
  pub rest : List ℕ
  pub joined : x ≡ used ++ rest
  pub long : length rest ≡ n
  pub needed : IsNeeded work.is_complete 1 used
  pub enough : (rest ≡ []) ⊎ (work.is_complete used ≡ true)

-- What is written is never taken back, the whole goes on from what is settled, and a complete output stays.
pub record IsLawful (work : Work) : Type 0 where
  pub grows : (x y : List ℕ) → Begins (work.settled x) (work.settled (x ++ y))
  pub ends : (x : List ℕ) → Begins (work.settled x) (work.whole x)
  pub stays : (x y : List ℕ) → work.is_complete x ≡ true → IsComplete work x y
