-- What private calls say: how files in order get more bytes, and how more of them are opened.
use Rattle.std.specs.{
  Prelude.{◌≡◌, ℕ, ◌+◌, ◌-◌, ◌<◌, ◌≤◌, max, Bool, true, List, [], ◌∷◌, ◌++◌, ◌⊎◌, length, map, Result, Ok},
  Prelude.{Err, OnOk, IfErr, nat_lt, ◌==◌, if◌then◌else◌},
  List.range_with_len,
}
use Rattle.engine_core.specs.{
  Names.with_one_drawn,
  Written.{Written, OutputsAt, IsBeginning, StoppedBetween},
  Draft.Manner,
  FileWriter.{Breaks, CanTell},
}
use Rattle.ports_core.specs.{
  Slot.{Effect, Slot, KeepsBroken, MayBecome, Rose, effect},
  declared.fault.Fault.{Fault, TheVariants.Write},
}
use Rattle.split_core.specs.{
  Split.{Filing, Share, is_verbose, manner_of, output_by, share},
  Sharing.CannotOpen,
  FilesState.{FilesState, filing_in},
  Round.{AreReady, OwnsFiles},
}
use Rattle.ports_core.specs.declared.slot.State.TheVariants as state
use Rattle.engine_core.specs.Draft as draft

-- the file of the share at a place
abbrev pub file_at : Filing → ℕ → Share → Slot
file_at filing place one = draft.file_at (manner_of filing) place one

-- shares by their places, of which the first `count` have a file
pub record Shares : Type 0 where
  pub count : ℕ
  pub at : ℕ → Share

abbrev pub files_by : Filing → Shares → List Slot
files_by filing shares = map (λ place. file_at filing place (shares.at place)) (range_with_len 0 shares.count)

abbrev pub part_by : Filing → Shares → Written
part_by filing shares = draft.part_with (output_by filing.verbose) (files_by filing shares)

-- files that are open and have these bytes
abbrev pub all_open : (ℕ → List ℕ) → ℕ → Shares
all_open had count = record { count = count; at = λ place. share state.Open (had place) }

-- of files that have these bytes, the first n are closed
abbrev pub closed_first : ℕ → (ℕ → List ℕ) → ℕ → Shares
closed_first n had count = record {
  count = count;
  at = λ place. share (if nat_lt place n then state.Closed else state.Open) (had place);
}

-- these bytes for the file at a place, and none for any other file
abbrev pub only_at : ℕ → List ℕ → ℕ → List ℕ
only_at place bytes other = if other == place then bytes else []

-- the files were opened since the state `before` and have these bytes; files to come have none
pub record StandAt (visible : Bool) (files : FilesState) (before : List Slot) (had : ℕ → List ℕ) (now : List Slot)
    : Type 0 where
  pub owns : OwnsFiles files (length before) now
  pub outputs : OutputsAt visible before (part_by (filing_in files) (all_open had (length files.outputs))) now
  pub none : (place : ℕ) → length files.outputs ≤ place → had place ≡ []

-- the files have the same slots
abbrev pub KeepsFiles : FilesState → List Slot → FilesState → List Slot → Type 0
KeepsFiles files old next new = (first : ℕ) → OwnsFiles files first old → OwnsFiles next first new

-- from some shares to others: only files from a place on and before another change, and new files come before the other
pub record Grow (from to : ℕ) (low high : Shares) : Type 0 where
  pub more : low.count ≤ high.count
  pub new : high.count ≤ max low.count to
  pub begin : (place : ℕ) → MayBecome (low.at place).state (high.at place).state ⊎ (low.at place ≡ high.at place)
  pub bytes : (place : ℕ) → IsBeginning (low.at place).bytes (high.at place).bytes
  pub same : (place : ℕ) → (place < from) ⊎ (to ≤ place) → low.at place ≡ high.at place

-- A fault stopped the files at a place from `from` on and before `to`, or at `from` before it was reached. That is also
-- true if files up to `from` had got less before, and if files from the one before `to` on were to get more.
pub record Halts (filing : Filing) (low high : Shares) (from to : ℕ) (outs : Effect) (fault : Fault) : Type 0 where
  pub stops : (first last : Shares) (end : ℕ) → Grow 0 (from + 1) first low → Grow (to - 1) end high last
      → StoppedBetween (output_by filing.verbose) outs.visible outs.old (part_by filing first)
      (part_by filing last) fault
      outs.new
  -- the fault isn't a write to a file before `from`
  pub own : (place : ℕ) → fault ≡ Write (length outs.old + place) → from ≤ place

-- all was written, or a fault stopped it
abbrev pub Leaves : Filing → (low high : Shares) → (from to : ℕ) → Effect → Result (Unit {0}) Fault → Type 0
Leaves filing low high from to outs (Ok done) = OutputsAt outs.visible outs.old (part_by filing high) outs.new
Leaves filing low high from to outs (Err fault) = Halts filing low high from to outs fault

-- the faults of files that have names
abbrev pub always_named : Bool → Manner
always_named verbose = record { has_name = λ place. true; name = λ place. []; output = output_by verbose }

abbrev pub IsOfFiles : Bool → List Slot → List Slot → Fault → Type 0
IsOfFiles verbose old new fault = Breaks (always_named verbose) old new fault

-- a file couldn't be closed, or what waited for it couldn't be written
abbrev pub CannotClose : List Slot → List Slot → Fault → Type 0
CannotClose old new fault = (slot : ℕ) × (fault ≡ Write slot) × (2 ≤ slot) × Rose slot old new

-- The files from a place on and before another got more, and all files before the second place are open; or a fault
-- stopped that.
pub record Adds (files next : FilesState) (more : ℕ → List ℕ) (from to : ℕ) (outs : Effect)
    (result : Result (Unit {0}) Fault) : Type 0 where
  pub filing : filing_in next ≡ filing_in files
  pub owned : KeepsFiles files outs.old next outs.new
  pub ready : OnOk result (AreReady next outs.new)
  pub opened : OnOk result (length next.outputs ≡ max (length files.outputs) to)
  pub sound : OnOk result (KeepsBroken outs.old outs.new)
  pub caused : IfErr result (IsOfFiles (is_verbose files.tells) outs.old outs.new)
  pub outside : (place : ℕ) → (place < from) ⊎ (to ≤ place) → more place ≡ []
  pub leaves : (before : List Slot) (had has : ℕ → List ℕ) → StandAt outs.visible files before had outs.old
      → ((place : ℕ) → has place ≡ had place ++ more place)
      → Leaves (filing_in files) (all_open had (length files.outputs))
      (all_open has (max (length files.outputs) to)) from to (effect outs.visible before outs.new) result

-- all files before a place are open now, or one couldn't be opened
pub record Opens (files next : FilesState) (from to : ℕ) (outs : Effect) (result : Result (Unit {0}) Fault)
    : Type 0 where
  pub adds : Adds files next (λ place. []) from to outs result
  pub caused : IfErr result (CannotOpen (is_verbose files.tells) outs.old outs.new)

-- all files were closed, or a fault came before that
pub record ClosesAll (files : FilesState) (outs : Effect) (result : Result (Unit {0}) Fault) : Type 0 where
  pub leaves : (before : List Slot) (had : ℕ → List ℕ) → StandAt outs.visible files before had outs.old
      → Leaves (filing_in files) (all_open had (length files.outputs))
      (closed_first (length files.outputs) had (length files.outputs)) 0 (length files.outputs)
      (effect outs.visible before outs.new) result
  pub output : OnOk result (CanTell files.tells outs.new)
  pub caused : IfErr result (CannotClose outs.old outs.new)
  pub owned : KeepsFiles files outs.old files outs.new

-- one more file was opened, at this slot
abbrev pub with_opened : ℕ → FilesState → FilesState
with_opened slot files = record files { names = with_one_drawn files.names; outputs = files.outputs ++ slot ∷ [] }
