-- Lines dealt in turn, as a stage does it: GNU coreutils manual, split, `-n r/N`.
use Rattle.std.specs.{
  Prelude.{◌≡◌, ℕ, ◌+◌, ◌%◌, ◌<◌, ◌≤◌, Bool, true, false, List, length, min, slice_index_or, if◌then◌else◌},
}
use Rattle.seg_core.specs.{Line.{delimiters, line_count}, declared.cut.Cut.TheVariants.Round}
use Rattle.engine_core.specs.{FileWriter.CanTell, Work.{Work, always_well}}
use Rattle.ports_core.specs.Slot.{Slot, is_closable}
use Rattle.split_core.specs.{
  Split.{Filing, Plan, TellsNoSizes, are_named, split_work},
  FilesState.{FilesState, filing_in},
  RoundState.RoundState,
}

abbrev pub round_plan : (delim count : ℕ) → Bool → Filing → Plan
round_plan delim count elide filing = record { cut = Round count delim; elide = elide; filing = filing }

-- what the stage was asked for
abbrev pub plan_of : RoundState → Plan
plan_of round = round_plan round.delim round.count round.elide (filing_in round.files)

-- the work of dealt lines, if all files have names
abbrev pub round_work : Plan → Work
round_work plan = record (split_work plan) { is_complete = λ x. false; verdict = always_well }

abbrev pub work : RoundState → Work
work round = round_work (plan_of round)

-- how many files are open once x came in: all files, or those that have a line
abbrev pub opened_by : (delim : ℕ) → Bool → (n : ℕ) → List ℕ → ℕ
opened_by delim elide n x = if elide then min n (line_count delim x) else n

-- the stage can have been fed x
pub record Holds (round : RoundState) (x : List ℕ) : Type 0 where
  pub some : 0 < round.count
  pub named : are_named round.files.names.naming round.count ≡ true
  pub next : round.next ≡ delimiters round.delim x % round.count
  pub opened : length round.files.outputs ≡ opened_by round.delim round.elide round.count x

-- the slot of the file at a place
abbrev pub output_at : FilesState → ℕ → ℕ
output_at files place = slice_index_or files.outputs place 0

-- The streams are there, and standard output can take its lines about files. Each open file has a slot of its own that
-- can be written and closed. The next name is that of the next file.
pub record AreReady (files : FilesState) (slots : List Slot) : Type 0 where
  pub streams : 2 ≤ length slots
  pub output : CanTell files.tells slots
  pub tells : TellsNoSizes files.tells
  pub drawn : files.names.drawn ≡ length files.outputs
  pub apart : (place other : ℕ) → place < other → other < length files.outputs
      → output_at files place < output_at files other
  pub closable : (place : ℕ) → place < length files.outputs → is_closable slots (output_at files place)

abbrev pub Ready : RoundState → List Slot → Type 0
Ready round slots = AreReady round.files slots

-- The open files stand in order from this place on. If each name that was drawn is the name of an open file, these are
-- the last outputs.
pub record OwnsFiles (files : FilesState) (first : ℕ) (slots : List Slot) : Type 0 where
  pub stand : (place : ℕ) → place < length files.outputs → output_at files place ≡ first + place
  pub last : files.names.drawn ≡ length files.outputs → first + length files.outputs ≡ length slots

abbrev pub Owns : RoundState → ℕ → List Slot → Type 0
Owns round first slots = OwnsFiles round.files first slots
