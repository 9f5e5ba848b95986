-- What calls on parts that follow one another do.
use Rattle.std.specs.{
  Prelude.{◌≡◌, ℕ, ◌-◌, ◌≤◌, ◌<◌, Bool, false, List, [], ◌++◌, length, take, Option, Some, None, IfNone, IfSome},
  Prelude.{Result, Ok, Err},
}
use Rattle.engine_core.specs.{
  Draft.{Draft, draft_part, part_of, with_bytes, with_next},
  FileWriter.{Goes, Leaves, Reaches, At, IsWrite},
  Written.{Written, OutputsAt},
  declared.file_writer.Opening.TheVariants.Late,
}
use Rattle.ports_core.specs.{
  Slot.{Effect, Slot},
  declared.{fault.Fault.{Fault, TheVariants.Verdict}, verdict.Verdict.TheVariants.Suffixes},
}
use Rattle.seg_core.specs.Cut.{most}
use Rattle.split_core.specs.{
  Split.{are_named, draft_of, manner_of, output_by, settled_parts},
  inner.CutLaws.whole_parts,
  PartsState.{PartsState, Stands, filing_of},
}

-- what is written once x came in
abbrev pub settled_part : PartsState → List ℕ → Written
settled_part parts x = draft_part (manner_of (filing_of parts)) (draft_of parts.limit x)

-- what is written at the end
abbrev pub whole_part : PartsState → List ℕ → Written
whole_part parts x = part_of (manner_of (filing_of parts)) (whole_parts parts.limit x)

-- what a part still takes, whether it has a complete line, and what waits
abbrev pub numbers : PartsState → ℕ × Bool × List ℕ
numbers parts = (parts.left, parts.has_line, parts.waiting)

-- The files changed as this says, and then the numbers are these; or a fault came meanwhile.
pub record Moves (parts next : PartsState) (are : ℕ × Bool × List ℕ) (change : Draft → Draft) (outs : Effect)
    (fault : Option Fault) : Type 0 where
  pub limit : next.limit ≡ parts.limit
  pub same : IfNone fault (numbers next ≡ are)
  pub goes : Goes parts.writer next.writer change outs fault

-- what waits and these bytes went to the part that was begun, or a fault came meanwhile
abbrev pub Extends : (parts next : PartsState) → List ℕ → Effect → Option Fault → Type 0
Extends parts next bytes =
    Moves parts next (parts.left, parts.has_line, []) (with_bytes (parts.waiting ++ bytes))

-- the file that was begun ends, and these bytes begin the next
abbrev pub begins_next : List ℕ → Draft → Draft
begins_next past draft = with_bytes past (with_next Late draft)

-- the part that was begun ended, and what waits and these bytes begin the next
abbrev pub BeginsNext : (parts next : PartsState) → List ℕ → Effect → Option Fault → Type 0
BeginsNext parts next bytes = Moves parts next (most parts.limit - length (parts.waiting ++ bytes), false, [])
    (begins_next (parts.waiting ++ bytes))

-- names ran out before these bytes of the input were written: all files that have a name are written
pub record LacksNames (parts : PartsState) (x bytes : List ℕ) (outs : Effect) : Type 0 where
  pub none : are_named (filing_of parts).names (length (settled_parts parts.limit (x ++ bytes))) ≡ false
  pub all : (before : List Slot) → At outs.visible parts.writer before (settled_part parts x) outs.old
      → OutputsAt outs.visible before (settled_part parts (x ++ bytes)) outs.new

-- These bytes were taken in, and what is settled with them is written; or a fault came meanwhile.
pub record Takes (parts next : PartsState) (bytes : List ℕ) (outs : Effect) (fault : Option Fault) : Type 0 where
  pub limit : next.limit ≡ parts.limit
  pub leaves : Leaves parts.writer next.writer outs.old outs.new fault
  pub stands : IfNone fault ((x : List ℕ) → Stands parts x → Stands next (x ++ bytes))
  pub reaches : (x : List ℕ) → Stands parts x → Reaches (output_by (filing_of parts).verbose) parts.writer next.writer
      (settled_part parts x) (settled_part parts (x ++ bytes)) outs fault
  pub short : IfSome fault (λ why. why ≡ Verdict Suffixes → (x : List ℕ) → Stands parts x
      → LacksNames parts x bytes outs)

-- a stretch of the piece was taken in, or a fault came
abbrev pub TakesStretch : (parts next : PartsState) → List ℕ → Effect → Result ℕ Fault → Type 0
TakesStretch parts next piece outs (Ok n) = (0 < n) × (n ≤ length piece)
    × Takes parts next (take n piece) outs None
TakesStretch parts next piece outs (Err fault) = Takes parts next piece outs (Some fault)

-- the input ended, and the whole is written; or a file broke meanwhile
pub record Finishes (parts next : PartsState) (outs : Effect) (fault : Option Fault) : Type 0 where
  pub limit : next.limit ≡ parts.limit
  pub leaves : Leaves parts.writer next.writer outs.old outs.new fault
  pub broke : IfSome fault IsWrite
  pub reaches : (x : List ℕ) → Stands parts x → Reaches (output_by (filing_of parts).verbose) parts.writer next.writer
      (settled_part parts x) (whole_part parts x) outs fault
