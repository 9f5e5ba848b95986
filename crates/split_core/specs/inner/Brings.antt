-- What private calls say: what goes to the files of chunks, or to standard output if only one chunk is written.
use Rattle.std.specs.{
  Prelude.{◌≡◌, ℕ, Bool, true, false, List, [], ◌∷◌, ◌++◌, length, Option, IfNone, IfSome, IsTrue},
}
use Rattle.engine_core.specs.{
  Draft.{Draft, Manner, draft_part, made_of, with_next},
  FileWriter.{KeepsOrBreaks, Leaves, Reaches, Writes, WriterState},
  Written.{Output, Written, OutputsAt, Begins, gets_bytes},
  InTurn.IsThere,
  declared.file_writer.Opening.TheVariants.{Late, AtOnce},
}
use Rattle.ports_core.specs.{
  Slot.{Effect, Slot, is_writable},
  Name.has_name,
  declared.{fault.Fault.{Fault, TheVariants.{Verdict, Write}}, verdict.Verdict.TheVariants.Suffixes},
}
use Rattle.split_core.specs.{
  Parts.CutUp,
  Split.manner_of,
  ChunkerState.{AimState, Carries, Course, in_files, in_output, IsAimed, OwnsAim, SinkState, course_of, part_on},
  ChunkerState.whole_on,
}

-- a text that is cut up, with more bytes at the end of its rest
abbrev pub with_rest : List ℕ → CutUp → CutUp
with_rest bytes cut = record { full = cut.full; rest = cut.rest ++ bytes }

-- a text that is cut up, with its rest as a full piece
abbrev pub with_full : CutUp → CutUp
with_full cut = record { full = cut.full ++ cut.rest ∷ []; rest = [] }

-- how files are made, and what standard output gets
abbrev pub manner_on : Course → Manner
manner_on (in_files filing elide) = manner_of filing
manner_on (in_output chunk) = record { has_name = λ place. true; name = λ place. []; output = gets_bytes }

abbrev pub output_on : Course → Output
output_on course = (manner_on course).output

-- the file of the chunk at a place has a name
abbrev pub HasName : Course → ℕ → Type 0
HasName (in_files filing elide) place = has_name filing.names place ≡ true
HasName (in_output chunk) place = Unit {0}

-- if no files are written, only standard output breaks
abbrev pub IsOf : Course → Fault → Type 0
IsOf (in_files filing elide) fault = Unit {0}
IsOf (in_output chunk) fault = fault ≡ Write 0

-- the outputs have this part, and the slots that were opened are its own
pub record AtAim (visible : Bool) (aim : AimState) (before : List Slot) (part : Written) (now : List Slot)
    : Type 0 where
  pub owns : OwnsAim aim (length before) now
  pub outputs : OutputsAt visible before part now

-- What a call leaves, whatever was cut: its course is the same and its slots are its own; and without a fault it can go
-- on.
pub record Stays (on : Course) (aim next : AimState) (old new : List Slot) (fault : Option Fault) : Type 0 where
  pub course : course_of next ≡ on
  pub owns : (first : ℕ) → OwnsAim aim first old → OwnsAim next first new
  pub slots : KeepsOrBreaks (manner_on on) old new fault
  pub only : IfSome fault (IsOf on)
  pub output : IfNone fault (IsTrue (is_writable old 0) → IsTrue (is_writable new 0))
  pub ready : IfNone fault (IsAimed next new)

-- Outputs that had the part `low` have the part `high`, or a fault stopped them between the two.
pub record Brings (on : Course) (aim next : AimState) (low high : Written) (outs : Effect) (fault : Option Fault)
    : Type 0 where
  pub named : IfSome fault (λ why. why ≡ Verdict Suffixes → ⊥)
  pub begins : Begins low high
  pub reaches : (before : List Slot) → AtAim outs.visible aim before low outs.old
      → IsThere (output_on on) outs.visible
      (AtAim outs.visible next before high outs.new) before low high outs.new fault

-- The same of what is written of two texts that are cut up; without a fault the sink may have been given the second.
pub record Gives (on : Course) (sink next : SinkState) (from to : CutUp) (outs : Effect) (fault : Option Fault)
    : Type 0 where
  pub brings : Brings on sink.aim next.aim (part_on on from) (part_on on to) outs fault
  pub carries : IfNone fault (Carries next to)

-- the sink may have been given this, and the file of the chunk that was begun has a name
abbrev pub CarriesOn : SinkState → CutUp → Type 0
CarriesOn sink cut = Carries sink cut × HasName (course_of sink.aim) sink.place

-- what a change of any text that is cut up gives
pub record Changes (sink next : SinkState) (change : CutUp → CutUp) (outs : Effect) (fault : Option Fault)
    : Type 0 where
  pub stays : Stays (course_of sink.aim) sink.aim next.aim outs.old outs.new fault
  pub gives : (cut : CutUp) → CarriesOn sink cut
      → Gives (course_of sink.aim) sink next cut (change cut) outs fault

-- what the end of any text that is cut up gives
pub record EndsAll (sink next : SinkState) (outs : Effect) (fault : Option Fault) : Type 0 where
  pub stays : Stays (course_of sink.aim) sink.aim next.aim outs.old outs.new fault
  pub brings : (cut : CutUp) → Carries sink cut
      → Brings (course_of sink.aim) sink.aim next.aim (part_on (course_of sink.aim) cut)
      (whole_on (course_of sink.aim) cut) outs fault

-- The files

-- an empty file, if none was made
abbrev pub or_empty : List (List ℕ) → List (List ℕ)
or_empty [] = [] ∷ []
or_empty (file ∷ files) = file ∷ files

abbrev pub made_by : Bool → List (List ℕ) → List (List ℕ)
made_by true made = made
made_by false made = or_empty made

-- the file that was begun ends, and the next gets its file with its first byte
abbrev pub ends_by : Bool → Draft → Draft
ends_by elide draft =
    record { ended = draft.ended ++ made_by elide (made_of draft.opening draft.bytes); opening = Late; bytes = [] }

-- an empty file is made, if what was begun has none
abbrev pub begun_by : List (List ℕ) → Draft → Draft
begun_by [] draft = with_next AtOnce draft
begun_by (file ∷ files) draft = draft

abbrev pub empties_by : Bool → Draft → Draft
empties_by true draft = draft
empties_by false draft = begun_by (made_of draft.opening draft.bytes) draft

-- The files changed so, and the outputs with them; or a fault stopped that. Names ran out only if the file that was
-- begun has no name.
pub record Files (writer next : WriterState) (change : Draft → Draft) (outs : Effect) (fault : Option Fault)
    : Type 0 where
  pub leaves : Leaves writer next outs.old outs.new fault
  pub reaches : (manner : Manner) (draft : Draft) → Writes manner writer draft
      → Reaches manner.output writer next (draft_part manner draft) (draft_part manner (change draft)) outs fault
  pub named : IfSome fault (λ why. why ≡ Verdict Suffixes → (manner : Manner) (draft : Draft)
      → Writes manner writer draft → manner.has_name (length draft.ended) ≡ false)
  pub writes : IfNone fault ((manner : Manner) (draft : Draft) → Writes manner writer draft
      → Writes manner next (change draft))
