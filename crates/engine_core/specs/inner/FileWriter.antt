-- What private calls say of the writer of files.
use Rattle.std.specs.{
  Prelude.{◌≡◌, ℕ, ◌+◌, ◌<◌, ◌≤◌, ◌^◌, Bool, decimal, List, [], ◌∷◌, ◌++◌, length, Option, None, IfNone, IfSome},
  Prelude.{IsTrue, Result, Ok, Err},
}
use Rattle.engine_core.specs.{
  FileWriter.WriterState,
  Names.{next_name, has_next, told_next, with_one_drawn, OpensNone},
  inner.Write.Wrote,
  declared.file_writer.{
    Current.TheVariants.{File, Unopened},
    Keeps.{Keeps, TheVariants.{Open, All}},
    Tells.{Tells, TheVariants.{Nothing, Sizes, Openings}},
  },
}
use Rattle.ports_core.specs.{
  Slot.{Effect, Slot, opened},
  declared.fault.Fault.Fault,
  declared.slot.Mode.TheVariants.Fresh,
}

-- What the steps of the writer do.

-- how many bytes are counted after these bytes: if sizes are written, exactly these more; otherwise at most these more
abbrev pub CountsOn : Tells → ℕ → List ℕ → ℕ → Type 0
CountsOn Nothing size bytes more = more ≤ size + length bytes
CountsOn Sizes size bytes more = more ≡ size + length bytes
CountsOn Openings size bytes more = more ≤ size + length bytes

-- the open file, of which `size` bytes are counted, got these bytes as well, or broke among them
pub record Appends (writer next : WriterState) (slot size : ℕ) (bytes : List ℕ) (outs : Effect) (fault : Option Fault)
    : Type 0 where
  pub same : next ≡ record writer { current = next.current }
  pub current : IfNone fault ((more : ℕ) × (next.current ≡ File slot more) × CountsOn writer.tells size bytes more)
  pub still : IfSome fault (λ why. next.current ≡ writer.current)
  pub wrote : Wrote outs.visible slot bytes outs.old outs.new fault

-- the size of a file was written to standard output, or standard output broke; nothing happened if sizes aren't written
abbrev pub TellsSize : Bool → Tells → ℕ → List Slot → List Slot → Option Fault → Type 0
TellsSize visible Nothing size old new fault = (fault ≡ None) × (new ≡ old)
TellsSize visible Sizes size old new fault = Wrote visible 0 (decimal size ++ 10 ∷ []) old new fault
TellsSize visible Openings size old new fault = (fault ≡ None) × (new ≡ old)

-- the outputs that are kept once one more file was made
abbrev pub files_with : Keeps → List ℕ → ℕ → List ℕ
files_with Open files slot = files
files_with All files slot = files ++ slot ∷ []

-- the next file was made, after standard output got the line about it
pub record Made (writer : WriterState) (old new : List Slot) (next : WriterState) (slot : ℕ) : Type 0 where
  pub few : writer.names.drawn < 2 ^ 64
  pub named : IsTrue (has_next writer.names)
  pub place : slot ≡ length old
  pub added : new ≡ old ++ opened (next_name writer.names) Fresh ∷ []
  pub same : next ≡ record writer {
    names = with_one_drawn writer.names;
    files = files_with writer.keeps writer.files slot;
    current = File slot 0;
  }

-- the next file couldn't be made
pub record MakesNone (visible : Bool) (writer : WriterState) (old new : List Slot) (next : WriterState) (fault : Fault)
    : Type 0 where
  pub same : next ≡ record writer { names = next.names; current = Unopened }
  pub naming : next.names.naming ≡ writer.names.naming
  pub none : OpensNone visible writer.tells writer.names next.names old new fault

abbrev pub Makes : Bool → WriterState → List Slot → List Slot → WriterState → Result ℕ Fault → Type 0
Makes visible writer old new next (Ok slot) =
    Made writer (told_next visible writer.tells writer.names old) new next slot
Makes visible writer old new next (Err fault) = MakesNone visible writer old new next fault
