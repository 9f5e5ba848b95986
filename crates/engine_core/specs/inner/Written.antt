-- What private calls say: what standard output has of files.
use Rattle.std.specs.Prelude.{◌≡◌, List, ℕ}
use Rattle.ports_core.specs.Slot.{Slot}
use Rattle.engine_core.specs.Written.{Output, gets_none, gets_bytes, gets_lines, gets_openings, lines_for, openings_for}

-- standard output has exactly the lines for these files, if files have lines
abbrev pub HasLines : Output → List ℕ → List Slot → Type 0
HasLines gets_none bytes files = Unit {0}
HasLines gets_bytes bytes files = Unit {0}
HasLines (gets_lines line) bytes files = bytes ≡ lines_for line files
HasLines (gets_openings line) bytes files = bytes ≡ openings_for line files
