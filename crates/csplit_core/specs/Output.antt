-- What `csplit` writes of sections: a file for each that is kept, and its size on standard output (POSIX.1-2017, XCU
-- csplit; `elide` is GNU's).
use Rattle.std.specs.{Prelude.{true, Bool, ℕ, List, map, if◌then◌else◌}, List.flat_map}
use Rattle.engine_core.specs.{
  Draft.{Manner, Share, share, made_of, part_of as part_by},
  declared.file_writer.Opening.{Opening, TheVariants.{Never, Late, AtOnce}},
  Written.{Written, Output, gets_none, gets_lines},
}
use Rattle.ports_core.specs.{
  Name.{Naming, name_at},
  declared.{numbering.Numbering.TheVariants.Formatted, slot.State.{State, TheVariants.{Open, Closed}}},
}
pub use Rattle.engine_core.specs.Draft.{size_of_file}
pub use Rattle.operand_core.specs.Style.{Style}
use Rattle.csplit_core.specs.Section.{Section, bytes_of}

-- what standard output gets: the size of each file that is closed, unless sizes aren't wanted
abbrev pub sizes_wanted : Style → Output
sizes_wanted style = if style.quiet then gets_none else gets_lines size_of_file

-- how files are named: they are numbered from 0, as they are made
abbrev pub naming_of : Style → Naming
naming_of style = record { prefix = style.prefix; numbering = Formatted style.form; ending = style.ending }

-- how files are made
abbrev pub manner_of : Style → Manner
manner_of style = record {
  has_name = λ place. true;
  name = name_at (naming_of style);
  output = sizes_wanted style;
}

-- a kept section gets its file at once, or with its first byte if empty files are left out; a skipped section gets none
abbrev pub opening_of : Style → (kept : Bool) → Opening
opening_of style kept = if kept then (if style.elide then Late else AtOnce) else Never

-- the file that a section makes, if it makes one
abbrev pub file_in : Style → Section → List (List ℕ)
file_in style section = made_of (opening_of style section.is_kept) (bytes_of section.lines)

-- the state of a section's file: it is closed once all of the section's lines came in
abbrev pub state_in : Section → State
state_in section = if section.is_closed then Closed else Open

abbrev pub shares_in : Style → List Section → List Share
shares_in style sections = flat_map (λ section. map (share (state_in section)) (file_in style section)) sections

abbrev pub part_of : Style → List Section → Written
part_of style sections = part_by (manner_of style) (shares_in style sections)
