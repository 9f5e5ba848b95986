-- What options and operands ask of `csplit`, or what is wrong with them.
use Rattle.std.specs.{
  Prelude.{◌≡◌, ℕ, false, true, List, [], ◌∷◌, ◌++◌, codes, slice_index_or, Option, Some, None, Result, Ok, Err},
  Prelude.unwrap_or,
}
use Rattle.bre_core.specs.Fault.{number_of, offset_of}
use Rattle.operand_core.specs.{
  Fault.number_of_kind,
  Style.Style,
  Reading.{Asks, IsFault},
  declared.{operand.Operand.Operand, operand_fault.{OperandFault.OperandFault, OperandFaultKind.OperandFaultKind}},
}
pub use Rattle.ports_core.specs.Name.{decimal_form}
use Rattle.ports_core.specs.declared.{
  calling.Calling.{Calling, TheVariants.{Cutters, OwnName}},
  fault.{
    Fault.{Fault, TheVariants.{Memory, Usage}},
    UsageKind.{UsageKind, TheVariants.{MissingOperand, BadOperand, BadPattern, PatternTooLarge}},
  },
}
use Rattle.words_core.specs.{
  declared.{choice.Choice.Choice, spelled.Chosen.Chosen, csplit_words.CsplitOptions.CsplitOptions},
  declared.format.Format.Format,
  Given.{asked_by, Given, GivenOperand, places_of, texts_of},
  Format.text,
}
use Rattle.operand_core.specs.declared.operand_fault.OperandFaultKind.TheVariants as kind
use Rattle.words_core.specs.declared.choice.Choice.TheVariants as choice

-- what words ask of `csplit`
pub record CsplitAsked : Type 0 where
  -- how the program is called; that decides how patterns may be spelled
  pub calling : Calling
  -- how files are made
  pub style : Style
  -- the name of the input
  pub input : List ℕ
  -- the operands as they are spelled, and the places of their words
  pub operands : List (List ℕ)
  pub places : List ℕ

-- what is asked for without options: names begin with `xx` and have two digits, sizes are printed, empty files are
-- made, no line is left out, and no file stays after a fault
abbrev pub plain : CsplitOptions
plain = record {
  prefix = text (codes "xx");
  digits = 2;
  format = None;
  keep = false;
  quiet = false;
  elide = false;
  suppress = false;
}

-- what is asked for with one more option; the last prefix, the last number of digits and the last format decide

abbrev pub csplit_by : CsplitOptions → Choice → CsplitOptions
csplit_by asked (choice.Prefix prefix) = record asked { prefix = prefix }
csplit_by asked (choice.Width digits) = record asked { digits = digits }
csplit_by asked (choice.Format format) = record asked { format = Some format }
csplit_by asked choice.KeepFiles = record asked { keep = true }
csplit_by asked choice.Quiet = record asked { quiet = true }
csplit_by asked choice.ElideEmptyFiles = record asked { elide = true }
csplit_by asked choice.SuppressMatched = record asked { suppress = true }
csplit_by asked choice = asked

abbrev pub chosen_by : List Chosen → CsplitOptions
chosen_by options = asked_by csplit_by plain options

-- the format of names; without a format, a decimal number with this many digits at least
abbrev pub format_or : (digits : ℕ) → Option Format → Format
format_or digits format = unwrap_or format (record { before = text []; form = decimal_form digits; after = text [] })

-- how files are made, by options and the format of names
abbrev pub style_with : CsplitOptions → Format → Style
style_with asked format = record {
  prefix = asked.prefix.now ++ format.before.now;
  form = format.form;
  ending = format.after.now;
  keep = asked.keep;
  quiet = asked.quiet;
  elide = asked.elide;
  suppress = asked.suppress;
  one_past = false;
}

abbrev pub style_of : List Chosen → Style
style_of options = let asked = chosen_by options in style_with asked (format_or asked.digits asked.format)

-- the style, by how the program is called: by the own name the cut of a pattern may stand one line past the last
abbrev pub style_in : Calling → Style → Style
style_in Cutters style = style
style_in OwnName style = record style { one_past = true }

abbrev pub asked_with : Calling → Style → List ℕ → List GivenOperand → CsplitAsked
asked_with calling style input rest = record {
  calling = calling;
  style = style_in calling style;
  input = input;
  operands = texts_of rest;
  places = places_of rest;
}

-- what the operands ask for: the first is the file, and at least one more has to follow
abbrev pub asked_of : Calling → Style → List GivenOperand → Result CsplitAsked Fault
asked_of calling style [] = Err (Usage MissingOperand 0)
asked_of calling style (file ∷ []) = Err (Usage MissingOperand 0)
asked_of calling style (file ∷ operand ∷ operands) = Ok (asked_with calling style file.text (operand ∷ operands))

abbrev pub csplit_asked : Calling → Given → Result CsplitAsked Fault
csplit_asked calling given = asked_of calling (style_of given.options) given.operands

-- How a fault of operands is reported: by the number of the rule that is broken, and for a pattern also by the place in
-- it. A pattern that is too large has no such place.

abbrev pub pattern_kind : ℕ → Option ℕ → UsageKind
pattern_kind number (Some offset) = BadPattern number offset
pattern_kind number None = PatternTooLarge

abbrev pub fault_in : ℕ → OperandFaultKind → Fault
fault_in word kind.Memory = Memory
fault_in word (kind.Bre fault) = Usage (pattern_kind (number_of fault) (offset_of fault)) word
fault_in word kind = Usage (BadOperand (number_of_kind kind)) word

-- the fault that is reported, if the words of the operands stand at these places
abbrev pub operand_fault : List ℕ → OperandFault → Fault
operand_fault places fault = fault_in (slice_index_or places fault.index 0) fault.kind

-- the operands can be read
abbrev pub HasRead : CsplitAsked → Type 0
HasRead asked = (operands : List Operand) × Asks asked.calling asked.operands operands

-- the operands can't be read, and this fault reports the first that is wrong; or memory was refused
abbrev pub HasBadOperand : CsplitAsked → Fault → Type 0
HasBadOperand asked fault = (found : OperandFault) × IsFault asked.calling asked.operands found
    × (fault ≡ operand_fault asked.places found)
