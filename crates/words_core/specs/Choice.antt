-- What an option asks for, by its kind and what its value says, or what is wrong with that.
use Rattle.std.specs.Prelude.{ℕ, ◌-◌, ◌^◌, List, Some, Result, Ok, Err, ok_or}
use Rattle.seg_core.specs.Count.{count_of, digits_of}
use Rattle.ports_core.specs.declared.{
  alphabet.Alphabet.TheVariants.{Digits, Hex},
  fault.UsageKind.{UsageKind, TheVariants.BadFormat},
}
use Rattle.words_core.specs.{
  Division.division_in,
  Format.{format_in, format_seen, text},
  Value.{byte_in, counted, ending_in, followed_in, hex_in, on_broken_in, pause_in, positive_in, size_in, up_to},
  declared.choice.{Choice.Choice, Kind.Kind},
}
use Rattle.words_core.specs.declared.choice.Choice.TheVariants as choice
use Rattle.words_core.specs.declared.choice.Kind.TheVariants as kind

-- A choice with the bytes of its texts alone. Of a format the code has the texts as they are spelled, with two `%` for
-- each that a name has; here they are as names have them, with one.
abbrev pub seen : Choice → Choice
seen (choice.Ending ending) = choice.Ending (text ending.now)
seen (choice.Prefix prefix) = choice.Prefix (text prefix.now)
seen (choice.Format format) = choice.Format (format_seen format)
seen other = other

-- what a value asks for, or what is wrong with it
abbrev pub asking : {A : Type 0} → (A → Choice) → Result A UsageKind → Result Choice UsageKind
asking make (Ok value) = Ok (make value)
asking make (Err fault) = Err fault

-- what an option of this kind asks for with this value
abbrev pub choice_in : Kind → List ℕ → Result Choice UsageKind
choice_in (kind.Amount unit) value = asking (λ count. choice.Amount unit count) (counted (count_of value))
choice_in (kind.Follow calling) value = asking choice.Follow (followed_in calling value)
choice_in kind.Looks value = asking choice.Looks (positive_in (2 ^ 63 - 1) value)
choice_in kind.Pause value = asking choice.Pause (pause_in value)
choice_in kind.Process value = asking choice.Process (positive_in (2 ^ 31 - 1) value)
choice_in kind.LinesEach value = asking choice.LinesEach (size_in value)
choice_in kind.BytesEach value = asking choice.BytesEach (size_in value)
choice_in kind.LineBytesEach value = asking choice.LineBytesEach (size_in value)
choice_in kind.Divided value = asking choice.Divided (division_in value)
choice_in kind.Width value = asking choice.Width (up_to 255 (digits_of value))
choice_in kind.NumericSuffixes value =
    asking (λ from. choice.Suffixes Digits (Some from)) (up_to (2 ^ 63 - 1) (digits_of value))
choice_in kind.HexSuffixes value = asking (λ from. choice.Suffixes Hex (Some from)) (hex_in value)
choice_in kind.Separator value = asking choice.Separator (byte_in value)
choice_in kind.Ending value = asking (λ ending. choice.Ending (text ending)) (ending_in value)
choice_in kind.Prefix value = Ok (choice.Prefix (text value))
choice_in kind.Format value = asking choice.Format (ok_or (format_in value) BadFormat)
choice_in (kind.OnBroken calling) value = asking choice.OnBroken (on_broken_in calling value)
choice_in kind.NoEffect value = asking (λ _. choice.NoEffect) (up_to (2 ^ 63 - 1) (digits_of value))
