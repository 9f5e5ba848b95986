-- What options and operands ask of `split`, or what is wrong with them.
use Rattle.std.specs.{
  Prelude.{ℕ, zero, suc, ◌+◌, ◌==◌, ◌≤◌, ◌<◌, nat_le, Bool, true, false, List, [], ◌∷◌, filter, codes, is_some},
  Prelude.{Option, Some, None, Result, Ok, Err, if◌then◌else◌},
  Option.unwrap_or,
}
use Rattle.ports_core.specs.{
  Name.name_count,
  declared.{
    alphabet.Alphabet.{Alphabet, TheVariants.Letters},
    fault.{Fault.{Fault, TheVariants.Usage}, UsageKind.TheVariants.{TwoWays, SuffixTooShort, ExtraOperand}},
  },
}
use Rattle.seg_core.specs.{
  Cut.most,
  declared.cut.{
    Cut.TheVariants.{Parts, Round},
    Limit.TheVariants.{Lines, Bytes, LineBytes},
    Way.{Way, TheVariants.{Cut, Chunk, Chunks, Turn}},
  },
}
use Rattle.words_core.specs.{
  declared.{choice.Choice.Choice, split_words.Suffix.Suffix, spelled.Chosen.Chosen},
  Division.way_of_division,
  Value.then_check,
  Given.{asked_by, Given, GivenOperand},
}
use Rattle.words_core.specs.declared.choice.Choice.TheVariants as choice

-- what words ask of `split`
pub record SplitAsked : Type 0 where
  pub way : Way
  pub alphabet : Alphabet
  -- how many characters a suffix has; with `auto` suffixes widen, and this is the first width
  pub width : ℕ
  pub auto : Bool
  -- the number of the first file, if an option gives it; suffixes don't widen then
  pub from : Option ℕ
  pub elide : Bool
  -- whether standard output gets a line for each file, before the file is opened
  pub verbose : Bool
  -- the name of the input, and what the names of the files begin with
  pub input : List ℕ
  pub prefix : List ℕ
  -- what the names of the files end with
  pub ending : List ℕ

-- the way to split without an option for it: files of 1,000 lines
abbrev pub thousand_lines : ℕ → Way
thousand_lines delim = Cut (Parts (Lines 1000 delim))

-- what is asked for without words: files of 1,000 lines that end with the newline, and suffixes of letters, no width
abbrev pub no_options : SplitAsked
no_options = record {
  way = thousand_lines 10;
  alphabet = Letters;
  width = 0;
  auto = false;
  from = None;
  elide = false;
  verbose = false;
  input = codes "-";
  prefix = codes "x";
  ending = [];
}

-- What is asked for with one more option. The last option for the alphabet decides, also about the number of the first
-- file. The last width and the last ending of names decide, too.
abbrev pub split_by : SplitAsked → Choice → SplitAsked
split_by asked (choice.Width width) = record asked { width = width }
split_by asked (choice.Suffixes alphabet from) = record asked { alphabet = alphabet; from = from }
split_by asked choice.ElideEmptyFiles = record asked { elide = true }
split_by asked choice.Verbose = record asked { verbose = true }
split_by asked (choice.Ending ending) = record asked { ending = ending.now }
split_by asked choice = asked

-- what options ask for, except the way to split
abbrev pub split_of : List Chosen → SplitAsked
split_of options = asked_by split_by no_options options

-- the byte that lines end with: the byte of the last separator, or the newline

abbrev pub delim_by : ℕ → Choice → ℕ
delim_by delim (choice.Separator byte) = byte
delim_by delim choice = delim

abbrev pub separator_in : List Chosen → ℕ
separator_in options = asked_by delim_by 10 options

-- the way to split that an option gives, if it gives any, for lines that end with this byte

abbrev pub way_in : ℕ → Choice → Option Way
way_in delim (choice.LinesEach size) = Some (Cut (Parts (Lines size delim)))
way_in delim (choice.BytesEach size) = Some (Cut (Parts (Bytes size)))
way_in delim (choice.LineBytesEach size) = Some (Cut (Parts (LineBytes size delim)))
way_in delim (choice.Divided division) = Some (way_of_division delim division)
way_in delim choice = None

-- whether an option gives a way to split; that doesn't depend on the byte of line ends, and 10 stands for any
abbrev pub is_way : Chosen → Bool
is_way option = is_some (way_in 10 option.choice)

-- The way that options give. A second way is refused, and reported at its word. Without a way files have 1,000 lines.

abbrev pub only_way : ℕ → List Chosen → Result Way Fault
only_way delim [] = Ok (thousand_lines delim)
only_way delim (way ∷ []) = Ok (unwrap_or (way_in delim way.choice) (thousand_lines delim))
only_way delim (way ∷ second ∷ more) = Err (Usage TwoWays second.word)

abbrev pub way_of : List Chosen → Result Way Fault
way_of options = only_way (separator_in options) (filter is_way options)

-- The suffixes. A width of 0 stands for none. With a width all suffixes have it. Without a width suffixes widen from 2
-- characters on, if files come one after another and no option gives the number of the first file. Otherwise they never
-- widen. If the number of files is known, the width must be enough for the numbers of all files; without a width it is
-- the least from 2 on that is enough. If files come one after another and the number of the first is given, the width
-- must be enough for this number; without a width it is 2. If no file is made, any width is enough.

abbrev pub fixed : ℕ → Suffix
fixed width = record { width = width; auto = false }

abbrev pub free : ℕ → Suffix
free width = if width == 0 then (record { width = 2; auto = true }) else fixed width

-- the number of the first file
abbrev pub first_number : Option ℕ → ℕ
first_number from = unwrap_or from 0

-- whether suffixes of this width write this many numbers, from 0 on
abbrev pub names_all : Alphabet → (count width : ℕ) → Bool
names_all alphabet count width = nat_le count (name_count alphabet width)

-- the least width that writes this many numbers, from the last argument on, and after at most `more` steps
abbrev pub least_from : Alphabet → (count more width : ℕ) → ℕ
least_from alphabet count zero width = width
least_from alphabet count (suc more) width =
    if names_all alphabet count width then width else least_from alphabet count more (width + 1)

-- the least width from 2 on that writes this many numbers, of which there are at most 2^63 + 65,535: 23 is enough
unfoldable pub least_width : Alphabet → ℕ → ℕ
least_width alphabet count = least_from alphabet count 21 2

-- suffixes of this width, or a fault if they don't write this many numbers
abbrev pub wide_enough : Alphabet → (count width : ℕ) → Result Suffix Fault
wide_enough alphabet count width =
    if names_all alphabet count width then Ok (fixed width) else Err (Usage SuffixTooShort 0)

abbrev pub for_all : Alphabet → (count width : ℕ) → Result Suffix Fault
for_all alphabet count width =
    if width == 0 then Ok (fixed (least_width alphabet count)) else wide_enough alphabet count width

abbrev pub or_two : ℕ → ℕ
or_two width = if width == 0 then 2 else width

abbrev pub suffix_for : Way → Alphabet → (from : Option ℕ) → (width : ℕ) → Result Suffix Fault
suffix_for (Cut (Round files delim)) alphabet from width = for_all alphabet (first_number from + files) width
suffix_for (Cut (Parts limit)) alphabet (Some from) width = wide_enough alphabet (from + 1) (or_two width)
suffix_for (Cut (Parts limit)) alphabet None width = Ok (free width)
suffix_for (Chunks chunks) alphabet from width = for_all alphabet (first_number from + chunks.count) width
suffix_for (Chunk place chunks) alphabet from width = Ok (fixed (or_two width))
suffix_for (Turn place files delim) alphabet from width = Ok (fixed (or_two width))

-- the operands: the name of the input, and what the names of files begin with
abbrev pub files_in : List GivenOperand → Result (List ℕ × List ℕ) Fault
files_in [] = Ok (codes "-", codes "x")
files_in (input ∷ []) = Ok (input.text, codes "x")
files_in (input ∷ prefix ∷ []) = Ok (input.text, prefix.text)
files_in (input ∷ prefix ∷ extra ∷ more) = Err (Usage ExtraOperand extra.word)

-- what the words ask for; the ways to split are checked first, then the suffixes, then the operands
abbrev pub split_asked : Given → Result SplitAsked Fault
split_asked given =
    let asked = split_of given.options in
    then_check (way_of given.options) (λ way.
    then_check (suffix_for way asked.alphabet asked.from asked.width) (λ suffix.
    then_check (files_in given.operands) (λ files.
    Ok (record asked { way = way; width = suffix.width; auto = suffix.auto; input = files.0; prefix = files.1 }))))

-- The limits. A part has at least one line or byte. An input is divided among 1 to 65,535 files. A suffix has 1 to 255
-- characters.

abbrev pub AreFew : ℕ → Type 0
AreFew files = (1 ≤ files) × (files ≤ 65535)

abbrev pub IsInLimits : Way → Type 0
IsInLimits (Cut (Parts limit)) = 1 ≤ most limit
IsInLimits (Cut (Round files delim)) = AreFew files
IsInLimits (Chunks chunks) = AreFew chunks.count
IsInLimits (Chunk place chunks) = AreFew chunks.count × (place < chunks.count)
IsInLimits (Turn place files delim) = AreFew files × (place < files)

abbrev pub IsWidth : ℕ → Type 0
IsWidth width = (1 ≤ width) × (width ≤ 255)

-- How many numbers, from 0 on, a width must write, if the first file has this number. If the number of files is known,
-- all files have names. If files come one after another, at least the first has a name.
abbrev pub numbers_needed : Way → (first : ℕ) → ℕ
numbers_needed (Cut (Parts limit)) first = first + 1
numbers_needed (Cut (Round files delim)) first = first + files
numbers_needed (Chunks chunks) first = first + chunks.count
numbers_needed (Chunk place chunks) first = 0
numbers_needed (Turn place files delim) first = 0

abbrev pub AreNamed : Way → Alphabet → (from : Option ℕ) → (width : ℕ) → Type 0
AreNamed way alphabet from width = numbers_needed way (first_number from) ≤ name_count alphabet width

-- what can be asked of `split`: words that ask for anything else are refused
pub record CanSplit (asked : SplitAsked) : Type 0 where
  pub way : IsInLimits asked.way
  pub width : IsWidth asked.width
  pub named : AreNamed asked.way asked.alphabet asked.from asked.width
