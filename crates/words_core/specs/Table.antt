-- The tools and their options, as their manuals list them: POSIX.1-2017, XCU head, tail, split, csplit and tee; GNU
-- coreutils manual, for `-q`, `-v`, `-z`, the `-c` of `head`, the `-C`, `-n`, `-d`, `-x`, `-e`, `-t` and
-- `--additional-suffix`, `-u` and `--verbose` of `split`, the `-b` and `--suppress-matched` of `csplit`, the `-F`, `--follow`, `--retry`,
-- `-s`, `--pid` and `--max-unchanged-stats` of `tail`, the `-p` and `--output-error` of `tee`, and the long names;
-- `--looks` is of these tools alone.
use Rattle.std.specs.{
  Prelude.{ℕ, Bool, List, [], ◌∷◌, ◌++◌, map, filter, find, codes, Option, Some, None, option_map, Result, Ok, Err},
  Prelude.{if◌then◌else◌, eqb, bytes_eq, nat_lt},
  List.{list_any, starts_with},
  Option.option_map_or,
}
use Prim.Native.String.{String}
use Rattle.ports_core.specs.declared.{
  calling.Calling.Calling,
  fault.UsageKind.{UsageKind, TheVariants.{UnknownOption, AmbiguousOption}},
  tool.Tool.{Tool, TheVariants.{Head, Tail, Split, Csplit, Tee}},
  alphabet.Alphabet.TheVariants.{Digits as Decimal, Hex as Hexadecimal},
  on_broken.OnBroken.TheVariants.WarnNoPipe,
}
use Rattle.seg_core.specs.declared.unit.Unit.TheVariants.{Lines, Bytes}
use Rattle.words_core.specs.declared.{
  choice.Choice.Choice,
  choice.Kind.Kind,
  choice.Kind.TheVariants.{Amount, Follow, Looks, Pause, Process, LinesEach, BytesEach, LineBytesEach, Divided},
  choice.Kind.TheVariants.{Width, NumericSuffixes, HexSuffixes, Separator, Ending, Prefix, Format, OnBroken},
  choice.Kind.TheVariants.NoEffect,
  settings.{Headers.TheVariants.{Never, Always}, Topic.TheVariants.{Help, Version}},
  value.Followed.TheVariants.Descriptor,
  table.Letters.{Letters, TheVariants.{Never as NoLetters, OfHead, OfTail}},
  table.OptionRow.OptionRow as WrittenOption,
  table.Takes.{Takes, TheVariants.{Nothing, Value, Optional, Last}},
  table.ToolRow.ToolRow as WrittenTool,
}
use Rattle.words_core.specs.declared.choice.Choice.TheVariants as asks

-- an option: its names as they are written, whether it takes a value, and what it asks for; and for help what its value
-- is called and what it does
pub record OptionRow : Type 0 where
  pub names : List (List ℕ)
  pub takes : Takes
  pub value : List ℕ
  pub does : List ℕ

-- a tool: its name, its options, the option whose value a first word of a hyphen and digits gives, and the letters that
-- may follow these; and for help what its operands are called and what it does
pub record ToolRow : Type 0 where
  pub name : List ℕ
  pub tool : Tool
  pub options : List OptionRow
  pub number : Option (Kind × Letters)
  pub operands : List ℕ
  pub does : List ℕ

-- The table of the manuals. `choice_in` says what each kind of value means.

-- the row of an option, and the row of a tool: their fields in the order of the record, with texts written as strings

abbrev pub option : (names : List String) → Takes → (value does : String) → OptionRow
option names takes value does =
    record { names = map codes names; takes = takes; value = codes value; does = codes does }

abbrev pub tool_row : (name : String) → Tool → List OptionRow → (number : Option (Kind × Letters))
    → (operands does : String) → ToolRow
tool_row name tool options number operands does = record {
  name = codes name;
  tool = tool;
  options = options;
  number = number;
  operands = codes operands;
  does = codes does;
}

-- the last options of each tool: they ask for a text, and nothing else
abbrev pub about_rows : List OptionRow
about_rows =
    option ("--help" ∷ []) (Last Help) "" "write help, and do nothing else"
    ∷ option ("--version" ∷ []) (Last Version) "" "write the version, and do nothing else" ∷ []

-- what stands in the place of a tool's name, and asks for a text of the program
unfoldable pub program_table : List OptionRow
program_table = about_rows

-- further options of `head` and `tail`
abbrev pub ends_rows : List OptionRow
ends_rows =
    option ("-q" ∷ "--quiet" ∷ "--silent" ∷ []) (Nothing (asks.Headers Never)) "" "write no headers"
    ∷ option ("-v" ∷ "--verbose" ∷ []) (Nothing (asks.Headers Always)) "" "write a header before each file"
    ∷ option ("-z" ∷ "--zero-terminated" ∷ []) (Nothing asks.ZeroTerminated) ""
    "lines end with byte 0, not with a newline" ∷ []

-- the options of `head`
abbrev pub head_table : List OptionRow
head_table =
    option ("-n" ∷ "--lines" ∷ []) (Value (Amount Lines)) "COUNT" "write COUNT lines; with - all but the last COUNT"
    ∷ option ("-c" ∷ "--bytes" ∷ []) (Value (Amount Bytes)) "COUNT" "write COUNT bytes; with - all but the last COUNT"
    ∷ ends_rows ++ about_rows

-- the options of `tail`: those of `head`, and how files are followed
abbrev pub tail_table : Calling → List OptionRow
tail_table calling =
    option ("-n" ∷ "--lines" ∷ []) (Value (Amount Lines)) "COUNT" "write COUNT lines; with + all from line COUNT on"
    ∷ option ("-c" ∷ "--bytes" ∷ []) (Value (Amount Bytes)) "COUNT" "write COUNT bytes; with + all from byte COUNT on"
    ∷ ends_rows
    ++ option ("-f" ∷ "--follow" ∷ []) (Optional (asks.Follow Descriptor) (Follow calling)) "HOW"
    "follow what is appended, by descriptor or name"
    ∷ option ("-F" ∷ []) (Nothing asks.FollowNames) "" "the same as --follow=name --retry"
    ∷ option ("--retry" ∷ []) (Nothing asks.Retry) "" "with --follow=name, wait for missing names"
    ∷ option ("--looks" ∷ []) (Value Looks) "NUMBER" "end after NUMBER checks of what is followed"
    ∷ option ("-s" ∷ "--sleep-interval" ∷ []) (Value Pause) "SECONDS" "check what is followed within this time"
    ∷ option ("--pid" ∷ []) (Value Process) "PID" "end once the process PID is gone"
    ∷ option ("--max-unchanged-stats" ∷ []) (Value NoEffect) "NUMBER" "taken without effect"
    ∷ about_rows

-- the options of `split`
abbrev pub split_table : List OptionRow
split_table =
    option ("-l" ∷ "--lines" ∷ []) (Value LinesEach) "LINES" "put this many lines in each file"
    ∷ option ("-b" ∷ "--bytes" ∷ []) (Value BytesEach) "BYTES" "put this many bytes in each file"
    ∷ option ("-C" ∷ "--line-bytes" ∷ []) (Value LineBytesEach) "BYTES" "put whole lines of at most BYTES in each file"
    ∷ option ("-n" ∷ "--number" ∷ []) (Value Divided) "CHUNKS" "into N files: N, l/N, r/N; the Kth alone: K/N"
    ∷ option ("-a" ∷ "--suffix-length" ∷ []) (Value Width) "WIDTH" "names have WIDTH characters after the prefix"
    ∷ option ("-d" ∷ "--numeric-suffixes" ∷ []) (Optional (asks.Suffixes Decimal None) NumericSuffixes) "FROM"
    "digits in names, not letters, from FROM on"
    ∷ option ("-x" ∷ "--hex-suffixes" ∷ []) (Optional (asks.Suffixes Hexadecimal None) HexSuffixes) "FROM"
    "hexadecimal digits in names, from FROM on"
    ∷ option ("-e" ∷ "--elide-empty-files" ∷ []) (Nothing asks.ElideEmptyFiles) "" "with -n, make no empty files"
    ∷ option ("-t" ∷ "--separator" ∷ []) (Value Separator) "BYTE" "lines end with BYTE, not with a newline"
    ∷ option ("--additional-suffix" ∷ []) (Value Ending) "TEXT" "names end with TEXT"
    ∷ option ("-u" ∷ "--unbuffered" ∷ []) (Nothing asks.NoEffect) "" "taken without effect"
    ∷ option ("--verbose" ∷ []) (Nothing asks.Verbose) "" "write each name before its file is opened"
    ∷ about_rows

-- the options of `csplit`
abbrev pub csplit_table : List OptionRow
csplit_table =
    option ("-f" ∷ "--prefix" ∷ []) (Value Prefix) "PREFIX" "names begin with PREFIX, not with xx"
    ∷ option ("-n" ∷ "--digits" ∷ []) (Value Width) "DIGITS" "numbers in names have this many digits, not 2"
    ∷ option ("-b" ∷ "--suffix-format" ∷ []) (Value Format) "FORMAT" "write numbers as printf does, as in %03d.txt"
    ∷ option ("-k" ∷ "--keep-files" ∷ []) (Nothing asks.KeepFiles) "" "keep files after a fault"
    ∷ option ("-s" ∷ "-q" ∷ "--quiet" ∷ "--silent" ∷ []) (Nothing asks.Quiet) "" "write no sizes"
    ∷ option ("-z" ∷ "--elide-empty-files" ∷ []) (Nothing asks.ElideEmptyFiles) "" "make no empty files"
    ∷ option ("--suppress-matched" ∷ []) (Nothing asks.SuppressMatched) "" "leave out the line at each cut"
    ∷ about_rows

-- the options of `tee`
abbrev pub tee_table : Calling → List OptionRow
tee_table calling =
    option ("-a" ∷ "--append" ∷ []) (Nothing asks.Append) "" "append to the files"
    ∷ option ("-p" ∷ "--output-error" ∷ []) (Optional (asks.OnBroken WarnNoPipe) (OnBroken calling)) "MODE"
    "go on (warn) or exit once an output is broken"
    ∷ about_rows

-- The tools. A hyphen and digits as the first word count lines for `head`, `tail` and `split`; for `head` and `tail`
-- letters may follow the digits.
unfoldable pub tools : Calling → List ToolRow
tools calling =
    tool_row "head" Head head_table (Some (Amount Lines, OfHead)) "[FILE]..." "writes the first lines or bytes of files"
    ∷ tool_row "tail" Tail (tail_table calling) (Some (Amount Lines, OfTail)) "[FILE]..."
    "writes the last lines or bytes, follows files"
    ∷ tool_row "split" Split split_table (Some (LinesEach, NoLetters)) "[FILE [PREFIX]]" "cuts a file into pieces"
    ∷ tool_row "csplit" Csplit csplit_table None "FILE OPERAND..." "cuts a file at patterns and line numbers"
    ∷ tool_row "tee" Tee (tee_table calling) None "[FILE]..." "copies its input to standard output and files"
    ∷ []

-- a row of the table that the code walks, as one of these

abbrev pub row_seen : WrittenOption → OptionRow
row_seen row = record {
  names = map (λ name. name.now) row.names.now;
  takes = row.takes;
  value = row.value.now;
  does = row.does.now;
}

abbrev pub tool_seen : WrittenTool → ToolRow
tool_seen row = record {
  name = row.name.now;
  tool = row.tool;
  options = map row_seen row.options.now;
  number = row.number;
  operands = row.operands.now;
  does = row.does.now;
}

-- the tool of this name in a table
abbrev pub row_named : List ToolRow → (name : List ℕ) → Option ToolRow
row_named rows name = find (λ row. bytes_eq row.name name) rows

abbrev pub is_among : (names : List (List ℕ)) → (name : List ℕ) → Bool
is_among names name = list_any (λ known. bytes_eq known name) names

-- what the option of this name in a tool's table takes and asks for
abbrev pub option_named : List OptionRow → (name : List ℕ) → Option Takes
option_named rows name = option_map (λ row. row.takes) (find (λ row. is_among row.names name) rows)

-- the option of this letter; letters are ASCII, and 45 is a hyphen
abbrev pub option_lettered : List OptionRow → (letter : ℕ) → Option Takes
option_lettered rows letter = if nat_lt letter 128 then option_named rows (45 ∷ letter ∷ []) else None

-- what an option asks for that may stand without a value, among letters too
abbrev pub alone : Takes → Option Choice
alone (Nothing choice) = Some choice
alone (Optional choice kind) = Some choice
alone takes = None

-- A long name may be cut short, where all names that begin so are names of one option.

-- whether one of these names begins so
abbrev pub begins_one : (names : List (List ℕ)) → (start : List ℕ) → Bool
begins_one names start = list_any (λ name. starts_with eqb name start) names

-- the options of which a name begins so
abbrev pub beginning : List OptionRow → (start : List ℕ) → List OptionRow
beginning rows start = filter (λ row. begins_one row.names start) rows

-- the only one of these options
abbrev pub only_one : List OptionRow → Result Takes UsageKind
only_one [] = Err UnknownOption
only_one (row ∷ []) = Ok row.takes
only_one (row ∷ other ∷ rows) = Err AmbiguousOption

-- the option of this long name in full, or else the only one of which a name begins so
abbrev pub option_called : List OptionRow → (name : List ℕ) → Result Takes UsageKind
option_called rows name = option_map_or Ok (option_named rows name) (only_one (beginning rows name))
