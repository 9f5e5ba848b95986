-- The texts of help and of the version. A line of help has at most 80 characters. For an option or a tool it has two
-- blanks, what is typed, and from column 33 on what that does.
use Rattle.std.specs.{Prelude.{ℕ, List, [], ◌∷◌, ◌++◌, codes, drop, flat_map, length}, Option.option_map_or}
use Rattle.ports_core.specs.{Text.tool_name, declared.tool.Tool.{Tool, TheVariants.Cutters}}
use Rattle.words_core.specs.{
  declared.{settings.Topic.{Topic, TheVariants.{Help, Version}}, table.Takes.Takes},
  Table.{OptionRow, ToolRow, program_table, row_named, tools},
}
use Rattle.ports_core.specs.declared.calling.Calling.TheVariants as calling
use Rattle.words_core.specs.declared.table.Takes.TheVariants as takes

-- what is typed, filled with blanks to 30 characters
abbrev pub filled : List ℕ → List ℕ
filled typed = typed ++ drop (length typed) (codes "                              ")

abbrev pub line : (typed does : List ℕ) → List ℕ
line typed does = codes "  " ++ filled typed ++ does ++ codes "\n"

-- the names of an option, with a comma and a blank between them
abbrev pub listed : (before : List ℕ) → (names : List (List ℕ)) → List ℕ
listed before [] = []
listed before (name ∷ names) = before ++ name ++ listed (codes ", ") names

abbrev pub value_listed : Takes → List ℕ → List ℕ
value_listed (takes.Value kind) value = codes "=" ++ value
value_listed (takes.Optional choice kind) value = codes "[=" ++ value ++ codes "]"
value_listed other value = []

abbrev pub option_line : OptionRow → List ℕ
option_line row = line (listed [] row.names ++ value_listed row.takes row.value) row.does

abbrev pub tool_line : ToolRow → List ℕ
tool_line row = line row.name row.does

-- the help of a tool, by its row, and of the program

abbrev pub tool_help : ToolRow → List ℕ
tool_help row =
    codes "Usage: cutters " ++ row.name ++ codes " [OPTION]... " ++ row.operands ++ codes "\n" ++ row.name ++ codes " "
    ++ row.does ++ codes ".\n\n" ++ flat_map option_line row.options ++ codes "\nThe manual: man cutters-" ++ row.name
    ++ codes "\n"

abbrev pub program_help : List ℕ
program_help =
    codes "Usage: cutters TOOL [OPTION]... [OPERAND]...\ncutters is these tools in one program.\n\n"
    ++ flat_map tool_line (tools calling.Cutters) ++ flat_map option_line program_table
    ++ codes "\nThe manual: man cutters\n"

abbrev pub help_of : Tool → List ℕ
help_of tool = option_map_or tool_help (row_named (tools calling.Cutters) (tool_name tool)) program_help

-- the text of the version

abbrev pub after_name : Tool → List ℕ
after_name Cutters = codes " "
after_name tool = codes " (cutters) "

abbrev pub version_of : Tool → List ℕ
version_of tool = tool_name tool ++ after_name tool ++ codes "1.1.0" ++ codes "\n"

abbrev pub text_about : Tool → Topic → List ℕ
text_about tool Help = help_of tool
text_about tool Version = version_of tool
