-- What a list of words asks for, by how the program was called. The first word is the tool's name, and is word 0.
use Rattle.std.specs.{
  Option.option_or,
  Prelude.{ℕ, ◌-◌, ◌^◌, Bool, false, List, [], ◌∷◌, Option, Some, None, option_map, Result, Ok, Err},
  Prelude.{◌&&◌, ◌||◌, is_some, length, nat_lt},
}
use Rattle.ports_core.specs.declared.{
  calling.Calling.{Calling, TheVariants.{Cutters, OwnName}},
  tool.Tool.Tool,
  fault.{Fault.{Fault, TheVariants.Usage}, UsageKind.TheVariants.{MissingTool, UnknownTool}},
}
use Rattle.words_core.specs.{
  declared.{
    settings.{Settings.{Settings, TheVariants.{Head, Tail, Split, Csplit, Tee, About}}, Topic.Topic},
    choice.Choice.Choice,
    spelled.Chosen.Chosen,
    table.Takes.{Takes, TheVariants.Last},
  },
  Table.{ToolRow, option_named, program_table, row_named, tools},
  Given.Given,
  Spelling.given_by,
  CsplitWords.{HasBadOperand, HasRead, csplit_asked},
  EndsWords.ends_asked,
  SplitWords.{CanSplit, split_asked},
  Value.then_check,
  TailWords.{followed_by, has_dash, tail_asked},
  TeeWords.tee_asked,
}
use Rattle.ports_core.specs.declared.tool.Tool.TheVariants as tool
use Rattle.words_core.specs.declared.choice.Choice.TheVariants as choice

-- the tool of this name
abbrev pub tool_named : List ℕ → Option Tool
tool_named name = option_map (λ row. row.tool) (row_named (tools Cutters) name)

-- what options and operands ask of a tool
abbrev pub work_for : Calling → Tool → Given → Result Settings Fault
work_for calling tool.Head given = Ok (Head (ends_asked given))
work_for calling tool.Tail given = then_check (tail_asked calling given) (λ asked. Ok (Tail asked))
work_for calling tool.Split given = then_check (split_asked given) (λ asked. Ok (Split asked))
work_for calling tool.Csplit given = then_check (csplit_asked calling given) (λ asked. Ok (Csplit asked))
work_for calling tool.Tee given = Ok (Tee (tee_asked calling given))
work_for calling tool.Cutters given = Err (Usage UnknownTool 0)

-- Help and the version. An option that asks for them is the last word that is read, and words aren't checked together.

abbrev pub topic_of : Choice → Option Topic
topic_of (choice.About topic) = Some topic
topic_of choice = None

abbrev pub topic_in : List Chosen → Option Topic
topic_in [] = None
topic_in (option ∷ options) = option_or (topic_of option.choice) (topic_in options)

abbrev pub about_or : Tool → Option Topic → Result Settings Fault → Result Settings Fault
about_or tool (Some topic) work = Ok (About tool topic)
about_or tool None work = work

abbrev pub settings_for : Calling → Tool → Given → Result Settings Fault
settings_for calling tool given = about_or tool (topic_in given.options) (work_for calling tool given)

-- A word in the place of a tool's name may ask for help or the version of the program.

abbrev pub topic_by : Option Takes → Option Topic
topic_by (Some (Last topic)) = Some topic
topic_by option = None

abbrev pub topic_named : List ℕ → Option Topic
topic_named name = topic_by (option_named program_table name)

abbrev pub program_asked : Option Topic → Result Settings Fault
program_asked topic = about_or tool.Cutters topic (Err (Usage UnknownTool 0))

-- what the words after a tool's name ask for; a fault of a single word is reported before a fault of the words together
abbrev pub tool_settings : Calling → List ℕ → List (List ℕ) → Option ToolRow → Result Settings Fault
tool_settings calling name words None = program_asked (topic_named name)
tool_settings calling name words (Some row) = then_check (given_by calling row words) (settings_for calling row.tool)

-- what the words ask for, or what is wrong with them
abbrev pub settings_of : Calling → List (List ℕ) → Result Settings Fault
settings_of calling [] = Err (Usage MissingTool 0)
settings_of calling (name ∷ words) = tool_settings calling name words (row_named (tools calling) name)

-- Whether inputs are followed, where `fed` says whether standard input is a file that can be watched. Where there are
-- several, and it is one of them and can't be followed, the words are refused for that.
abbrev pub follows : Calling → (fed : Bool) → Settings → Bool
follows calling fed (Tail asked) =
    is_some asked.followed && (nat_lt 1 (length asked.ends.names) || is_some (followed_by calling fed asked))
follows calling fed settings = false

-- whether it matters if standard input is a file that can be watched
abbrev pub asks_input : Calling → Settings → Bool
asks_input OwnName (Tail asked) = is_some asked.followed && has_dash asked.ends.names
asks_input calling settings = false

-- how often inputs are looked at where they are followed
abbrev pub looks : Settings → ℕ
looks (Tail asked) = asked.looks
looks settings = 2 ^ 63 - 1

-- the settings have operands that can't be read, and this fault reports it; only `csplit` has such operands
abbrev pub HasBadOperands : Settings → Fault → Type 0
HasBadOperands (Csplit asked) fault = HasBadOperand asked fault
HasBadOperands settings fault = ⊥

-- the settings have no operands that can't be read
abbrev pub HasOperands : Settings → Type 0
HasOperands (Csplit asked) = HasRead asked
HasOperands settings = Unit {0}

-- what the settings ask for can be done
abbrev pub CanRun : Settings → Type 0
CanRun (Split asked) = CanSplit asked
CanRun settings = Unit {0}
