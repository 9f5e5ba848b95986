-- Definitions for the laws: which options ask for what, and the operands among words.
use Rattle.std.specs.{
  Prelude.{◌≡◌, ◌≢◌, ◌↔◌, ℕ, ◌+◌, ◌≤◌, ◌==◌, not, ◌&&◌, Bool, true, false, List, [], ◌∷◌, ◌++◌, All, length},
  Prelude.{codes, filter, Option, Some, None, Result, Ok, Err, ◌⊎◌},
  Char.is_ascii_digit,
  List.{Contains, list_all, list_any},
}
use Rattle.seg_core.specs.{
  Count.is_number,
  declared.{
    count.{Count.Count, Sign.{Sign, TheVariants.{Plain, Plus}}},
    unit.Unit.Unit as Measured,
  },
}
use Rattle.ports_core.specs.declared.{
  calling.Calling.{Calling, TheVariants.{Cutters, OwnName}},
  fault.{Fault.{Fault, TheVariants.Usage}, UsageKind.{UsageKind, TheVariants.BadFollow}},
  tool.Tool.Tool,
  form.Form.Form,
  on_broken.OnBroken.OnBroken,
}
use Rattle.operand_core.specs.Style.{Style}
use Rattle.words_core.specs.{
  declared.choice.{Choice.Choice, Kind.Kind},
  declared.settings.{Settings.{Settings, TheVariants.{Head, Tail, Split, Csplit, Tee, About}}, Topic.TheVariants.{Help, Version}},
  declared.table.{Letters.{Letters, TheVariants.OfTail}, Takes.Takes},
  declared.spelled.Chosen.Chosen,
  declared.spelling.State.{State, TheVariants.{First, Reading}},
  declared.value.Followed.{Followed, TheVariants.Descriptor},
  declared.tail_words.TailSettings.TailSettings,
  Choice.choice_in,
  CsplitWords.{style_in, style_of},
  EndsWords.{EndsAsked, ten_lines},
  SplitWords.{SplitAsked, no_options},
  Given.{Given, GivenOperand, one_option},
  Lettered.{is_lettered, is_start, is_unit},
  Refusal.word_at,
  Spelling.{after_equals, given_before, is_equals, onward, spelled, with_letters},
  Table.{OptionRow, alone, option_called, option_lettered, tail_table, tee_table},
  TailWords.unfollowed,
  TeeWords.{TeeAsked, fresh},
  Value.{follow_values, value_by, value_in, values_from},
  Words.{settings_for, settings_of},
}
use Rattle.words_core.specs.declared.choice.Choice.TheVariants as choice
use Rattle.words_core.specs.declared.table.Takes.TheVariants as takes

-- which unit is counted, and the count
abbrev pub amount_of : EndsAsked → Measured × Count
amount_of asked = (asked.unit, asked.count)

-- What a choice does: whether it gives a count, ends lines with byte 0, or says when headers are written.

abbrev pub counts : Choice → Bool
counts (choice.Amount unit count) = true
counts other = false

abbrev pub ends_with_zero : Choice → Bool
ends_with_zero choice.ZeroTerminated = true
ends_with_zero other = false

abbrev pub heads : Choice → Bool
heads (choice.Headers headers) = true
heads other = false

-- What a choice of `tail` does: whether it says what is followed, looks for names again, says how often inputs are
-- looked at, gives the pause, or names the process with which following ends.

abbrev pub says_followed : Choice → Bool
says_followed (choice.Follow followed) = true
says_followed choice.FollowNames = true
says_followed other = false

abbrev pub retries : Choice → Bool
retries choice.FollowNames = true
retries choice.Retry = true
retries other = false

abbrev pub counts_looks : Choice → Bool
counts_looks (choice.Looks looks) = true
counts_looks other = false

abbrev pub counts_pause : Choice → Bool
counts_pause (choice.Pause pause) = true
counts_pause other = false

abbrev pub names_process : Choice → Bool
names_process (choice.Process process) = true
names_process other = false

-- What a choice of `split` does: whether it gives the characters of suffixes; or, also for `csplit`, their width.

abbrev pub spells : Choice → Bool
spells (choice.Suffixes alphabet from) = true
spells other = false

abbrev pub widens : Choice → Bool
widens (choice.Width width) = true
widens other = false

-- What a choice of `split` does: whether it gives the byte that lines end with or the ending of names, leaves empty
-- files out, or writes a line for each file.

abbrev pub separates : Choice → Bool
separates (choice.Separator byte) = true
separates other = false

abbrev pub gives_ending : Choice → Bool
gives_ending (choice.Ending ending) = true
gives_ending other = false

abbrev pub elides_files : Choice → Bool
elides_files choice.ElideEmptyFiles = true
elides_files other = false

abbrev pub tells_of_files : Choice → Bool
tells_of_files choice.Verbose = true
tells_of_files other = false

-- What a choice of `csplit` does: whether it gives the prefix or the format, keeps files, or drops sizes or lines.

abbrev pub names_prefix : Choice → Bool
names_prefix (choice.Prefix prefix) = true
names_prefix other = false

abbrev pub gives_format : Choice → Bool
gives_format (choice.Format format) = true
gives_format other = false

abbrev pub keeps_files : Choice → Bool
keeps_files choice.KeepFiles = true
keeps_files other = false

abbrev pub drops_sizes : Choice → Bool
drops_sizes choice.Quiet = true
drops_sizes other = false

abbrev pub leaves_lines_out : Choice → Bool
leaves_lines_out choice.SuppressMatched = true
leaves_lines_out other = false

-- What a choice of `tee` does: whether it appends, or says what is done once an output is broken.

abbrev pub appends : Choice → Bool
appends choice.Append = true
appends other = false

abbrev pub says_on_broken : Choice → Bool
says_on_broken (choice.OnBroken on_broken) = true
says_on_broken other = false

-- whether the choice of some option passes the test
abbrev pub has : (Choice → Bool) → List Chosen → Bool
has test options = list_any (λ option. test option.choice) options

-- Of the options that pass the test, the last decides this part of what is asked, as if it stood alone. Without such an
-- option this part has its default.
pub record LastDecides {A : Type 0} (test : Choice → Bool) (part_of : List Chosen → A) (default : A) : Type 0 where
  pub last : (before after : List Chosen) (option : Chosen) → test option.choice ≡ true → has test after ≡ false
      → part_of (before ++ option ∷ after) ≡ part_of (option ∷ [])
  pub none : (options : List Chosen) → has test options ≡ false → part_of options ≡ default

-- words that are all operands; the first stands at this place
abbrev pub as_operands : ℕ → List (List ℕ) → List GivenOperand
as_operands place [] = []
as_operands place (word ∷ words) = record { text = word; word = place } ∷ as_operands (place + 1) words

-- the operands are some of these words, in their order, each with its place; the first word stands at this place
pub data AreAmong : List GivenOperand → ℕ → List (List ℕ) → Type 0 where
  none : (place : ℕ) → AreAmong [] place []
  passed : (operands : List GivenOperand) (place : ℕ) (word : List ℕ) (words : List (List ℕ))
      → AreAmong operands (place + 1) words → AreAmong operands place (word ∷ words)
  taken : (operands : List GivenOperand) (place : ℕ) (word : List ℕ) (words : List (List ℕ))
      → AreAmong operands (place + 1) words
      → AreAmong (record { text = word; word = place } ∷ operands) place (word ∷ words)

-- words that are read from this state on and begin with these give this option, and then what the others give
abbrev pub Gives : List OptionRow → State → (front : List (List ℕ)) → Choice → Type 0
Gives rows state front choice = (words : List (List ℕ)) (place : ℕ) → spelled rows (front ++ words) place state
    ≡ given_before (one_option choice place) (spelled rows words (place + length front) Reading)

-- a word such as `-qv` gives this option, and then all that the other word, such as `-v`, gives in its place
abbrev pub GivesBefore : List OptionRow → (word other : List ℕ) → Choice → Type 0
GivesBefore rows word other choice = (words : List (List ℕ)) (place : ℕ) → spelled rows (word ∷ words) place Reading
    ≡ given_before (one_option choice place) (spelled rows (other ∷ words) place Reading)

-- the letter names an option that takes a value of this kind
pub record IsLetter (rows : List OptionRow) (letter : ℕ) (kind : Kind) : Type 0 where
  pub named : option_lettered rows letter ≡ Some (takes.Value kind)
  pub no_hyphen : letter ≢ 45

-- a name after two hyphens, in full or cut short: what its option takes, or what is wrong with the name
pub record IsLong (rows : List OptionRow) (name : List ℕ) (meant : Result Takes UsageKind) : Type 0 where
  pub called : option_called rows (codes "--" ++ name) ≡ meant
  pub some : name ≢ []
  pub no_equals : list_any is_equals name ≡ false

-- the kind of a value after `=`, if the option may have such a value
abbrev pub kind_of : Takes → Option Kind
kind_of (takes.Value kind) = Some kind
kind_of (takes.Optional choice kind) = Some kind
kind_of takes = None

-- an option that takes this may have this value after `=`, and asks for this then
pub record MayHave (takes : Takes) (value : List ℕ) (choice : Choice) : Type 0 where
  pub kind : Kind
  pub taken : kind_of takes ≡ Some kind
  pub asked : choice_in kind value ≡ Ok choice

-- each two of these names mean the same, whatever words follow
abbrev pub AreAlike : List OptionRow → List (List ℕ) → Type 0
AreAlike rows names = (one other : List ℕ) (words : List (List ℕ)) (place : ℕ) → Contains names one
    → Contains names other
    → spelled rows (one ∷ words) place Reading ≡ spelled rows (other ∷ words) place Reading

-- where words are read from: by which options, at the place of the first word, and in which state
pub record Start : Type 0 where
  pub rows : List OptionRow
  pub place : ℕ
  pub state : State

abbrev pub spelled_from : Start → (words : List (List ℕ)) → Result Given Fault
spelled_from start words = spelled start.rows words start.place start.state

-- the first words have a fault, whatever follows; or they give something and leave a state, whatever follows
abbrev pub LeaveTheRest : Start → (first : List (List ℕ)) → Type 0
LeaveTheRest start first =
    ((fault : Fault) × ((more : List (List ℕ)) → spelled_from start (first ++ more) ≡ Err fault))
    ⊎ ((given : Given) × (next : State) × ((more : List (List ℕ)) → spelled_from start (first ++ more)
    ≡ given_before given (spelled start.rows more (start.place + length first) next)))

-- a tool whose first word may be a number: how the program is called, the tool's options, which kind of option has the
-- number as its value, and which letters may follow
pub record Numbered : Type 0 where
  pub calling : Calling
  pub rows : List OptionRow
  pub kind : Kind
  pub letters : Letters

-- the state before the first word of such a tool
abbrev pub first_state : Numbered → State
first_state tool = First tool.calling tool.kind tool.letters

-- no number, no number with letters, and nothing that says where `tail` begins: a byte and the rest of a first word
pub record IsOrdinary (tool : Numbered) (byte : ℕ) (rest : List ℕ) : Type 0 where
  pub no_number : is_number rest ≡ false
  pub no_letters : is_lettered tool.rows tool.letters rest ≡ false
  pub no_start : byte ≡ 43 → is_start tool.calling tool.rows tool.letters rest ≡ false

-- this first word means a number with letters, with this sign; then come the words after it
abbrev pub MeansLetters : Numbered → (word : List ℕ) → Sign → (text : List ℕ) → Type 0
MeansLetters tool word sign text = (words : List (List ℕ)) (place : ℕ)
    → spelled tool.rows (word ∷ words) place (first_state tool)
    ≡ onward (spelled tool.rows words (place + 1)) (with_letters tool.rows sign place text)

-- the letter names an option that asks for this and takes no value within a cluster of letters
pub record IsSwitch (rows : List OptionRow) (letter : ℕ) (choice : Choice) : Type 0 where
  pub takes : Takes
  pub named : option_lettered rows letter ≡ Some takes
  pub alone : alone takes ≡ Some choice
  pub no_hyphen : letter ≢ 45

-- a text is these digits, perhaps none, and then these letters
pub record IsParted (text digits letters : List ℕ) : Type 0 where
  pub whole : text ≡ digits ++ letters
  pub number : list_all is_ascii_digit digits ≡ true
  pub others : All (λ letter. is_ascii_digit letter ≡ false) letters

-- A text is these digits, perhaps none, and then these letters, of which at most one says what is counted. Each other
-- letter names an option that takes no value within a cluster.
pub record HasLetters (rows : List OptionRow) (text digits letters : List ℕ) : Type 0 where
  pub parted : IsParted text digits letters
  pub few : length (filter is_unit letters) ≤ 1
  pub known : All (λ letter. (is_unit letter ≡ true) ⊎ ((choice : Choice) × IsSwitch rows letter choice)) letters

abbrev pub IsNumberWithLetters : List OptionRow → List ℕ → Type 0
IsNumberWithLetters rows text = (digits letters : List ℕ) × HasLetters rows text digits letters

-- whether a word is an operand if options may stand in its place: it doesn't begin with a hyphen, or is only one byte
abbrev pub is_plain : List ℕ → Bool
is_plain [] = true
is_plain (byte ∷ []) = true
is_plain (byte ∷ next ∷ rest) = not (byte == 45)

-- whatever the operands and however the program is called, these options ask each tool for the same
abbrev pub AskTheSame : (one other : List Chosen) → Type 0
AskTheSame one other = (calling : Calling) (tool : Tool) (operands : List GivenOperand)
    → settings_for calling tool (record { options = one; operands = operands })
    ≡ settings_for calling tool (record { options = other; operands = operands })

-- names of files begin so, have their numbers in this form, and end so
pub record NamesFiles (style : Style) (front : List ℕ) (form : Form) (end : List ℕ) : Type 0 where
  pub begins : style.prefix ≡ front
  pub number : style.form ≡ form
  pub ends : style.ending ≡ end

-- What changes with how the program is called.

abbrev pub MeanTheSame : List (List ℕ) → Type 0
MeanTheSame words = settings_of OwnName words ≡ settings_of Cutters words

-- the settings by a tool's own name; only those of `csplit` change
abbrev pub by_own_name : Result Settings Fault → Result Settings Fault
by_own_name (Ok (Csplit asked)) = Ok (Csplit (record asked { calling = OwnName; style = style_in OwnName asked.style }))
by_own_name other = other

-- whether the first of these words of `tail` says where it begins (43 is a `+`)
abbrev pub begin_with_start : List (List ℕ) → Bool
begin_with_start ((byte ∷ text) ∷ words) = byte == 43 && is_start OwnName (tail_table OwnName) OfTail text
begin_with_start words = false

-- whether words of `tee` have no fault, and don't say what is done once an output is broken
abbrev pub say_nothing : Result Given Fault → Bool
say_nothing (Ok given) = not (has says_on_broken given.options)
say_nothing (Err fault) = false

abbrev pub leave_open : List (List ℕ) → Bool
leave_open words = say_nothing (spelled (tee_table Cutters) words 1 Reading)

-- this text is one of these values, cut short: it is none of them in full, and by a tool's own name it is taken
abbrev pub IsCutShort : {A : Type 0} → List (List ℕ × A) → List ℕ → Type 0
IsCutShort {A = A} values text = (value_in values text ≡ None) × (value : A)
    × (value_by OwnName values text ≡ Some value)

-- what stands in this word after `=` is one of these values, cut short
abbrev pub HasShortValue : {A : Type 0} → List (List ℕ × A) → List ℕ → Type 0
HasShortValue values word = (text : List ℕ) × (after_equals word ≡ Some text) × IsCutShort values text

-- `cutters` refuses these words with this fault, at some place; the word there has one of these values, cut short
abbrev pub RefusedAsShort : {A : Type 0} → List (List ℕ × A) → UsageKind → List (List ℕ) → Type 0
RefusedAsShort values kind words = (place : ℕ) × (settings_of Cutters words ≡ Err (Usage kind place))
    × HasShortValue values (word_at words place)

-- `cutters` refuses these words: they ask to follow what can't be followed, or the value of `--follow` is cut short
abbrev pub RefusedToFollow : List (List ℕ) → Type 0
RefusedToFollow words = (settings_of Cutters words ≡ Err (Usage BadFollow 0))
    ⊎ RefusedAsShort follow_values BadFollow words

-- Of these values one in full is taken exactly, however the program is called; by a tool's own name the only one that begins with
-- a text is taken by this text, and `cutters` takes no other texts than the values in full.
pub record AreCutShort {A : Type 0} (values : List (List ℕ × A)) : Type 0 where
  pub full : (calling : Calling) (text : List ℕ) (value : A) → value_in values text ≡ Some value
      → value_by calling values text ≡ Some value
  pub short : (text : List ℕ) (value : A) → value_in values text ≡ None
      → (value_by OwnName values text ≡ Some value)
      ↔ ((name : List ℕ) × (values_from values text ≡ (name, value) ∷ []))
  pub cutters : (text : List ℕ) → value_by Cutters values text ≡ value_in values text

-- What options ask for if they are given alone. `head`, `tail`, `split` and `csplit` read standard input, and `csplit`
-- has the operand `1`. A `tail` that follows, or that is given a number as its first word, and `tee` have the file `f`.

-- `--help` and `--version` after this name ask for the texts of this tool, however the program is called
abbrev pub IsTold : List ℕ → Tool → Type 0
IsTold name tool = (calling : Calling) (words : List (List ℕ))
    → (settings_of calling (name ∷ codes "--help" ∷ words) ≡ Ok (About tool Help))
    × (settings_of calling (name ∷ codes "--version" ∷ words) ≡ Ok (About tool Version))

abbrev pub ten_of_input : EndsAsked
ten_of_input = ten_lines (codes "-" ∷ [])

abbrev pub EndsAsk : List (List ℕ) → EndsAsked → Type 0
EndsAsk words asked = (calling : Calling) → (settings_of calling (codes "head" ∷ words) ≡ Ok (Head asked))
    × (settings_of calling (codes "tail" ∷ words) ≡ Ok (Tail (unfollowed asked)))

abbrev pub following : TailSettings
following = record (unfollowed (ten_lines (codes "f" ∷ []))) { followed = Some Descriptor }

abbrev pub FollowAsks : List (List ℕ) → TailSettings → Type 0
FollowAsks words asked = (calling : Calling)
    → settings_of calling (codes "tail" ∷ words ++ codes "f" ∷ []) ≡ Ok (Tail asked)

-- `tail` by its own name follows the file `f` in this way or not at all, and `cutters tail` refuses these words, the word
-- at this place
abbrev pub RefusedBut : ℕ → List (List ℕ) → Option Followed → Type 0
RefusedBut place words followed =
    (settings_of Cutters (codes "tail" ∷ words ++ codes "f" ∷ []) ≡ Err (Usage BadFollow place))
    × (settings_of OwnName (codes "tail" ∷ words ++ codes "f" ∷ [])
    ≡ Ok (Tail (record following { followed = followed })))

-- what is asked of `tail` for the file `f`: this many of its last lines or bytes, or all from this number on
abbrev pub of_file : Sign → Measured → ℕ → TailSettings
of_file sign unit amount = unfollowed (record (ten_lines (codes "f" ∷ [])) {
  unit = unit;
  count = record { sign = sign; amount = amount };
})

-- This first word asks `tail` for that, and with an `f` at its end to follow the file, too. A number does so after a
-- hyphen, however the program is called, and after a `+` if `tail` is called by its own name.

abbrev pub WordAsks : Calling → List ℕ → TailSettings → Type 0
WordAsks calling word asked = (settings_of calling (codes "tail" ∷ word ∷ codes "f" ∷ []) ≡ Ok (Tail asked))
    × (settings_of calling (codes "tail" ∷ (word ++ codes "f") ∷ codes "f" ∷ [])
    ≡ Ok (Tail (record asked { followed = Some Descriptor })))

abbrev pub StartAsks : List ℕ → Measured → ℕ → Type 0
StartAsks text unit amount = WordAsks OwnName (codes "+" ++ text) (of_file Plus unit amount)

abbrev pub NumberAsks : List ℕ → Measured → ℕ → Type 0
NumberAsks text unit amount = ((calling : Calling) → WordAsks calling (codes "-" ++ text) (of_file Plain unit amount))
    × StartAsks text unit amount

-- words of `tail`, called by its own name, ask for the last ten lines of these files
abbrev pub AreNames : (words names : List (List ℕ)) → Type 0
AreNames words names = settings_of OwnName (codes "tail" ∷ words) ≡ Ok (Tail (unfollowed (ten_lines names)))

-- files of 1,000 lines, with names that widen from two letters on
abbrev pub thousands : SplitAsked
thousands = record no_options { width = 2; auto = true }

-- files of 1,000 lines, with names of this width
abbrev pub as_wide : ℕ → SplitAsked
as_wide width = record no_options { width = width }

abbrev pub SplitAsks : List (List ℕ) → SplitAsked → Type 0
SplitAsks words asked = (calling : Calling) → settings_of calling (codes "split" ∷ words) ≡ Ok (Split asked)

abbrev pub CsplitAsks : List (List ℕ) → Style → Type 0
CsplitAsks words style = (calling : Calling)
    → settings_of calling (codes "csplit" ∷ words ++ codes "-" ∷ codes "1" ∷ []) ≡ Ok (Csplit (record {
      calling = calling;
      style = style_in calling style;
      input = codes "-";
      operands = codes "1" ∷ [];
      places = (length words + 2) ∷ [];
    }))

-- what is asked of `tee` for the file `f` without options
abbrev pub fresh_file : Calling → TeeAsked
fresh_file calling = fresh calling (codes "f" ∷ [])

abbrev pub TeeAsks : Calling → List (List ℕ) → TeeAsked → Type 0
TeeAsks calling words asked = settings_of calling (codes "tee" ∷ words ++ codes "f" ∷ []) ≡ Ok (Tee asked)

-- the words say what `tee` does once an output is broken, however it is called
abbrev pub OnBrokenAsks : List (List ℕ) → OnBroken → Type 0
OnBrokenAsks words on_broken = (calling : Calling)
    → TeeAsks calling words (record (fresh_file calling) { on_broken = on_broken })

-- how `csplit` makes files without options
abbrev pub plain_style : Style
plain_style = style_of []
