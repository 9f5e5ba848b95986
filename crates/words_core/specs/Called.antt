-- With which words a program was started, and how it was called.
use Rattle.std.specs.{
  Prelude.{◌≡◌, ℕ, ◌+◌, ◌<◌, ◌==◌, ◌||◌, Bool, true, false, List, [], ◌∷◌, ◌++◌, map, take, length, Option, Some, None},
  Prelude.{Result, Ok, Err, if◌then◌else◌, ⊤},
  List.prefix_len,
  Str.{is_utf8, Lossy.utf8_lossy},
  declared.env.FillError.{FillError, TheVariants.{NotPresent, TooLong}},
}
use Rattle.ports_core.specs.{
  Text.tool_name,
  declared.{calling.Calling.{Calling, TheVariants.{Cutters, OwnName}}, tool.Tool.{Tool, TheVariants.Csplit}},
}
use Rattle.words_core.specs.{
  declared.args.ArgsFault.{ArgsFault, TheVariants.{Memory, NotUtf8}},
  Words.{tool_named},
}

-- Which tool a program's own name calls: the tool whose name is the last part of it. A `-` at the front of this part
-- doesn't count: it says that a shell is a login shell.

-- whether a `/` is among these bytes
abbrev pub has_slash : List ℕ → Bool
has_slash [] = false
has_slash (byte ∷ rest) = byte == 47 || has_slash rest

-- what follows the last `/` of a path, or all of it without a `/`
abbrev pub last_part : List ℕ → List ℕ
last_part [] = []
last_part (byte ∷ rest) = if has_slash (byte ∷ rest) then last_part rest else byte ∷ rest

abbrev pub without_hyphen : List ℕ → List ℕ
without_hyphen [] = []
without_hyphen (byte ∷ rest) = if byte == 45 then rest else byte ∷ rest

abbrev pub tool_called : List ℕ → Option Tool
tool_called name = tool_named (without_hyphen (last_part name))

-- how the program is called if its own name calls this tool or none, and the words that come before its arguments

abbrev pub called_by : Option Tool → Calling
called_by (Some tool) = OwnName
called_by None = Cutters

abbrev pub words_called : Option Tool → List (List ℕ)
words_called (Some tool) = tool_name tool ∷ []
words_called None = []

-- How an argument is read as a word. Words are UTF-8. If the own name calls a tool other than `csplit`, an argument
-- that isn't UTF-8 is read as its text and then a byte 0, and no file can have this name.

-- an argument, if it is UTF-8; otherwise its text, with U+FFFD for each part that isn't UTF-8, and then a byte 0
abbrev pub text_of : List ℕ → List ℕ
text_of argument = if is_utf8 argument then argument else utf8_lossy argument ++ 0 ∷ []

-- whether this tool, called by its own name, reads any argument
abbrev pub reads_any : Option Tool → Bool
reads_any None = false
reads_any (Some Csplit) = false
reads_any (Some tool) = true

abbrev pub word_of : Option Tool → List ℕ → List ℕ
word_of tool argument = if reads_any tool then text_of argument else argument

-- What a program was started with. The first argument is its own name. The words are the other arguments; if the own
-- name calls a tool, the name of this tool stands before them.

abbrev pub calling_of : List (List ℕ) → Calling
calling_of [] = Cutters
calling_of (name ∷ arguments) = called_by (tool_called name)

abbrev pub words_of : List (List ℕ) → List (List ℕ)
words_of [] = []
words_of (name ∷ arguments) = words_called (tool_called name) ++ map (word_of (tool_called name)) arguments

-- the arguments from a place on may be these: each may be given at its place, and there may be none after the last
abbrev pub AreGiven : (ℕ → Option (List ℕ) → Type 0) → ℕ → List (List ℕ) → Type 0
AreGiven gives place [] = gives place None
AreGiven gives place (argument ∷ arguments) = gives place (Some argument) × AreGiven gives (place + 1) arguments

-- what a call says about an argument may be so: its length, and the buffer begins with it; or that there is none
abbrev pub Tells : (Option (List ℕ) → Type 0) → List ℕ → Result ℕ FillError → Type 0
Tells gives buffer (Ok len) = gives (Some (take len buffer))
Tells gives buffer (Err NotPresent) = gives None
Tells gives buffer (Err TooLong) = ⊤

-- arguments that may be given call the program in this way, with these words
pub record IsCalled (gives : ℕ → Option (List ℕ) → Type 0) (calling : Calling) (words : List (List ℕ)) : Type 0 where
  pub arguments : List (List ℕ)
  pub given : AreGiven gives 0 arguments
  pub called : calling ≡ calling_of arguments
  pub read : words ≡ words_of arguments

-- Why a program's words can't be read. An argument that is read as its text is no reason: its word is UTF-8.

-- the arguments from a place on may begin with these
abbrev pub MayBegin : (ℕ → Option (List ℕ) → Type 0) → ℕ → List (List ℕ) → Type 0
MayBegin gives place [] = ⊤
MayBegin gives place (argument ∷ arguments) = gives place (Some argument) × MayBegin gives (place + 1) arguments

-- the first of these words that isn't UTF-8 is the one at this place
abbrev pub IsFirstInvalid : List (List ℕ) → ℕ → Type 0
IsFirstInvalid words place = (prefix_len is_utf8 words ≡ place) × (place < length words)

-- memory was refused, or a word isn't UTF-8, and this is true of its place
abbrev pub IfNotUtf8 : (ℕ → Type 0) → ArgsFault → Type 0
IfNotUtf8 Holds Memory = ⊤
IfNotUtf8 Holds (NotUtf8 place) = Holds place

-- the arguments may begin so that the first word that isn't UTF-8 is the one at this place
abbrev pub IsUnreadable : (ℕ → Option (List ℕ) → Type 0) → ℕ → Type 0
IsUnreadable gives place = (arguments : List (List ℕ)) × MayBegin gives 0 arguments
    × IsFirstInvalid (words_of arguments) place
