-- What the words after a tool's name spell: options with their values, and operands. What a word means depends on the
-- state after the words before it. 43 is a `+`, 45 a hyphen, 61 `=`.
use Rattle.std.specs.{
  Prelude.{◌≡◌, ℕ, ◌+◌, ◌==◌, ◌&&◌, Bool, List, [], ◌∷◌, length, ◌⊎◌, Option, Some, None, Result, Ok, Err},
  Prelude.if◌then◌else◌,
  List.{before_first, after_first, position_or_len},
}
use Rattle.seg_core.specs.{
  Count.{after_digits, is_number, leading_digits},
  declared.{count.{Count.Count, Sign.{Sign, TheVariants.{Plain, Plus}}}, unit.Unit.Unit as Measured},
}
use Rattle.ports_core.specs.declared.{
  calling.Calling.Calling,
  fault.{
    Fault.{Fault, TheVariants.{Usage, Memory}},
    UsageKind.{UsageKind, TheVariants.{UnknownOption, MissingValue, UnexpectedValue}},
  },
}
use Rattle.words_core.specs.{
  declared.choice.{Choice.{Choice, TheVariants.{About, Amount}}, Kind.Kind},
  declared.settings.Topic.Topic,
  declared.table.{Letters.Letters, Takes.Takes},
  declared.spelling.State.{State, TheVariants.{First, Reading, Awaiting, OnlyOperands, Ended}},
  Table.{OptionRow, ToolRow, option_called, option_lettered},
  Choice.choice_in,
  Value.then_check,
  Lettered.{is_lettered, is_start, others, times, unit_in},
  Given.{Given, nothing, bare, one_option, one_operand, joined},
}
use Rattle.words_core.specs.declared.table.Takes.TheVariants as takes

-- what a word, or some of its letters, gives, and the state for the next word
pub record Meaning : Type 0 where
  pub given : Given
  pub next : State

-- something is given, and options and operands may come next
abbrev pub reading : Given → Result Meaning Fault
reading given = Ok (record { given = given; next = Reading })

abbrev pub awaiting : Kind → ℕ → Result Meaning Fault
awaiting kind place = Ok (record { given = nothing; next = Awaiting kind place })

-- an option after which no word is read
abbrev pub ending : Topic → ℕ → Result Meaning Fault
ending topic place = Ok (record { given = one_option (About topic) place; next = Ended })

abbrev pub before : Given → Result Meaning Fault → Result Meaning Fault
before first meant = then_check meant (λ meaning. Ok (record meaning { given = joined first meaning.given }))

-- an option with its value: the option stands in the word at the place `option`, the value in the word at `place`
abbrev pub said : (option place : ℕ) → Result Choice UsageKind → Result Meaning Fault
said option place (Ok choice) = reading (one_option choice option)
said option place (Err fault) = Err (Usage fault place)

abbrev pub valued : Kind → (option place : ℕ) → (text : List ℕ) → Result Meaning Fault
valued kind option place text = said option place (choice_in kind text)

abbrev pub attached : Kind → ℕ → List ℕ → Result Meaning Fault
attached kind place [] = awaiting kind place
attached kind place (byte ∷ bytes) = valued kind place place (byte ∷ bytes)

abbrev pub lettered : ℕ → List ℕ → Result Meaning Fault → Option Takes → Result Meaning Fault
lettered place rest others None = Err (Usage UnknownOption place)
lettered place rest others (Some (takes.Value kind)) = attached kind place rest
lettered place rest others (Some (takes.Last topic)) = ending topic place
lettered place rest others (Some (takes.Nothing choice)) = before (bare choice place) others
lettered place rest others (Some (takes.Optional choice kind)) = before (bare choice place) others

abbrev pub cluster : List OptionRow → ℕ → List ℕ → Result Meaning Fault
cluster rows place [] = reading nothing
cluster rows place (letter ∷ rest) = lettered place rest (cluster rows place rest) (option_lettered rows letter)

-- A long option. Its name ends before the first `=`, and its value follows the `=`. Without a `=` an option that needs
-- a value has it in the next word.

abbrev pub is_equals : ℕ → Bool
is_equals byte = byte == 61

abbrev pub after_equals : List ℕ → Option (List ℕ)
after_equals word = if position_or_len is_equals word == length word then None else Some (after_first is_equals word)

abbrev pub named : ℕ → Result Takes UsageKind → Option (List ℕ) → Result Meaning Fault
named place (Err fault) value = Err (Usage fault place)
named place (Ok (takes.Value kind)) (Some text) = valued kind place place text
named place (Ok (takes.Optional choice kind)) (Some text) = valued kind place place text
named place (Ok takes) (Some text) = Err (Usage UnexpectedValue place)
named place (Ok (takes.Value kind)) None = awaiting kind place
named place (Ok (takes.Last topic)) None = ending topic place
named place (Ok (takes.Nothing choice)) None = reading (bare choice place)
named place (Ok (takes.Optional choice kind)) None = reading (bare choice place)

abbrev pub long : List OptionRow → ℕ → List ℕ → Result Meaning Fault
long rows place word = named place (option_called rows (before_first is_equals word)) (after_equals word)

-- A word that may be an option or an operand. `--` ends the options, and a hyphen alone is an operand.

-- a word that begins with two hyphens, by what follows these
abbrev pub dashed : List OptionRow → (place : ℕ) → (word rest : List ℕ) → Result Meaning Fault
dashed rows place word [] = Ok (record { given = nothing; next = OnlyOperands })
dashed rows place word (byte ∷ bytes) = long rows place word

abbrev pub mixed : List OptionRow → ℕ → List ℕ → Result Meaning Fault
mixed rows place [] = reading (one_operand [] place)
mixed rows place (byte ∷ []) = reading (one_operand (byte ∷ []) place)
mixed rows place (byte ∷ next ∷ rest) =
    if byte == 45
    then (if next == 45 then dashed rows place (byte ∷ next ∷ rest) rest else cluster rows place (next ∷ rest))
    else reading (one_operand (byte ∷ next ∷ rest) place)

-- A number with letters gives a count, and then what its other letters give after a hyphen. `-5cq` gives what `-c 5 -q`
-- gives.

-- the count, and then what else is given; or the fault of the count
abbrev pub counted_with : ℕ → Measured → Result Count UsageKind → Result Meaning Fault → Result Meaning Fault
counted_with place unit (Ok count) more = before (one_option (Amount unit count) place) more
counted_with place unit (Err fault) more = Err (Usage fault place)

-- the digits give a count, in the unit that a letter stands for; then come the options that the other letters name
abbrev pub count_and_options : List OptionRow → Sign → (place : ℕ) → (digits letters : List ℕ) → Result Meaning Fault
count_and_options rows sign place digits letters =
    counted_with place (unit_in letters).0 (times sign digits (unit_in letters).1) (cluster rows place (others letters))

abbrev pub with_letters : List OptionRow → Sign → (place : ℕ) → (text : List ℕ) → Result Meaning Fault
with_letters rows sign place text = count_and_options rows sign place (leading_digits text) (after_digits text)

-- The first word may be a hyphen and digits: then the digits are the value of an option of this kind. Letters may
-- follow the digits. After a `+` digits and letters may say where `tail` begins.
unfoldable pub foremost : Calling → List OptionRow → Kind → Letters → ℕ → List ℕ → Result Meaning Fault
foremost calling rows kind letters place [] = mixed rows place []
foremost calling rows kind letters place (byte ∷ text) =
    if byte == 45 && is_number text then valued kind place place text
    else (if byte == 45 && is_lettered rows letters text then with_letters rows Plain place text
    else (if byte == 43 && is_start calling rows letters text then with_letters rows Plus place text
    else mixed rows place (byte ∷ text)))

-- what a word at this place means in a state; a word that an option awaits is its value, whatever it begins with
abbrev pub meaning_of : List OptionRow → State → ℕ → List ℕ → Result Meaning Fault
meaning_of rows (First calling kind letters) place word = foremost calling rows kind letters place word
meaning_of rows Reading place word = mixed rows place word
meaning_of rows (Awaiting kind option) place word = valued kind option place word
meaning_of rows OnlyOperands place word = Ok (record { given = one_operand word place; next = OnlyOperands })
meaning_of rows Ended place word = Ok (record { given = nothing; next = Ended })

-- what all words from a place on give, or the first fault from left to right

abbrev pub ended : State → Result Given Fault
ended (Awaiting kind option) = Err (Usage MissingValue option)
ended state = Ok nothing

abbrev pub given_before : Given → Result Given Fault → Result Given Fault
given_before first more = then_check more (λ more. Ok (joined first more))

abbrev pub onward : (State → Result Given Fault) → Result Meaning Fault → Result Given Fault
onward rest meant = then_check meant (λ meaning. given_before meaning.given (rest meaning.next))

abbrev pub spelled : List OptionRow → List (List ℕ) → ℕ → State → Result Given Fault
spelled rows [] place state = ended state
spelled rows (word ∷ words) place state = onward (spelled rows words (place + 1)) (meaning_of rows state place word)

-- the state before the words that follow a tool's name
abbrev pub start_of : Calling → Option (Kind × Letters) → State
start_of calling None = Reading
start_of calling (Some number) = First calling number.0 number.1

-- what the words after a tool's name give; they are counted from 1
abbrev pub given_by : Calling → ToolRow → List (List ℕ) → Result Given Fault
given_by calling tool words = spelled tool.options words 1 (start_of calling tool.number)

-- a call returned what was meant, or memory was refused
abbrev pub Reads : {A : Type 0} → (meant result : Result A Fault) → Type 0
Reads meant (Ok value) = meant ≡ Ok value
Reads meant (Err fault) = (fault ≡ Memory) ⊎ (meant ≡ Err fault)

-- a call may return this fault: memory was refused, or the words have it, or what they mean has it by `HasFault`
abbrev pub IsRefused : {A : Type 0} → (HasFault : A → Fault → Type 0) → Result A Fault → Fault → Type 0
IsRefused {A = A} HasFault meant fault = (fault ≡ Memory)
    ⊎ ((meant ≡ Err fault) ⊎ ((value : A) × (meant ≡ Ok value) × HasFault value fault))
