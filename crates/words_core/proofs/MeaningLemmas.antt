-- Lemmas on what one word means: options whose values are within their limits, and no operand but the word itself. If
-- the word has a fault, it stands at this word or after it.
use Rattle.std.{
  proofs.{
    lemmas.Grind.common_steps,
    Common.{◌≡◌, refl, ℕ, ◌-◌, ◌^◌, ◌==◌, ◌&&◌, ◌≤◌, ◌<◌, arith, List, [], ◌∷◌, ◌++◌, Option, Some, None},
    Common.{Result, Ok, Err, IfOk, inl, inr, ◌⊎◌, rules},
  },
  specs.{Prelude.{⊤, IfSome, nat_lt, option_map}, Option.option_map_or},
}
use Rattle.seg_core.specs.{
  Count.{after_digits, is_number, leading_digits},
  declared.{count.{Count.Count, Sign.{Sign, TheVariants.{Plain, Plus}}}, unit.Unit.Unit as Measured},
}
use Rattle.ports_core.specs.declared.fault.{Fault.{Fault, TheVariants.Usage}, UsageKind.UsageKind}
use Rattle.words_core.specs.{
  declared.{
    choice.{Choice.Choice, Kind.Kind},
    spelled.Chosen.Chosen,
    table.Takes.Takes,
    spelling.State.{State, TheVariants.{First, Reading, Awaiting}},
    division.Dealing.Dealing,
  },
  Choice.{asking, choice_in, seen},
  Table.{OptionRow, begins_one, beginning, is_among, only_one, option_called, option_lettered, option_named},
  Division.{all_in, division_in, numbers_in},
  SplitWords.AreFew,
  Given.bare,
  Lettered.{is_lettered, is_start, others, times, unit_in},
  Spelling.{Meaning, before, said, valued, lettered, cluster, after_equals, named, dashed, foremost, counted_with},
  Spelling.{mixed, meaning_of, with_letters},
  Value.{followed_in, on_broken_in},
}
use Rattle.words_core.proofs.SpellingLemmas.{either}
use Rattle.words_core.specs.declared.choice.Choice.TheVariants as choice
use Rattle.words_core.specs.declared.choice.Kind.TheVariants as kind
use Rattle.words_core.specs.declared.table.Takes.TheVariants as takes

-- The limits of the value of an option, and of all options.

-- the file that is asked for is one of this many
abbrev pub IsAmong : ℕ → Option ℕ → Type 0
IsAmong files None = ⊤
IsAmong files (Some place) = place < files

abbrev pub IsSound : Choice → Type 0
IsSound (choice.LinesEach size) = 1 ≤ size
IsSound (choice.BytesEach size) = 1 ≤ size
IsSound (choice.LineBytesEach size) = 1 ≤ size
IsSound (choice.Divided division) = AreFew division.files × IsAmong division.files division.only
IsSound (choice.Width width) = width ≤ 255
IsSound (choice.Suffixes alphabet (Some from)) = from ≤ 2 ^ 63 - 1
IsSound other = ⊤

abbrev pub AreSound : List Chosen → Type 0
AreSound [] = ⊤
AreSound (option ∷ options) = IsSound option.choice × AreSound options

-- A table whose options ask for nothing beyond the limits if they have no value.

abbrev pub IsSafe : Takes → Type 0
IsSafe (takes.Nothing choice) = IsSound (seen choice)
IsSafe (takes.Optional choice kind) = IsSound (seen choice)
IsSafe takes = ⊤

abbrev pub AreSafe : List OptionRow → Type 0
AreSafe [] = ⊤
AreSafe (row ∷ rows) = IsSafe row.takes × AreSafe rows

found-safe : (rows : List OptionRow) (name : List ℕ) → AreSafe rows → IfSome (option_named rows name) IsSafe
found-safe [] name safe = tt
found-safe (row ∷ rows) name safe =
    either (λ found. IfSome (option_map (λ row. row.takes) found) IsSafe) (is_among row.names name) _ _ safe.0
    (found-safe rows name safe.1)

lettered-safe : (rows : List OptionRow) (letter : ℕ) → AreSafe rows → IfSome (option_lettered rows letter) IsSafe
lettered-safe rows letter safe = either (λ found. IfSome found IsSafe) (nat_lt letter 128) _ _ (found-safe rows (45 ∷ letter ∷ []) safe) tt

begun-safe : (rows : List OptionRow) (start : List ℕ) → AreSafe rows → AreSafe (beginning rows start)
begun-safe [] start safe = tt
begun-safe (row ∷ rows) start safe =
    either AreSafe (begins_one row.names start) _ _ (safe.0, begun-safe rows start safe.1)
    (begun-safe rows start safe.1)

only-safe : (rows : List OptionRow) → AreSafe rows → IfOk (only_one rows) IsSafe
only-safe rows safe = search rules

full-safe : (found : Option Takes) (short : Result Takes UsageKind) → IfSome found IsSafe → IfOk short IsSafe
    → IfOk (option_map_or Ok found short) IsSafe
full-safe found short safe other = search rules

called-safe : (rows : List OptionRow) (name : List ℕ) → AreSafe rows → IfOk (option_called rows name) IsSafe
called-safe rows name safe =
    full-safe (option_named rows name) _ (found-safe rows name safe) (only-safe _ (begun-safe rows name safe))

pub sound-append : (front options : List Chosen) → AreSound front → AreSound options → AreSound (front ++ options)
sound-append [] options first rest = rest
sound-append (option ∷ front) options first rest = (first.0, sound-append front options first.1 rest)

-- Values are within their limits.

pub anything : {A E : Type 0} (value : Result A E) → IfOk value (λ _. ⊤)
anything value = search rules

-- the option that awaits a value stands at this word or after it
abbrev pub Awaits : ℕ → State → Type 0
Awaits least (Awaiting kind option) = least ≤ option
Awaits least state = ⊤

-- a fault of the words stands at this word or after it
abbrev pub Tells : ℕ → Fault → Type 0
Tells place (Usage kind word) = place ≤ word
Tells place fault = ⊤

-- One word gives options, within their limits if those of the table are, and no operand but itself. Its fault, or the
-- option that awaits a value after it, stands at this word or after it.
abbrev pub GivesItself : List OptionRow → ℕ → List ℕ → Result Meaning Fault → Type 0
GivesItself rows place word (Ok meaning) = (AreSafe rows → AreSound meaning.given.options)
    × ((meaning.given.operands ≡ []) ⊎ (meaning.given.operands ≡ record { text = word; word = place } ∷ []))
    × Awaits place meaning.next
GivesItself rows place word (Err fault) = Tells place fault

-- The value of `-n` is within its limits.

all-sound : (dealing : Dealing) (files : List ℕ)
    → IfOk (all_in dealing files) (λ division. IsSound (choice.Divided division))
all-sound dealing files = search rules

numbers-sound : (dealing : Dealing) (front rest : List ℕ)
    → IfOk (numbers_in dealing front rest) (λ division. IsSound (choice.Divided division))
numbers-sound dealing front [] = all-sound dealing front
numbers-sound dealing front (byte ∷ rest) = grind (arith, common_steps)

division-sound : (text : List ℕ) → IfOk (division_in text) (λ division. IsSound (choice.Divided division))
division-sound text = grind (arith, common_steps, numbers-sound)

-- a choice is within its limits if its value is
as-sound : {A : Type 0} (make : A → Choice) (value : Result A UsageKind) → IfOk value (λ value. IsSound (make value))
    → IfOk (asking make value) IsSound
as-sound make value is = search rules

choice-sound : (kind : Kind) (text : List ℕ) → IfOk (choice_in kind text) IsSound
choice-sound kind.Divided text = as-sound choice.Divided (division_in text) (division-sound text)
choice-sound (kind.Follow calling) text =
    as-sound choice.Follow (followed_in calling text) (anything (followed_in calling text))
choice-sound (kind.OnBroken calling) text =
    as-sound choice.OnBroken (on_broken_in calling text)
    (anything (on_broken_in calling text))
choice-sound which text = search rules

module _ (rows : List OptionRow) (place : ℕ) where
  -- A word of options gives no operand.

  module _ (word : List ℕ) where
    said-gives : (option : ℕ) (value : Result Choice UsageKind) → IfOk value IsSound
        → GivesItself rows place word (said option place value)
    said-gives option value is = search rules

    valued-gives : (kind : Kind) (option : ℕ) (text : List ℕ)
        → GivesItself rows place word (valued kind option place text)
    valued-gives kind option text = said-gives option (choice_in kind text) (choice-sound kind text)

    bare-gives : (choice : Choice) (meant : Result Meaning Fault) → (AreSafe rows → IsSound (seen choice))
        → GivesItself rows place word meant → GivesItself rows place word (before (bare choice place) meant)
    bare-gives choice meant sound is = search rules

    lettered-gives : (rest : List ℕ) (others : Result Meaning Fault) (option : Option Takes)
        → (AreSafe rows → IfSome option IsSafe) → GivesItself rows place word others
        → GivesItself rows place word (lettered place rest others option)
    lettered-gives (byte ∷ text) others (Some (takes.Value kind)) safe is = valued-gives kind place (byte ∷ text)
    lettered-gives rest others (Some (takes.Nothing choice)) safe is = bare-gives choice others safe is
    lettered-gives rest others (Some (takes.Optional choice kind)) safe is = bare-gives choice others safe is
    lettered-gives rest others option safe is = search rules

    cluster-gives : (letters : List ℕ) → GivesItself rows place word (cluster rows place letters)
    cluster-gives [] = (λ _. tt, inl refl, tt)
    cluster-gives (letter ∷ rest) =
        lettered-gives rest (cluster rows place rest) (option_lettered rows letter) (lettered-safe rows letter)
        (cluster-gives rest)

    named-gives : (option : Result Takes UsageKind) (value : Option (List ℕ)) → (AreSafe rows → IfOk option IsSafe)
        → GivesItself rows place word (named place option value)
    named-gives (Ok (takes.Value kind)) (Some text) safe = valued-gives kind place text
    named-gives (Ok (takes.Optional choice kind)) (Some text) safe = valued-gives kind place text
    named-gives option value safe = search rules

    counted-gives : (unit : Measured) (count : Result Count UsageKind) (more : Result Meaning Fault)
        → GivesItself rows place word more → GivesItself rows place word (counted_with place unit count more)
    counted-gives unit (Ok count) more is = bare-gives (choice.Amount unit count) more (λ _. tt) is
    counted-gives unit (Err fault) more is = omega arith

    numbered-gives : (sign : Sign) (text : List ℕ) → GivesItself rows place word (with_letters rows sign place text)
    numbered-gives sign text = counted-gives _ (times sign (leading_digits text) (unit_in (after_digits text)).1) _
        (cluster-gives (others (after_digits text)))

    dashed-gives : (rest : List ℕ) → GivesItself rows place word (dashed rows place word rest)
    dashed-gives [] = search rules
    dashed-gives (byte ∷ rest) = named-gives _ (after_equals word) (called-safe rows _)

  mixed-gives : (word : List ℕ) → GivesItself rows place word (mixed rows place word)
  mixed-gives [] = (λ _. tt, inr refl, tt)
  mixed-gives (byte ∷ []) = (λ _. tt, inr refl, tt)
  mixed-gives (byte ∷ next ∷ rest) =
      let word : List ℕ = byte ∷ next ∷ rest in
      either (GivesItself rows place word) (byte == 45) _ _ (either (GivesItself rows place word) (next == 45)
      _ _ (dashed-gives word rest) (cluster-gives word (next ∷ rest))) (λ _. tt, inr refl, tt)

  pub meaning-gives : (state : State) (word : List ℕ) → GivesItself rows place word (meaning_of rows state place word)
  unfolding foremost
  meaning-gives (First calling kind letters) [] = (λ _. tt, inr refl, tt)
  meaning-gives (First calling kind letters) (byte ∷ text) =
      let word : List ℕ = byte ∷ text in
      either (GivesItself rows place word) (byte == 45 && is_number text) _ _
      (valued-gives word kind place text) (either (GivesItself rows place word)
      (byte == 45 && is_lettered rows letters text) _ _ (numbered-gives word Plain text)
      (either (GivesItself rows place word) (byte == 43 && is_start calling rows letters text) _ _
      (numbered-gives word Plus text) (mixed-gives word)))
  meaning-gives Reading word = mixed-gives word
  meaning-gives (Awaiting kind option) word = valued-gives word kind option word
  meaning-gives state word = search rules
