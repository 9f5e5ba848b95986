-- Lemmas: sizes, counts of files and widths are within their limits, and files have the names that they need.
use Rattle.std.{
  proofs.lemmas.{Grind.common_steps, Bool.{cond_both, Decides.nat_tests}},
  proofs.Common.{◌≡◌, ℕ, ◌+◌, ◌-◌, ◌^◌, ◌≤◌, false, arith, List, [], ◌∷◌, Option, Some, None, Result, Ok, Err, IfOk},
  proofs.Common.{inl, inr, ◌⊎◌, rules},
  specs.Prelude.{⊤, IfSome, filter, ◌==◌},
}
use Rattle.ports_core.{
  specs.{
    declared.{calling.Calling.Calling, fault.Fault.Fault, alphabet.Alphabet.{Alphabet}, tool.Tool.Tool},
    Name.name_count,
  },
  proofs.CounterLemmas.power_positive,
}
use Rattle.seg_core.specs.declared.cut.Way.{Way}
use Rattle.words_core.specs.{
  declared.{
    choice.Choice.Choice,
    spelling.State.{State, TheVariants.Awaiting},
    settings.{Settings.Settings, Topic.Topic},
    spelled.Chosen.Chosen,
    split_words.Suffix.Suffix,
  },
  Table.{OptionRow, ToolRow, row_named, tools},
  Value.then_check,
  Given.{asked_by, Given},
  Spelling.{Meaning, meaning_of, given_before, onward, spelled, start_of, given_by},
  SplitWords.{SplitAsked, AreNamed, CanSplit, IsInLimits, IsWidth, is_way, only_way, way_of, split_by, no_options},
  SplitWords.{suffix_for, files_in, split_asked, separator_in, for_all, first_number, free, least_width, wide_enough},
  Laws.{AreAmong, none, passed, taken},
  Words.{CanRun, about_or, settings_for, topic_in, work_for},
}
use Rattle.words_core.proofs.{
  MeaningLemmas.{AreSafe, AreSound, GivesItself, IsSound, anything, meaning-gives, sound-append},
  SpellingLemmas.either,
  WidthLemmas.{least_within, least_writes},
}
use Rattle.ports_core.specs.declared.tool.Tool.TheVariants as tool
use Rattle.seg_core.specs.declared.cut.Cut.TheVariants as cut
use Rattle.seg_core.specs.declared.cut.Way.TheVariants as way

-- The operands of all words are some of the words.

abbrev GivesAmong : List OptionRow → ℕ → List (List ℕ) → Result Given Fault → Type 0
GivesAmong rows place words given = IfOk given (λ given. (AreSafe rows → AreSound given.options) × AreAmong given.operands place words)

before-among : (rows : List OptionRow) {place : ℕ} {word : List ℕ} (words : List (List ℕ)) (front : Given)
    (rest : Result Given Fault)
    → (AreSafe rows → AreSound front.options)
    × ((front.operands ≡ []) ⊎ (front.operands ≡ record { text = word; word = place } ∷ []))
    → GivesAmong rows (place + 1) words rest → GivesAmong rows place (word ∷ words) (given_before front rest)
before-among rows {place} {word} words front (Ok more) (sound, inl is) among =
    (λ safe. sound-append front.options more.options (sound safe) (among.0 safe), rw is (passed more.operands place word words among.1))
before-among rows {place} {word} words front (Ok more) (sound, inr is) among =
    (λ safe. sound-append front.options more.options (sound safe) (among.0 safe), rw is (taken more.operands place word words among.1))
before-among rows words front (Err fault) is among = tt

onward-among : (rows : List OptionRow) (place : ℕ) (word : List ℕ) (words : List (List ℕ))
    (rest : State → Result Given Fault) (meant : Result Meaning Fault)
    → GivesItself rows place word meant → ((next : State) → GivesAmong rows (place + 1) words (rest next))
    → GivesAmong rows place (word ∷ words) (onward rest meant)
onward-among rows place word words rest (Ok meaning) is among =
    before-among rows words meaning.given (rest meaning.next) (is.0, is.1) (among meaning.next)
onward-among rows place word words rest (Err fault) is among = search rules

spelled-gives : (rows : List OptionRow) (words : List (List ℕ)) (place : ℕ) (state : State)
    → GivesAmong rows place words (spelled rows words place state)
spelled-gives rows [] place (Awaiting kind option) = tt
spelled-gives rows [] place state = (λ _. tt, none place)
spelled-gives rows (word ∷ words) place state =
    onward-among rows place word words (spelled rows words (place + 1)) (meaning_of rows state place word)
    (meaning-gives rows place state word) (λ next. spelled-gives rows words (place + 1) next)

pub gives : (rows : List OptionRow) (words : List (List ℕ)) (place : ℕ) (state : State) (given : Given)
    → spelled rows words place state ≡ Ok given
    → (AreSafe rows → AreSound given.options) × AreAmong given.operands place words
gives rows words place state given is = rw is at (spelled-gives rows words place state)

-- what each option keeps is kept by all options
asked-keeps : {A : Type 0} (by : A → Choice → A) (P : A → Type 0)
    → ((asked : A) (choice : Choice) → P asked → IsSound choice → P (by asked choice))
    → (options : List Chosen) (asked : A) → P asked → AreSound options → P (asked_by by asked options)
asked-keeps by P keeps [] asked holds are = holds
asked-keeps by P keeps (option ∷ options) asked holds are =
    asked-keeps by P keeps options (by asked option.choice) (keeps asked option.choice holds are.0) are.1

-- What the options of `split` ask for is within the limits.

abbrev HasFew : SplitAsked → Type 0
HasFew asked = (asked.width ≤ 255) × (first_number asked.from ≤ 2 ^ 63 - 1)

split_by-few : (asked : SplitAsked) (choice : Choice) → HasFew asked → IsSound choice → HasFew (split_by asked choice)
split_by-few asked choice few is = search rules

only_way-limits : (delim : ℕ) (ways : List Chosen) → AreSound ways → IfOk (only_way delim ways) IsInLimits
only_way-limits delim ways are = search rules

ways-sound : (options : List Chosen) → AreSound options → AreSound (filter is_way options)
ways-sound [] are = tt
ways-sound (option ∷ options) are = either AreSound (is_way option) _ _ (are.0, ways-sound options are.1) (ways-sound options are.1)

then_check-kept : {A B : Type 0} (P : A → Type 0) (Q : B → Type 0) (first : Result A Fault) (next : A → Result B Fault)
    → IfOk first P → ((value : A) → P value → IfOk (next value) Q) → IfOk (then_check first next) Q
then_check-kept P Q first next is goes = search rules

-- The width of names is enough.

abbrev Serves : Way → Alphabet → Option ℕ → Suffix → Type 0
Serves way alphabet from suffix = AreNamed way alphabet from suffix.width × IsWidth suffix.width

wide_enough-can : (alphabet : Alphabet) (count width : ℕ) → 1 ≤ width → width ≤ 255
    → IfOk (wide_enough alphabet count width) (λ suffix. (count ≤ name_count alphabet suffix.width)
    × IsWidth suffix.width)
wide_enough-can alphabet count width some most = search rules

all_writes : (alphabet : Alphabet) {count : ℕ} → count ≤ 10 ^ 20 → count ≤ name_count alphabet 23
all_writes alphabet few = search rules

least-can : (alphabet : Alphabet) {count : ℕ} → count ≤ 10 ^ 20
    → (count ≤ name_count alphabet (least_width alphabet count)) × IsWidth (least_width alphabet count)
unfolding least_width
least-can alphabet {count} few =
    let within = least_within alphabet count 21 2 in
    (least_writes alphabet count 21 2 (all_writes alphabet few), (omega arith, omega arith))

some_if : (width : ℕ) → (width == 0) ≡ false → 1 ≤ width
some_if width given = grind (arith, nat_tests)

some_names : (alphabet : Alphabet) (width : ℕ) → 1 ≤ name_count alphabet width
some_names alphabet width = power_positive alphabet width

free-wide : (width : ℕ) → width ≤ 255 → IsWidth (free width).width
free-wide width most = search rules

-- a width is enough if the number of files is known
all-can : (alphabet : Alphabet) (count width : ℕ) → count ≤ 10 ^ 20 → width ≤ 255
    → IfOk (for_all alphabet count width) (λ suffix. (count ≤ name_count alphabet suffix.width) × IsWidth suffix.width)
all-can alphabet count width few most = grind (arith, common_steps, cond_both, least-can, wide_enough-can, some_if)

suffix-can : (way : Way) (alphabet : Alphabet) (from : Option ℕ) (width : ℕ) → IsInLimits way → width ≤ 255
    → first_number from ≤ 2 ^ 63 - 1 → IfOk (suffix_for way alphabet from width) (Serves way alphabet from)
suffix-can (way.Cut (cut.Round files delim)) alphabet from width few most least =
    all-can alphabet (first_number from + files) width (omega arith) most
suffix-can (way.Chunks chunks) alphabet from width few most least =
    all-can alphabet (first_number from + chunks.count) width (omega arith) most
suffix-can (way.Cut (cut.Parts limit)) alphabet (Some from) width is most least = grind (arith, common_steps)
suffix-can (way.Cut (cut.Parts limit)) alphabet None width is most least =
    (some_names alphabet _, free-wide width most)
suffix-can way alphabet from width is most least = search rules

-- Names don't widen if an option gives the number of the first file.

pub never_widen : (given : Given) (asked : SplitAsked) (from : ℕ) → split_asked given ≡ Ok asked
    → asked.from ≡ Some from → asked.auto ≡ false
never_widen given asked from is first = grind (arith, common_steps)

-- What all words together ask for is within the limits.

asked-can : (given : Given) → AreSound given.options → IfOk (split_asked given) CanSplit
asked-can given sound =
    let asked = asked_by split_by no_options given.options in
    then_check-kept IsInLimits CanSplit (way_of given.options) _ (only_way-limits (separator_in given.options)
    (filter is_way given.options) (ways-sound given.options sound)) (λ way is.
    let few : HasFew asked = asked-keeps split_by HasFew split_by-few given.options no_options (omega arith, omega arith) sound in
    then_check-kept (Serves way asked.alphabet asked.from) CanSplit (suffix_for way asked.alphabet asked.from asked.width) _
    (suffix-can way asked.alphabet asked.from asked.width is few.0 few.1) (λ suffix those.
    then_check-kept (λ _. ⊤) CanSplit (files_in given.operands) _ (anything (files_in given.operands)) (λ files _.
    record { way = is; width = those.1; named = those.0 })))

work-can : (calling : Calling) (which : Tool) (given : Given) → AreSound given.options
    → IfOk (work_for calling which given) CanRun
work-can calling tool.Split given sound = then_check-kept CanSplit CanRun (split_asked given) _ (asked-can given sound) (λ asked is. is)
work-can calling tool.Csplit given sound = grind (arith, common_steps)
work-can calling which given sound = search rules

about-can : (which : Tool) (topic : Option Topic) (work : Result Settings Fault) → IfOk work CanRun
    → IfOk (about_or which topic work) CanRun
about-can which topic work can = search rules

settled-can : (calling : Calling) (which : Tool) (given : Given) → AreSound given.options
    → IfOk (settings_for calling which given) CanRun
settled-can calling which given sound = about-can which (topic_in given.options) (work_for calling which given) (work-can calling which given sound)

-- options without a value ask for nothing beyond the limits, in each tool's table
tools-safe : (calling : Calling) (name : List ℕ) → IfSome (row_named (tools calling) name) (λ row. AreSafe row.options)
unfolding tools
tools-safe calling name = search rules

-- the settings that were read of words can be done
pub read-can : (calling : Calling) (name : List ℕ) {rows : List ToolRow} {row : ToolRow} (words : List (List ℕ))
    {given : Given} (result : Result Settings Fault) → rows ≡ tools calling → Some row ≡ row_named rows name
    → given_by calling row words ≡ Ok given
    → IfOk result (λ settings. settings_for calling row.tool given ≡ Ok settings)
    → IfOk result CanRun
read-can calling name {row = row} words {given} (Ok settings) all named read is =
    let known : Some row ≡ row_named (tools calling) name = rw all at named in
    let safe : AreSafe row.options = rw (← known) at (tools-safe calling name) in
    rw is at (settled-can calling row.tool given ((gives row.options words 1 (start_of calling row.number) given read).0 safe))
read-can calling name words (Err fault) all named read is = tt
