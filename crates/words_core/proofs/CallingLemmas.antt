-- Lemmas on what words mean by both ways to call the program.
use Rattle.std.proofs.{
  Common.{◌≡◌, refl, ap, ◌∙◌, ℕ, ◌==◌, ◌&&◌, ◌||◌},
  Common.{Bool, true, false, if◌then◌else◌, List, [], ◌∷◌},
  Common.{arith, rules, Option, Some, None, Result, Ok, Err, option_map, ◌⊎◌, inl, inr},
  Math.Bool.and-false,
  lemmas.Bool.Decides.nat_tests,
}
use Rattle.operand_core.specs.Style.{Style}
use Rattle.ports_core.specs.declared.{
  calling.Calling.{Calling, TheVariants.{Cutters, OwnName}},
  fault.{Fault.{Fault, TheVariants.Usage}, UsageKind.TheVariants.BadFollow},
  on_broken.OnBroken.{OnBroken, TheVariants.Signal},
}
use Rattle.words_core.specs.{
  declared.{
    choice.{Choice.Choice, Kind.Kind},
    settings.{Settings.TheVariants.{Csplit, Tail}, Topic.Topic},
    spelled.Chosen.Chosen,
    spelling.State.TheVariants.First,
    table.Letters.{Letters, TheVariants.{Never, OfHead}},
    tail_words.TailSettings.TailSettings,
    value.Followed.{Followed, TheVariants.{Descriptor}},
  },
  CsplitWords.{asked_of, style_of},
  EndsWords.names_asked,
  Given.{Given, GivenOperand, asked_by, one_operand, texts_of},
  Laws.{by_own_name, has, say_nothing, says_on_broken},
  Lettered.is_start,
  Spelling.{foremost, mixed, onward, reading, spelled},
  Table.{OptionRow, ToolRow, row_named, tools},
  TailWords.{bad_follow, by_file, followed_in, has_dash, retry_by, tail_asked, tail_of},
  TeeWords.{TeeAsked, fresh, tee_asked, tee_by},
  Value.then_check,
  Words.{about_or, settings_for, tool_named, tool_settings, topic_in},
}
use Rattle.ports_core.specs.declared.tool.Tool.TheVariants as tool

-- whether the first of these words says where `tail` begins
abbrev pub begin : List OptionRow → Letters → List (List ℕ) → Bool
begin rows letters ((byte ∷ text) ∷ words) = byte == 43 && is_start OwnName rows letters text
begin rows letters words = false

same_first : (rows : List OptionRow) (kind : Kind) (letters : Letters) (place byte : ℕ) (text : List ℕ)
    → (byte == 43 && is_start OwnName rows letters text) ≡ false
    → foremost OwnName rows kind letters place (byte ∷ text) ≡ foremost Cutters rows kind letters place (byte ∷ text)
unfolding foremost
same_first rows kind letters place byte text other = rw (other, and-false (byte == 43)) refl

pub same_words : (rows : List OptionRow) (kind : Kind) (letters : Letters) (words : List (List ℕ))
    → begin rows letters words ≡ false
    → spelled rows words 1 (First OwnName kind letters) ≡ spelled rows words 1 (First Cutters kind letters)
unfolding foremost
same_words rows kind letters [] other = refl
same_words rows kind letters ([] ∷ words) other = refl
same_words rows kind letters ((byte ∷ text) ∷ words) other = ap (onward (spelled rows words 2)) (same_first rows kind letters 1 byte text other)

pub begins_never : (rows : List OptionRow) (words : List (List ℕ)) → begin rows Never words ≡ false
begins_never rows ((byte ∷ text) ∷ words) = and-false (byte == 43)
begins_never rows words = search rules

pub begins_head : (rows : List OptionRow) (words : List (List ℕ)) → begin rows OfHead words ≡ false
begins_head rows ((byte ∷ text) ∷ words) = and-false (byte == 43)
begins_head rows words = search rules

-- a name is that of the same tool

pub row_named-tool : (calling : Calling) (name : List ℕ)
    → option_map (λ row. row.tool) (row_named (tools calling) name) ≡ tool_named name
unfolding tools
row_named-tool Cutters name = refl
row_named-tool OwnName name = search rules

pub same_unknown : (name : List ℕ) (words : List (List ℕ)) (own cutters : Option ToolRow)
    → option_map (λ row. row.tool) own ≡ None → option_map (λ row. row.tool) cutters ≡ None
    → tool_settings OwnName name words own ≡ tool_settings Cutters name words cutters
same_unknown name words own cutters no_own none = search rules

-- a word that begins with a `+` is read as an operand
pub plus_is_name : (rows : List OptionRow) (place : ℕ) (text : List ℕ)
    → mixed rows place (43 ∷ text) ≡ reading (one_operand (43 ∷ text) place)
plus_is_name rows place text = search rules

-- What is done once an output is broken: what is set before the options stays, if no option says it.

abbrev pub with_broken : OnBroken → TeeAsked → TeeAsked
with_broken on_broken asked = record asked { on_broken = on_broken }

with_one : (on_broken : OnBroken) (asked : TeeAsked) (choice : Choice)
    → tee_by (with_broken on_broken asked) choice
    ≡ (if says_on_broken choice then tee_by asked choice else with_broken on_broken (tee_by asked choice))
with_one on_broken asked choice = search rules

said_or : (test more : Bool) (on_broken : OnBroken) (next : TeeAsked) (options : List Chosen)
    → asked_by tee_by (with_broken on_broken next) options
    ≡ (if more then asked_by tee_by next options else with_broken on_broken (asked_by tee_by next options))
    → asked_by tee_by (if test then next else with_broken on_broken next) options
    ≡ (if test || more then asked_by tee_by next options else with_broken on_broken (asked_by tee_by next options))
said_or test more on_broken next options rest = search rules

with_all : (on_broken : OnBroken) (asked : TeeAsked) (options : List Chosen)
    → asked_by tee_by (with_broken on_broken asked) options
    ≡ (if has says_on_broken options then asked_by tee_by asked options else with_broken on_broken
    (asked_by tee_by asked options))
with_all on_broken asked [] = refl
with_all on_broken asked (option ∷ options) =
    ap (λ next. asked_by tee_by next options) (with_one on_broken asked option.choice)
    ∙ said_or (says_on_broken option.choice) (has says_on_broken options) on_broken (tee_by asked option.choice)
    options (with_all on_broken (tee_by asked option.choice) options)

pub left_open : (given : Given) → has says_on_broken given.options ≡ false
    → tee_asked OwnName given ≡ with_broken Signal (tee_asked Cutters given)
left_open given none = rw (with_all Signal (fresh Cutters (texts_of given.operands)) given.options, none) refl

said : (given : Given) → has says_on_broken given.options ≡ true → tee_asked OwnName given ≡ tee_asked Cutters given
said given is = rw (with_all Signal (fresh Cutters (texts_of given.operands)) given.options, is) refl

pub same_tee : (meant : Result Given Fault) → say_nothing meant ≡ false
    → then_check meant (settings_for OwnName tool.Tee) ≡ then_check meant (settings_for Cutters tool.Tee)
same_tee (Ok given) is = rw (said given (grind (arith, nat_tests))) refl
same_tee (Err fault) is = refl

-- What is followed is the same by both ways to call the program, except if `cutters` refuses it.

own_file : (names : List (List ℕ)) → (by_file names OwnName ≡ by_file names Cutters)
    ⊎ (by_file names Cutters ≡ bad_follow)
own_file (name ∷ next ∷ names) = either (has_dash (name ∷ next ∷ names)) where
  either : (some : Bool) → (Ok (Some Descriptor) ≡ (if some then bad_follow else Ok (Some Descriptor)))
      ⊎ ((if some then bad_follow else Ok (Some Descriptor)) ≡ bad_follow)
  either some = search rules
own_file names = search rules

own_follow : (followed : Option Followed) (retry : Bool) (names : List (List ℕ))
    → (followed_in followed retry OwnName names ≡ followed_in followed retry Cutters names)
    ⊎ (followed_in followed retry Cutters names ≡ bad_follow)
own_follow (Some Descriptor) false names = own_file names
own_follow followed retry names = search rules

own_work : (given : Given) → (tail_asked OwnName given ≡ tail_asked Cutters given)
    ⊎ (tail_asked Cutters given ≡ bad_follow)
own_work given =
    let asked = tail_of (names_asked given.operands) given.options in
    elim (own_follow asked.followed (asked_by retry_by false given.options) asked.ends.names) [
      | inl same ↦ inl (ap (λ meant. then_check meant (λ followed. Ok (record asked { followed = followed }))) same)
      | inr bad ↦ inr (ap (λ meant. then_check meant (λ followed. Ok (record asked { followed = followed }))) bad)
    ]

tail_topic : (topic : Option Topic) (own cutters : Result TailSettings Fault) → (own ≡ cutters) ⊎ (cutters ≡ bad_follow)
    → (about_or tool.Tail topic (then_check own (λ asked. Ok (Tail asked)))
    ≡ about_or tool.Tail topic (then_check cutters (λ asked. Ok (Tail asked))))
    ⊎ (about_or tool.Tail topic (then_check cutters (λ asked. Ok (Tail asked))) ≡ Err (Usage BadFollow 0))
tail_topic topic own cutters (inl same) = inl (rw same refl)
tail_topic topic own cutters (inr bad) = rw bad (search rules)

pub own_tail : (meant : Result Given Fault)
    → (then_check meant (settings_for OwnName tool.Tail) ≡ then_check meant (settings_for Cutters tool.Tail))
    ⊎ (then_check meant (settings_for Cutters tool.Tail) ≡ Err (Usage BadFollow 0))
own_tail (Ok given) = tail_topic (topic_in given.options) (tail_asked OwnName given) (tail_asked Cutters given) (own_work given)
own_tail (Err fault) = inl refl

-- `csplit` asks for the same by both ways to call the program, except its calling and style.

own_topic : (topic : Option Topic) (style : Style) (operands : List GivenOperand)
    → about_or tool.Csplit topic (then_check (asked_of OwnName style operands) (λ asked. Ok (Csplit asked)))
    ≡ by_own_name
    (about_or tool.Csplit topic (then_check (asked_of Cutters style operands) (λ asked. Ok (Csplit asked))))
own_topic topic style operands = search rules

pub own_csplit : (meant : Result Given Fault) → then_check meant (settings_for OwnName tool.Csplit)
    ≡ by_own_name (then_check meant (settings_for Cutters tool.Csplit))
own_csplit (Ok given) = own_topic (topic_in given.options) (style_of given.options) given.operands
own_csplit (Err fault) = refl
