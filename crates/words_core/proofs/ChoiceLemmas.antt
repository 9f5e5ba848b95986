-- Lemmas on what options ask for, one after another.
use Rattle.std.{
  proofs.lemmas.{Grind.common_steps, Bool.or_parts, List.Sums.fold-append},
  proofs.Common.{◌≡◌, ◌≤◌, ◌↔◌, ℕ, Bool, true, false, ◌||◌, arith, List, [], ◌∷◌, ◌++◌, length, Option, Some, None},
  proofs.Common.{Result, Ok, Err, refl, sym, ◌∙◌, ap, is_some, if◌then◌else◌, filter, IsOk, rules},
  specs.Option.{option_or, unwrap_or},
}
use Rattle.ports_core.specs.declared.{
  calling.Calling.Calling,
  fault.{Fault.{Fault, TheVariants.Usage}, UsageKind.TheVariants.TwoWays},
  tool.Tool.Tool,
}
use Rattle.seg_core.specs.declared.cut.Way.{Way}
use Rattle.words_core.specs.{
  declared.{choice.Choice.Choice, tail_words.TailSettings.TailSettings, spelled.Chosen.Chosen},
  Given.{GivenOperand, asked_by, texts_of},
  CsplitWords.{csplit_by, plain},
  EndsWords.{ends_by, names_asked, ten_lines},
  SplitWords.{delim_by, is_way, no_options, only_way, separator_in, split_by, thousand_lines, way_in},
  SplitWords.way_of,
  TailWords.{retry_by, tail_by, unfollowed},
  TeeWords.{fresh, tee_by},
  Words.{about_or, settings_for, topic_in, topic_of, work_for},
  Laws.{LastDecides, has},
}
use Rattle.ports_core.specs.declared.tool.Tool.TheVariants as tool
use Rattle.ports_core.specs.declared.slot.Mode.TheVariants as mode
use Rattle.words_core.specs.declared.choice.Choice.TheVariants as choice

-- A part of what is asked for: options that pass the test set it, whatever was asked before, and the others leave it.

abbrev pub Sets : {A C : Type 0} → (A → Choice → A) → (A → C) → (Choice → Bool) → Type 0
Sets {A} by part test = (asked other : A) (choice : Choice) → part (by asked choice) ≡ (if test choice then part (by other choice) else part asked)

module _ {A C : Type 0} (by : A → Choice → A) (part : A → C) (test : Choice → Bool) (sets : Sets by part test) where
  pub kept : (asked : A) (options : List Chosen) → has test options ≡ false
      → part (asked_by by asked options) ≡ part asked
  kept asked [] none = refl
  kept asked (option ∷ options) none =
      let both = or_parts (test option.choice) _ none in
      let next : A = by asked option.choice in
      kept next options both.1 ∙ sets asked asked option.choice ∙ ap (λ test. if test then part next else part asked) both.0

  pub decided : (asked other : A) (before after : List Chosen) (option : Chosen) → test option.choice ≡ true
      → has test after ≡ false
      → part (asked_by by asked (before ++ option ∷ after)) ≡ part (by other option.choice)
  decided asked other [] after option is none = rw (kept (by asked option.choice) after none, sets asked other option.choice, is)
  decided asked other (first ∷ before) after option is none = decided (by asked first.choice) other before after option is none

pub last_decides : {A C : Type 0} (by : A → Choice → A) (part : A → C) {test : Choice → Bool} → Sets by part test
    → (asked : A) → LastDecides test (λ options. part (asked_by by asked options)) (part asked)
last_decides by part {test} sets asked = record { last = decided by part test sets asked asked; none = kept by part test sets asked }

-- what `tail` writes of each input at first is set by the same options as for `head`
pub tail_ends : (asked : TailSettings) (options : List Chosen)
    → (asked_by tail_by asked options).ends ≡ asked_by ends_by asked.ends options
tail_ends asked [] = refl
tail_ends asked (option ∷ options) =
    tail_ends (tail_by asked option.choice) options
    ∙ ap (λ ends. asked_by ends_by ends options) (same option.choice) where
      same : (choice : Choice) → (tail_by asked choice).ends ≡ ends_by asked.ends choice
      same choice = search rules

-- an option without effect may be left out
module _ (before after : List Chosen) (word : ℕ) where
  abbrev it : Chosen
  it = record { choice = choice.NoEffect; word = word }

  abbrev with_it : List Chosen
  with_it = before ++ it ∷ after

  left_out : {A : Type 0} (by : A → Choice → A) (asked : A) → ((asked : A) → by asked choice.NoEffect ≡ asked)
      → asked_by by asked with_it ≡ asked_by by asked (before ++ after)
  left_out {A} by asked same =
      let step : A → Chosen → A = λ asked option. by asked option.choice in
      fold-append step asked before (it ∷ after) ∙ ap (λ those. asked_by by those after)
      (same (asked_by by asked before)) ∙ sym (fold-append step asked before after)

  no_way : filter is_way with_it ≡ filter is_way (before ++ after)
  no_way = grind (arith, common_steps)

  no_work : (calling : Calling) (which : Tool) (operands : List GivenOperand)
      → work_for calling which (record { options = with_it; operands = operands })
      ≡ work_for calling which (record { options = before ++ after; operands = operands })
  no_work calling tool.Head operands = rw (left_out ends_by (ten_lines (names_asked operands)) (λ asked. refl)) refl
  no_work calling tool.Tail operands =
      rw (
        left_out tail_by (unfollowed (ten_lines (names_asked operands))) (λ asked. refl),
        left_out retry_by false
            (λ asked. refl),
      ) refl
  no_work calling tool.Split operands = rw (no_way, left_out delim_by 10 (λ asked. refl), left_out split_by no_options (λ asked. refl)) refl
  no_work calling tool.Csplit operands = rw (left_out csplit_by plain (λ asked. refl)) refl
  no_work calling tool.Tee operands = rw (left_out tee_by (fresh calling (texts_of operands)) (λ asked. refl)) refl
  no_work calling tool.Cutters operands = refl

  no_topic : topic_in with_it ≡ topic_in (before ++ after)
  no_topic = from before where
    from : (front : List Chosen) → topic_in (front ++ it ∷ after) ≡ topic_in (front ++ after)
    from [] = refl
    from (option ∷ front) = ap (option_or (topic_of option.choice)) (from front)

  pub no_effect : (calling : Calling) (which : Tool) (operands : List GivenOperand)
      → settings_for calling which (record { options = with_it; operands = operands })
      ≡ settings_for calling which (record { options = before ++ after; operands = operands })
  no_effect calling which operands =
      ap (λ topic. about_or which topic (work_for calling which (record { options = with_it; operands = operands }))) no_topic
      ∙ ap (about_or which (topic_in (before ++ after))) (no_work calling which operands)

-- What an option without a value asks for is asked for exactly if the option is given.

either_fixed : {A : Type 0} (one rest : Bool) (fixed other : A)
    → (if rest then fixed else (if one then fixed else other)) ≡ (if one || rest then fixed else other)
either_fixed one rest fixed other = search rules

pub given_anywhere : {A C : Type 0} (by : A → Choice → A) (part : A → C) (test : Choice → Bool) (fixed : C)
    → ((asked : A) (choice : Choice) → part (by asked choice) ≡ (if test choice then fixed else part asked))
    → (asked : A) (options : List Chosen)
    → part (asked_by by asked options) ≡ (if has test options then fixed else part asked)
given_anywhere by part test fixed sets asked [] = refl
given_anywhere by part test fixed sets asked (option ∷ options) =
    rw (
      given_anywhere by part test fixed sets (by asked option.choice) options,
      sets asked option.choice,
      either_fixed (test option.choice) (has test options) fixed (part asked),
    )

pub so_where_given : {A : Type 0} (by : A → Choice → A) (part : A → Bool) (test : Choice → Bool)
    → ((asked : A) (choice : Choice) → part (by asked choice) ≡ (if test choice then true else part asked))
    → (asked : A) → part asked ≡ false → (options : List Chosen) → part (asked_by by asked options) ≡ has test options
so_where_given by part test sets asked not options = given_anywhere by part test true sets asked options ∙ itself (has test options) not where
  itself : (is : Bool) {other : Bool} → other ≡ false → (if is then true else other) ≡ is
  itself is not = search rules

pub append_is : (is : Bool) → ((if is then mode.Append else mode.Fresh) ≡ mode.Append) ↔ (is ≡ true)
append_is is = search rules

-- There is at most one way to split.

pub few_ways : (delim : ℕ) (ways : List Chosen)
    → (IsOk (only_way delim ways) → length ways ≤ 1) × (length ways ≤ 1 → IsOk (only_way delim ways))
few_ways delim ways = search rules

-- the ways among options, around an option that is a way
ways_around : (before after : List Chosen) (option : Chosen) → is_way option ≡ true
    → filter is_way (before ++ option ∷ after) ≡ filter is_way before ++ option ∷ filter is_way after
ways_around before after option is = grind (arith, common_steps)

way_among : (delim : ℕ) (front rest : List Chosen) (option : Chosen) (way : Way)
    → only_way delim (front ++ option ∷ rest) ≡ Ok way
    → way ≡ unwrap_or (way_in delim option.choice) (thousand_lines delim)
way_among delim [] [] option cut is = cc
way_among delim (way ∷ []) rest option cut is = absurd (cc)
way_among delim front rest option cut is = absurd (cc)

-- whether an option is a way doesn't depend on the byte that lines end with
same_ways : (delim : ℕ) (choice : Choice) → is_some (way_in delim choice) ≡ is_some (way_in 10 choice)
same_ways delim choice = search rules

the_way : (found : Option Way) (other way : Way) → is_some found ≡ true → way ≡ unwrap_or found other → found ≡ Some way
the_way found other way some is = search rules

pub way_is : (before after : List Chosen) (option : Chosen) (way : Way) → is_way option ≡ true
    → way_of (before ++ option ∷ after) ≡ Ok way
    → way_in (separator_in (before ++ option ∷ after)) option.choice ≡ Some way
way_is before after option way is ok = grind (arith, common_steps, the_way, same_ways, way_among, ways_around)

second_among : (delim : ℕ) (front rest : List Chosen) (option : Chosen) → length front ≡ 1
    → only_way delim (front ++ option ∷ rest) ≡ Err (Usage TwoWays option.word)
second_among delim (way ∷ []) rest option one = refl
second_among delim front rest option one = cc

pub second_told : (before after : List Chosen) (option : Chosen) → length (filter is_way before) ≡ 1
    → is_way option ≡ true
    → way_of (before ++ option ∷ after) ≡ Err (Usage TwoWays option.word)
second_told before after option one is = grind (arith, common_steps, ways_around, second_among)

-- the way to split, by the way so far, if there is one, and the ways that follow
abbrev pub way_then : ℕ → Option Way → List Chosen → Result Way Fault
way_then delim None ways = only_way delim ways
way_then delim (Some way) [] = Ok way
way_then delim (Some way) (second ∷ more) = Err (Usage TwoWays second.word)
