use Rattle.std.{
  proofs.{
    Common.{◌≡◌, sym, ap, ◌∙◌, rules, ℕ, ◌+◌, List, [], ◌∷◌, All, Some},
    lemmas.List.Elements.{All-contains, All-from_recursion, All-weaker},
  },
  specs.List.AllByRecursion,
}
use Rattle.ports_core.specs.declared.calling.Calling.{Calling}
use Rattle.words_core.specs.{
  Laws.AreAlike,
  Spelling.{mixed, onward, spelled},
  Table.{OptionRow, ToolRow, option_named, tools},
}
use Rattle.words_core.proofs.laws.names_mean_the_same.Goals as goal

-- What is true of each row of each table.

abbrev Each : Calling → (List OptionRow → OptionRow → Type 0) → Type 0
Each calling P = AllByRecursion (λ tool. AllByRecursion (P tool.options) tool.options) (tools calling)

each_row : (calling : Calling) (P Q : List OptionRow → OptionRow → Type 0)
    → ((rows : List OptionRow) (row : OptionRow) → P rows row → Q rows row) → Each calling P
    → All (λ tool. All (Q tool.options) tool.options) (tools calling)
each_row calling P Q is each =
    let Rows : ToolRow → Type 0 = λ tool. AllByRecursion (P tool.options) tool.options in
    All-weaker Rows (λ tool. All (Q tool.options) tool.options)
    (λ tool here. All-weaker (P tool.options) (Q tool.options) (is tool.options) tool.options (All-from_recursion (P tool.options) tool.options here))
    (tools calling) (All-from_recursion Rows (tools calling) each)

-- Each name is found.

abbrev IsFound : List OptionRow → OptionRow → List ℕ → Type 0
IsFound rows row name = option_named rows name ≡ Some row.takes

abbrev AreFound : List OptionRow → OptionRow → Type 0
AreFound rows row = AllByRecursion (IsFound rows row) row.names

all_found : (calling : Calling) → Each calling AreFound
unfolding tools
all_found calling = search rules

-- Each name of an option means what its first name means.

abbrev first_name : List (List ℕ) → List ℕ
first_name [] = []
first_name (name ∷ names) = name

abbrev IsFirst : List OptionRow → OptionRow → List ℕ → Type 0
IsFirst rows row name = (place : ℕ) → mixed rows place name ≡ mixed rows place (first_name row.names)

abbrev AreFirst : List OptionRow → OptionRow → Type 0
AreFirst rows row = AllByRecursion (IsFirst rows row) row.names

all_first : (calling : Calling) → Each calling AreFirst
unfolding tools
all_first calling = search rules

are_alike : (rows : List OptionRow) (row : OptionRow) → AreFirst rows row → AreAlike rows row.names
are_alike rows row each one other words place has_one has_other =
    let all = All-from_recursion (IsFirst rows row) row.names each in
    ap (onward (spelled rows words (place + 1)))
    (All-contains (IsFirst rows row) row.names one all has_one place ∙ sym (All-contains (IsFirst rows row) row.names other all has_other place))

pub returns-clause-own : goal.returns-clause-own
returns-clause-own c calling =
    each_row calling AreFound (λ rows row. All (IsFound rows row) row.names)
    (λ rows row. All-from_recursion (IsFound rows row) row.names) (all_found calling)

pub returns-clause-alike : goal.returns-clause-alike
returns-clause-alike c calling = each_row calling AreFirst (λ rows row. AreAlike rows row.names) are_alike (all_first calling)
