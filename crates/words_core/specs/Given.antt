-- What words give: options with what they ask for and the places of their words, and operands, each in their order.
use Rattle.std.specs.Prelude.{ℕ, List, [], ◌∷◌, ◌++◌, map, fold}
use Rattle.words_core.specs.{declared.{choice.Choice.Choice, spelled.{Chosen.Chosen, Operand.Operand}}, Choice.seen}

-- an operand, and the place of its word
pub record GivenOperand : Type 0 where
  pub text : List ℕ
  pub word : ℕ

pub record Given : Type 0 where
  pub options : List Chosen
  pub operands : List GivenOperand

abbrev pub option_seen : Chosen → Chosen
option_seen option = record { choice = seen option.choice; word = option.word }

abbrev pub operand_seen : Operand → GivenOperand
operand_seen operand = record { text = operand.text.now; word = operand.word }

-- what is asked for after all options, one after another; `change` says what each of them changes
abbrev pub asked_by : {A : Type 0} → (A → Choice → A) → A → List Chosen → A
asked_by change asked options = fold (λ asked option. change asked option.choice) asked options

-- the operands as they are spelled, and the places of their words

abbrev pub texts_of : List GivenOperand → List (List ℕ)
texts_of operands = map (λ operand. operand.text) operands

abbrev pub places_of : List GivenOperand → List ℕ
places_of operands = map (λ operand. operand.word) operands

abbrev pub nothing : Given
nothing = record { options = []; operands = [] }

abbrev pub one_option : Choice → ℕ → Given
one_option choice word = record { options = record { choice = choice; word = word } ∷ []; operands = [] }

-- an option that the table has, without a value
abbrev pub bare : Choice → ℕ → Given
bare choice word = one_option (seen choice) word

abbrev pub one_operand : List ℕ → ℕ → Given
one_operand text word = record { options = []; operands = record { text = text; word = word } ∷ [] }

-- what is given first, with what is given after it
abbrev pub joined : (first more : Given) → Given
joined first more = record { options = first.options ++ more.options; operands = first.operands ++ more.operands }
