-- What a list of words asks of `csplit`: its operands, or the first fault.
use Rattle.std.specs.{
  Prelude.{◌≡◌, ℕ, ◌+◌, ◌==◌, ◌≤◌, nat_lt, Bool, List, [], ◌∷◌, ◌++◌, Option, Some, None, if◌then◌else◌},
  Prelude.{Result, Ok, Err},
}
use Rattle.bre_core.specs.{
  Pattern.{Pattern, Reads, depth_of, positions_of},
  Refusal.IsTooLarge,
  GnuSpelling.respelled,
  declared.fault.BreFault.{BreFault, TheVariants.{TooLarge, Memory}},
}
use Rattle.ports_core.specs.declared.calling.Calling.{Calling, TheVariants.{Cutters, OwnName}}
use Rattle.operand_core.specs.{
  Operand.{Offset, Target, Number, Search, Times, Count, Operand},
  declared.operand_fault.{OperandFault.OperandFault, OperandFaultKind.OperandFaultKind},
  Word.{Spelling, number, search, again, wrong, unescaped, spelling},
}
use Rattle.operand_core.specs.declared.operand_fault.OperandFaultKind.TheVariants as kind

-- where an operand cuts; its pattern is still a text
pub data Aim : Type 0 where
  line : ℕ → Aim
  match : (is_kept : Bool) (text : List ℕ) → Offset → Aim

-- an operand whose pattern is still a text
pub record Spelled : Type 0 where
  pub index : ℕ
  pub aim : Aim
  pub times : Times

-- The text of a pattern as POSIX spells it. If a tool is called by its own name, the pattern may be in GNU's spelling.
abbrev pub posix_text : Calling → List ℕ → List ℕ
posix_text Cutters text = text
posix_text OwnName text = respelled text

-- Where a word cuts, unless the operand before it has taken the word as its repetition. `least` is the nearest line
-- number before the word, or 0 if there is none. Only a pattern between `/` and `/` has its section kept.
abbrev pub aim_of : Calling → (least : ℕ) → Spelling → Result Aim OperandFaultKind
aim_of calling least (number n) = if nat_lt n least then Err kind.LineOrder else Ok (line n)
aim_of calling least (search delimiter text offset) =
    Ok (match (delimiter == 47) (posix_text calling (unescaped delimiter text)) offset)
aim_of calling least (again times) = Err kind.RepeatFirst
aim_of calling least (wrong fault) = Err fault

-- the nearest line number before what follows an operand
abbrev pub least_after : (least : ℕ) → Aim → ℕ
least_after least (line n) = n
least_after least (match kept text offset) = least

-- how often the operand before this word is performed again, if the word says it
abbrev pub times_by : Spelling → Option Times
times_by (again times) = Some times
times_by spelled = None

-- the operands before the first word that is wrong, and what is wrong with this word, if one is wrong
pub record Words : Type 0 where
  pub operands : List Spelled
  pub fault : Option OperandFault

abbrev pub no_more : Words
no_more = record { operands = []; fault = None }

abbrev pub failed : OperandFaultKind → (index : ℕ) → Words
failed what index = record { operands = []; fault = Some (record { kind = what; index = index }) }

abbrev pub with_operand : (index : ℕ) → Aim → Times → Words → Words
with_operand index aim times words = record {
  operands = record { index = index; aim = aim; times = times } ∷ words.operands;
  fault = words.fault;
}

-- What words ask for; the first of them has this index. A repetition belongs to the operand directly before it.
abbrev pub words_from : Calling → (index least : ℕ) → List (List ℕ) → Words
words_from calling index least [] = no_more
words_from calling index least (word ∷ []) = elim (aim_of calling least (spelling word)) [
  | Err what ↦ failed what index
  | Ok aim ↦ with_operand index aim (Count 0) no_more
]
words_from calling index least (word ∷ next ∷ words) = elim (aim_of calling least (spelling word)) [
  | Err what ↦ failed what index
  | Ok aim ↦ elim (times_by (spelling next)) [
    | Some times ↦ with_operand index aim times (words_from calling (index + 2) (least_after least aim) words)
    | None ↦ with_operand index aim (Count 0) (words_from calling (index + 1) (least_after least aim) (next ∷ words))
  ]
]

abbrev pub words_of : Calling → List (List ℕ) → Words
words_of calling [] = failed kind.Missing 0
words_of calling (word ∷ words) = words_from calling 0 0 (word ∷ words)

-- The text is read as this pattern: it has this tree, with at most 255 groups open at once and at most 65,535
-- positions.
pub record IsPattern (text : List ℕ) (pattern : Pattern) : Type 0 where
  pub reads : Reads text pattern
  pub groups : depth_of pattern ≤ 255
  pub size : positions_of pattern ≤ 65535

-- The pattern is refused, with this fault: it is too large, or it is no pattern.
abbrev pub IsRefused : List ℕ → BreFault → Type 0
IsRefused text Memory = ⊥
IsRefused text TooLarge = IsTooLarge text
IsRefused text _ = (pattern : Pattern) → Reads text pattern → ⊥

abbrev pub IsTarget : Aim → Target → Type 0
IsTarget (line n) (Number m) = m ≡ n
IsTarget (match is_kept text offset) (Search pattern kept moved) = IsPattern text pattern × (kept ≡ is_kept)
    × (moved ≡ offset)
IsTarget aim target = ⊥

-- the operand is as it was spelled, with its pattern read
pub record IsRead (spelled : Spelled) (operand : Operand) : Type 0 where
  pub index : operand.index ≡ spelled.index
  pub target : IsTarget spelled.aim operand.target
  pub times : operand.times ≡ spelled.times

abbrev pub AreRead : List Spelled → List Operand → Type 0
AreRead [] [] = Unit {0}
AreRead (spelled ∷ more) (operand ∷ operands) = IsRead spelled operand × AreRead more operands
AreRead spelled operands = ⊥

-- the words ask for these operands
pub record Asks (calling : Calling) (words : List (List ℕ)) (operands : List Operand) : Type 0 where
  pub well : (words_of calling words).fault ≡ None
  pub read : AreRead (words_of calling words).operands operands

abbrev pub HasRefused : Aim → BreFault → Type 0
HasRefused (line n) fault = ⊥
HasRefused (match is_kept text offset) fault = IsRefused text fault

-- The first fault of the words, in their order: a word is wrong and all patterns before it are read, or a pattern is
-- refused and the patterns before it are read. Want of memory may come at any word.
pub data IsFault (calling : Calling) (words : List (List ℕ)) : OperandFault → Type 0 where
  is_wrong : (fault : OperandFault) (read : List Operand) → (words_of calling words).fault ≡ Some fault
      → AreRead (words_of calling words).operands read → IsFault calling words fault
  is_refused : (fault : BreFault) (front : List Spelled) (refused : Spelled) (rest : List Spelled) (read : List Operand)
      → (words_of calling words).operands ≡ front ++ refused ∷ rest → AreRead front read → HasRefused refused.aim fault
      → IsFault calling words (record { kind = kind.Bre fault; index = refused.index })
  no_memory : (index : ℕ) → IsFault calling words (record { kind = kind.Memory; index = index })
