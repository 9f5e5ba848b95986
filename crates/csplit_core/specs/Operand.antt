-- What `csplit` is asked: its operands, and the lines as the operands see them (POSIX.1-2017, XCU csplit). A pattern is
-- seen as its tree.
use Rattle.std.specs.Prelude.{ℕ, ◌+◌, ◌-◌, Bool, true, false, List, [], nat_lt, get_or}
pub use Rattle.operand_core.specs.declared.operand.{
  Offset.{Offset, TheVariants.{Plus, Minus}},
  Target.{Target, TheVariants.{Number, Search}},
  Times.{Times, TheVariants.{Count, Endless}},
  Operand.Operand,
}

-- a line, with a mark for each operand: whether the line contains the operand's pattern
pub record Line : Type 0 where
  pub text : List ℕ
  pub marks : Operand → Bool

abbrev pub unmarked : Line
unmarked = record { text = []; marks = λ operand. false }

-- The line of this number, counted from 1, has the operand's mark. A number past the last line has no mark.
abbrev pub is_match : Operand → List Line → (line : ℕ) → Bool
is_match operand lines line = (get_or lines (line - 1) unmarked).marks operand

-- the line at an offset from this line; line 0 if there are too few lines before it
abbrev pub moved : Offset → (line : ℕ) → ℕ
moved (Plus count) line = line + count
moved (Minus count) line = line - count

-- Whether the section that the operand ends is kept. Only a pattern between `%` and `%` skips it.
abbrev pub is_kept : Target → Bool
is_kept (Number n) = true
is_kept (Search pattern kept offset) = kept

-- How many of the last lines may belong to the next section while no line matches: as many as the offset goes back.
abbrev pub most_held : Target → ℕ
most_held (Search pattern kept (Minus count)) = count
most_held target = 0

-- whether the operand is performed again after this repetition, counted from 0
abbrev pub has_more : Times → (repetition : ℕ) → Bool
has_more (Count times) repetition = nat_lt repetition times
has_more Endless repetition = true

-- whether the operand is repeated until the input is exhausted
abbrev pub is_endless : Times → Bool
is_endless (Count times) = false
is_endless Endless = true

abbrev pub is_number : Target → Bool
is_number (Number n) = true
is_number (Search pattern kept offset) = false
