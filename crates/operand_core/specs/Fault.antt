-- The numbers of the kinds of operand faults.
use Rattle.std.specs.Prelude.{ℕ}
use Rattle.operand_core.specs.declared.operand_fault.OperandFaultKind.{
  OperandFaultKind,
  TheVariants.{Missing, Unclosed, Offset, LineZero, RepeatFirst, RepeatText, Bre, LineOrder, Memory, Number},
}

abbrev pub number_of_kind : OperandFaultKind → ℕ
number_of_kind Missing = 1
number_of_kind Unclosed = 2
number_of_kind Offset = 3
number_of_kind LineZero = 4
number_of_kind RepeatFirst = 5
number_of_kind RepeatText = 6
number_of_kind (Bre fault) = 7
number_of_kind LineOrder = 8
number_of_kind Memory = 9
number_of_kind Number = 10
