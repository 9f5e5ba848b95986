-- What reading one target returns.
use Rattle.bre_core.specs.declared.fault.BreFault.{BreFault, TheVariants.Memory}
use Rattle.operand_core.specs.declared.operand_fault.OperandFaultKind.{OperandFaultKind}
use Rattle.operand_core.specs.declared.operand_fault.OperandFaultKind.TheVariants as kind

-- the fault of an operand if its pattern is refused: want of memory for the pattern is want of memory
abbrev pub refusal_of : BreFault → OperandFaultKind
refusal_of Memory = kind.Memory
refusal_of fault = kind.Bre fault
