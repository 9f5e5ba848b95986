-- What private calls say: what reading one pattern, and one target, returns.
use Rattle.std.specs.Prelude.{◌≡◌, ℕ, List, Result, Ok, Err}
use Rattle.bre_core.specs.{Pattern.Pattern, declared.fault.BreFault.{BreFault, TheVariants.Memory}}
use Rattle.operand_core.specs.{
  Operand.Target,
  Reading.{Aim, IsPattern, IsRefused, IsTarget, HasRefused},
  declared.operand_fault.OperandFaultKind.OperandFaultKind,
}
use Rattle.operand_core.specs.declared.operand_fault.OperandFaultKind.TheVariants as kind

-- a text is read as this pattern, or is refused with this fault, or there is no memory
abbrev pub IsReadAs : List ℕ → Result Pattern BreFault → Type 0
IsReadAs text (Ok pattern) = IsPattern text pattern
IsReadAs text (Err Memory) = Unit {0}
IsReadAs text (Err fault) = IsRefused text fault

pub data IsAimed (aimed : Result Aim OperandFaultKind) : Result Target OperandFaultKind → Type 0 where
  is_target : (aim : Aim) (target : Target) → aimed ≡ Ok aim → IsTarget aim target → IsAimed aimed (Ok target)
  is_wrong : (what : OperandFaultKind) → aimed ≡ Err what → IsAimed aimed (Err what)
  is_refused : (aim : Aim) (fault : BreFault) → aimed ≡ Ok aim → HasRefused aim fault
      → IsAimed aimed (Err (kind.Bre fault))
  no_memory : IsAimed aimed (Err kind.Memory)
