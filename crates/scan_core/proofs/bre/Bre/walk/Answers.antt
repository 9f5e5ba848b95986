use Rattle.std.proofs.Common.{IfSome, subst}
use Rattle.scan_core.specs.inner.Shifts.{IsShiftTable}
use Rattle.scan_core.proofs.bre.Bre.walk.Goals as goal

pub walk_by_shifts-requires-clause-table : goal.walk_by_shifts-requires-clause-table
walk_by_shifts-requires-clause-table c =
    rw (← c.deref.ensures.value) at (subst (λ shifts. IfSome shifts (IsShiftTable c.self.inside.code.items)) c.in-Some.is c.self.invariant.5)
