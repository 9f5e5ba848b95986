use Rattle.std.proofs.Common.{length, ◌-◌, List, Bool}
use Rattle.scan_core.specs.inner.Table.{IsTableOf, Walked}
use Rattle.scan_core.proofs.walk.walk.Given as goal

abbrev pub invariant-loop-place : goal.invariant-loop-place
invariant-loop-place l = (sets : List (List Bool)) × IsTableOf l.nodes sets l.table × Walked l.nodes sets l.line l.place l.state l.steps

abbrev pub decreases-loop-place : goal.decreases-loop-place
decreases-loop-place l = length l.line - l.place
