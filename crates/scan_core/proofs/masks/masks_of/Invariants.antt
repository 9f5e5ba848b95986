use Rattle.std.proofs.Common.{◌/◌, ◌%◌}
use Rattle.scan_core.specs.{
  declared.masks.Kind.TheVariants.{Takes, Counts},
  inner.{Each.AreEach, Words.{IsMask, width}},
}
use Rattle.scan_core.proofs.masks.masks_of.Given as goal

abbrev pub invariant-loop-place : goal.invariant-loop-place
invariant-loop-place l = AreEach 0 (λ place. IsMask l.nodes (Takes (place / width l.nodes)) (place % width l.nodes)) l.place l.takes.items

abbrev pub invariant-loop-at : goal.invariant-loop-at
invariant-loop-at l = AreEach 0 (IsMask l.nodes Counts) l.at l.counts.items
