use Rattle.std.proofs.Common.{◌<◌, ◌/◌, ℕ, false}
use Rattle.scan_core.specs.inner.{Hops.{AreHops, Meets}, Sets.Flows}
use Rattle.scan_core.proofs.hops.all_hops.Given as goal

abbrev pub invariant-loop-number : goal.invariant-loop-number
invariant-loop-number l = record {
  sound : AreHops l.nodes l.hops.items;
  met : (number to : ℕ) → number < l.number → Flows l.nodes false false number to
      → Meets l.base l.hops.items (number / 64) to;
}
