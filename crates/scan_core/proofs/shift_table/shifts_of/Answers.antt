use Rattle.std.proofs.Common.{refl, subst, arith, IfSome}
use Rattle.scan_core.{
  specs.inner.Table.IsTable,
  proofs.{Enterings.{each_more, each_to}, Shiftings.{shifted_is, states_are_light}},
}
use Rattle.scan_core.proofs.shift_table.shifts_of.Goals as goal

pub weight_of-requires : goal.weight_of-requires
weight_of-requires c = rw (← c.as_slice-noted.ensures.value) at (states_are_light
    (subst (λ table. IfSome table (IsTable c.args.nodes.now)) c.in-Some.is c.requires))

pub loop-byte-preserved : goal.loop-byte-preserved
loop-byte-preserved c = record {
  words = each_more c.loop-byte.invariant.words c.word_of.ensures c.in_ok-push.ensures.items;
  weights = each_more c.loop-byte.invariant.weights c.weight_of.ensures c.in_ok-push-2.ensures.items;
}

pub returns-clause-ok : goal.returns-clause-ok
returns-clause-ok c = (
  c.in-Some.table,
  rw c.in-Some.is at c.requires,
  shifted_is c.as_slice-rows.ensures.value c.as_slice-noted.ensures.value (omega arith) (c.if-not-is_complete.ensures.yes refl)
      (each_to c.loop-byte.invariant.words (omega arith)) (each_to c.loop-byte.invariant.weights (omega arith)) c.in_ok-states.ensures.items refl,
)
