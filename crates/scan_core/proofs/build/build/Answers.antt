use Rattle.std.proofs.{Common.{◌≡◌, ◌*◌, length, refl, subst, arith}, lemmas.Grind.common_steps}
use Rattle.scan_core.{
  specs.inner.{Each.AreEach, Table.{IsState, no_state}},
  proofs.{
    Searchings.{building_more, table_is},
    build.build.Goals.{else-loop-place-test, then-loop-place-test+then-place-len},
  },
}
use Rattle.scan_core.proofs.build.build.Goals as goal

pub loop-place-preserved : goal.loop-place-preserved
loop-place-preserved c = building_more c.in_ok-read.ensures.ok refl refl c.in_ok-push.ensures.items

pub states_of-requires-clause-sets : goal.states_of-requires-clause-sets
states_of-requires-clause-sets c = rw (← c.deref.ensures.value) at c.loop-place.invariant.built.going

pub returns-in_err-states : goal.returns-in_err-states
returns-in_err-states c = grind (arith, common_steps)

pub returns-clause-ok : goal.returns-clause-ok
returns-clause-ok c =
    let i = c.loop-place.invariant in
    let all : c.loop-place.place ≡ length c.loop-place.building.sets.items * 256 =
    elim c.loop-place-test.branch [ else-loop-place-test w ↦ omega arith | then-loop-place-test+then-place-len w ↦ omega arith ] in
    table_is (rw all at i.built) (omega arith) (omega arith)
    (rw c.deref-2.ensures.value at (subst (λ sets. AreEach no_state (IsState c.args.nodes.now sets c.deref-2.result.now) (length sets) c.in_ok-states.states.items) c.deref.ensures.value c.in_ok-states.ensures.ok))
