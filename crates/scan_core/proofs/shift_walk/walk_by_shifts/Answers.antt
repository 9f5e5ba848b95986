use Rattle.std.proofs.Common.{rules, ◌<◌, ◌+◌, ◌*◌, ◌-◌, length, refl, arith}
use Rattle.scan_core.{
  specs.{Table.IsOutcome, inner.Shifts.IsAt},
  proofs.{
    Shiftings.{at_starts, at_fits, at_stop, at_known, at_fixed, at_end, outcome_fits},
    shift_walk.walk_by_shifts.Goals.{After-index-state-2, After-stride-strode, After-stride-strode-2, Then-state},
  },
}
use Rattle.scan_core.proofs.shift_walk.walk_by_shifts.Goals as goal

-- one stride more
strode : (c : After-stride-strode) → IsAt c.args.nodes.now c.args.table.now c.args.line.now
    (c.loop-place.place + 16) c.stride-strode.result.word (c.loop-place.steps + c.stride-strode.result.steps)
strode c = c.stride-strode.ensures.at c.loop-place.steps c.loop-place.invariant.at

-- the rest of the line
strode_all : (c : After-stride-strode-2) → IsAt c.args.nodes.now c.args.table.now c.args.line.now
    (c.loop-place.place + (length c.args.line.now - c.loop-place.place)) c.stride-strode-2.result.word
    (c.loop-place.steps + c.stride-strode-2.result.steps)
strode_all c = c.stride-strode-2.ensures.at c.loop-place.steps c.loop-place.invariant.at

fixed : (c : Then-state) → IsOutcome c.args.nodes.now c.args.line.now (record {
  found = c.index-state.result.now.ends;
  steps = c.loop-place.steps + c.stride-strode.result.steps
      + c.index-state.result.now.positions * (length c.args.line.now - (c.loop-place.place + 16))
      + c.index-state.result.now.last_positions;
})
fixed c = at_fixed _ (c.stride-strode.ensures.at c.loop-place.steps c.loop-place.invariant.at) c.if-word-table.false _ c.requires.some
    (λ k h. search (rules, c.type_inv.line)) c.index-state.ensures c.if-state.true refl

ends : (c : After-index-state-2) → IsOutcome c.args.nodes.now c.args.line.now (record {
  found = c.index-state-2.result.now.ends;
  steps = c.loop-place.steps + c.stride-strode-2.result.steps + c.index-state-2.result.now.last_positions;
})
ends c = at_end _ (c.stride-strode-2.ensures.at c.loop-place.steps c.loop-place.invariant.at)
    c.if-strode-table.false _ (omega arith) c.requires.some c.index-state-2.ensures

pub loop-place-init : goal.loop-place-init
loop-place-init c = record { within = omega arith; at = at_starts c.requires.table }

pub overflow_add-steps : goal.overflow_add-steps
overflow_add-steps c =
    let f = at_fits _ (strode (goal.at.overflow_add-steps c).After-stride-strode) (omega arith) in
    search (rules, f)

pub returns-then-word-table : goal.returns-then-word-table
returns-then-word-table c = at_stop _ (strode (goal.at.returns-then-word-table c).After-stride-strode) c.if-word-table.true

pub index-state-requires : goal.index-state-requires
index-state-requires c =
    let k = at_known _ (strode (goal.at.index-state-requires c).After-stride-strode) c.if-word-table.false in
    search (rules, k)

pub overflow_add-result : goal.overflow_add-result
overflow_add-result c =
    let f = outcome_fits c.requires.table (fixed (goal.at.overflow_add-result c).Then-state) (omega arith) in
    let g : c.loop-place.steps + c.stride-strode.result.steps +
    (c.index-state.result.now.positions * (length c.args.line.now -
    (c.loop-place.place + 16))) < 340282366920938463463374607431768211456 = omega arith in
    search (rules, g)

pub overflow_add-result-then-state : goal.overflow_add-result-then-state
overflow_add-result-then-state c =
    let f = outcome_fits c.requires.table (fixed (goal.at.overflow_add-result-then-state c).Then-state) (omega arith) in
    search (rules, f)

pub returns-then-state : goal.returns-then-state
returns-then-state c = fixed (goal.at.returns-then-state c).Then-state

pub overflow_add-steps-2 : goal.overflow_add-steps-2
overflow_add-steps-2 c =
    let f = at_fits _ (strode_all (goal.at.overflow_add-steps-2 c).After-stride-strode-2) (omega arith) in
    search (rules, f)

pub returns-then-strode-table : goal.returns-then-strode-table
returns-then-strode-table c = at_stop _ (strode_all (goal.at.returns-then-strode-table c).After-stride-strode-2) c.if-strode-table.true

pub index-state-requires-2 : goal.index-state-requires-2
index-state-requires-2 c =
    let k = at_known _ (strode_all (goal.at.index-state-requires-2 c).After-stride-strode-2) c.if-strode-table.false in
    search (rules, k)

pub overflow_add-result-2 : goal.overflow_add-result-2
overflow_add-result-2 c =
    let f = outcome_fits c.requires.table (ends (goal.at.overflow_add-result-2 c).After-index-state-2) (omega arith) in
    search (rules, f)

pub returns : goal.returns
returns c = ends (goal.at.returns c).After-index-state-2
