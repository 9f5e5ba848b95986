use Rattle.std.proofs.Common.{rules, ◌+◌, arith}
use Rattle.scan_core.proofs.{
  Shiftings.{WalkedOf, bound_fits, walk_ends, walk_fits, walk_next, walk_one, walk_run, walk_stops},
  walk.walk.Goals.{After-positions_of_places-steps},
}
use Rattle.scan_core.proofs.walk.walk.Goals as goal

-- the stretch in which the state stays was walked
walked : (c : After-positions_of_places-steps) → WalkedOf c.args.nodes.now c.args.table.now c.args.line.now
    c.stretch_end-end.result c.loop-place.state (c.loop-place.steps + c.positions_of_places-steps.result)
walked c = walk_run _ c.loop-place.invariant c.index.ensures c.stretch_end-end.ensures.low c.stretch_end-end.ensures.high
    (λ k h. search (rules, c.type_inv.line)) c.stretch_end-end.ensures.stays c.positions_of_places-steps.ensures

pub overflow_add-steps : goal.overflow_add-steps
overflow_add-steps c =
    let f = walk_fits (walked (goal.at.overflow_add-steps c).After-positions_of_places-steps) (omega arith) in
    search (rules, f)

pub returns-then-next : goal.returns-then-next
returns-then-next c = record {
  exact = walk_stops _ (walked (goal.at.returns-then-next c).After-positions_of_places-steps) c.index-then-place-line.ensures _ c.if-place-line.true
      (search (rules, c.type_inv.line)) c.index-next.ensures c.if-next.true;
}

pub overflow_add-steps-then-place-line : goal.overflow_add-steps-then-place-line
overflow_add-steps-then-place-line c =
    let w = walked (goal.at.overflow_add-steps-then-place-line c).After-positions_of_places-steps in
    let f = bound_fits _ w.1.few (walk_one _ w c.index-then-place-line.ensures) (omega arith) in
    search (rules, f)

pub loop-place-preserved-then-place-line : goal.loop-place-preserved-then-place-line
loop-place-preserved-then-place-line c =
    walk_next _ (walked (goal.at.loop-place-preserved-then-place-line c).After-positions_of_places-steps) c.index-then-place-line.ensures _ c.if-place-line.true
    (search (rules, c.type_inv.line)) c.index-next.ensures (search (rules, c.if-next.false, c.if-next-2.false))

pub loop-place-preserved : goal.loop-place-preserved
loop-place-preserved c = walked (goal.at.loop-place-preserved c).After-positions_of_places-steps

pub overflow_add-result : goal.overflow_add-result
overflow_add-result c =
    let v = c.loop-place.invariant in
    let o = walk_ends _ v c.index-last.ensures (omega (arith, v.2.within)) c.requires.some in
    let f = bound_fits _ v.1.few o.bound (omega (arith, v.2.within)) in
    search (rules, f)

pub returns : goal.returns
returns c = let v = c.loop-place.invariant in record { exact = walk_ends _ v c.index-last.ensures (omega (arith, v.2.within)) c.requires.some }
