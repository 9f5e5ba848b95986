use Rattle.std.proofs.Common.{rules, ◌≡◌, length, refl, ◌∙◌, arith}
use Rattle.scan_core.proofs.{
  Shiftings.{inner, final},
  Searchings.{entered_here, search_more, search_found, search_ends, search_fits},
}
use Rattle.scan_core.proofs.search.search.Goals as goal

pub overflow_add-steps : goal.overflow_add-steps
overflow_add-steps c =
    let f = search_fits _ c.loop-place.invariant c.positions.ensures (search rules) (omega arith) in
    search (rules, f)

pub overflow_add-steps-2 : goal.overflow_add-steps-2
overflow_add-steps-2 c =
    let f = search_fits _ c.loop-place.invariant c.positions-2.ensures (search rules) (omega arith) in
    search (rules, f)

pub returns-then-has-clause-outcome : goal.returns-then-has-clause-outcome
returns-then-has-clause-outcome c = search_found _ c.loop-place.invariant c.positions.ensures
    (entered_here c.loop-place.invariant (inner c.loop-place-test.true refl) c.spread.ensures) c.loop-place-test.true (c.has.ensures.0 c.if-has.true)

pub loop-place-preserved : goal.loop-place-preserved
loop-place-preserved c =
    let here = entered_here c.loop-place.invariant (inner c.loop-place-test.true refl) c.spread.ensures in
    search_more _ c.loop-place.invariant c.positions.ensures here c.requires.closures.base c.loop-place-test.true refl
    c.if-has.false c.has.ensures (c.pass.ensures.size ∙ c.spread.ensures.size ∙ c.loop-place.invariant.size)
    (rw c.deref-in-loop-place-2.ensures.value at c.pass.ensures.exact)

pub returns-clause-outcome : goal.returns-clause-outcome
returns-clause-outcome c =
    let e : c.loop-place.place ≡ length c.args.line.now = omega arith in
    search_ends _ c.loop-place.invariant c.positions-2.ensures
    (entered_here c.loop-place.invariant (final e c.is_empty.ensures) c.spread-2.ensures) e c.has-2.ensures
