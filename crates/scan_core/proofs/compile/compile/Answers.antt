use Rattle.std.proofs.{Common.{rules, ◌≡◌, length, refl, ap, ◌∙◌, arith}, lemmas.List.at_drop_all}
use Rattle.scan_core.{specs.inner.Compiling.depth_in, proofs.Compiled.{bounded_at, compiled, ordered, way_more}}
use Rattle.scan_core.proofs.compile.compile.Goals as goal

pub loop-place-init : goal.loop-place-init
loop-place-init c = let first = c.new-compiling.result in record {
  begun = search rules;
  depth = omega (arith, ap depth_in c.new-compiling.ensures.passing);
  branch = (
    first,
    record { nodes = c.new-compiling.ensures.nodes; pending = c.new-compiling.ensures.pending; passing = c.new-compiling.ensures.passing },
    rw (at_drop_all (λ ts. ts) c.tokens-tokens.result.now (length c.tokens-tokens.result.now) (omega arith)) refl,
  );
}

pub take-requires-clause-order : goal.take-requires-clause-order
take-requires-clause-order c =
    bounded_at _ _ c.tokens-tokens.ensures.order (omega arith) c.index-tokens-place.is

pub loop-place-preserved : goal.loop-place-preserved
loop-place-preserved c = let w = c.loop-place.invariant.branch in record {
  begun = c.in_ok-take.ensures.begun;
  depth = omega (arith, c.in_ok-take.ensures.depth, c.loop-place.invariant.depth, c.loop-place-test.true);
  branch = (
    w.0,
    w.1,
    way_more c.tokens-tokens.result.now w.0 c.loop-place.compiling c.take.new.self (omega arith)
        (omega arith) c.index-tokens-place.is w.2 c.in_ok-take.ensures.ok,
  );
}

pub returns-clause-ok : goal.returns-clause-ok
returns-clause-ok c =
    let w = c.loop-place.invariant.branch in
    let front : c.loop-place.place ≡ 0 = omega arith in
    c.reverse.ensures.items ∙ compiled c.args.expression.now c.loop-place.compiling c.tokens-tokens.ensures.written c.tokens-tokens.ensures.order w.1
    (rw front at w.2)

pub returns-clause-order : goal.returns-clause-order
returns-clause-order c = ordered _ (rw c.tokens-tokens.ensures.written at c.tokens-tokens.ensures.order)
