use Rattle.std.proofs.Common.{◌≡◌, ◌-◌, ◌∙◌, ap, arith, refl, length, drop, length-append, length-drop, length-take}
use Rattle.ports_core.specs.Source.{Source}
use Rattle.ports_core.proofs.InputsLemmas.{looked_none}
use Rattle.ends_core.proofs.FindLemmas.{found_all, found_in, found_none, looked_block, seen_more, seen_none}
use Rattle.ends_core.proofs.find.find_lines.Goals as goal

pub returns-then-count-eq0-clause-found : goal.returns-then-count-eq0-clause-found
returns-then-count-eq0-clause-found g c = found_none g.I.Inputs.visible c.args.delim c.if-count-eq0.true c.requires.shown

pub loop-end-init : goal.loop-end-init
loop-end-init g c = record {
  seen = rw c.saturating_sub-end.ensures (seen_none g.I.Inputs.visible c.args.delim c.args.count c.requires.shown);
  some = omega arith;
  within = omega arith;
  looked = looked_none _ _ _;
  laid = refl;
  room = c.requires.room;
  size = omega arith;
}

pub returns-then-not-read_at-clause-looked : goal.returns-then-not-read_at-clause-looked
returns-then-not-read_at-clause-looked g c =
    looked_block c.min-size.result c.loop-end.buffer c.loop-end.invariant.looked c.requires.input c.loop-end.invariant.size c.read_at.ensures.rest

pub returns-in-Begins-clause-found : goal.returns-in-Begins-clause-found
returns-in-Begins-clause-found g c =
    let so_far = c.loop-end.invariant in
    let few = c.min-size.ensures in
    found_in (c.loop-end.end - c.min-size.result) c.min-size.result so_far.seen (omega arith) c.loop-end-test.true so_far.within
    (omega (arith, length-take c.min-size.result c.loop-end.buffer))
    (λ visible. rw (← (ap (λ (source : Source). source.left) so_far.looked.looked)) (c.read_at.ensures.shows c.if-not-read_at.false visible)) c.in-Begins.ensures

pub returns-in-Begins-clause-looked : goal.returns-in-Begins-clause-looked
returns-in-Begins-clause-looked g c =
    looked_block c.min-size.result c.loop-end.buffer c.loop-end.invariant.looked c.requires.input c.loop-end.invariant.size c.read_at.ensures.rest

pub loop-end-preserved : goal.loop-end-preserved
loop-end-preserved g c =
    let so_far = c.loop-end.invariant in
    let few = c.min-size.ensures in
    let more = c.loop-end-test.true in
    let room = so_far.room in
    let long : length c.read_at.new.buffer ≡ c.min-size.result = omega (arith, length-take c.min-size.result c.loop-end.buffer) in
    let all = length-append c.read_at.new.buffer (drop c.min-size.result c.loop-end.buffer) in record {
      seen = seen_more (c.loop-end.end - c.min-size.result) c.min-size.result so_far.seen (omega arith) so_far.within long
          (λ visible. rw (← (ap (λ (source : Source). source.left) so_far.looked.looked)) (c.read_at.ensures.shows c.if-not-read_at.false visible)) c.in-Short.ensures;
      some = let fewer = c.in-Short.ensures.fewer in omega arith;
      within = omega arith;
      looked = looked_block c.min-size.result c.loop-end.buffer so_far.looked c.requires.input so_far.size c.read_at.ensures.rest;
      laid = c.read_at.ensures.kept ∙ so_far.laid;
      room = omega arith;
      size = omega (arith, length-drop c.min-size.result c.loop-end.buffer);
    }

pub returns-clause-found : goal.returns-clause-found
returns-clause-found g c =
    let so_far = c.loop-end.invariant in
    let front = c.loop-end-test.false in
    found_all so_far.seen (omega arith) so_far.some
