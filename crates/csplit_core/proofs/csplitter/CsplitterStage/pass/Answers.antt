use Rattle.std.proofs.{
  Common.{[], ap, arith, drop, inl, length, refl, take, ◌++◌, ◌-◌, ◌∙◌},
  lemmas.Grind.common_steps,
}
use Rattle.seg_core.specs.Line.{delimiters}
use Rattle.csplit_core.specs.{CsplitState.CsplitState, Input.newline}
use Rattle.ports_core.proofs.HandedOn.{handed_on}
use Rattle.csplit_core.proofs.{
  LineLemmas.{front_is, no_newline, piece_ends, piece_lines, piece_open, rest_all, tail_is},
  StageLemmas.{passes_on, past_passes},
  TakeLemmas.takes_none,
}
use Rattle.csplit_core.proofs.csplitter.CsplitterStage.pass.Goals as goal

pub returns-then-is_past-clause-passes : goal.returns-then-is_past-clause-passes
returns-then-is_past-clause-passes g c =
    past_passes c.self.view_is (c.is_past.ensures.past c.if-is_past.true) c.requires.ready.writer c.requires.ready.sound c.requires.ready.unbroken

pub take_lines-requires : goal.take_lines-requires
take_lines-requires g c = grind (arith, common_steps, piece_ends)

pub returns-in_err-take_lines-in-Some-clause-passes : goal.returns-in_err-take_lines-in-Some-clause-passes
returns-in_err-take_lines-in-Some-clause-passes g c = rw (handed_on _ _ c.from_residual.ensures.1, ← c.self.view_is)
    (record {
      took = rw (piece_lines c.self.inside.rest.items c.in-Some.end c.in-Some.ensures.some)
          c.in_err-take_lines-in-Some.ensures.takes;
      passed = tt;
    })

pub returns-in-None-clause-passes : goal.returns-in-None-clause-passes
returns-in-None-clause-passes g c =
    let live = c.is_past.ensures.live c.if-is_past.false in
    let none = no_newline c.self.inside.rest.items c.args.piece.now
    (ap (λ (stage : CsplitState). delimiters newline stage.rest) c.self.view_is ∙ c.requires.ready.unbroken) c.in-None.ensures.none in
    passes_on c.wait.new.self c.args.piece.now c.wait.result c.self.view_is live
    (front_is [] (c.self.inside.rest.items ++ c.args.piece.now) (inl refl) none)
    (grind (arith, common_steps, takes_none))
    c.wait.ensures.cutter (λ is_below. absurd (live is_below)) (tail_is [] (inl refl) none) c.wait.ensures.past c.wait.ensures.live c.wait.ensures.err

pub returns-in_ok-take_lines-in-Some-clause-passes : goal.returns-in_ok-take_lines-in-Some-clause-passes
returns-in_ok-take_lines-in-Some-clause-passes g c =
    let empty = c.in_ok-take_lines-in-Some.ensures.rest in
    passes_on c.wait-in-Some.new.self (take (length c.args.piece.now - c.in-Some.end)
    (drop c.in-Some.end c.args.piece.now)) c.wait-in-Some.result c.self.view_is (c.is_past.ensures.live c.if-is_past.false)
    (piece_lines c.self.inside.rest.items c.in-Some.end c.in-Some.ensures.some) c.in_ok-take_lines-in-Some.ensures.takes c.wait-in-Some.ensures.cutter
    (λ is_below. empty) (grind (arith, common_steps, piece_open, rest_all))
    c.wait-in-Some.ensures.past c.wait-in-Some.ensures.live c.wait-in-Some.ensures.err
