use Rattle.std.proofs.{Common.{◌-◌, ◌+◌, ◌≡◌, ap, ◌∙◌, drop, arith}, lemmas.Grind.common_steps}
use Rattle.seg_core.{specs.Line.delimiters, proofs.BackLines.begins_after}
use Rattle.seg_core.proofs.line_back.reach_back_from.Goals as goal

pub returns-then-seen-wanted : goal.returns-then-seen-wanted
returns-then-seen-wanted c =
    let x = c.args.bytes.now in
    let at : c.loop-at.at - 1 + 1 ≡ c.loop-at.at = omega arith in
    rw at at (begins_after (c.loop-at.at - 1) c.from-seen.result (omega arith)
    (c.loop-at.invariant.counted ∙ ap (λ k. delimiters c.args.delim (drop k x)) (omega arith)) c.from-seen.ensures c.loop-at.invariant.fewer c.if-seen-wanted.true)

pub loop-at-preserved : goal.loop-at-preserved
loop-at-preserved c = grind (arith, common_steps)
