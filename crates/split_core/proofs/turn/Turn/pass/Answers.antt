use Rattle.std.proofs.Common.{◌∙◌}
use Rattle.ports_core.proofs.HandedOn.{result_is}
use Rattle.split_core.{specs.inner.Ways.PassesAs, proofs.TurnLemmas.{lacks_room, passes_at, picked}}
use Rattle.split_core.proofs.turn.Turn.pass.Goals as goal

pub returns-in_err-gather-clause-passes : goal.returns-in_err-gather-clause-passes
returns-in_err-gather-clause-passes g c = result_is (PassesAs _ _ _ _) _ _ c.from_residual.ensures.1
    (rw (← c.self.view_is, c.gather.ensures.delim, c.gather.ensures.count) (lacks_room _ _ c.args.piece.now))

pub returns-clause-passes : goal.returns-clause-passes
returns-clause-passes g c = let gathers = c.in_ok-gather.ensures.gathers in
    rw (← c.self.view_is, c.gather.ensures.delim, c.gather.ensures.count, gathers.next_is) (passes_at g.O.Outs.visible
    _ _ _ c.requires
    (rw (c.at.ensures ∙ picked _ c.args.piece.now c.self.invariant gathers.gathered_is) at c.write_bytes.ensures))
