use Rattle.ports_core.proofs.HandedOn.{result_is}
use Rattle.std.proofs.Common.{arith, inl, inr, refl, sym}
use Rattle.split_core.{
  specs.inner.Chunker.PassesAs,
  proofs.{
    ChunkerLemmas.{changed_more, passes_not, passes_said},
    chunker.Chunker.pass_said.Goals.{else-past-gt0-via-then-past-gt0+else-is_each, else-past-gt0-via-else-past-gt0},
  },
}
use Rattle.split_core.proofs.chunker.Chunker.pass_said.Goals as goal

pub returns-in_err-past : goal.returns-in_err-past
returns-in_err-past g c = rw (← c.self.view_is) (result_is (PassesAs _ _ _ _) _ _ c.from_residual.ensures.1
    (passes_not c.args.piece.now (rw (← c.self.view_is) at c.requires.said) c.in_err-past.ensures))

pub returns-then-is_each : goal.returns-then-is_each
returns-then-is_each g c = rw (← c.self.view_is) (changed_more _ c.args.piece.now
    (rw (← c.self.view_is) at c.requires.said) c.in_ok-past.ensures
    (omega arith) (sym c.if-is_each.ensures))

pub returns : goal.returns
returns g c = rw (← c.self.view_is) (passes_said _ (rw (← c.self.view_is) at c.requires.said)
    _ refl c.in_ok-past.ensures (elim c.else-past-gt0.branch [
      | else-past-gt0-via-then-past-gt0+else-is_each w ↦ inr (sym w.if-is_each.ensures)
      | else-past-gt0-via-else-past-gt0 w ↦ inl (omega arith)
    ]))
