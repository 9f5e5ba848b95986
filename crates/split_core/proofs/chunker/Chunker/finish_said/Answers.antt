use Rattle.ports_core.proofs.HandedOn.{result_is}
use Rattle.std.proofs.Common.{◌∙◌, arith, inl, inr, refl, sym}
use Rattle.split_core.{
  specs.inner.Chunker.EndsAs,
  proofs.{
    ChunkerLemmas.{past_same, said_changed, said_ends, said_stops},
    chunker.Chunker.finish_said.Goals.{else-self-size-via-then-self-size+else-not-is_past},
    chunker.Chunker.finish_said.Goals.else-self-size-via-else-self-size,
  },
}
use Rattle.split_core.proofs.chunker.Chunker.finish_said.Goals as goal

pub returns-in_err-end : goal.returns-in_err-end
returns-in_err-end g c = rw (← c.self.view_is) (result_is (EndsAs _ _ _) _ _ c.from_residual.ensures.1
    (said_stops (rw (← c.self.view_is) at c.requires.said)
    (record { said = refl; chunks = refl }) (omega arith)
    (rw (← c.self.view_is) at c.requires.ready) c.in_err-end.ensures.brings c.in_err-end.ensures.broke))

pub returns-then-not-is_past : goal.returns-then-not-is_past
returns-then-not-is_past g c = let ends = c.in_ok-end.ensures in
    rw (← c.self.view_is) (said_changed (rw (← c.self.view_is) at c.requires.said)
    (record { said = refl; chunks = refl }) (omega arith) ends.brings
    (sym (c.if-not-is_past.ensures ∙ past_same _ _ ends.brings.stays.course ends.place)) c.if-self-size.true)

pub returns : goal.returns
returns g c = let ends = c.in_ok-end.ensures in
    rw (← c.self.view_is) (said_ends (rw (← c.self.view_is) at c.requires.said)
    (record { said = refl; chunks = refl }) (omega arith)
    (rw (← c.self.view_is) at c.requires.ready) ends.brings (elim c.else-self-size.branch [
      | else-self-size-via-then-self-size+else-not-is_past w ↦
          inl (sym (w.if-not-is_past.ensures ∙ past_same _ _ ends.brings.stays.course ends.place))
      | else-self-size-via-else-self-size w ↦ inr (omega arith)
    ]))
