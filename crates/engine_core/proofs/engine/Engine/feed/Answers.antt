use Rattle.std.proofs.{Common.{refl, arith, inl, inr}, lemmas.Grind.common_steps}
use Rattle.engine_core.{specs.Engine.{over, long}, proofs.EngineLemmas.{pass_refused, passes_caused}}
use Rattle.engine_core.proofs.engine.Engine.feed.Goals as goal

pub returns-then-self-clause-passes : goal.returns-then-self-clause-passes
returns-then-self-clause-passes g c = rw (← c.self.view_is) (pass_refused _ _ _ _ (g.met.S.Stage.lawful _) _ (inr refl) (over c.if-self.true refl))

pub returns-in_default-clause-passes : goal.returns-in_default-clause-passes
returns-in_default-clause-passes g c = rw (← c.self.view_is) (pass_refused _ _ _ _ (g.met.S.Stage.lawful _) _
    (inl refl) (long c.if-self.false (grind arith) refl))

pub returns-in-Ok-clause-passes : goal.returns-in-Ok-clause-passes
returns-in-Ok-clause-passes g c = grind arith

pub returns-in-Ok-clause-holds : goal.returns-in-Ok-clause-holds
returns-in-Ok-clause-holds g c = grind (arith, common_steps)

pub returns-in-Err-clause-passes : goal.returns-in-Err-clause-passes
returns-in-Err-clause-passes g c = rw (← c.self.view_is) (passes_caused c.if-self.false c.in-Err.ensures)
