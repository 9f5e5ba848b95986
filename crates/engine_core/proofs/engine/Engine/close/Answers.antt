use Rattle.std.proofs.Common.{refl, sym, ◌∙◌, rules}
use Rattle.engine_core.specs.Engine.{over}
use Rattle.engine_core.proofs.EngineLemmas.{finish_refused, caused}
use Rattle.engine_core.proofs.engine.Engine.close.Goals as goal

pub returns-then-replace-clause-finishes : goal.returns-then-replace-clause-finishes
returns-then-replace-clause-finishes g c = rw (← c.self.view_is) (finish_refused _ _ _ _ (g.met.S.Stage.lawful _)
    (over (sym c.replace.ensures.value ∙ c.if-replace.true) refl))

pub returns-clause-finishes : goal.returns-clause-finishes
returns-clause-finishes g c = rw (← c.self.view_is) (search (rules, caused))
