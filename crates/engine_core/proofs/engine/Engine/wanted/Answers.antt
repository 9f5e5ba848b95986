use Rattle.engine_core.proofs.engine.Engine.wanted.Goals as goal

pub returns-clause-few : goal.returns-clause-few
returns-clause-few g c = rw (← c.self.view_is) c.wanted.ensures.few
