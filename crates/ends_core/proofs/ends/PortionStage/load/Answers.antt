use Rattle.std.proofs.Common.{refl}
use Rattle.ports_core.proofs.InputsLemmas.{passes_none}
use Rattle.ends_core.proofs.EndsLemmas.{passed_front, passed_none, passed_span, silent_none}
use Rattle.ends_core.proofs.ends.PortionStage.load.Goals as goal

pub returns-in-First-clause-passes : goal.returns-in-First-clause-passes
returns-in-First-clause-passes g c = passes_none _ _ (silent_none c.args.self.now, passed_none c.args.self.now)

pub returns-in-First-2-clause-passes : goal.returns-in-First-2-clause-passes
returns-in-First-2-clause-passes g c = passes_none _ _ (silent_none c.args.self.now, passed_none c.args.self.now)

pub returns-in-First-3-clause-passes : goal.returns-in-First-3-clause-passes
returns-in-First-3-clause-passes g c = passes_none _ _ (silent_none c.args.self.now, passed_none c.args.self.now)

pub returns-in-FromNth-clause-passes : goal.returns-in-FromNth-clause-passes
returns-in-FromNth-clause-passes g c = passed_front c.in-FromNth.is refl c.pass_over.ensures.passes

pub returns-in-Between-clause-passes : goal.returns-in-Between-clause-passes
returns-in-Between-clause-passes g c = passed_span c.in-Between.is refl c.pass_over-in-Between.ensures.passes
