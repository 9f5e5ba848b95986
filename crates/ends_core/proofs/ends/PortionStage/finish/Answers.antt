use Rattle.std.proofs.{Common.ap, lemmas.Result.IfErr-weaker}
use Rattle.ends_core.{specs.Stage.missing_of, proofs.EndsLemmas.{ends_changed, ends_stopped}}
use Rattle.ends_core.proofs.ends.PortionStage.finish.Goals as goal

pub returns-in-Between-clause-cut : goal.returns-in-Between-clause-cut
returns-in-Between-clause-cut g c = IfErr-weaker c.finish.result _ _ (λ fault err. ends_changed g.O.Outs.visible (ap missing_of c.in-Between.is) err.0 err.1) c.finish.ensures.err

pub returns-in-Last-clause-cut : goal.returns-in-Last-clause-cut
returns-in-Last-clause-cut g c = IfErr-weaker c.write_front.result _ _ (λ fault. ends_stopped g.O.Outs.visible c.in-Last.is c.len-all.ensures) c.write_front.ensures.wrote.cut
