use Rattle.std.proofs.Common.{IfSome, subst, sym}
use Rattle.engine_core.{specs.Engine.TookIn, proofs.LoadLemmas.{loads_none, loads_still}}
use Rattle.ports_core.proofs.InputsLemmas.{passes_by, passes_so}
use Rattle.split_core.{
  specs.{Alike.as_if, Ways.terms, inner.Chunker.{TakesFront, passed_to}},
  proofs.AlikeLemmas.holds_itself,
}
use Rattle.split_core.specs.declared.splitter.Splitter.TheVariants as way
use Rattle.split_core.proofs.chunker.Chunker.load.Goals as goal

pub returns-in_default-clause-loads : goal.returns-in_default-clause-loads
returns-in_default-clause-loads g c = loads_none _ _
    (holds_itself terms {stage = way.Chunks c.args.self.now} c.requires.fresh) c.requires.none

pub returns-then-not-pass_over-clause-loads : goal.returns-then-not-pass_over-clause-loads
returns-then-not-pass_over-clause-loads g c = loads_still _
    (holds_itself terms {stage = way.Chunks c.args.self.now} c.requires.fresh) c.requires.none
    (passes_by _ _ c.if-not-pass_over.true c.pass_over.ensures.passes)

pub returns-clause-loads : goal.returns-clause-loads
returns-clause-loads g c = passes_so _
    (passes_by _ _ c.if-not-pass_over.false c.pass_over.ensures.passes)
    (λ x long so. subst (λ next. TookIn (as_if terms) (way.Chunks c.args.self.now)
    (way.Chunks (passed_to next c.in-Some.front c.in-Some.place c.in-Some.is_within)) x) (sym c.self.view_is)
    (subst (λ front. IfSome front (TakesFront c.args.self.now)) c.in-Some.is c.front.ensures x long))
