use Rattle.std.proofs.{Common.{arith, sym}, lemmas.List.nil_from_length}
use Rattle.seg_core.specs.declared.unit.Unit.TheVariants.{Bytes}
use Rattle.ports_core.proofs.InputsLemmas.{passes_none, passes_so, passes_by}
use Rattle.ends_core.proofs.KeptLemmas.{fewer_left, stays}
use Rattle.ends_core.proofs.front.Front.pass_bytes.Goals as goal

pub returns-in_default-clause-passes : goal.returns-in_default-clause-passes
returns-in_default-clause-passes g c = rw c.shown.ensures.same (passes_none _ _ (stays c.args.self.now Bytes))

pub returns-then-not-pass_over-clause-passes : goal.returns-then-not-pass_over-clause-passes
returns-then-not-pass_over-clause-passes g c = rw (← c.shown.ensures.same) (passes_so _ (passes_by _ c.pass_over.result c.if-not-pass_over.true c.pass_over.ensures.passes)
    (λ x long so. rw (nil_from_length x (sym long)) (stays c.args.self.now Bytes)))

pub returns-clause-passes : goal.returns-clause-passes
returns-clause-passes g c = rw (← c.shown.ensures.same) (passes_so _ (passes_by _ c.pass_over.result c.if-not-pass_over.false c.pass_over.ensures.passes)
    (λ x long so. fewer_left c.args.self.now c.min-count.result x (omega arith) (sym long)))
