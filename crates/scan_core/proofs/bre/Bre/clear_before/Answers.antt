use Rattle.std.proofs.Common.{rules, subst}
use Rattle.scan_core.{specs.inner.Needles.{AreBytes, IsNeedle}, proofs.Needles.clear_of}
use Rattle.scan_core.proofs.bre.Bre.clear_before.Goals as goal

pub returns-in-Some-clause-clear : goal.returns-in-Some-clause-clear
returns-in-Some-clause-clear c =
    let bytes : AreBytes c.args.text.now = λ k h. search (rules, c.type_inv.text) in
    let needle = subst (λ code. IsNeedle code c.in-Some.needle) c.self.invariant.0 (rw c.in-Some.is at c.self.invariant.7) in
    rw c.self.view_is at (clear_of _ _ c.self.invariant.1 bytes needle c.find.ensures.lacks)
