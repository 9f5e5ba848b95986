use Rattle.std.proofs.{Common.{inl, inr, false, refl, eqb-true, eq-eqb}, lemmas.Bool.false≢true}
use Rattle.scan_core.proofs.Enterings.{never_led}
use Rattle.scan_core.proofs.hops.leads_to.Goals as goal

pub returns-then-not-is_open : goal.returns-then-not-is_open
returns-then-not-is_open c = (λ t. absurd (false≢true t), λ f. absurd (never_led c.branch_of-branch.ensures c.is_open.ensures c.if-not-is_open.true f))

pub returns-then-to-branch : goal.returns-then-to-branch
returns-then-to-branch c = (
  λ t. (c.branch_of-branch.ensures.exact false false c.args.to).1
      (c.is_open.ensures.0 c.if-not-is_open.false, inl c.if-to-branch.true),
  λ f. refl,
)

pub returns : goal.returns
returns c = (
  λ t. (c.branch_of-branch.ensures.exact false false c.args.to).1 (c.is_open.ensures.0 c.if-not-is_open.false, inr (eqb-true _ _ t)),
  λ f. elim ((c.branch_of-branch.ensures.exact false false c.args.to).0 f).1 [ inl e ↦ absurd (c.if-to-branch.false e) | inr e ↦ eq-eqb _ _ e ],
)
