use Rattle.std.proofs.Common.{◌+◌, drop-drop, refl, rules, subst, sym}
use Rattle.csplit_core.{
  specs.inner.Cutter.IsWhole,
  proofs.{LineLemmas.{rest_all, whole_drop}, StretchLemmas.extended},
}
use Rattle.csplit_core.proofs.line_cutter.LineCutter.pass_on.Goals as goal

pub next_size-next-requires-clause-whole : goal.next_size-next-requires-clause-whole
next_size-next-requires-clause-whole c = let n = c.pass_over-passed.result.size in
    subst IsWhole (sym (rest_all (c.args.end + n) c.args.text.now))
    (subst IsWhole (drop-drop n c.args.end c.args.text.now) (whole_drop n c.requires.place.rest))

pub returns : goal.returns
returns c = let left = rest_all (c.args.end + c.pass_over-passed.result.size) c.args.text.now in
    extended c.pass_over-passed.result _ c.requires.place
    (rw (rest_all c.args.end c.args.text.now) at c.pass_over-passed.ensures) refl refl
    (rw left at c.next_size-next.ensures.some) (rw left at c.next_size-next.ensures.none) (λ is. search rules)
