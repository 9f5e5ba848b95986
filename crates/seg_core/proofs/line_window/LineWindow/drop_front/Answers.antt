use Rattle.std.proofs.Common.{◌≤◌, subst, sym, length, arith}
use Rattle.seg_core.{
  specs.{Window.Window, Blocks.text_of},
  proofs.{Delimiters.delimiters-take-le, BlockLemmas.counted_drop},
}
use Rattle.seg_core.proofs.line_window.LineWindow.drop_front.Goals as goal

pub overflow_sub-self : goal.overflow_sub-self
overflow_sub-self c = omega (arith, delimiters-take-le c.self.inside.delim c.args.n (text_of c.self.inside.blocks.items))

pub invariant_of-self : goal.invariant_of-self
invariant_of-self c =
    counted_drop c.args.n c.self.invariant (subst (λ (w : Window). c.args.n ≤ length w.held) (sym c.self.view_is) c.requires)
    c.drop_front.ensures.left c.drop_front.ensures.delimiters c.drop_front.ensures.each
