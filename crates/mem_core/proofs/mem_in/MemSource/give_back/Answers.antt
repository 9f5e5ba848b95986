use Rattle.std.proofs.Common.{◌≤◌, ◌∙◌, sym, ap, subst, arith}
use Rattle.ports_core.specs.Source.{Source, gets_back}
use Rattle.mem_core.proofs.MemInLemmas.{set_back}
use Rattle.mem_core.proofs.mem_in.MemSource.give_back.Goals as goal

pub returns : goal.returns
returns c =
    let s = c.self.inside in
    let few : c.args.count ≤ s.last = subst (λ (those : Source). c.args.count ≤ those.last) (sym c.self.view_is) c.requires in
    set_back _ _ s.bytes.items s.given c.args.count _ _ s.last _ _ _ _ _ (omega arith)
    (omega arith) ∙ ap (gets_back c.args.count) c.self.view_is
