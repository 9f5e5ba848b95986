use Rattle.std.proofs.Common.{◌<◌, ◌∙◌, ap, map, length, arith}
use Rattle.mem_core.{specs.MemInState.with_break, proofs.MemInLemmas.break_there}
use Rattle.mem_core.proofs.mem_in.MemIn.break_at.Goals as goal

pub returns-then-slot-len-clause-ok : goal.returns-then-slot-len-clause-ok
returns-then-slot-len-clause-ok c =
    break_there (record { sources = c.self.inside.sources.items; files = c.self.inside.files.items; breaks = map (λ b. (b.slot, b.at)) c.self.inside.breaks.items }) c.args.at
    (let within : c.args.slot < length c.self.inside.sources.items = omega arith in within) c.index_mut.ensures.value c.break_at.ensures
    ∙ ap (with_break c.args.slot c.args.at) c.self.view_is
