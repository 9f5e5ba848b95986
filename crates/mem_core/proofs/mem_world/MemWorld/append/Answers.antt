use Rattle.std.proofs.Common.{◌<◌, ◌≤◌, ◌∙◌, ◌++◌, length, sym, ap, subst, arith}
use Rattle.watch_core.{specs.Edits.World, proofs.WorldLemmas.{file_changed, file_stays}}
use Rattle.mem_core.proofs.mem_world.MemWorld.append.Goals as goal

pub returns-in_ok-extend_from_slice : goal.returns-in_ok-extend_from_slice
returns-in_ok-extend_from_slice c = file_changed c.args.self.now c.self.inside.links.items c.self.inside.files.items c.self.inside.ended.items c.self.inside.bars.items _ c.in-Some.file (λ held. held ++ c.args.bytes.now) c.index_mut.result.now _ c.self.view_is
    (sym c.file_of.ensures ∙ c.in-Some.is) (let within : c.in-Some.file < length c.self.inside.files.items = omega arith in within) c.index_mut.ensures.value
    (c.in_ok-extend_from_slice.ensures.items ∙ ap (λ held. held ++ c.args.bytes.now) c.behind-self.view_is)

pub returns-else-file-len : goal.returns-else-file-len
returns-else-file-len c = file_stays c.args.self.now _ c.in-Some.file (λ held. held ++ c.args.bytes.now) (sym c.file_of.ensures ∙ c.in-Some.is)
    (subst (λ (world : World). length world.files ≤ c.in-Some.file) c.self.view_is (let beyond : length c.self.inside.files.items ≤ c.in-Some.file = omega arith in beyond))
