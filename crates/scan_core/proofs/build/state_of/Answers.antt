use Rattle.std.proofs.{Common.{[], ap, length, ◌∙◌, sym}, lemmas.List.get_or_default}
use Rattle.scan_core.{specs.inner.Words.flags_of, proofs.Searchings.{set_size, state_is}}
use Rattle.scan_core.proofs.build.state_of.Goals as goal

pub copy_from_slice-requires : goal.copy_from_slice-requires
copy_from_slice-requires c =
    let set = c.set.view_is ∙ c.index-sets-state.is ∙ get_or_default _ c.args.state _ [] c.requires.state in
    c.requires.size ∙ sym (ap length c.deref.ensures.value ∙ set_size _ c.requires.sets c.requires.state set)

pub returns-clause-noted : goal.returns-clause-noted
returns-clause-noted c =
    let set = c.set.view_is ∙ c.index-sets-state.is ∙ get_or_default _ c.args.state _ [] c.requires.state in
    state_is (ap flags_of (c.copy_from_slice.ensures.after ∙ c.deref.ensures.value) ∙ set) c.spread_all.ensures c.positions-count.ensures c.is_fixed.ensures c.positions.ensures c.has.ensures
