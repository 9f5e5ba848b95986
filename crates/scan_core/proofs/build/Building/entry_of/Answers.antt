use Rattle.std.{
  proofs.{
    Common.{◌≡◌, ◌/◌, [], refl, ap, ◌∙◌, length, arith},
    lemmas.{List.{get_or_default, with_items_is}, Result.IfOk-weaker},
  },
  specs.Vec.with_items,
}
use Rattle.scan_core.{
  specs.{Counted.set_at, declared.build.Building.Building, inner.{Built.Led, Words.flags_of}},
  proofs.Searchings.{twin_entry, led_on, set_size},
}
use Rattle.scan_core.proofs.build.Building.entry_of.Goals as goal

pub returns-then-twin-byte-clause-ok : goal.returns-then-twin-byte-clause-ok
returns-then-twin-byte-clause-ok c = let f = c.requires.so_far in record { so_far = f; known = c.requires.known; tells = twin_entry _ f c.requires.twin c.if-twin-byte.true c.index.ensures }

pub copy_from_slice-requires : goal.copy_from_slice-requires
copy_from_slice-requires c =
    let f = c.requires.so_far in
    let set = c.set.view_is ∙ c.index-set.ensures ∙ get_or_default _ _ _ [] c.requires.known in
    let size = set_size _ f.built.going c.requires.known set in
    let l = ap length c.deref.ensures.value in
    omega arith

pub returns-clause-ok : goal.returns-clause-ok
returns-clause-ok c =
    let f = c.requires.so_far in
    let set : flags_of c.set.inside.words.items ≡ set_at c.args.self.now.sets.items (c.args.place / 256) =
    c.set.view_is ∙ c.index-set.ensures ∙ get_or_default _ _ _ [] c.requires.known in
    let before : c.deref_mut.result.now ≡ c.set.inside.words.items = c.deref_mut.ensures.value ∙ c.copy_from_slice.ensures.items ∙ c.deref.ensures.value in
    let whole = with_items_is c.copy_from_slice.new.self c.advance.new.words (c.advance.ensures.size ∙ c.deref_mut.ensures.len) in
    let new : Building = record { sets = c.lead_to.new.sets; rows = c.args.self.now.rows; words = with_items c.copy_from_slice.new.self c.advance.new.words } in
    let size = c.advance.ensures.size ∙ ap length before ∙ set_size _ f.built.going c.requires.known set in
    IfOk-weaker c.lead_to.result _ (Led c.args.nodes.now c.args.most c.args.place new)
    (λ read l. led_on _ f c.requires.known (ap flags_of before ∙ set) size c.advance.ensures.exact
    (rw (c.deref-2.ensures.value ∙ whole) at l) refl whole) c.lead_to.ensures.ok
