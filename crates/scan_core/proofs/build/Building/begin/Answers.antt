use Rattle.std.proofs.{Common.{[], ◌∷◌, ◌++◌, length, sym, ap, ◌∙◌, arith}, lemmas.Bool.false≢true}
use Rattle.scan_core.{specs.inner.Words.{IsIn, flags_of}, proofs.Searchings.front_built}
use Rattle.scan_core.proofs.build.Building.begin.Goals as goal

pub returns-clause-ok : goal.returns-clause-ok
returns-clause-ok c =
    let begun = c.in_ok-words.ensures.ok in
    let sets = c.in_ok-push.ensures.items ∙ ap (λ l. l ++ flags_of c.in_ok-front.front.items ∷ []) c.new-sets.ensures.items
    ∙ ap (λ w. flags_of w ∷ []) (c.in_ok-front.ensures.items ∙ c.deref-3.ensures.value) in
    let none : IsIn c.in_ok-words.words.items (length c.args.nodes.now) → ⊥ = λ h.
    false≢true (sym c.if-has.false ∙ c.has.ensures.1 (rw (← c.deref.ensures.value) at h)) in
    record {
      built = rw (← c.new.ensures.items) at (front_built _ begun.size begun.exact none sets);
      room = omega (arith, ap length sets);
      size = begun.size;
      order = omega arith;
    }
