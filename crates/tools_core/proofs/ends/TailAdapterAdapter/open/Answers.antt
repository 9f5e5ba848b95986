use Rattle.std.proofs.{Common.{Ok, None, Some, true, false, refl, sym, ◌∙◌, ap}, lemmas.Bool.false≢true}
use Rattle.run_core.{proofs.InputLemmas.shows_something}
use Rattle.words_core.specs.EndsWords.{EndsAsked}
use Rattle.words_core.specs.EndsWords.{is_plus}
use Rattle.tools_core.proofs.AdapterLemmas.{between_starts, tail_by, tail_starts, no_memory_for, opened_still}
use Rattle.tools_core.proofs.ends.TailAdapterAdapter.open.Goals as goal

pub returns-then-is_plus-clause-opens : goal.returns-then-is_plus-clause-opens
returns-then-is_plus-clause-opens g c =
    let (shown, says) = shows_something g.I.Inputs.visible c.args.source (g.I.Inputs.sources c.args.inputs.now) in
    let is = tail_by shown c.settings.view_is (sym c.is_plus.ensures ∙ c.if-is_plus.true) in (
      shown,
      says,
      (
        opened_still _ _ c.open.result is c.open.ensures.holds c.open.ensures.does c.open.ensures.bound
            c.requires.output (tail_starts c.settings.inside.delim c.settings.inside.unit true c.settings.inside.count.amount c.requires.streams),
        no_memory_for _ _ _ _ c.open.result _ (λ may. absurd (false≢true (sym may))) c.requires.streams c.open.ensures.err,
      ),
    )

pub returns-in-Some-clause-opens : goal.returns-in-Some-clause-opens
returns-in-Some-clause-opens g c =
    let (slot, at, seen) = c.in-Some.ensures.found in
    let asked = c.args.self.now.settings.now in
    let signed = ap (λ (asked : EndsAsked). is_plus asked.count.sign) (sym c.settings.view_is) ∙ sym c.is_plus.ensures ∙ c.if-is_plus.false in
    let is = tail_by (Some seen.text) {those = asked} refl signed in (
      Some seen.text,
      rw at (λ t. sym (seen.shown t)),
      (
        opened_still _ _ (Ok c.after.result) is c.after.ensures.holds
            (c.after.ensures.does asked.delim asked.unit asked.count.amount seen.text (sym seen.place)
            (sym seen.len)) c.after.ensures.bound c.requires.output
            (between_starts _ _ c.requires.streams),
        tt,
      ),
    )

pub returns-in-None-clause-opens : goal.returns-in-None-clause-opens
returns-in-None-clause-opens g c =
    let is = tail_by None c.settings.view_is (sym c.is_plus.ensures ∙ c.if-is_plus.false) in (
      None,
      c.in-None.ensures.none,
      (
        opened_still _ _ c.open-in-None.result is c.open-in-None.ensures.holds c.open-in-None.ensures.does c.open-in-None.ensures.bound
            c.requires.output (tail_starts c.settings.inside.delim c.settings.inside.unit false c.settings.inside.count.amount c.requires.streams),
        no_memory_for _ _ _ _ c.open-in-None.result _
            (λ may. rw (← c.settings.view_is, sym c.is_plus.ensures ∙ c.if-is_plus.false) refl) c.requires.streams c.open-in-None.ensures.err,
      ),
    )
