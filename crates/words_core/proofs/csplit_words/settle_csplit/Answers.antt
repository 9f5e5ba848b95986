use Rattle.std.proofs.{Common.{◌∙◌, ap, map, arith}, lemmas.Bool.Decides.nat_tests}
use Rattle.words_core.{specs.Given.{Given, operand_seen, option_seen}, proofs.CsplitLemmas.settled}
use Rattle.words_core.proofs.csplit_words.settle_csplit.Goals as goal

pub returns-in_ok-style-in-len1-up : goal.returns-in_ok-style-in-len1-up
returns-in_ok-style-in-len1-up c =
    let there =
    settled c.args.calling c.args.spelled.now c.deref.result.now _ c.as_slice.result.now c.read_settings.result
    (ap (map option_seen) c.deref.ensures.value ∙ ap (λ (given : Given). given.options) c.spelled.view_is)
    (ap (map operand_seen) c.as_slice.ensures.value ∙ ap (λ (given : Given). given.operands) c.spelled.view_is)
    c.in_ok-style-in-len1-up.ensures.ok c.in-len1-up.len_at_least (grind (arith, nat_tests)) c.read_settings.ensures.ok c.read_settings.ensures.err in
    record { ok = there.0; err = there.1; operands = c.read_settings.ensures.operands }
