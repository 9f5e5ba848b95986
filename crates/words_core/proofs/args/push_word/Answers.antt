use Rattle.std.proofs.Common.{◌∙◌}
use Rattle.ports_core.proofs.HandedOn.{fault_is}
use Rattle.words_core.proofs.CalledLemmas.{first_invalid, place_is}
use Rattle.words_core.proofs.args.push_word.Goals as goal

pub returns-in_err-word-clause-unreadable : goal.returns-in_err-word-clause-unreadable
returns-in_err-word-clause-unreadable c =
    let words = c.args.words.now in
    fault_is c.from_residual.result _ _ c.from_residual.ensures.1 (place_is c.in_err-word.field-0.0
    (λ place is. rw (is.0 ∙ c.len.ensures ∙ words.ok.0) (first_invalid words.items _ is.1))
    c.in_err-word.ensures.unreadable)
