use Rattle.std.proofs.Common.{[], ◌∷◌, ◌++◌, append-nil, append_assoc, refl, subst}
use Rattle.ports_core.proofs.HandedOn.{fault_is}
use Rattle.words_core.specs.Called.{IsFirstInvalid}
use Rattle.words_core.proofs.CalledLemmas.{place_is, read_on}
use Rattle.words_core.proofs.args.read_rest.Goals as goal

pub loop-place-preserved : goal.loop-place-preserved
loop-place-preserved g c =
    let (read, so_far, given, begin) = c.loop-place.invariant in
    let here = rw c.in-Ok-Some.field-0-is at c.in-Ok-Some.ensures in (
      read ++ c.in-Ok-Some.bytes.items ∷ [],
      read_on c.args.tool _ _ read so_far c.in_ok-push_word-in-Ok-Some.ensures.pushed,
      λ rest more. rw (append_assoc read (c.in-Ok-Some.bytes.items ∷ []) rest) (given (c.in-Ok-Some.bytes.items ∷ rest) (here, more)),
      λ rest more. rw (append_assoc read (c.in-Ok-Some.bytes.items ∷ []) rest) (begin (c.in-Ok-Some.bytes.items ∷ rest) (here, more)),
    )

pub returns-in-Ok-None-clause-words : goal.returns-in-Ok-None-clause-words
returns-in-Ok-None-clause-words g c =
    let last = rw c.in-Ok-None.field-0-is at c.in-Ok-None.ensures in
    (c.loop-place.invariant.0, rw append-nil at (c.loop-place.invariant.2 [] last), c.loop-place.invariant.1)

pub returns-in_err-push_word-in-Ok-Some-clause-unreadable : goal.returns-in_err-push_word-in-Ok-Some-clause-unreadable
returns-in_err-push_word-in-Ok-Some-clause-unreadable g c =
    let (read, so_far, given, begin) = c.loop-place.invariant in
    let here = rw c.in-Ok-Some.field-0-is at c.in-Ok-Some.ensures in
    fault_is c.from_residual.result _ _ c.from_residual.ensures.1 (place_is c.in_err-push_word-in-Ok-Some.field-0.0 (λ place is. (
      read ++ c.in-Ok-Some.bytes.items ∷ [],
      begin (c.in-Ok-Some.bytes.items ∷ []) (here, tt),
      subst (λ words. IsFirstInvalid words place) (read_on c.args.tool _ _ read so_far refl) is,
    )) c.in_err-push_word-in-Ok-Some.ensures.unreadable)
