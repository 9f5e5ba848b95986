use Rattle.std.proofs.{
  Common.{◌≡◌, ◌∙◌, ap, refl, string_bytes, subst, sym},
  lemmas.{Bool.false≢true, Str.IsUtf8-had},
}
use Rattle.std.specs.Str.{IsUtf8}
use Rattle.words_core.proofs.CalledLemmas.{invalid_is, marked_is, text_is}
use Rattle.words_core.proofs.args.read_word.Goals as goal

pub returns-in-Ok-clause-word : goal.returns-in-Ok-clause-word
returns-in-Ok-clause-word c =
    let same : string_bytes c.in-Ok.word ≡ c.args.bytes.items = ap (λ bytes. bytes.items) c.in-Ok.ensures.ok in
    same ∙ text_is c.args.tool _ (subst IsUtf8 same (IsUtf8-had _ c.in-Ok.word.ok))

pub returns-in-Ok-marked-clause-word : goal.returns-in-Ok-marked-clause-word
returns-in-Ok-marked-clause-word c =
    let bytes = c.as_bytes.ensures ∙ ap (λ bytes. bytes.items) c.in-Err.ensures.err in
    marked_is c.args.tool _ (sym c.reads_any.ensures ∙ c.if-reads_any.true)
    (λ text. absurd (false≢true (c.in-Err.ensures.succeeds text))) (rw bytes at c.in-Ok-marked.ensures)

pub returns-clause-unreadable : goal.returns-clause-unreadable
returns-clause-unreadable c = (
  refl,
  invalid_is c.args.tool _ (sym c.reads_any.ensures ∙ c.if-reads_any.false)
      (λ text. absurd (false≢true (c.in-Err-2.ensures.succeeds text))),
)
