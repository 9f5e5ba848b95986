use Rattle.std.proofs.{Common.{◌∷◌, ap, ◌∙◌, subst}, lemmas.Result.IfErr-weaker}
use Rattle.words_core.{
  specs.Called.{IsFirstInvalid, tool_called},
  proofs.CalledLemmas.{all_words, place_is, words_so},
}
use Rattle.words_core.proofs.args.read_args.Goals as goal

pub returns-in-Ok-clause-called : goal.returns-in-Ok-clause-called
returns-in-Ok-clause-called g c =
    let given = rw c.in-Ok-Some.field-0-is at c.in-Ok-Some.ensures in
    let called = c.called_tool-tool.ensures ∙ ap tool_called c.deref.ensures.value in
    all_words (g.A.Arguments.gives c.args.arguments.now) c.in-Ok.args c.read_rest.result given called
    c.in-Ok.ensures.words c.in-Ok.ensures.calling c.read_rest.ensures.words c.read_rest.ensures.calling

pub returns-in-Ok-clause-unreadable : goal.returns-in-Ok-clause-unreadable
returns-in-Ok-clause-unreadable g c =
    let given = rw c.in-Ok-Some.field-0-is at c.in-Ok-Some.ensures in
    let called = c.called_tool-tool.ensures ∙ ap tool_called c.deref.ensures.value in
    IfErr-weaker c.read_rest.result _ _ (λ fault. place_is fault (λ place found. (
      c.in-Ok-Some.name.items ∷ found.0,
      (given, found.1),
      subst (λ words. IsFirstInvalid words place) (words_so c.in-Ok-Some.name.items found.0 called c.in-Ok.ensures.words) found.2,
    ))) c.read_rest.ensures.unreadable
