use Rattle.std.proofs.Common.{map, refl}
use Rattle.ports_core.{specs.declared.calling.Calling.TheVariants.Cutters, proofs.InputsLemmas.fresh_asks}
use Rattle.tools_core.{specs.Outcome.names_read, proofs.RunLemmas.{ends_as_asked, refused_or_memory}}
use Rattle.run_core.proofs.InputLemmas.{fresh_counts, fresh_is}
use Rattle.tools_core.proofs.run.run.Goals as goal

pub returns-in-Ok-clause-ends : goal.returns-in-Ok-clause-ends
returns-in-Ok-clause-ends g c visible watch =
    ends_as_asked _ _ c.in-Ok.settings c.in-Ok.ensures.ok (c.run_tool.ensures.ends visible c.args.words.now watch)

pub returns-in-Err : goal.returns-in-Err
returns-in-Err g c = record {
  untouched = λ none. refl;
  unopened = λ none. refl;
  ends = λ visible watch.
      refused_or_memory _ _ (fresh_is c.requires.inputs) c.in-Err.ensures.err c.refuse_words.ensures;
  opened = fresh_counts (names_read Cutters (map (λ word. word.now) c.args.words.now)) c.requires.inputs;
  asked = fresh_asks _ _ c.requires.inputs;
}
