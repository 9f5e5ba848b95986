use Rattle.std.proofs.Common.{Bor, ℕ, List, map, ◌∙◌, ◌∷◌, [], refl, sym, ap}
use Rattle.run_core.{specs.Input.{has_dash, standard_input}, proofs.InputLemmas.fresh_counts}
use Rattle.words_core.{specs.{CsplitWords.CsplitAsked, SplitWords.SplitAsked, TeeWords.TeeAsked}}
use Rattle.tee_core.specs.Run.{forgives}
use Rattle.tools_core.{proofs.RunLemmas.{as_task, ends_names, finds_standard}}
use Rattle.ports_core.proofs.InputsLemmas.{fresh_asks}
use Rattle.tools_core.proofs.run.run_tool.Goals as goal

pub returns-in-Head : goal.returns-in-Head
returns-in-Head g c =
    let names = ends_names c.deref.ensures.value c.settings.view_is in record {
      ends = λ visible words watch. rw c.in-Head.is (as_task _ refl (rw names at c.run_inputs.ensures.ends));
      opened = rw c.in-Head.is (rw names at c.run_inputs.ensures.opened);
      asked = c.run_inputs.ensures.asked;
      untouched = λ none. c.run_inputs.ensures.untouched (ap has_dash names ∙ rw c.in-Head.is at none);
    }

pub returns-in-Tail : goal.returns-in-Tail
returns-in-Tail g c =
    let names = ends_names c.deref-in-Tail.ensures.value c.ends.view_is in record {
      ends = λ visible words watch. rw c.in-Tail.is (as_task _ refl (rw names at c.run_inputs-in-Tail.ensures.ends));
      opened = rw c.in-Tail.is (rw names at c.run_inputs-in-Tail.ensures.opened);
      asked = c.run_inputs-in-Tail.ensures.asked;
      untouched = λ none. c.run_inputs-in-Tail.ensures.untouched (ap has_dash names ∙ rw c.in-Tail.is at none);
    }

pub returns-in-Split : goal.returns-in-Split
returns-in-Split g c =
    let name = ap (λ (asked : SplitAsked). asked.input) c.settings-in-Split.view_is in record {
      ends = λ visible words watch. rw c.in-Split.is (as_task _ refl (rw name at c.run_inputs-in-Split.ensures.ends));
      opened = rw c.in-Split.is (rw name at c.run_inputs-in-Split.ensures.opened);
      asked = c.run_inputs-in-Split.ensures.asked;
      untouched = λ none. c.run_inputs-in-Split.ensures.untouched
          (ap (λ one. has_dash (one ∷ [])) name ∙ rw c.in-Split.is at none);
    }

pub returns-in-Csplit : goal.returns-in-Csplit
returns-in-Csplit g c = record {
  ends = λ visible words watch. rw c.in-Csplit.is (as_task _ (_, c.operands.ensures, refl)
      (rw (ap (λ (asked : CsplitAsked). asked.input) c.asked.view_is) at c.run_inputs-in-Csplit.ensures.ends));
  opened = rw c.in-Csplit.is (rw (ap (λ (asked : CsplitAsked). asked.input) c.asked.view_is) at c.run_inputs-in-Csplit.ensures.opened);
  asked = c.run_inputs-in-Csplit.ensures.asked;
  untouched = λ none. c.run_inputs-in-Csplit.ensures.untouched
      (ap (λ (asked : CsplitAsked). has_dash (asked.input ∷ [])) c.asked.view_is ∙ rw c.in-Csplit.is at none);
}

pub returns-in-About : goal.returns-in-About
returns-in-About g c = record {
  ends = λ visible words watch. rw c.in-About.is ([], record { are = refl; there = λ t. refl }, c.tell_about.ensures);
  opened = rw c.in-About.is (fresh_counts [] c.requires.inputs);
  asked = fresh_asks _ _ c.requires.inputs;
  untouched = λ none. refl;
}

pub returns-in-Tee-clause-ends : goal.returns-in-Tee-clause-ends
returns-in-Tee-clause-ends g c visible words watch =
    let mode = ap (λ (those : TeeAsked). those.mode) c.settings-in-Tee.view_is in
    let on_broken = ap (λ (those : TeeAsked). those.on_broken) c.settings-in-Tee.view_is in
    let names = ap (map (λ (name : Bor (List ℕ)). name.now)) c.deref-in-Tee.ensures.value ∙ ap
    (λ (those : TeeAsked). those.names) c.settings-in-Tee.view_is in
    let (content, there, (ends, came)) = c.run_tee.ensures.ends in
    rw c.in-Tee.is (
      standard_input content ∷ [],
      finds_standard there,
      record {
        content = content;
        input = refl;
        ends = rw (mode, on_broken, names) at ends;
        came = came;
        whole = λ t well sound. rw (mode, names, ← (there t)) at
            (c.run_tee.ensures.whole t well (λ forgiving. sound (ap forgives (sym on_broken) ∙ forgiving)));
      },
    )
