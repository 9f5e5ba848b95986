use Rattle.std.proofs.Common.{◌≡◌, ◌⊎◌, ℕ, ◌<◌, List, [], ◌∷◌, Some, Result, Ok, codes, false, length, inl, inr, refl, ◌∙◌, ap}
use Rattle.mem_core.specs.MemInState.{shown_by}
use Rattle.seg_core.specs.declared.cut.Way.{Way}
use Rattle.run_core.specs.Input.{Input, file_input, inputs_at}
use Rattle.words_core.specs.{SplitWords.SplitAsked, Words.settings_of, declared.settings.Settings.{Settings, TheVariants.Split}}
use Rattle.tools_core.specs.Outcome.{names_at, names_read}
use Rattle.promises_core.specs.Promises.{Completes, SplitsOther}
use Rattle.run_tests.{specs.inner.Calls.{IsCutShort, in_file, run_of}, proofs.CallLemmas.shown_some}
use Rattle.run_tests.proofs.law_calls.cut_as_shown.Goals as goal
use Rattle.tools_core.specs.Run.{Run}

-- what a file shows and what it has, as an input
abbrev changing : (bytes shown : List ℕ) → Input
changing bytes shown = file_input (codes "f") 1 (Some (record { bytes = bytes; breaks_off = false; shown = shown_by shown }))

splits_other : {run : Run} {asked : SplitAsked} {how : Way} (bytes shown : List ℕ) → Completes run (Split asked)
    → asked.way ≡ how → names_read run.calling run.words ≡ codes "f" ∷ []
    → inputs_at run.world (codes "f" ∷ []) ≡ changing bytes shown ∷ [] → 0 < length shown
    → (length bytes ≡ length shown → ⊥) → SplitsOther run asked how (changing bytes shown) shown bytes
splits_other {run = run} bytes shown whole is only lies some other = record {
  whole = whole;
  is = is;
  only = ap (inputs_at run.world) only ∙ lies;
  showed = shown_some shown some;
  some = some;
  gave = ap (λ shown. Some (record { bytes = bytes; breaks_off = false; shown = shown })) (shown_some shown some);
  other = other;
}

-- a run that split such a file in this way left what it should, or was cut short
left_so : {Left : Type 0} {run : Run} {asked : SplitAsked}
    → Completes run (Split asked) ⊎ IsCutShort run (Split asked) → settings_of run.calling run.words ≡ Ok (Split asked)
    → asked.input ≡ codes "f" → (Completes run (Split asked) → names_read run.calling run.words ≡ codes "f" ∷ [] → Left)
    → Left ⊎ IsCutShort run (Split asked)
left_so (inl whole) read only leaves =
    inl (leaves whole (ap (λ (meant : Result Settings _). names_at meant) read ∙ ap (λ name. name ∷ []) only))
left_so (inr short) read only leaves = inr short

pub returns : goal.returns
returns c =
    let bytes = c.args.bytes.now in
    let shown = c.args.shown.now in
    let file = changing bytes shown in
    let ended = c.cutting_changes_nothing.ensures.ended in record {
      files = λ asked chunks read only is some other.
          let (rest, ran) = rw c.in_ok-inputs.ensures at (c.in_ok-status.ensures (Split asked) read refl) in
          let one = run_of _ _ (in_file bytes shown) rest c.ran.new.outs c.in_ok-status.status in (
            one,
            refl,
            refl,
            left_so (ended one (Split asked) ran) read only (λ whole names.
                c.split_loses_nothing.ensures.changed one asked chunks file shown bytes
                (splits_other bytes shown whole is names refl some other)),
          );
      chunk = λ asked place chunks read only is some other.
          let (rest, ran) = rw c.in_ok-inputs.ensures at (c.in_ok-status.ensures (Split asked) read refl) in
          let one = run_of _ _ (in_file bytes shown) rest c.ran.new.outs c.in_ok-status.status in (
            one,
            refl,
            refl,
            left_so (ended one (Split asked) ran) read only (λ whole names.
                c.split_loses_nothing.ensures.chunk_changed one asked place chunks file shown bytes
                (splits_other bytes shown whole is names refl some other)),
          );
    }
