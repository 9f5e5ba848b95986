use Rattle.std.proofs.Common.{◌∙◌, ℕ, List, None, ap, false, inl, map, string_bytes, subst}
use Rattle.ports_core.specs.Source.{source_at}
use Rattle.tools_core.specs.{Program.ProgramEnds, Run.{Run, visible_by}}
use Rattle.watch_core.specs.DirWatchState.{DirWatchState, files_by, seen}
use Rattle.cutters.proofs.run_args.Goals as goal

pub returns-in-Ok : goal.returns-in-Ok
returns-in-Ok c =
    let same = ap (map (λ word. word.now)) c.deref-in-Ok-2.ensures.value ∙ c.in-Ok.ensures ∙ ap (map string_bytes) c.deref.ensures.value in
    let now = c.run_words.new in
    let ran : List (List ℕ) → DirWatchState → Run = λ words watch. record {
      calling = c.args.args.now.calling;
      words = words;
      world = record { laid = λ slot name. None; standard = (source_at c.args.inputs.now 0).left };
      fed = watch.fed;
      shows = λ n. files_by watch.manner watch.within;
      inputs = now.inputs;
      seen = seen now.watch;
      watched = now.watch.watched;
      outputs = now.outs;
      status = c.run_words.result;
    } in
    let words = map string_bytes c.args.args.now.words.items in
    let watch = c.watch_for-watch.result in
    inl (
      ran words watch,
      subst (λ watch. ProgramEnds (visible_by false false false) (ran words watch)) c.watch_for-watch.ensures
          (subst (λ words. ProgramEnds (visible_by false false false) (ran words watch)) same c.run_words.ensures.ends),
    )
