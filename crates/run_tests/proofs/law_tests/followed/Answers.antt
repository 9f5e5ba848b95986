use Rattle.std.proofs.Common.{◌≡◌, ℕ, ◌+◌, ◌++◌, List, [], length, map, refl, ap, subst}
use Rattle.ports_core.specs.{Slot.slot_at, declared.calling.Calling.TheVariants.Cutters}
use Rattle.mem_core.specs.{MemInState.laid_in, MemWatchState.{is_fed, seen, shows}}
use Rattle.watch_core.specs.Snapshot.{Snapshot}
use Rattle.words_core.specs.EndsWords.{EndsAsked}
use Rattle.promises_core.specs.Promises.{OnlyGrows, tail_part, to_follow}
use Rattle.run_tests.proofs.FollowedLemmas.{showing-plain}
use Rattle.run_core.specs.RunSteps.{world_of}
use Rattle.run_tests.proofs.law_tests.followed.Goals as goal
use Rattle.tools_core.specs.Run.{Run}

-- what standard output has, if these looks show that the file only grows
abbrev Tells : Run → EndsAsked → (name came : List ℕ) (file n : ℕ) → (ℕ → Snapshot) → Type 0
Tells run options name came file n shows = OnlyGrows (length run.seen) shows name file
    → (shows n).holds file ≡ (shows 0).holds file ++ came
    → (slot_at run.outputs 0).written ≡ tail_part options ((shows 0).holds file) ++ came

pub returns : goal.returns
returns c =
    let run : Run = record {
      calling = Cutters;
      words = map (λ word. word.now) c.args.words.now;
      world = world_of (laid_in c.in_ok-inputs.inputs.files c.in_ok-inputs.inputs.breaks) c.in_ok-inputs.inputs.sources;
      fed = is_fed c.args.watch.now;
      shows = shows c.args.watch.now;
      inputs = c.run_words.new.inputs.sources;
      seen = seen c.run_words.new.watch;
      watched = c.run_words.new.watch.watched;
      outputs = c.run_words.new.outs;
      status = c.run_words.result;
    } in record {
      text = λ options how name looks pause read no_input bare named kept. c.tail_follows.ensures.text run looks options
          (record {
            followed = how;
            name = name;
            follows = (c.program_makes_these_runs.ensures.followed run options how looks c.run_words.ensures.ends
                (pause, read, rw no_input refl) c.if-run_words-ne0.false).0;
            bare = bare;
            named = named;
          }) kept;
      grows = λ options how name came file n pause read no_input bare named grows held.
          subst (Tells run options name came file n)
          (showing-plain run (to_follow options how (n + 1) pause) how refl read refl)
          (c.tail_follows.ensures.grows run options n file came
          (record {
            followed = how;
            name = name;
            follows = (c.program_makes_these_runs.ensures.followed run options how (n + 1) c.run_words.ensures.ends
                (pause, read, rw no_input refl) c.if-run_words-ne0.false).0;
            bare = bare;
            named = named;
          }))
          (grows (length run.seen)) held;
    }
