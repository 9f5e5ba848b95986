-- A run of these words is one in the sense of the laws.
use Rattle.std.proofs.Common.{◌≡◌, false, map, ◌∙◌, ap}
use Rattle.mem_core.specs.{MemInState.laid_in, MemWatchState.{is_fed, seen, shows}}
use Rattle.run_core.specs.RunSteps.{world_of}
use Rattle.words_core.specs.Words.{follows}
use Rattle.run_tests.proofs.law_tests.ran.Goals as goal
use Rattle.tools_core.specs.Run.{Run}

pub returns : goal.returns
returns c asked read none =
    let one : Run = record {
      calling = c.args.calling;
      words = map (λ word. word.now) c.args.words.now;
      world = world_of (laid_in c.args.inputs.now.files c.args.inputs.now.breaks) c.args.inputs.now.sources;
      fed = is_fed c.in_ok-watch.watch;
      shows = shows c.in_ok-watch.watch;
      inputs = c.run_words.new.inputs.sources;
      seen = seen c.run_words.new.watch;
      watched = c.run_words.new.watch.watched;
      outputs = c.run_words.new.outs;
      status = c.run_words.result;
    } in
    let unfed : is_fed c.in_ok-watch.watch ≡ false = ap is_fed c.in_ok-watch.ensures.ok in (
      one,
      (c.program_makes_these_runs.ensures.runs one asked c.run_words.ensures.ends read
          (ap (λ fed. follows c.args.calling fed asked) unfed ∙ none)).0,
    )
