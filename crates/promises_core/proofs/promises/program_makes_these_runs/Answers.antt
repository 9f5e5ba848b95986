use Rattle.std.proofs.{Common.arith, lemmas.Grind.common_steps}
use Rattle.promises_core.proofs.FollowPromises.{asks_looks, ends_at}
use Rattle.promises_core.proofs.promises.program_makes_these_runs.Goals as goal

pub returns : goal.returns
returns c = record {
  runs = λ run asked ends read none. grind (arith, common_steps, ends_at);
  followed = λ run options followed looks ends read well.
      let (same, done) = ends_at run ends (asks_looks run read) in
      (record { looks = looks; read = read; ends = done; well = well }, same);
}
