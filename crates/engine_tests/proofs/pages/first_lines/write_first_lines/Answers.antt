use Rattle.std.proofs.{lemmas.Grind.common_steps, Common.arith}
use Rattle.engine_tests.proofs.pages.first_lines.write_first_lines.Goals as goal

pub returns : goal.returns
returns g c = grind (arith, common_steps)
