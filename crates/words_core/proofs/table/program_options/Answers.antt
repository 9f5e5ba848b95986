use Rattle.std.proofs.Common.{refl}
use Rattle.words_core.specs.Table.{program_table}
use Rattle.words_core.proofs.table.program_options.Goals as goal

pub returns : goal.returns
unfolding program_table
returns c = refl
