use Rattle.std.proofs.Common.{refl}
use Rattle.words_core.specs.Table.{tools}
use Rattle.words_core.proofs.table.all_tools.Goals as goal

pub returns-in-Cutters : goal.returns-in-Cutters
unfolding tools
returns-in-Cutters c = rw c.in-Cutters.is refl

pub returns-in-OwnName : goal.returns-in-OwnName
unfolding tools
returns-in-OwnName c = rw c.in-OwnName.is refl
