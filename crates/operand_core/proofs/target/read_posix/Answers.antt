use Rattle.operand_core.proofs.AimLemmas.{posix_read}
use Rattle.operand_core.proofs.target.read_posix.Goals as goal

pub returns : goal.returns
returns c = posix_read c.read.result c.read.ensures.reads c.read.ensures.groups c.read.ensures.size c.read.ensures.refused c.read.ensures.large
