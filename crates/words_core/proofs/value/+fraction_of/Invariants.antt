use Rattle.std.proofs.Common.{length}
use Rattle.words_core.proofs.value.+fraction_of.Given as goal

abbrev pub decreases-fraction_of : goal.decreases-fraction_of
decreases-fraction_of l = length l.digits.now
