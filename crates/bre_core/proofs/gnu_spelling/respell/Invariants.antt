use Rattle.std.proofs.Common.{◌≡◌, ◌++◌, length}
use Rattle.bre_core.specs.{
  declared.gnu_spelling.Place.TheVariants.Outside,
  GnuSpelling.respelled_from,
}
use Rattle.bre_core.proofs.gnu_spelling.respell.Given as goal

abbrev pub invariant-loop-left : goal.invariant-loop-left
invariant-loop-left l = respelled_from Outside l.text ≡ l.posix.items ++ respelled_from l.place l.left

abbrev pub decreases-loop-left : goal.decreases-loop-left
decreases-loop-left l = length l.left
