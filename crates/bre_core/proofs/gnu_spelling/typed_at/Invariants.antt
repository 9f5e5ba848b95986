use Rattle.std.proofs.Common.{◌≡◌, ◌≤◌, ◌+◌, ◌-◌, length}
use Rattle.bre_core.specs.{
  declared.gnu_spelling.Place.TheVariants.Outside,
  GnuSpelling.typed_from,
}
use Rattle.bre_core.proofs.gnu_spelling.typed_at.Given as goal

abbrev pub invariant-loop-left : goal.invariant-loop-left
invariant-loop-left l = record {
  within : length l.left ≤ length l.text;
  typed : typed_from Outside l.text l.fn.offset ≡ length l.text - length l.left + typed_from l.place l.left l.ahead;
}

abbrev pub decreases-loop-left : goal.decreases-loop-left
decreases-loop-left l = length l.left
