use Rattle.std.proofs.Common.{◌≡◌, length, max}
use Rattle.split_core.proofs.DealLemmas.{Dealing}
use Rattle.split_core.proofs.deal.Deal.gather.Given as goal

abbrev pub invariant-lines : goal.invariant-lines
invariant-lines l = Dealing l.fn.self.delim (length l.fn.self.gathered) l.fn.self.next l.fn.piece l.self-inside.gathered.items l.next
    (max l.reached l.next) l.lines.text × (l.left ≡ l.lines.text)
    × (l.lines.delim ≡ l.fn.self.delim) × (l.self-inside.delim ≡ l.fn.self.delim) × (l.self-inside.next ≡ l.fn.self.next)

abbrev pub decreases-lines : goal.decreases-lines
decreases-lines l = length l.lines.text
