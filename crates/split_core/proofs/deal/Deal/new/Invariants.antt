use Rattle.std.proofs.Common.{◌≡◌, length}
use Rattle.split_core.proofs.deal.Deal.new.Given as goal

abbrev pub invariant-loop : goal.invariant-loop
invariant-loop l = length l.gathered.items ≡ l.counter
