use Rattle.std.proofs.Common.{◌≡◌, ◌+◌, ◌*◌, ◌≤◌, ◌<◌, ◌^◌, SomeIff}
use Rattle.ports_core.specs.Name.{before_block, block_size}
use Rattle.ports_core.proofs.numbering.block_at.Given as goal

abbrev pub invariant-blocks-2 : goal.invariant-blocks-2
invariant-blocks-2 l = record {
  place_is : before_block l.alphabet l.width l.block + l.number ≡ l.place;
  few : 2 * l.block ≤ before_block l.alphabet l.width l.block;
  size : SomeIff l.size (block_size l.alphabet l.width l.block < 2 ^ 64) (block_size l.alphabet l.width l.block);
}

abbrev pub decreases-blocks-2 : goal.decreases-blocks-2
decreases-blocks-2 l = l.number
