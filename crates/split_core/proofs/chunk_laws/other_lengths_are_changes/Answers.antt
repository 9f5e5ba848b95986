use Rattle.split_core.proofs.ChunkMadeLemmas.{changed_all, changed_alone, changed_more, changed_same, changed_told}
use Rattle.split_core.proofs.chunk_laws.other_lengths_are_changes.Goals as goal

pub returns : goal.returns
returns c = record {
  files = changed_told;
  alone = changed_alone;
  more = changed_more;
  all = changed_all;
  same = changed_same;
}
