use Rattle.std.proofs.{Common.◌∙◌, lemmas.List.with_items_is}
use Rattle.split_core.proofs.DealLemmas.{chunk_taken}
use Rattle.split_core.proofs.gathered.Gathered.append.Goals as goal

pub returns-then-len-self-ge-CHUNK : goal.returns-then-len-self-ge-CHUNK
returns-then-len-self-ge-CHUNK c =
    rw (with_items_is c.self.inside.room c.copy_chunk.new.room (c.copy_chunk.ensures.size ∙ c.deref_mut.ensures.len), ← c.self.view_is)
    (chunk_taken _ _ _ _ _ (rw c.deref_mut.ensures.value at c.copy_chunk.ensures.copied) c.self.invariant c.if-count-le-CHUNK.true
    c.if-text-ge-CHUNK.true)
