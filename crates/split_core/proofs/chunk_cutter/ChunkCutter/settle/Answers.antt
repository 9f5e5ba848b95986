use Rattle.ports_core.proofs.HandedOn.{handed_on}
use Rattle.std.proofs.{Common.{inl, inr, sym}, lemmas.Bool.eqb-true}
use Rattle.split_core.proofs.UnsaidLemmas.{settles_none, settles_not, settles_on}
use Rattle.split_core.proofs.chunk_cutter.ChunkCutter.settle.Goals as goal

pub returns-then-is_empty : goal.returns-then-is_empty
returns-then-is_empty g c = settles_none c.requires.ready (inl (eqb-true _ _ (sym c.if-is_empty.ensures)))

pub returns-then-not-is_short_of : goal.returns-then-not-is_short_of
returns-then-not-is_short_of g c = settles_none c.requires.ready (inr c.if-not-is_short_of.ensures)

pub returns-in_err-n : goal.returns-in_err-n
returns-in_err-n g c = rw (handed_on _ _ c.from_residual.ensures.1)
    (settles_not _ c.args.end c.if-not-is_short_of.ensures (rw c.bytes.ensures at c.in_err-n.ensures))

pub returns : goal.returns
returns g c = settles_on _ c.args.end c.if-not-is_short_of.ensures
    (rw c.bytes.ensures at c.in_ok-n.ensures) c.drop_front.ensures
