use Rattle.std.proofs.Common.{◌∙◌, refl}
use Rattle.ports_core.proofs.HandedOn.{result_is}
use Rattle.split_core.{specs.inner.Chunker.PassesAs, proofs.{ChunkerWays.lacks_room, UnsaidLemmas.passes_unsaid}}
use Rattle.split_core.proofs.chunker.Chunker.pass_unsaid.Goals as goal

pub returns : goal.returns
returns g c = rw (← c.self.view_is) (
    passes_unsaid (rw (← c.self.view_is) at c.requires.said) refl refl
    (c.chunk_start-end.ensures ∙ rw (c.len.ensures, c.in_ok-put.ensures.ok, c.first-first.ensures) refl)
    c.settle.result (rw c.in_ok-put.ensures.ok at c.settle.ensures))

pub returns-in_err-put : goal.returns-in_err-put
returns-in_err-put g c = rw (← c.self.view_is, c.in_err-put.ensures.err) (
    result_is (PassesAs _ _ _ _) _ _ c.from_residual.ensures.1
    (lacks_room _ (rw (← c.self.view_is) at c.requires.said)))
