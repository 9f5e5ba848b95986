use Rattle.ends_core.proofs.KeptLemmas.{broke_in, span_in}
use Rattle.ends_core.proofs.span.Span.pass.Goals as goal

pub returns-in-Err-clause-wrote : goal.returns-in-Err-clause-wrote
returns-in-Err-clause-wrote g c = record {
  out = tt;
  cut = broke_in g.O.Outs.visible (span_in _ _ c.args.piece.now
      (rw c.missing.ensures at c.place_in.ensures) (rw c.saturating_sub.ensures at c.place_in-start.ensures)) c.in-Err.ensures.cut;
}
