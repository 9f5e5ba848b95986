use Rattle.std.proofs.{
  Common.{◌+◌, ◌≤◌, min, length, Err, [], arith},
  lemmas.List.{get_or_past, FromFn.take-map-range_with_len},
}
use Rattle.seg_core.specs.Line.{line_count}
use Rattle.ports_core.{proofs.HandedOn.result_is, specs.declared.fault.Fault.TheVariants.Memory}
use Rattle.split_core.{
  specs.inner.Ways.PassesAs,
  proofs.{FilesLemmas.no_room, PartsLemmas.on_ok, RoundLemmas.passes_at},
}
use Rattle.split_core.proofs.round_splitter.RoundSplitter.pass.Goals as goal

pub returns-in_err-reached : goal.returns-in_err-reached
returns-in_err-reached g c = result_is (PassesAs _ _ _ _) _ _ c.from_residual.ensures.1
    (rw (← c.self.view_is, c.gather.ensures.delim, c.gather.ensures.count)
    (passes_at g.O.Outs.visible _ c.args.piece.now (Err Memory) tt (no_room g.O.Outs.visible c.self.inside.files _ _ (λ i past. get_or_past _ i [] past))))

pub returns : goal.returns
returns g c = let deal = c.self.inside.deal in let gathers = c.in_ok-reached.ensures.gathers in
    let less : min (length deal.gathered) (deal.next + line_count deal.delim c.args.piece.now) ≤ length deal.gathered = omega arith in
    rw (← c.self.view_is, c.gather.ensures.delim, c.gather.ensures.count) (passes_at g.O.Outs.visible
    _ c.args.piece.now c.write.result (on_ok c.write.result gathers.next_is)
    (rw (c.first.ensures, gathers.gathered_is, gathers.reached_is, take-map-range_with_len) at c.write.ensures))
