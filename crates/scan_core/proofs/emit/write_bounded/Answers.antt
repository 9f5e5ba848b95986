use Rattle.std.proofs.{Common.arith, lemmas.{Grind.common_steps, Result.on_ok_weaker}}
use Rattle.scan_core.proofs.Emitting.{exact_out, optional_more, bounded_out, grown_on}
use Rattle.scan_core.proofs.emit.write_bounded.Goals as goal

pub returns-then-low-high-clause-ok : goal.returns-then-low-high-clause-ok
returns-then-low-high-clause-ok c = on_ok_weaker c.copy_times.result
    (λ e before code b n. exact_out _ _ b n (omega arith) c.if-low-high.true c.requires.some e) c.copy_times.ensures.ok

pub copy-requires : goal.copy-requires
copy-requires c = grind (arith, common_steps)

pub loop-more-init : goal.loop-more-init
loop-more-init c = grind (arith, common_steps)

pub loop-more-preserved : goal.loop-more-preserved
loop-more-preserved c = let g = c.loop-more.invariant.grown in record {
  grown = grown_on _ _ _ _ g.1 c.in_ok-copy.ensures.ok c.in_ok-choose-2.ensures.ok;
  written = λ before code b n. optional_more g.0 before code c.loop-more._more b n (omega arith) g.1
      (c.loop-more.invariant.written before code b n) c.in_ok-copy.ensures.ok c.in_ok-choose-2.ensures.ok;
}

pub copy_times-requires-2 : goal.copy_times-requires-2
copy_times-requires-2 c = grind (arith, common_steps)

pub returns-clause-ok : goal.returns-clause-ok
returns-clause-ok c = let g = c.loop-more.invariant.grown in on_ok_weaker c.copy_times-2.result
    (λ e before code b n. bounded_out g.0 before code c.args.low c.args.high b n (omega arith) g.1
    (c.loop-more.invariant.written before code b n) (omega arith) e) c.copy_times-2.ensures.ok

pub choose-requires-in-loop-more : goal.choose-requires-in-loop-more
choose-requires-in-loop-more c = grind (arith, common_steps)
