use Rattle.std.proofs.Common.{arith, rules}
use Rattle.plain_core.proofs.Tables.{no_runs, runs_more, runs_longer, repeats_is}
use Rattle.plain_core.proofs.table.Table.repeated.Goals as goal

pub loop-count-init : goal.loop-count-init
loop-count-init c = record {
  size = search rules;
  runs = λ part is. runs_more no_runs (record { exact = c.in_ok-of_token.ensures.ok.exact }) (search rules);
}

pub loop-count-preserved : goal.loop-count-preserved
loop-count-preserved c = record {
  size = search rules;
  runs = λ part is.
      runs_longer c.loop-count.count (c.loop-count.invariant.runs part is) c.index.ensures is c.in_ok-next.ensures.ok c.in_ok-push-2.ensures.items;
}

pub returns-clause-ok : goal.returns-clause-ok
returns-clause-ok c = λ part is.
    repeats_is c.args.low c.args.high (c.loop-count.invariant.runs part is) c.as_slice-runs.ensures.value (omega arith)
    (λ from to h k. let made = c.in_ok-table_of.ensures.ok from to h k in search rules)
