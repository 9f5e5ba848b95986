use Rattle.std.proofs.{Common.arith, lemmas.Grind.common_steps}
use Rattle.ports_core.proofs.HandedOn.{handed_on}
use Rattle.tee_core.proofs.StartLemmas.{begins_opening, none_left, opens_more_at, some_now}
use Rattle.tee_core.proofs.tee.open_files.Goals as goal

pub loop-left-init : goal.loop-left-init
loop-left-init g c = begins_opening c.requires

pub loop-left-preserved : goal.loop-left-preserved
loop-left-preserved g c = opens_more_at _ c.loop-left.left.now c.in-len1-up.len_at_least c.loop-left.invariant c.in_ok-open_file.ensures.ok.0 c.in_ok-open_file.ensures.bound c.in_ok-open_file.ensures.ok.1

pub returns-in_err-open_file-clause-some : goal.returns-in_err-open_file-clause-some
returns-in_err-open_file-clause-some g c = grind (arith, common_steps, handed_on, some_now)

pub returns-clause-ok : goal.returns-clause-ok
returns-clause-ok g c = grind (arith, common_steps, none_left)

pub returns-in_err-open_file-clause-err : goal.returns-in_err-open_file-clause-err
returns-in_err-open_file-clause-err g c = grind (arith, common_steps)
