use Rattle.std.proofs.{Common.{length, false, arith, sym}, lemmas.{Grind.common_steps, List.length-map}}
use Rattle.ports_core.proofs.HandedOn.{handed_on}
use Rattle.tee_core.proofs.StartLemmas.{in_range, none_left, opens_next_at, ready_to_go, some_next_at, some_now}
use Rattle.tee_core.proofs.tee.Tee.open.Goals as goal

pub returns-in_default-clause-opens : goal.returns-in_default-clause-opens
returns-in_default-clause-opens g c = none_left c.args.names.now c.in_default.len_below

pub returns-in_err-first-clause-some : goal.returns-in_err-first-clause-some
returns-in_err-first-clause-some g c = grind (arith, common_steps, handed_on, some_now)

pub returns-in_err-open_files-clause-some : goal.returns-in_err-open_files-clause-some
returns-in_err-open_files-clause-some g c = grind (arith, common_steps, handed_on, some_next_at)

pub returns-clause-opens : goal.returns-clause-opens
returns-clause-opens g c = grind (arith, common_steps, opens_next_at)

pub returns-clause-ready : goal.returns-clause-ready
returns-clause-ready g c = ready_to_go (record
    { first = c.in_ok-first.first; count = length c.args.names.now; is_over = false }) (omega arith) c.requires.output
    (opens_next_at _ c.args.names.now c.in-len1-up.len_at_least c.in_ok-first.ensures.ok.1
    c.in_ok-open_files.ensures.ok) (sym (length-map c.args.names.now _)) (λ some. c.in_ok-first.ensures.ok.0)

pub invariant_of-result-2 : goal.invariant_of-result-2
invariant_of-result-2 g c = grind (arith, common_steps, in_range, opens_next_at, length-map)

pub open_files-requires : goal.open_files-requires
open_files-requires g c = grind (arith, common_steps)

pub returns-in_err-open_files-clause-err : goal.returns-in_err-open_files-clause-err
returns-in_err-open_files-clause-err g c = grind (arith, common_steps)
