use Rattle.std.proofs.{Common.rules, lemmas.List.{length-take-le, length-map}}
use Rattle.seg_core.proofs.Lanes.{chosen_flags, flags_small, sum-flags}
use Rattle.seg_core.proofs.line.delimiters_in_step.Goals as goal

pub returns-clause-long : goal.returns-clause-long
returns-clause-long c = search (rules, length-take-le, chosen_flags, length-map)

pub returns-clause-each : goal.returns-clause-each
returns-clause-each c = search (rules, chosen_flags, length-take-le, flags_small)

pub returns-clause-sum : goal.returns-clause-sum
returns-clause-sum c = search (rules, chosen_flags, length-take-le, sum-flags)
