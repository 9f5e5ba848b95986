use Rattle.std.proofs.Common.{◌<◌, ◌^◌}
use Rattle.watch_core.proofs.dir_file.count.Given as goal

abbrev pub invariant-loop : goal.invariant-loop
invariant-loop l = l.len < 2 ^ 63
