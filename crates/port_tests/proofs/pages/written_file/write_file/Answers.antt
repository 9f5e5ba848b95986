use Rattle.std.proofs.Common.{◌≤◌, arith}
use Rattle.engine_core.proofs.SlotSteps.{opened_writable, written_writable}
use Rattle.port_tests.proofs.pages.written_file.write_file.Goals as goal

pub close-requires : goal.close-requires
close-requires g c = (
  let at = c.in_ok-slot.ensures.ok.0 in let many : 2 ≤ c.in_ok-slot.slot = omega (arith, at) in many,
  written_writable _ _ _ _ _ (opened_writable _ _ _ _ _ c.in_ok-slot.ensures.ok.0 c.in_ok-slot.ensures.ok.1) c.in_ok-write_whole.ensures.whole,
)
