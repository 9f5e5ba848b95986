use Rattle.std.proofs.Common.{◌≡◌, ◌≤◌, ◌-◌}
use Rattle.mem_core.specs.{declared.mem_watch.Leading.TheVariants.Clinging, inner.Leading.led_at}
use Rattle.mem_core.proofs.mem_watch.first_led.Given as goal

abbrev pub invariant-loop-look : goal.invariant-loop-look
invariant-loop-look l = record {
  within : l.look ≤ l.looks;
  found : l.found ≡ led_at Clinging l.worlds l.look l.name;
}

abbrev pub decreases-loop-look : goal.decreases-loop-look
decreases-loop-look l = l.looks - l.look
