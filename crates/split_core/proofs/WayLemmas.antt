-- What a way to cut leaves that had no room for a piece.
use Rattle.std.proofs.Common.{◌≡◌, ◌+◌, ◌≤◌, true, Bool, ℕ, List, length, Err, refl}
use Rattle.engine_core.{specs.Engine.{KeepsOwn, cut}, proofs.WrittenLemmas.stopped_here}
use Rattle.ports_core.specs.{Slot.{Slot, effect}, declared.fault.Fault.TheVariants.Memory}
use Rattle.split_core.specs.{
  Ways.{size, terms, work},
  declared.splitter.Splitter.Splitter,
  inner.Ways.PassesAs,
  laws.WorkLaws.lawful,
}

-- nothing was written
pub passes_lacking : {visible : Bool} (old new : Splitter) (piece : List ℕ) {slots : List Slot} → work new ≡ work old
    → size new ≤ size old + length piece → KeepsOwn terms old new slots slots
    → (work old).means.feeding.memory ≡ true → PassesAs old new piece (effect visible slots slots) (Err Memory)
passes_lacking {visible} old new piece {slots} same bound owns memory = record {
  same = same;
  size = bound;
  holds = tt;
  outputs = tt;
  ready = tt;
  owns = owns;
  there = λ are. tt;
  cut = λ start x at. cut refl (stopped_here (work old).means.output visible start ((work old).settled x) _
      Memory slots slots at.outputs ((lawful old x at.holds).grows x piece) refl tt tt);
  met = (memory, refl);
}
