-- What `tee` makes of an input if no output breaks, and where its bytes go: POSIX.1-2017, XCU tee.
use Rattle.std.specs.Prelude.{ℕ, ◌+◌, nat_lt, true, false, List, [], ◌∷◌, length, map, if◌then◌else◌}
use Rattle.ports_core.specs.{
  declared.slot.{Mode.Mode, State.{State, TheVariants.{Open, Closed}}},
  Slot.{Slot, opened},
}
use Rattle.engine_core.specs.{Agreed.{Spot, spot}, Written.{Written, gets_bytes}, Work.{Work, always_well, no_needs}}

abbrev pub copy_in : Mode → State → List ℕ → List ℕ → Slot
copy_in mode state x name = record (opened name mode) { written = x; state = state }

-- standard output and each file have all of x
abbrev pub copies : Mode → List (List ℕ) → State → List ℕ → Written
copies mode names state x = record { out = x; files = map (copy_in mode state x) names }

-- All that came in is written at once; at the end the files are closed. No memory is needed.
abbrev pub tee_work : Mode → List (List ℕ) → Work
tee_work mode names = record {
  settled = copies mode names Open;
  whole = copies mode names Closed;
  waiting = λ x. [];
  is_complete = λ x. false;
  verdict = always_well;
  clears = false;
  means = record { output = gets_bytes; files = true; feeding = no_needs; closing = no_needs };
  ahead = 0;
}

-- byte i goes to offset i of each output from a place on, one output for each name
abbrev pub spots_each : ℕ → List (List ℕ) → ℕ → List Spot
spots_each place [] i = []
spots_each place (name ∷ names) i = spot place i ∷ spots_each (place + 1) names i

-- where byte i goes: to offset i of standard output and of each file
abbrev pub tee_spots : List (List ℕ) → List ℕ → ℕ → List Spot
tee_spots names x i = if nat_lt i (length x) then spot 0 i ∷ spots_each 1 names i else []
