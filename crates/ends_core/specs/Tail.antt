-- The last part of an input, as an engine writes it: POSIX.1-2017, XCU tail.
use Rattle.std.specs.Prelude.{ℕ, Bool, not, true, false, List, [], if◌then◌else◌}
use Rattle.engine_core.specs.{Written.{nothing, only_out}, Work.{Work, on_output, always_well}}
use Rattle.seg_core.specs.declared.unit.Unit.{Unit as Counted}
use Rattle.ends_core.specs.Ends.{last_of, tail_of}

-- what came in and waits: the last n lines or bytes, if these are asked for
abbrev pub tail_waiting : ℕ → Counted → Bool → ℕ → List ℕ → List ℕ
tail_waiting delim unit from_nth n x = if from_nth then [] else last_of delim unit n x

-- The work of `tail`. From number n on, all is written at once. The last n are written at the end, and take memory
-- while they wait. The output is never complete.
abbrev pub tail_work : ℕ → Counted → Bool → ℕ → Work
tail_work delim unit from_nth n = record {
  settled = λ x. if from_nth then only_out (tail_of delim unit true n x) else nothing;
  whole = λ x. only_out (tail_of delim unit from_nth n x);
  waiting = tail_waiting delim unit from_nth n;
  is_complete = λ x. false;
  verdict = always_well;
  clears = false;
  means = on_output (not from_nth);
  ahead = 0;
}
