-- What private calls say of the way to split, option by option.
use Rattle.std.specs.Prelude.{ℕ, Option, Some, None, Result, Ok, Err}
use Rattle.ports_core.specs.declared.fault.{Fault.{Fault, TheVariants.Usage}, UsageKind.TheVariants.TwoWays}
use Rattle.seg_core.specs.declared.cut.Way.{Way}
use Rattle.words_core.specs.{declared.spelled.Chosen.Chosen, SplitWords.way_in}

-- The way to split after one more option. A second way is refused, and reported at the word of this option.

abbrev pub way_by : (word : ℕ) → (way found : Option Way) → Result (Option Way) Fault
way_by word way None = Ok way
way_by word None (Some found) = Ok (Some found)
way_by word (Some way) (Some found) = Err (Usage TwoWays word)

abbrev pub with_way : ℕ → Option Way → Chosen → Result (Option Way) Fault
with_way delim way option = way_by option.word way (way_in delim option.choice)
