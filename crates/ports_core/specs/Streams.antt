-- The streams of a run.
use Rattle.std.specs.Prelude.{List, [], ◌∷◌, codes}
use Rattle.ports_core.specs.{Slot.{Slot, opened}, declared.slot.Mode.TheVariants.Append}

abbrev pub standard_output : Slot
standard_output = opened (codes "standard output") Append

abbrev pub standard_error : Slot
standard_error = opened (codes "standard error") Append

-- both streams, if nothing went to standard output
abbrev pub streams_with : Slot → List Slot
streams_with error = standard_output ∷ error ∷ []
