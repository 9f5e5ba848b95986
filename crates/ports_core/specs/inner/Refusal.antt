-- What private calls say: why a file isn't opened for an output.
use Rattle.std.specs.Prelude.{Bool, true, false}
use Rattle.ports_core.specs.{
  Reason.reason_of,
  declared.{dir_slot.Refusal.{Refusal, TheVariants.{Spared, System}}, reason.Reason.{Reason}},
  declared.reason.Reason.TheVariants.{Input, MayBeInput},
}

abbrev pub why_refused : Refusal → Reason
why_refused (Spared why) = why
why_refused (System error) = reason_of error

-- whether a file is spared for this reason: it is an input, or may be one
abbrev pub spares : Reason → Bool
spares Input = true
spares MayBeInput = true
spares why = false

-- a refusal that is the system's, or by which a file is spared
abbrev pub may_refuse : Refusal → Bool
may_refuse (Spared why) = spares why
may_refuse (System error) = true
