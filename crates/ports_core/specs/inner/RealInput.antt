-- What private calls say of one real input.
use Rattle.std.specs.Prelude.{ℕ, ◌+◌, ◌-◌, ◌^◌, Bool, false, List, map, min, if◌then◌else◌}
use Rattle.ports_core.specs.{
  Reason.reason_of,
  Source.{Source, fails, gives, skips},
  declared.{dir_in.Unread.{Unread, TheVariants.{Endless, System}}, reason.Reason.{Reason, TheVariants.NotOpen}},
}
use Rattle.ports_core.specs.declared.reason.Reason.TheVariants as reason

pub record RealInput : Type 0 where
  pub source : Source
  -- how many bytes were given and not given back, or passed over; the count stays at 2^64-1
  pub place : ℕ
  -- whether the input is standard input that was closed: what stands in its place doesn't say why it can't be read
  pub is_closed : Bool
  -- whether the input is a device that gives at most one piece
  pub is_limited : Bool

abbrev pub sources_of : List RealInput → List Source
sources_of inputs = map (λ input. input.source) inputs

-- an input of which nothing was read
abbrev pub input_of : Source → RealInput
input_of source = record { source = source; place = 0; is_closed = false; is_limited = false }

-- a read into a buffer of this size gave the next n bytes
abbrev pub input_gives : ℕ → ℕ → RealInput → RealInput
input_gives size n input = record input {
  source = gives size n input.source;
  place = min (input.place + n) (2 ^ 64 - 1);
}

-- why an input can't be read further
abbrev pub why_unread : Unread → Reason
why_unread Endless = reason.Endless
why_unread (System error) = reason_of error

-- why an input can't be read, if the system gives this reason: standard input that was closed isn't open
abbrev pub why_of : RealInput → Reason → Reason
why_of input why = if input.is_closed then NotOpen else why

-- a read into a buffer of this size failed, and the system says why
abbrev pub input_fails : Reason → ℕ → RealInput → RealInput
input_fails why size input = record input { source = fails (why_of input why) size input.source }

-- the next n bytes were passed over
abbrev pub input_skips : ℕ → RealInput → RealInput
input_skips n input = record input { source = skips n input.source; place = input.place + n }
