-- What private calls say: where chunks go.
use Rattle.std.specs.Prelude.{ℕ, Bool, true, false, nat_lt}
use Rattle.engine_core.specs.{
  FileWriter.{new_writer, seen_writer},
  declared.file_writer.{Keeps.TheVariants.Open, Tells.Tells},
}
use Rattle.ports_core.specs.Name.{Naming}
use Rattle.split_core.specs.{
  ChunkerState.{AimState, Course, SinkState, course_of, in_files, in_output, to_files, to_output},
  declared.chunk_sink.{Aim.{Aim, TheVariants.{Files, Output}}, ChunkSink.ChunkSink},
}

abbrev pub seen_aim : Aim → AimState
seen_aim (Files writer elide) = to_files (seen_writer writer) elide
seen_aim (Output chunk) = to_output chunk

abbrev pub seen_sink : ChunkSink → SinkState
seen_sink sink = record { place = sink.place; aim = seen_aim sink.aim }

-- a sink of files to which nothing went yet
abbrev pub new_files : Naming → Bool → Tells → SinkState
new_files naming elide tells = record { place = 0; aim = to_files (new_writer naming tells Open) elide }

abbrev pub new_output : ℕ → SinkState
new_output chunk = record { place = 0; aim = to_output chunk }

-- only one chunk is written, and it has ended
abbrev pub is_past_at : Course → ℕ → Bool
is_past_at (in_files filing elide) place = false
is_past_at (in_output chunk) place = nat_lt chunk place

abbrev pub is_past_on : SinkState → Bool
is_past_on sink = is_past_at (course_of sink.aim) sink.place

abbrev pub is_each_on : Course → Bool
is_each_on (in_files filing elide) = true
is_each_on (in_output chunk) = false
