-- What a run makes of its inputs: one tool's work on each, one after another.
use Rattle.std.specs.{
  Prelude.{is_some, ℕ, ◌||◌, ◌&&◌, Bool, true, false, List, [], ◌∷◌, ◌++◌, Option, Some, None, if◌then◌else◌},
}
use Rattle.engine_core.specs.{Written.{Written, nothing, only_out}, Work.{Work, Needs}}
use Rattle.ports_core.specs.{
  Source.Content,
  Text.{Message, message_of, header_of},
  declared.{calling.Speaker.Speaker, fault.Fault.TheVariants.{Read, Open}, verdict.Verdict.Verdict},
}
use Rattle.run_core.specs.{Feeding.{is_enough, fed_part}, Input.Input}
use Rattle.ports_core.specs.declared.fault.Fault.TheVariants as fault_is

-- what a run does with each of its inputs
pub record Task : Type 0 where
  -- who speaks in its messages
  pub speaker : Speaker
  -- what it makes of an input that shows this text, or none
  pub work : Option (List ℕ) → Work
  -- what opening its engine may need
  pub opening : Option (List ℕ) → Needs
  -- what the message of a verdict speaks of, if the input has this name
  pub subject : Verdict → List ℕ → List ℕ
  -- whether a header goes before each input
  pub with_header : Bool

-- what a run leaves if its outputs take all that it writes
pub record Outcome : Type 0 where
  -- standard output, and the files in order
  pub part : Written
  -- what is reported on standard error, in order
  pub messages : List Message
  -- whether there is a fault or a verdict: an input can't be opened or read further, or its work ends with a verdict
  pub failed : Bool
  -- whether the files are removed at the end
  pub sweeps : Bool

abbrev pub status_of : Outcome → ℕ
status_of outcome = if outcome.failed then 1 else 0

abbrev pub no_outcome : Outcome
no_outcome = record { part = nothing; messages = []; failed = false; sweeps = false }

-- a part, and what is written after it
abbrev pub after_part : Written → Written → Written
after_part first next = record { out = first.out ++ next.out; files = first.files ++ next.files }

abbrev pub joined : Outcome → Outcome → Outcome
joined first next = record {
  part = after_part first.part next.part;
  messages = first.messages ++ next.messages;
  failed = first.failed || next.failed;
  sweeps = first.sweeps || next.sweeps;
}

abbrev pub header_text : Bool → Bool → List ℕ → List ℕ
header_text with_header is_first name = if with_header then header_of name is_first else []

-- the message for the verdict with which the work ends, if there is one
abbrev pub verdict_messages : Task → List ℕ → Option Verdict → List Message
verdict_messages task name None = []
verdict_messages task name (Some verdict) = message_of (fault_is.Verdict verdict) (task.subject verdict name) ∷ []

-- whether the work ends with a verdict, or the input breaks off before the output is complete
abbrev pub ends_badly : Work → Content → Bool
ends_badly work content = if is_enough work content then is_some (work.verdict content.bytes) else true

-- The outcome of one input. If it can't be opened, there is a message (its number is in no message). Else there are its
-- header and what the tool makes of it. There is a message for a verdict, and if the input breaks off too early. After
-- either the files go if the work clears them.
abbrev pub of_content : Task → Work → Bool → List ℕ → Option Content → Outcome
of_content task work is_first name None =
    record no_outcome { messages = message_of (Open 0) name ∷ []; failed = true }
of_content task work is_first name (Some content) = record {
  part = after_part (only_out (header_text task.with_header is_first name)) (fed_part work content);
  messages = if is_enough work content then verdict_messages task name (work.verdict content.bytes)
      else message_of (Read 0) name ∷ [];
  failed = ends_badly work content;
  sweeps = work.clears && ends_badly work content;
}

abbrev pub of_input : Task → Bool → Input → Outcome
of_input task is_first input = of_content task (task.work input.shown) is_first input.name input.content

abbrev pub is_missing : Option Content → Bool
is_missing None = true
is_missing (Some content) = false

-- the outcome of inputs in order; the first that can be opened has the first header
abbrev pub of_inputs : Task → Bool → List Input → Outcome
of_inputs task is_first [] = no_outcome
of_inputs task is_first (input ∷ inputs) =
    joined (of_input task is_first input) (of_inputs task (is_first && is_missing input.content) inputs)

-- the outcome of all inputs of a run
abbrev pub made_by : Task → List Input → Outcome
made_by task inputs = of_inputs task true inputs

-- whether none of these inputs can be opened
abbrev pub are_missing : List Input → Bool
are_missing [] = true
are_missing (input ∷ inputs) = is_missing input.content && are_missing inputs
