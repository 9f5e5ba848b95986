-- What becomes of an input that is fed to an engine piece by piece.
use Rattle.std.specs.{
  Prelude.{◌≡◌, ℕ, ◌≤◌, ◌^◌, Bool, true, false, not, ◌||◌, List, [], ◌+◌, ◌++◌, length, ◌⊎◌, None, Result, Ok},
  Prelude.{Err, if◌then◌else◌},
}
use Rattle.ports_core.specs.{
  Slot.{Slot, slot_at},
  Source.{Content, Source, source_at},
  Inputs.{CameFrom, OfContent, empty},
  declared.{fault.Fault.{Fault, TheVariants.{Memory, Write, Open, TooLong}}, verdict.Verdict.Verdict},
}
use Rattle.engine_core.specs.{
  Written.{Written, Output, OutputsAt, StoppedBetween, nothing, writes},
  Swept.Swept,
  Work.{Work, Needs, Judges, IsNeeded},
  Engine.{Terms, is_verdict},
}
use Rattle.run_core.specs.declared.feeding.Fed.{Fed, TheVariants.{Whole, Enough, Broken}}
use Rattle.ports_core.specs.declared.fault.Fault.TheVariants as fault_is

-- whether the input ends, or the output is complete before the input breaks off
abbrev pub is_enough : Work → Content → Bool
is_enough work content = not content.breaks_off || work.is_complete content.bytes

-- what the engine makes of an input
abbrev pub fed_part : Work → Content → Written
fed_part work content = if is_enough work content then work.whole content.bytes else work.settled content.bytes

-- One step of a run at an input.
pub record Step : Type 0 where
  -- what was written before the step
  pub low : Written
  -- what is written once the step is done: `low`, and what the step adds
  pub high : Written
  -- what it writes to standard output
  pub output : Output
  -- whether it writes to files that it opens
  pub files : Bool
  -- whether it may need memory, or new files
  pub needs : Needs
  -- what of the input came in
  pub read : List ℕ
  -- whether it comes after a read reported the end
  pub ended : Bool
  -- how many bytes may have been given back before it
  pub ahead : ℕ

-- Which faults can stop a step, if the outputs are left so: no memory, a broken output, a file that couldn't be opened,
-- more input than any tool takes; each only if the step can meet it.
abbrev pub Stops : Step → List Slot → Fault → Type 0
Stops step now Memory = step.needs.memory ≡ true
Stops step now (Write slot) = (slot ≡ 0 → writes step.output ≡ true) × (step.files ≡ false → slot ≡ 0)
    × ((slot_at now slot).is_broken ≡ true)
Stops step now (Open slot) = (step.files ≡ true) × (step.needs.files ≡ true)
Stops step now TooLong = 2 ^ 63 ≤ length step.read
Stops step now fault = ⊥

-- the engine has all of an input that it needs: the input ended, or the output is complete
pub data HasAll (work : Work) (content : Content) (x : List ℕ) : Type 0 where
  to_end : content.breaks_off ≡ false → content.bytes ≡ x → HasAll work content x
  enough : (rest : List ℕ) → content.bytes ≡ x ++ rest → work.is_complete x ≡ true → HasAll work content x

-- a step between these parts, before which no byte was given back; the input hasn't ended by it
abbrev pub step_from : Output → (files : Bool) → Needs → (read : List ℕ) → (low high : Written) → Step
step_from output files needs read low high = record {
  low = low;
  high = high;
  output = output;
  files = files;
  needs = needs;
  read = read;
  ended = false;
  ahead = 0;
}

-- the step of an engine's call that may need this
abbrev pub call_of : Work → Needs → List ℕ → Written → Written → Step
call_of work needs read low high = step_from work.means.output work.means.files needs read low high

-- the call that closes an engine, at the end of the input or once the output is complete with what came in
abbrev pub close_of : Work → List ℕ → Step
close_of work x = record (call_of work work.means.closing x (work.settled x) (work.whole x)) {
  ended = not (work.is_complete x);
  ahead = if work.is_complete x then work.ahead else 0;
}

-- One call of an engine over this input, fed by pieces of at most `most` bytes: it is opened, takes a piece, or is
-- closed.
pub data IsCall (work : Work) (opening : Needs) (most : ℕ) (content : Content) : Step → Type 0 where
  opens : IsCall work opening most content (call_of work opening [] nothing (work.settled []))
  feeds : (x piece rest : List ℕ) → content.bytes ≡ (x ++ piece) ++ rest → length piece ≤ most
      → work.is_complete x ≡ false
      → IsCall work opening most content (call_of work work.means.feeding (x ++ piece) (work.settled x)
      (work.settled (x ++ piece)))
  closes : (x : List ℕ) → HasAll work content x → IsNeeded work.is_complete most x
      → IsCall work opening most content (close_of work x)

-- A fault stopped one of these steps of a run.
pub record StoppedStep (visible : Bool) (before : List Slot) (first : ℕ) (clears : Bool) (IsStep : Step → Type 0)
    (fault : Fault) (new : List Slot) : Type 0 where
  pub step : Step
  pub is : IsStep step
  -- the fault left the outputs so: since `before` they got what comes before the step, and a beginning of what it adds
  pub reached : List Slot
  pub stops : Stops step reached fault
  pub between : StoppedBetween step.output visible before step.low step.high fault reached
  -- then the files were removed, from the output of number `first` on, if the work clears them
  pub swept : Swept clears first reached new

-- How feeding an input ends, from the state `before` of the outputs on. `IsStep` is true of the call that a fault
-- stopped, and of what was left of the input then.
pub data FedAs (visible : Bool) (before : List Slot) (work : Work) (content : Content) (IsStep : Step → Type 0)
    (new : List Slot) : Result Fed Fault → Type 0 where
  -- the input ended before the output was complete; the work ends well
  whole : content.breaks_off ≡ false → work.is_complete content.bytes ≡ false → work.verdict content.bytes ≡ None
      → OutputsAt visible before (work.whole content.bytes) new
      → FedAs visible before work content IsStep new (Ok Whole)
  -- the output is complete; the work ends well
  had_enough : work.is_complete content.bytes ≡ true → work.verdict content.bytes ≡ None
      → OutputsAt visible before (work.whole content.bytes) new
      → FedAs visible before work content IsStep new (Ok Enough)
  -- the input broke off before the output was complete; the files go if the work clears them
  broke_off : content.breaks_off ≡ true → work.is_complete content.bytes ≡ false → (reached : List Slot)
      → OutputsAt visible before (work.settled content.bytes) reached → Swept work.clears (length before) reached new
      → FedAs visible before work content IsStep new (Ok Broken)
  -- the work ends with a verdict; the files go if the work clears them
  judged : (verdict : Verdict) → is_enough work content ≡ true → Judges work content.bytes verdict
      → (reached : List Slot) → OutputsAt visible before (work.whole content.bytes) reached
      → Swept work.clears (length before) reached new
      → FedAs visible before work content IsStep new (Err (fault_is.Verdict verdict))
  -- a fault that is no verdict stopped a call
  stopped : (fault : Fault) → is_verdict fault ≡ false
      → StoppedStep visible before (length before) work.clears IsStep fault new
      → FedAs visible before work content IsStep new (Err fault)

-- What is left of an input if a fault stopped this step: it didn't break, and if bytes are visible, all is left except
-- what came in. If the step comes at the end, a read reported the end.
pub record LeavesOf (visible : Bool) (content : Content) (source : Source) (step : Step) : Type 0 where
  pub came : CameFrom visible content source
  pub sound : source.is_broken ≡ false
  pub ended : step.ended ≡ true → source.ended ≡ true
  pub joined : visible ≡ true → content.bytes ≡ step.read ++ source.left.bytes

-- of standard input, reads gave at most what came in by this step and what was given back
abbrev pub IsReadTo : ℕ → Source → Step → Type 0
IsReadTo slot source step = slot ≡ 0 → source.reached ≤ length step.read + step.ahead

-- if an input ended before the output was complete, a read reported the end
abbrev pub SawEnd : Work → Content → Source → Type 0
SawEnd work content source = content.breaks_off ≡ false → work.is_complete content.bytes ≡ false
    → source.ended ≡ true

-- whether a fault stops the run: it is no verdict
abbrev pub is_stop : Result Fed Fault → Bool
is_stop (Ok fed) = false
is_stop (Err fault) = not (is_verdict fault)

-- nothing was taken from the source
abbrev pub IsUntaken : Source → Type 0
IsUntaken source = (source.taken ≡ []) × (source.reached ≡ 0)

-- an engine was opened: since `before` the outputs have what is settled at first
abbrev pub BeginsAt : {S : Type 0} → Terms S → (visible : Bool) → S → (old before : List Slot) → Type 0
BeginsAt terms visible stage old before = terms.Owns stage (length before) old
    × OutputsAt visible before ((terms.work stage).settled []) old

-- what an engine of this work is fed: the input of this number, by pieces of at most `most` bytes
pub record Feed : Type 0 where
  pub work : Work
  pub most : ℕ
  pub slot : ℕ

abbrev pub feed_of : Work → ℕ → ℕ → Feed
feed_of work most slot = record { work = work; most = most; slot = slot }

-- How feeding an input ended, and what it left of the input: `old` and `new` are the sources before and after it,
-- `slots` the outputs. `Begins` is true of the outputs before the engine was opened, which may have needed `opening`.
abbrev pub FedFrom : (visible_in visible : Bool) → Feed → (old new : List Source) → (Begins : List Slot → Type 0)
    → (slots : List Slot) → Result Fed Fault → Type 0
FedFrom visible_in visible feed old new Begins slots result = (before : List Slot) (opening : Needs) → Begins before
    → let source = source_at new feed.slot in OfContent visible_in (source_at old feed.slot).left (λ content.
    (FedAs visible before feed.work content (λ call. IsCall feed.work opening feed.most content call
    × LeavesOf visible_in content source call
    × (visible_in ≡ true → IsUntaken (source_at old feed.slot) → IsReadTo feed.slot source call)) slots result
    × (is_stop result ≡ false → SawEnd feed.work content source)) × CameFrom visible_in content source)

-- how feeding an engine of this work an input without bytes ended
abbrev pub FedNothing : (visible : Bool) → Work → (Begins : List Slot → Type 0) → (slots : List Slot) → Result Fed Fault
    → Type 0
FedNothing visible work Begins slots result = (before : List Slot) (opening : Needs) (most : ℕ) → Begins before
    → FedAs visible before work empty (IsCall work opening most empty) slots result

-- What a tool that is done with an input took of it, and what it left: it took enough, and no more than it needed.
pub record Uses (work : Work) (most slot : ℕ) (there : Content) (source : Source) : Type 0 where
  -- the front of what was there, which it took; it left the rest
  pub read : List ℕ
  pub joined : there.bytes ≡ read ++ source.left.bytes
  -- what it took was enough: nothing is left, or the output is complete
  pub enough : (source.left.bytes ≡ []) ⊎ (work.is_complete read ≡ true)
  -- what it took was needed: without the last piece, of at most `most` bytes, the output isn't complete
  pub needed : IsNeeded work.is_complete most read
  -- if the work ends without a verdict, each byte was needed: without the last byte the output isn't complete
  pub exact : work.verdict read ≡ None → IsNeeded work.is_complete 1 read
  -- of standard input, which others may read later, reads gave at most this much more; the run gave it back, but to a
  -- real pipe nothing can be given back
  pub few : slot ≡ 0 → source.reached ≤ length read + work.ahead

-- `left` is left of the input that was there, and what was read was needed
abbrev pub ReadsFor : (List ℕ → Bool) → ℕ → Content → Content → Type 0
ReadsFor is_complete most there left = (x : List ℕ) × IsNeeded is_complete most x × (there.bytes ≡ x ++ left.bytes)
