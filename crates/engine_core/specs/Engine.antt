-- What each call of an engine owes.
use Rattle.std.specs.{
  Prelude.{◌≡◌, ℕ, ◌+◌, ◌≤◌, ◌^◌, Bool, true, false, List, [], ◌++◌, ◌⊎◌, None, length, IsTrue, Result, OnOk, IfErr},
}
use Rattle.ports_core.specs.{
  Slot.{Effect, Slot, Rose, is_writable},
  declared.{fault.Fault.{Fault, TheVariants.{Memory, Write, Open}}, verdict.Verdict.Verdict},
}
use Rattle.engine_core.specs.{
  Written.{Written, Output, OutputsAt, StoppedBetween, writes},
  Swept.{Swept, AreThere, RemovesIf},
  Work.{Work, Means, Needs, IsSettled, IsSpare, Judges},
}
use Rattle.ports_core.specs.declared.fault.Fault.TheVariants as fault_is

-- What a stage says of each of its states. The contracts of its calls are written with these terms.
pub record Terms (S : Type 0) : Type 1 where
  -- the stage may have been fed these bytes
  pub Holds : S → List ℕ → Type 0
  -- what the stage makes of its input
  pub work : S → Work
  -- nothing that follows these bytes changes the output, in the tool's own words
  pub IsDone : S → List ℕ → Type 0
  -- how many bytes the stage has to count; 0 if its own limit bounds them
  pub size : S → ℕ
  -- there may be no memory for this piece
  pub may_lack : S → List ℕ → Bool
  -- the outputs of later calls can be written
  pub Ready : S → List Slot → Type 0
  -- the slots from this place on are those that the stage opened
  pub Owns : S → ℕ → List Slot → Type 0
  -- the outputs of the files that the stage made and didn't remove; none if its work never removes them
  pub files : S → List ℕ

-- whatever the engine was fed before, it was fed this piece after it
abbrev pub TakesIn : {E : Type 0} → (E → List ℕ → Type 0) → List ℕ → E → E → Type 0
TakesIn Holds piece old new = (x : List ℕ) → Holds old x → Holds new (x ++ piece)

-- The stage may have been fed x. Since the state `before` the outputs got what is settled with x, and the slots that
-- were opened since are the stage's own.
pub record StandsAt {S : Type 0} (terms : Terms S) (stage : S) (visible : Bool) (before : List Slot) (x : List ℕ)
    (now : List Slot) : Type 0 where
  pub holds : terms.Holds stage x
  pub owns : terms.Owns stage (length before) now
  pub outputs : OutputsAt visible before ((terms.work stage).settled x) now

-- if the outputs had what was settled with any bytes that the stage was fed, they have what is due with these bytes
abbrev pub PutsOut : {S : Type 0} → Terms S → S → (List ℕ → Written) → Effect → Type 0
PutsOut terms stage due outs = (before : List Slot) (x : List ℕ)
    → StandsAt terms stage outs.visible before x outs.old → OutputsAt outs.visible before (due x) outs.new

-- whether a fault is a verdict: the tool's work itself ends with it
abbrev pub is_verdict : Fault → Bool
is_verdict (fault_is.Verdict verdict) = true
is_verdict fault = false

-- How a fault leaves the outputs. A fault that is no verdict stopped them between two parts. After a verdict they
-- reached all of the second part, and then files may have been removed.
pub data Ended (output : Output) (visible : Bool) (before : List Slot) (low high : Written) (clears : Bool)
    (fault : Fault)
    (now : List Slot) : Type 0 where
  cut : is_verdict fault ≡ false → StoppedBetween output visible before low high fault now
      → Ended output visible before low high clears fault now
  judged : is_verdict fault ≡ true → (reached : List Slot) → OutputsAt visible before high reached
      → Swept clears (length before) reached now → Ended output visible before low high clears fault now

-- how a fault leaves the outputs between what was settled and what was due
abbrev pub CutsOff : {S : Type 0} → Terms S → S → (List ℕ → Written) → Effect → Fault → Type 0
CutsOff terms stage due outs fault = (before : List Slot) (x : List ℕ)
    → StandsAt terms stage outs.visible before x outs.old
    → Ended (terms.work stage).means.output outs.visible before ((terms.work stage).settled x) (due x)
    (terms.work stage).clears fault outs.new

-- The causes of a fault of an engine that isn't over. `Lacks` says that memory may be lacking, and `Ends` that the work
-- ends with this verdict.
abbrev pub IsMet : Means → Needs → Type 0 → (Verdict → Type 0) → List Slot → List Slot → Fault → Type 0
IsMet means needs Lacks Ends old new Memory = (needs.memory ≡ true) × Lacks
IsMet means needs Lacks Ends old new (Write slot) = (slot ≡ 0 → writes means.output ≡ true)
    × (means.files ≡ false → slot ≡ 0) × Rose slot old new
IsMet means needs Lacks Ends old new (Open slot) = (means.files ≡ true) × (needs.files ≡ true) × Rose slot old new
IsMet means needs Lacks Ends old new (fault_is.Verdict verdict) = Ends verdict
IsMet means needs Lacks Ends old new fault = ⊥

-- whatever the stage was fed, after this piece its work ends with this verdict, whatever follows
abbrev pub EndsWith : {S : Type 0} → Terms S → List ℕ → S → Verdict → Type 0
EndsWith terms piece stage verdict = (x : List ℕ) → terms.Holds stage x
    → IsSettled (terms.work stage) (x ++ piece) verdict

-- whatever the stage was fed, its work ends with this verdict if the input ends now
abbrev pub EndsThere : {S : Type 0} → Terms S → S → Verdict → Type 0
EndsThere terms stage verdict = (x : List ℕ) → terms.Holds stage x → Judges (terms.work stage) x verdict

-- what causes a fault of a stage that takes in a piece
abbrev pub IsMetWith : {S : Type 0} → Terms S → List ℕ → S → List Slot → List Slot → Fault → Type 0
IsMetWith terms piece stage = IsMet (terms.work stage).means (terms.work stage).means.feeding
    (terms.may_lack stage piece ≡ true) (EndsWith terms piece stage)

-- what causes a fault of a stage at the end of its input
abbrev pub IsMetThere : {S : Type 0} → Terms S → S → List Slot → List Slot → Fault → Type 0
IsMetThere terms stage =
    IsMet (terms.work stage).means (terms.work stage).means.closing (Unit {0}) (EndsThere terms stage)

-- what causes each fault of a call that takes in `size` bytes; `Met` says what causes it if the engine isn't over
pub data IsCaused (Met : Fault → Type 0) (is_over : Bool) (fed size : ℕ) (old new : List Slot) : Fault → Type 0 where
  over : is_over ≡ true → new ≡ old → IsCaused Met is_over fed size old new fault_is.Failed
  long : is_over ≡ false → 2 ^ 63 ≤ fed + size → new ≡ old → IsCaused Met is_over fed size old new fault_is.TooLong
  met : (fault : Fault) → is_over ≡ false → Met fault → IsCaused Met is_over fed size old new fault

-- if the slots from some place on were the stage's own before the call, they are after it
abbrev pub KeepsOwn : {S : Type 0} → Terms S → S → S → List Slot → List Slot → Type 0
KeepsOwn terms old new before after = (first : ℕ) → terms.Owns old first before → terms.Owns new first after

-- the stage's files are removed if its work says so, and otherwise stay
abbrev pub Clears : {S : Type 0} → Terms S → S → List Slot → List Slot → Type 0
Clears terms stage old new = (first : ℕ) → terms.Owns stage first old → Swept (terms.work stage).clears first old new

-- What a stage leaves after it took in a piece. If a fault came, `Met` says its cause.
pub record Passes {S : Type 0} (terms : Terms S) (piece : List ℕ) (old new : S) (outs : Effect)
    (Met : List Slot → List Slot → Fault → Type 0) (result : Result (Unit {0}) Fault) : Type 0 where
  -- the stage's work is as before
  pub same : terms.work new ≡ terms.work old
  -- the stage has to count at most the length of the piece more than before
  pub size : terms.size new ≤ terms.size old + length piece
  -- the stage was fed the piece after what it was fed before
  pub holds : OnOk result (TakesIn terms.Holds piece old new)
  -- outputs that had what was settled before the piece have what is settled with it
  pub outputs : OnOk result (PutsOut terms old (λ x. (terms.work old).settled (x ++ piece)) outs)
  -- the outputs of later calls can be written
  pub ready : OnOk result (terms.Ready new outs.new)
  -- the slots that were the stage's own still are
  pub owns : KeepsOwn terms old new outs.old outs.new
  -- the files that the stage made are there, if they were before
  pub there : AreThere (terms.files old) outs.old → AreThere (terms.files new) outs.new
  -- a fault leaves a beginning of what is settled with the piece; a verdict comes once all of it is written
  pub cut : IfErr result (CutsOff terms old (λ x. (terms.work old).settled (x ++ piece)) outs)
  -- a fault has a cause
  pub met : IfErr result (Met outs.old outs.new)

-- What a stage leaves at the end of its input. If a fault came, `Met` says its cause.
pub record Finishes {S : Type 0} (terms : Terms S) (old new : S) (outs : Effect)
    (Met : List Slot → List Slot → Fault → Type 0) (result : Result (Unit {0}) Fault) : Type 0 where
  -- the stage's work is as before
  pub same : terms.work new ≡ terms.work old
  -- the stage has to count no more than before
  pub size : terms.size new ≤ terms.size old
  -- if the call ends well, the work has no verdict
  pub well : OnOk result ((x : List ℕ) → terms.Holds old x → (terms.work old).verdict x ≡ None)
  -- outputs that had what was settled have the whole
  pub outputs : OnOk result (PutsOut terms old (terms.work old).whole outs)
  -- standard output can be written, if the stage writes there
  pub writable : OnOk result (writes (terms.work old).means.output ≡ true → IsTrue (is_writable outs.new 0))
  -- the slots that were the stage's own still are
  pub owns : KeepsOwn terms old new outs.old outs.new
  -- the files that the stage made are there, if they were before
  pub there : AreThere (terms.files old) outs.old → AreThere (terms.files new) outs.new
  -- a fault leaves a beginning of the whole; a verdict comes once all of it is written
  pub cut : IfErr result (CutsOff terms old (terms.work old).whole outs)
  -- a fault has a cause
  pub met : IfErr result (Met outs.old outs.new)

-- What a stage leaves after it gave its files up: they are removed if its work says so.
pub record Sweeps {S : Type 0} (terms : Terms S) (old new : S) (before after : List Slot) : Type 0 where
  -- the stage's work is as before
  pub same : terms.work new ≡ terms.work old
  -- the stage has to count no more than before
  pub size : terms.size new ≤ terms.size old
  -- if the work says so, the files are removed, one after another, and those whose removal failed are left; otherwise
  -- all stay
  pub removes : RemovesIf (terms.work old).clears (terms.files old) before (terms.files new) after
  -- if the work says so, each of the stage's outputs has its file removed, or is broken and closed
  pub swept : Clears terms old before after
  -- the slots that were the stage's own still are
  pub owns : KeepsOwn terms old new before after
  -- the files that are left are there
  pub there : AreThere (terms.files new) after

-- A stage that was fed nothing has become a stage that was fed this text.
pub record TookIn {S : Type 0} (terms : Terms S) (before after : S) (front : List ℕ) : Type 0 where
  -- the stage's work is as before
  pub same : terms.work after ≡ terms.work before
  -- the stage has to count at most the length of the text
  pub size : terms.size after ≤ length front
  pub holds : terms.Holds after front
  pub ready : (slots : List Slot) → terms.Ready before slots → terms.Ready after slots
  pub owns : (first : ℕ) (slots : List Slot) → terms.Owns before first slots → terms.Owns after first slots
  -- nothing more is settled with the text, and the output isn't complete with it unless the text is empty
  pub idle : (terms.work before).settled front ≡ (terms.work before).settled []
  pub going : (front ≡ []) ⊎ ((terms.work before).is_complete front ≡ false)

-- The next piece may have `most` bytes. If the output isn't complete with the bytes x that the stage was fed, at most
-- `ahead` bytes of a piece of at most `most` bytes are not used; n is how many.
abbrev pub MayGet : {S : Type 0} → Terms S → S → ℕ → Type 0
MayGet {S = S} terms stage most = (x piece : List ℕ) (after : S) (n : ℕ) → terms.Holds stage x
    → (terms.work stage).is_complete x ≡ false → length piece ≤ most → terms.work after ≡ terms.work stage
    → terms.Holds after (x ++ piece) → IsSpare (terms.work stage) (x ++ piece) n → n ≤ (terms.work stage).ahead
