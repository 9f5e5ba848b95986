-- Lemmas on chunks of an input, as one of the ways to split.
use Rattle.std.proofs.Common.{rules}
use Rattle.std.{
  specs.Option.is_none,
  proofs.lemmas.Grind.common_steps,
  proofs.Common.{◌≡◌, ℕ, ◌+◌, ◌≤◌, Bool, true, false, IsTrue, List, ◌++◌, length, Option, Some, None, Result, Ok},
  proofs.Common.{Err, IfNone, IfSome, refl, ap, arith},
}
use Rattle.engine_core.specs.{
  Engine.{IsMet, StandsAt},
  FileWriter.{Breaks, IsWrite},
  Written.{Written, gets_bytes, writes},
  InTurn.fault_in,
  Work.{IsSettled, IsSpare, Judges, Means, Needs, Work},
  inner.Written.HasLines,
}
use Rattle.ports_core.specs.{
  Slot.{Effect, effect, Slot, is_writable},
  declared.{
    fault.Fault.{Fault, TheVariants.{Memory, Verdict}},
    verdict.Verdict.{Verdict as Judgement, TheVariants.{Changed, Suffixes}},
  },
}
use Rattle.engine_core.proofs.{WrittenLemmas.stopped_in_turn, ShareLemmas.has_told, SpareLemmas.all_used}
use Rattle.seg_core.specs.declared.cut.Chunks.{Chunks}
use Rattle.split_core.specs.{
  ChunkerState.{AimState, ChunkerState, Course, Holds, HoldsBy, IsAimed, course, course_of, to_files, to_output},
  ChunkerState.{in_files, in_output, total, work, work_on},
  inner.{Chunker.{Comes, EndsAs, IsLike, PassesAs}, Brings.{AtAim, IsOf, manner_on, output_on}},
}
use Rattle.split_core.proofs.{PartsLemmas.{met_files, unjudged}, WayLemmas.passes_lacking}
use Rattle.engine_core.specs.Engine as engine
use Rattle.split_core.specs.Ways as ways
use Rattle.split_core.specs.declared.splitter.Splitter.TheVariants as way

-- What is made

-- the work is the same if the same was asked for
same_work : (state next : ChunkerState) → IsLike state next → course next.cutter ≡ course state.cutter
    → work next ≡ work state
same_work state next like stays = cc

output_is : (on : Course) (chunks : Chunks) (said : Option ℕ) → (work_on on chunks said).means.output ≡ output_on on
output_is (in_files filing elide) chunks said = refl
output_is (in_output chunk) chunks said = refl

feeds_memory : (on : Course) (chunks : Chunks) {said : Option ℕ} → said ≡ None
    → (work_on on chunks said).means.feeding.memory ≡ true
feeds_memory (in_files filing elide) chunks unsaid = refl
feeds_memory (in_output chunk) chunks unsaid = ap is_none unsaid

-- standard output has the lines of what is settled
settled_lines : (on : Course) (chunks : Chunks) (said : Option ℕ) (x : List ℕ)
    → HasLines (output_on on) ((work_on on chunks said).settled x).out ((work_on on chunks said).settled x).files
settled_lines (in_files filing elide) chunks said x = has_told _ _
settled_lines (in_output chunk) chunks said x = tt

-- Faults

module _ (chunks : Chunks) (Why : Judgement → Type 0) (old new : List Slot) (fault : Fault)
    (ends : fault ≡ Verdict Suffixes → Why Suffixes) where
  met_feeding : (on : Course) (said : Option ℕ) → Breaks (manner_on on) old new fault → IsOf on fault
      → IsMet (work_on on chunks said).means (work_on on chunks said).means.feeding (true ≡ true) Why old new fault
  met_feeding (in_files filing elide) said breaks of = grind (arith, common_steps, met_files)
  met_feeding (in_output chunk) said breaks of = grind (arith, common_steps)

  -- if an output broke, no need matters
  met_broken : (means : Means) (needs other : Needs) (Lacks Or : Type 0) → IsWrite fault
      → IsMet means needs Lacks Why old new fault → IsMet means other Or Why old new fault
  met_broken means needs other Lacks Or (slot, is) met = grind (arith, common_steps)

  met_closing : (on : Course) (said : Option ℕ) → Breaks (manner_on on) old new fault → IsOf on fault
      → (is_none said ≡ false → IsWrite fault)
      → IsMet (work_on on chunks said).means (work_on on chunks said).means.closing (Unit {0}) Why old new fault
  met_closing on (Some size) breaks of few = grind (arith, common_steps, met_broken, met_feeding)
  met_closing (in_files filing elide) None breaks of few = grind (arith, common_steps, met_files)
  met_closing (in_output chunk) None breaks of few = grind (arith, common_steps)

-- What a piece leaves

at_aim : {visible : Bool} {state : ChunkerState} {start : List Slot} {x : List ℕ} {now : List Slot}
    → StandsAt ways.terms (way.Chunks state) visible start x now
    → AtAim visible state.cutter.sink.aim start ((work state).settled x) now
at_aim at = grind (arith, common_steps)

-- How a call leaves the outputs that were to come to what is due.
module _ {old : ChunkerState} (new : ChunkerState) {outs : Effect} {due : List ℕ → Written} where
  went_out : Comes old new due outs None
      → engine.PutsOut ways.terms (way.Chunks old) due outs
  went_out comes start x at = grind (arith, common_steps)

  was_cut : {why : Fault} → Comes old new due outs (Some why)
      → engine.CutsOff ways.terms (way.Chunks old) due outs why
  was_cut {why} comes start x at = grind (arith, common_steps, unjudged, output_is, stopped_in_turn, settled_lines, at_aim)

  was_judged : Comes old new due outs None
      → engine.CutsOff ways.terms (way.Chunks old) due outs (Verdict Changed)
  was_judged comes start x at = engine.judged refl outs.new ((comes.brings x at.holds).reaches start (at_aim at)).outputs refl

module _ {old new : ChunkerState} {piece : List ℕ} {outs : Effect} where
  pub passes_at : (result : Result (Unit {0}) Fault) → IsLike old new → total new ≤ total old + length piece
      → Comes old new (λ x. (work old).settled (x ++ piece)) outs (fault_in result)
      → ((x : List ℕ) → Holds old x → IfNone (fault_in result) (Holds new (x ++ piece)))
      → PassesAs old new piece outs result
  passes_at (Ok done) same bound comes stands = grind (arith, common_steps, same_work, went_out)
  passes_at (Err why) same bound comes stands = record {
    same = same_work old new same comes.stays.course;
    size = bound;
    holds = tt;
    outputs = tt;
    ready = tt;
    owns = comes.stays.owns;
    there = λ are. tt;
    cut = was_cut new comes;
    met = met_feeding old.cutter.chunks _ outs.old outs.new why
        (λ is x holds. absurd ((comes.brings x holds).named is)) (course old.cutter) old.said comes.stays.slots comes.stays.only;
  }

  -- the input has changed: all is written
  pub passes_changed : IsLike old new → total new ≤ total old + length piece
      → Comes old new (λ x. (work old).settled (x ++ piece)) outs None
      → ((x : List ℕ) → Holds old x → IsSettled (work old) (x ++ piece) Changed)
      → PassesAs old new piece outs (Err (Verdict Changed))
  passes_changed same bound all judged = search (rules, same_work, was_judged)

-- bytes wait, and there was no room for the piece: nothing was written
pub lacks_room : {visible : Bool} (old : ChunkerState) {piece : List ℕ} {slots : List Slot} → old.said ≡ None
    → PassesAs old old piece (effect visible slots slots) (Err Memory)
lacks_room old unsaid = passes_lacking (way.Chunks old) _ _ refl (omega arith) (λ first owns. owns)
    (feeds_memory (course old.cutter) old.cutter.chunks unsaid)

-- The call at the end

aimed_writable : (aim : AimState) (chunks : Chunks) (said : Option ℕ) (slots : List Slot) → IsAimed aim slots
    → writes (work_on (course_of aim) chunks said).means.output ≡ true → IsTrue (is_writable slots 0)
aimed_writable (to_files writer elide) chunks said slots aimed visible = search rules
aimed_writable (to_output chunk) chunks said slots aimed visible = aimed

module _ {old new : ChunkerState} {outs : Effect} where
  pub ends_at : (result : Result (Unit {0}) Fault) → IsAimed old.cutter.sink.aim outs.old → IsLike old new
      → total new ≤ total old → Comes old new (work old).whole outs (fault_in result)
      → ((x : List ℕ) → Holds old x → IfNone (fault_in result) ((work old).verdict x ≡ None))
      → (is_none old.said ≡ false → IfSome (fault_in result) IsWrite) → EndsAs old new outs result
  ends_at (Ok done) aimed same bound comes well only_write = grind (arith, common_steps, same_work, went_out, aimed_writable)
  ends_at (Err why) aimed same bound comes well only_write = record {
    same = same_work old new same comes.stays.course;
    size = bound;
    well = tt;
    outputs = tt;
    writable = tt;
    owns = comes.stays.owns;
    there = λ are. tt;
    cut = was_cut new comes;
    met = met_closing old.cutter.chunks _ outs.old outs.new why
        (λ is x holds. absurd ((comes.brings x holds).named is)) (course old.cutter) old.said comes.stays.slots comes.stays.only only_write;
  }

  pub ends_changed : IsLike old new → total new ≤ total old
      → Comes old new (work old).whole outs None
      → ((x : List ℕ) → Holds old x → Judges (work old) x Changed)
      → EndsAs old new outs (Err (Verdict Changed))
  ends_changed same bound all judged = search (rules, same_work, was_judged)

-- what waits, and what isn't used

pub chunks_wait : (state : ChunkerState) (x : List ℕ) → Holds state x
    → length state.waiting ≡ length ((work state).waiting x)
chunks_wait state x holds = search rules

-- no chunk wants a name that isn't there

pub no_suffixes : (state : ChunkerState) (x : List ℕ) → Judges (work state) x Suffixes → ⊥
no_suffixes state x = grind (arith, common_steps)

-- if all chunks go to files, more can come until there is more than was shown

-- what doesn't write bytes of its own to standard output isn't complete
pub open_beside : (state : ChunkerState) (z : List ℕ) (those : Work) → work state ≡ those
    → (those.means.output ≡ gets_bytes → ⊥)
    → Holds state z → those.is_complete z ≡ false
open_beside state z those same beside holds = grind (arith, common_steps)

pub unsaid_open : (on : Course) (chunks : Chunks) (x : List ℕ) → (work_on on chunks None).is_complete x ≡ false
unsaid_open (in_files filing elide) chunks x = refl
unsaid_open (in_output chunk) chunks x = refl

spare_by : (said : Option ℕ) (state : ChunkerState) (x : List ℕ) → HoldsBy said state x
    → IsSpare (work_on (course state.cutter) state.cutter.chunks said) x state.spare
spare_by None state x holds = rw holds.spare (all_used _ x (unsaid_open _ _ x))
spare_by (Some size) state x holds = holds.spare

pub chunks_spare : (state : ChunkerState) (x : List ℕ) → Holds state x → IsSpare (work state) x state.spare
chunks_spare state x holds = spare_by state.said state x holds
