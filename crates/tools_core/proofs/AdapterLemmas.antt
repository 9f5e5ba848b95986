-- Lemmas on opening a tool's engine.
use Rattle.std.proofs.{
  lemmas.{Grind.common_steps, List.length-replicate},
  Common.{◌≡◌, ℕ, ◌-◌, ◌<◌, ◌≤◌, ◌^◌, zero, Bool, true, false, IsTrue, if◌then◌else◌, List, [], length, Result, Ok},
  Common.{Err, IfOk, IfErr, IsErr, OnOk, refl, sym, ap, arith, Option, Some, None, option_map, replicate, inl, inr},
}
use Rattle.ports_core.specs.{
  Slot.{Slot, is_writable},
  declared.{
    calling.Calling.TheVariants.Cutters,
    fault.Fault.{Fault, TheVariants.{Memory, Write, Open, Verdict}},
    verdict.Verdict.TheVariants.Suffixes,
  },
  Name.Naming,
  Source.{Source, count_shown, source_at},
}
use Rattle.engine_core.specs.{
  declared.file_writer.Tells.Tells,
  Written.{OutputsAt, StoppedBetween, nothing, only_out},
  Work.{Work, Needs},
  EngineState.{EngineState, HoldsIn},
  Engine.{Terms, is_verdict},
  Swept.Swept,
  FileWriter.Breaks,
}
use Rattle.engine_core.proofs.{
  WrittenLemmas.{nothing_out, nothing_begins_part, stopped_here},
  SlotSteps.{none_past, swept_none},
}
use Rattle.ports_core.proofs.InputsLemmas.{looked_none}
use Rattle.csplit_core.specs.{Output.manner_of, Csplit.csplit_work}
use Rattle.seg_core.specs.declared.{
  cut.{Way.Way, Chunks.Chunks},
  unit.Unit.{Unit as Counted, TheVariants.{Lines, Bytes}},
}
use Rattle.split_core.specs.{ChunkWork.{CannotBegin, way_work, work_by}, Split.{Filing, is_verbose, tells_by}}
use Rattle.ends_core.{
  specs.{
    Ends.{after_of, head_of, tail_of},
    Head.head_work,
    Tail.tail_work,
    Shown.{between_work, head_in, tail_in},
    declared.ends.Portion.Portion,
  },
  proofs.{EndsLemmas.none_before, KeptLemmas.first_of-nil},
}
use Rattle.run_core.specs.{Feeding.{Stops, call_of}, RunSteps.{IsShown, OnlyLooked, Opens, OpensShort}}
use Rattle.words_core.specs.{EndsWords.EndsAsked, SplitWords.SplitAsked}
use Rattle.words_core.specs.EndsWords.{is_minus, is_plus}
use Rattle.tools_core.specs.Tasks.{head_task, naming_of, split_task, tail_task}
use Rattle.operand_core.specs.{Style.Style, declared.operand.Operand.Operand}
use Rattle.seg_core.specs.declared.cut.Way.TheVariants as way
use Rattle.ends_core.specs.Stage as ends

head_of-nil : (delim : ℕ) (unit : Counted) (but_last : Bool) (n : ℕ) → head_of delim unit but_last n [] ≡ []
head_of-nil delim unit false n = first_of-nil delim unit n
head_of-nil delim unit true n = grind (arith, common_steps)

after_of-nil : (delim : ℕ) (unit : Counted) (n : ℕ) → after_of delim unit n [] ≡ []
after_of-nil delim Lines zero = refl
after_of-nil delim Bytes zero = refl
after_of-nil delim unit n = refl

tail_begins : (delim : ℕ) (from_nth : Bool) (unit : Counted) (n : ℕ)
    → (if from_nth then only_out (tail_of delim unit true n []) else nothing) ≡ nothing
tail_begins delim true unit n = rw (after_of-nil delim unit (n - 1))
tail_begins delim false unit n = refl

-- Nothing is written before a byte came in.

pub some_there : (slots : List Slot) → 2 ≤ length slots → 0 < length slots
some_there slots two = omega (arith, two)

pub head_begins : (delim : ℕ) {visible : Bool} (unit : Counted) (but_last : Bool) (n : ℕ) {slots : List Slot}
    → 2 ≤ length slots → OutputsAt visible slots ((head_work delim unit but_last n).settled []) slots
head_begins delim {visible} unit but_last n {slots} two = rw (head_of-nil delim unit but_last n) (nothing_out visible slots (some_there slots two))

pub tail_starts : (delim : ℕ) {visible : Bool} (unit : Counted) (from_nth : Bool) (n : ℕ) {slots : List Slot}
    → 2 ≤ length slots → OutputsAt visible slots ((tail_work delim unit from_nth n).settled []) slots
tail_starts delim {visible} unit from_nth n {slots} two = rw (tail_begins delim from_nth unit n) (nothing_out visible slots (some_there slots two))

pub between_starts : (from end : ℕ) {visible : Bool} {slots : List Slot} → 2 ≤ length slots
    → OutputsAt visible slots ((between_work from end).settled []) slots
between_starts from end {visible} {slots} two =
    rw (none_before from end [] (omega arith)) (nothing_out visible slots (some_there slots two))

-- without memory for an engine its opening stops, and the outputs stay as they were
pub no_memory : {visible : Bool} {work : Work} {opening : Needs} {slots : List Slot} {fault : Fault}
    → opening.memory ≡ true → 2 ≤ length slots → fault ≡ Memory → OpensShort work opening visible slots slots fault
no_memory {visible} {work} {slots} may two is = rw is (record {
  unjudged = refl;
  reached = slots;
  why = may;
  stop = stopped_here _ visible slots nothing _ Memory slots slots (nothing_out visible slots (some_there slots two)) (nothing_begins_part _) refl tt tt;
  swept = swept_none work.clears (length slots) slots (none_past slots);
})

-- standard output gets lines about files exactly if `verbose` says so
verbose_is : (verbose : Bool) → is_verbose (tells_by verbose) ≡ verbose
verbose_is true = refl
verbose_is false = refl

-- An engine that was opened left the outputs as its work says before the first byte.

pub opened_of : {S : Type 0} (terms : Terms S) {begun asked : Work} (visible : Bool) (old new : List Slot)
    (result : Result (EngineState S) Fault) → begun ≡ asked → IfOk result (λ e. HoldsIn terms.Holds e [])
    → IfOk result (λ e. terms.work e.stage ≡ begun) → IfOk result (λ e. e.fed < 2 ^ 63)
    → IfOk result (λ e. terms.Ready e.stage new)
    → IfOk result (λ e. terms.Owns e.stage (length old) new)
    → OnOk result (OutputsAt visible old (begun.settled []) new)
    → IfOk result (Opens terms asked visible old new)
opened_of terms visible old new (Ok e) is fresh does bound ready owns at = grind (arith, common_steps)
opened_of terms visible old new (Err fault) is fresh does bound ready owns at = tt

-- an engine that couldn't be opened
pub opened_short : {E : Type 0} (visible : Bool) {begun asked : Work} {opening : Needs} (old new : List Slot)
    (result : Result E Fault) (Why Left : Fault → Type 0)
    → begun ≡ asked → 2 ≤ length old → ((fault : Fault) → Why fault → Left fault
    → (is_verdict fault ≡ false) × Stops (call_of begun opening [] nothing (begun.settled [])) new fault
    × Swept begun.clears (length old) new new)
    → IfErr result (λ fault. (before : List Slot) → OutputsAt visible before nothing old
    → StoppedBetween begun.means.output visible before nothing (begun.settled []) fault new)
    → IfErr result Why → IfErr result Left → IfErr result (OpensShort asked opening visible old new)
opened_short visible old new (Ok e) Why Left is two stops cut why left = tt
opened_short visible old new (Err fault) Why Left is two stops cut why left = grind (arith, common_steps, nothing_out, some_there)

pub csplit_halts : (style : Style) (operands : List Operand) (old new : List Slot) (fault : Fault)
    → Breaks (manner_of style) old new fault
    → (is_verdict fault ≡ false)
    × Stops
    (call_of (csplit_work style operands) (record { memory = true; files = true }) [] nothing
    ((csplit_work style operands).settled [])) new fault
csplit_halts style operands old new Memory breaks = (refl, refl)
csplit_halts style operands old new (Write slot) breaks = (refl, (breaks.0, λ none. absurd (cc), breaks.1.1))
csplit_halts style operands old new (Open slot) breaks = (refl, (refl, refl))
csplit_halts style operands old new (Verdict Suffixes) breaks = absurd (cc)
csplit_halts style operands old new fault breaks = absurd breaks

-- the work that is asked of `split`
pub split_asked : (those asked : SplitAsked) (shown : Option (List ℕ)) {naming : Naming} {tells : Tells}
    (said : Option ℕ) → those ≡ asked
    → naming ≡ naming_of asked → tells ≡ tells_by those.verbose
    → ((elide : Bool) (filing : Filing)
    → way_work those.way elide filing said ≡ way_work those.way elide filing (option_map length shown))
    → work_by those.way those.elide naming tells said ≡ (split_task Cutters asked).work shown
split_asked those asked shown {naming} {tells} said is named visible says = grind (arith, common_steps, verbose_is)

-- why the work of `split` can't be begun
pub split_halts : (way : Way) (elide : Bool) (names : Naming) (tells : Tells) (said : Option ℕ) (old new : List Slot)
    (fault : Fault)
    → CannotBegin way (is_verbose tells) old new fault
    → (is_verdict fault ≡ false)
    × Stops (call_of (work_by way elide names tells said) (record { memory = true; files = true }) [] nothing
    ((work_by way elide names tells said).settled [])) new fault
    × Swept (work_by way elide names tells said).clears (length old) new new
split_halts (way.Cut cut) elide names tells said old new fault (inl is) = rw is (refl, refl, refl)
split_halts (way.Cut cut) elide names tells said old new fault (inr (inl (visible, is, rose))) =
    grind (arith, common_steps)
split_halts (way.Cut cut) elide names tells said old new fault (inr (inr (slot, is, rose))) = rw is (refl, (refl, refl), refl)
split_halts way elide names tells said old new fault is = rw is (refl, refl, refl)

-- of an engine that wasn't opened anything is true
pub none_opened : {E : Type 0} (P : E → Type 0) (result : Result E Fault) → IsErr result → IfOk result P
none_opened P (Ok e) errs = absurd (cc)
none_opened P (Err fault) errs = tt

pub whatever : {E : Type 0} (P : E → Type 0) (result : Result E Fault) → ((e : E) → P e) → IfOk result P
whatever P (Ok e) all = all e
whatever P (Err fault) all = tt

pub no_memory_for : {E : Type 0} (visible : Bool) (work : Work) (opening : Needs) (slots : List Slot)
    (result : Result E Fault) (P : Type 0) → (P → opening.memory ≡ true) → 2 ≤ length slots
    → IfErr result (λ fault. (fault ≡ Memory) × P) → IfErr result (OpensShort work opening visible slots slots)
no_memory_for visible work opening slots (Ok e) P may two err = tt
no_memory_for visible work opening slots (Err fault) P may two err = no_memory (may err.1) two err.0

-- an engine of `head` or `tail` that was opened left the outputs as they were, whatever the input shows
pub opened_still : (visible : Bool) {begun asked : Work} (old : List Slot) (result : Result (EngineState Portion) Fault)
    → begun ≡ asked → IfOk result (λ e. HoldsIn ends.Holds e [])
    → IfOk result (λ e. ends.work e.stage ≡ begun) → IfOk result (λ e. e.fed < 2 ^ 63) → IsTrue (is_writable old 0)
    → OutputsAt visible old (begun.settled []) old → IfOk result (Opens ends.terms asked visible old old)
opened_still visible old (Ok e) is fresh does bound ready at = grind (arith, common_steps, opened_of)
opened_still visible old (Err fault) is fresh does bound ready at = tt

-- The work that is asked for, by what an input shows.

pub head_by : (shown : Option (List ℕ)) {those asked : EndsAsked} {minus : Bool} → those ≡ asked
    → is_minus those.count.sign ≡ minus
    → head_in those.delim those.unit minus those.count.amount shown ≡ (head_task Cutters asked).work shown
head_by shown is signed = rw (← signed, is)

pub tail_by : (shown : Option (List ℕ)) {those asked : EndsAsked} {plus : Bool} → those ≡ asked
    → is_plus those.count.sign ≡ plus
    → tail_in those.delim those.unit plus those.count.amount shown ≡ (tail_task Cutters asked).work shown
tail_by shown is signed = rw (← signed, is)

-- The work of `split`: a length matters only for chunks.

pub length_matters : (asked : Way) → ((chunks : Chunks) → asked ≡ way.Chunks chunks → ⊥)
    → ((place : ℕ) (chunks : Chunks) → asked ≡ way.Chunk place chunks → ⊥)
    → (one other : Option ℕ) (elide : Bool) (filing : Filing)
    → way_work asked elide filing one ≡ way_work asked elide filing other
length_matters (way.Chunks chunks) to_files to_output one other elide filing = absurd (to_files chunks refl)
length_matters (way.Chunk place chunks) to_files to_output one other elide filing = absurd (to_output place chunks refl)
length_matters asked to_files to_output one other elide filing = refl

-- the length that an input showed is the length of some text; if bytes aren't visible, any text of this length will do
pub said_shown : (visible : Bool) (slot : ℕ) (sources : List Source) {size : Option ℕ}
    → (visible ≡ true → size ≡ count_shown (source_at sources slot).left)
    → (shown : Option (List ℕ)) × IsShown visible (Some slot) sources shown × (size ≡ option_map length shown)
said_shown true slot sources counts = grind (arith, common_steps)
said_shown false slot sources {size = None} counts = (None, λ t. absurd (cc), refl)
said_shown false slot sources {size = Some n} counts =
    (Some (replicate n 0), λ t. absurd (cc), ap Some (sym (length-replicate n 0)))

-- sources that stayed as they were were at most looked at
pub only_looked_none : (most : ℕ) (source : Option ℕ) (sources : List Source) → OnlyLooked most source sources sources
only_looked_none most None sources = refl
only_looked_none most (Some slot) sources = looked_none most slot sources
