-- Lemmas on the loop that feeds an engine, and on what an engine uses of its input.
use Rattle.std.proofs.{
  lemmas.{Grind.common_steps, List.{append-nil, drop_at, length-take}, Bool.or_right},
  Common.{◌⊎◌, ◌≡◌, ℕ, ◌+◌, ◌<◌, ◌≤◌, ◌^◌, Bool, true, false, List, [], ◌++◌, length, take, Result, Ok, Err},
  Common.{IfOk, None, arith, length-append, length-take, inl, inr, refl, sym, ◌∙◌, ap, IsTrue, ◌-◌, drop, not},
  Common.{if◌then◌else◌, append_assoc, rules},
}
use Rattle.ports_core.specs.{
  Slot.{effect, Slot, changed_at},
  Source.{Content, Source, source_at, is_readable, gives, gets_back, unshown, with_next, Gave},
  declared.{fault.Fault.Fault, verdict.Verdict.Verdict},
  Inputs.{CameFrom, empty, OfContent},
}
use Rattle.engine_core.specs.{
  Written.{Written, OutputsAt},
  Swept.Swept,
  Work.{Work, Means, Needs, IsLawful, IsComplete, IsNeeded, IsSpare, Judges, IsSettled},
  Engine.{Clears, Terms, Ended, EndsThere, EndsWith, IsCaused, IsMet, KeepsOwn, Passes, StandsAt, TakesIn},
  Engine.is_verdict,
  EngineState.{EngineState, HoldsIn, IsRefusedWith},
}
use Rattle.ports_core.proofs.InputsLemmas.{HasRead, changed_source}
use Rattle.run_core.specs.{
  declared.feeding.Fed.{Fed, TheVariants.{Whole, Enough, Broken}},
  Feeding.{is_enough, Step, Stops, SawEnd, HasAll, IsCall, to_end, enough, call_of, close_of, closes, FedAs},
  Feeding.{BeginsAt, FedNothing, whole, had_enough, broke_off, judged, stopped, IsUntaken, Uses},
  inner.RunSteps.{EndsSo, finished, fell_short},
}
use Rattle.ports_core.specs.declared.fault.Fault.TheVariants as fault_is
use Rattle.engine_core.specs.Engine as engine

-- Lemmas on the loop that feeds an engine.

-- why an engine that is live is stopped
stops : (work : Work) (read : List ℕ) (low high : Written) {needs : Needs} (ended : Bool) (ahead : ℕ) (Lacks : Type 0)
    (Ends : Verdict → Type 0) {fault : Fault} {taken size : ℕ} {old new : List Slot} → is_verdict fault ≡ false
    → (2 ^ 63 ≤ taken + size → 2 ^ 63 ≤ length read)
    → IsCaused (IsMet work.means needs Lacks Ends old new) false taken size old new fault
    → Stops (record (call_of work needs read low high) { ended = ended; ahead = ahead }) new fault
stops work read low high ended ahead Lacks Ends is long (engine.over is_over kept) = search rules
stops work read low high ended ahead Lacks Ends is long (engine.long _ many _) = long many
stops work read low high {needs} ended ahead Lacks Ends {fault} {old} {new} is long (engine.met _ live why) = grind (arith, common_steps)

-- the fault is a verdict of which this holds
abbrev pub OfVerdict : Fault → (Verdict → Type 0) → Type 0
OfVerdict fault P = (verdict : Verdict) × (fault ≡ fault_is.Verdict verdict) × P verdict

-- a verdict comes only if the work ends so
pub judges : (means : Means) {needs : Needs} (Lacks : Type 0) (Ends : Verdict → Type 0) {fault : Fault} {over : Bool}
    {taken size : ℕ} {old new : List Slot} → is_verdict fault ≡ true
    → IsCaused (IsMet means needs Lacks Ends old new) over taken size old new fault → OfVerdict fault Ends
judges means Lacks Ends is (engine.met (fault_is.Verdict verdict) _ why) = (verdict, refl, why)
judges means Lacks Ends is caused = absurd (cc)

-- what a fault left within an input, and what was made of its files then
short_of_piece : {visible : Bool} {work : Work} {content : Content} (IsStep : Step → Type 0)
    {x : List ℕ} (piece rest : List ℕ) {reached new before : List Slot} {fault : Fault} → IsLawful work
    → content.bytes ≡ (x ++ piece) ++ rest
    → IsStep (call_of work work.means.feeding (x ++ piece) (work.settled x) (work.settled (x ++ piece)))
    → Ended work.means.output visible before (work.settled x) (work.settled (x ++ piece)) work.clears fault reached
    → (is_verdict fault ≡ false
    → Stops
    (call_of work work.means.feeding (x ++ piece) (work.settled x) (work.settled (x ++ piece))) reached fault)
    → (is_verdict fault ≡ true → OfVerdict fault (IsSettled work (x ++ piece)))
    → (is_verdict fault ≡ true → new ≡ reached)
    → (is_verdict fault ≡ false → Swept work.clears (length before) reached new)
    → FedAs visible before work content IsStep new (Err fault)
short_of_piece IsStep piece rest {reached} {fault} lawful is step (engine.cut unjudged stop) why settles kept swept =
    stopped fault unjudged
    (record { step = _; is = step; reached = reached; stops = why unjudged; between = stop; swept = swept unjudged })
short_of_piece {work} IsStep {x} piece rest lawful is step (engine.judged judging first at cleared) why settles kept swept =
    let settling = settles judging in
    let stays : IsComplete work (x ++ piece) rest = lawful.stays (x ++ piece) rest settling.2.0 in
    rw settling.1 (judged settling.0 (or_right _ _ (ap work.is_complete is ∙ stays.still)) (ap work.verdict is ∙ stays.verdict_stays ∙ settling.2.1) first
    (rw (← stays.whole_stays, ← is) at at)
    (rw (kept judging) cleared))

-- what is known of an input that the engine has got all of, by what became of it
abbrev pub HasGot : Work → Content → List ℕ → Fed → Type 0
HasGot work content x Whole = (content.breaks_off ≡ false) × (work.is_complete x ≡ false) × (content.bytes ≡ x)
HasGot work content x Enough = (work.is_complete x ≡ true) × ((rest : List ℕ) × (content.bytes ≡ x ++ rest))
HasGot work content x Broken = ⊥

got_all : {work : Work} {content : Content} {x : List ℕ} (fed : Fed) → HasGot work content x fed → HasAll work content x
got_all Whole got = to_end got.0 got.2
got_all Enough got = enough got.1.0 got.1.1 got.0
got_all Broken got = absurd got

-- the engine makes of x what it makes of z
pub record MadeAlike (work : Work) (x z : List ℕ) : Type 0 where
  pub settled : work.settled x ≡ work.settled z
  pub whole : work.whole x ≡ work.whole z
  pub verdict : work.verdict x ≡ work.verdict z

pub alike_itself : {work : Work} {x : List ℕ} → MadeAlike work x x
alike_itself = grind (arith, common_steps)

-- what comes once the output is complete changes nothing
pub alike_after : {work : Work} {x y : List ℕ} (rest : List ℕ) → IsLawful work → work.is_complete x ≡ true
    → y ≡ x ++ rest → MadeAlike work y x
alike_after {work} {x} rest lawful done is =
    let here : IsComplete work x [] = lawful.stays x [] done in
    let there : IsComplete work x rest = lawful.stays x rest done in
    rw is (record {
      settled = there.settled_stays;
      whole = there.whole_stays ∙ sym here.whole_stays
          ∙ ap work.whole (append-nil x);
      verdict = there.verdict_stays;
    })

got_alike : {work : Work} (content : Content) {x : List ℕ} (fed : Fed) → IsLawful work → HasGot work content x fed
    → MadeAlike work content.bytes x
got_alike content Whole lawful got = rw got.2 alike_itself
got_alike content Enough lawful got = alike_after got.1.0 lawful got.0 got.1.1
got_alike content Broken lawful got = absurd got

got_enough : {work : Work} (content : Content) (x : List ℕ) (fed : Fed) → IsLawful work → HasGot work content x fed
    → is_enough work content ≡ true
got_enough content x Whole lawful got = cc
got_enough content x Enough lawful got = grind (arith, common_steps)
got_enough content x Broken lawful got = absurd got

fed_all : {visible : Bool} {work : Work} {content : Content} (IsStep : Step → Type 0)
    {x : List ℕ} {new before : List Slot} (fed : Fed) → IsLawful work → HasGot work content x fed
    → work.verdict x ≡ None → OutputsAt visible before (work.whole x) new
    → FedAs visible before work content IsStep new (Ok fed)
fed_all IsStep Whole lawful got well at = whole got.0 (rw got.2 got.1) (rw got.2 well) (rw got.2 at)
fed_all IsStep {x} Enough lawful got well at =
    let alike = alike_after got.1.0 lawful got.0 got.1.1 in had_enough (rw got.1.1 (lawful.stays x got.1.0 got.0).still)
    (alike.verdict ∙ well) (rw alike.whole at)
fed_all IsStep Broken lawful got well at = absurd got

-- What a fault left at the end, and what was made of its files then. The engine was fed x, of which z was used.
short_of_end : {visible : Bool} {work : Work} {content : Content} (IsStep : Step → Type 0)
    {x z : List ℕ} {reached new before : List Slot} (fed : Fed) {fault : Fault} → IsLawful work
    → HasGot work content x fed → MadeAlike work x z → IsStep (close_of work z)
    → Ended work.means.output visible before (work.settled x) (work.whole x) work.clears fault reached
    → (is_verdict fault ≡ false → Stops (close_of work z) reached fault)
    → (is_verdict fault ≡ true → OfVerdict fault (Judges work x))
    → (is_verdict fault ≡ true → new ≡ reached)
    → (is_verdict fault ≡ false → Swept work.clears (length before) reached new)
    → FedAs visible before work content IsStep new (Err fault)
short_of_end IsStep {reached = reached} fed {fault} lawful got alike step (engine.cut unjudged stop) why verdict kept swept =
    let between = rw alike.settled at (rw alike.whole at stop) in stopped fault unjudged
    (record { step = _; is = step; reached = reached; stops = why unjudged; between = between; swept = swept unjudged })
short_of_end {content} IsStep fed lawful got alike step (engine.judged judging first at cleared) why verdict kept swept =
    let same = got_alike content fed lawful got in let (given, is, ends) = verdict judging in
    rw is (judged given (got_enough content _ fed lawful got) (same.verdict ∙ ends) first (rw same.whole at) (rw (kept judging) cleared))

module _ {S : Type 0} (terms : Terms S) where
  -- the loop has fed the engine x
  pub record Feeds (visible : Bool) (start now : EngineState S) (x : List ℕ) (old slots : List Slot) : Type 0 where
    pub same : terms.work now.stage ≡ terms.work start.stage
    pub holds : HoldsIn terms.Holds now x
    pub owns : KeepsOwn terms start.stage now.stage old slots
    pub outputs : (before : List Slot) → BeginsAt terms visible start.stage old before
        → OutputsAt visible before ((terms.work now.stage).settled x) slots
    pub bound : now.fed < 2 ^ 63

module _ {S : Type 0} {terms : Terms S} {visible : Bool} {start now : EngineState S} {x : List ℕ} {old mid : List Slot}
    (so_far : Feeds terms visible start now x old mid) where
  -- the engine and its outputs stand at what it was fed
  pub stands : {before : List Slot} → BeginsAt terms visible start.stage old before
      → StandsAt terms now.stage visible before x mid
  stands {before} begun = record { holds = so_far.holds.within; owns = so_far.owns (length before) begun.0; outputs = so_far.outputs before begun }

  pub goes_on : {next : EngineState S} (piece : List ℕ) {new : List Slot} {Met : List Slot → List Slot → Fault → Type 0}
      → Passes terms piece now.stage next.stage (effect visible mid new) Met (Ok tt)
      → TakesIn (HoldsIn terms.Holds) piece now next
      → next.fed < 2 ^ 63 → Feeds terms visible start next (x ++ piece) old new
  goes_on piece passes takes bound = record {
    same = passes.same ∙ so_far.same;
    holds = takes x so_far.holds;
    owns = λ first own. passes.owns first (so_far.owns first own);
    outputs = λ before begun. rw passes.same (passes.outputs before x (stands begun));
    bound = bound;
  }

  -- the loop ended at a fault of the engine, within the input
  pub stopped_feeding : (laws : (s : S) (x : List ℕ) → terms.Holds s x → IsLawful (terms.work s))
      (next : EngineState S) {content : Content} (IsStep : Step → Type 0) (piece rest : List ℕ)
      {reached new before : List Slot} {fault : Fault} → BeginsAt terms visible start.stage old before
      → content.bytes ≡ (x ++ piece) ++ rest
      → IsStep
      (call_of (terms.work now.stage) (terms.work now.stage).means.feeding (x ++ piece)
      ((terms.work now.stage).settled x) ((terms.work now.stage).settled (x ++ piece)))
      → Passes terms piece now.stage next.stage (effect visible mid reached) (IsRefusedWith terms piece now) (Err fault)
      → (is_verdict fault ≡ true → new ≡ reached) → (is_verdict fault ≡ false → Clears terms next.stage reached new)
      → FedAs visible before (terms.work start.stage) content IsStep new (Err fault)
  stopped_feeding laws next IsStep piece rest {before = before} begun is step passes kept cleared =
      let why = rw so_far.holds.count at (rw so_far.holds.live at passes.met) in
      rw (← so_far.same) (short_of_piece IsStep piece rest (laws now.stage x so_far.holds.within) is step
      (passes.cut before x (stands begun))
      (λ unjudged. stops (terms.work now.stage) (x ++ piece) ((terms.work now.stage).settled x)
      ((terms.work now.stage).settled (x ++ piece)) false 0 _ (EndsWith terms piece now.stage) unjudged
      (λ long. let size : length (x ++ piece) ≡ length x + length piece = length-append x piece in omega arith) why)
      (λ judging. let (verdict, is, ends) = judges (terms.work now.stage).means _ (EndsWith terms piece now.stage) judging passes.met in
      (verdict, is, ends x so_far.holds.within))
      kept
      (λ unjudged. rw passes.same at (cleared unjudged (length before) (passes.owns (length before) (so_far.owns (length before) begun.0)))))

  -- the loop ended with the input, or as nothing more can follow
  pub ended : (laws : (s : S) (x : List ℕ) → terms.Holds s x → IsLawful (terms.work s))
      {content : Content} (IsStep : Step → Type 0) {z : List ℕ} {new before : List Slot} {fed : Fed}
      {result : Result Fed Fault} → BeginsAt terms visible start.stage old before
      → HasGot (terms.work now.stage) content x fed → MadeAlike (terms.work now.stage) x z
      → IsStep (close_of (terms.work now.stage) z) → EndsSo terms visible now fed mid new result
      → FedAs visible before (terms.work start.stage) content IsStep new result
  ended laws IsStep {before = before} {fed} begun got alike step (finished _ finishes) =
      rw (← so_far.same) (fed_all IsStep fed (laws now.stage x so_far.holds.within) got (finishes.well x so_far.holds.within)
      (finishes.outputs before x (stands begun)))
  ended laws IsStep {z} {before} {fed} begun got alike step (fell_short _ _ _ finishes kept cleared) =
      let why = rw so_far.holds.live at finishes.met in
      rw (← so_far.same) (short_of_end IsStep fed (laws now.stage x so_far.holds.within) got alike step
      (finishes.cut before x (stands begun))
      (λ unjudged. stops (terms.work now.stage) z ((terms.work now.stage).settled z) ((terms.work now.stage).whole z)
      (not ((terms.work now.stage).is_complete z))
      (if (terms.work now.stage).is_complete z then (terms.work now.stage).ahead else 0) (Unit {0})
      (EndsThere terms now.stage) unjudged (λ long. absurd
      (let bound : now.fed < 2 ^ 63 = so_far.bound in omega arith)) why)
      (λ judging. let (verdict, is, ends) = judges (terms.work now.stage).means (Unit {0})
      (EndsThere terms now.stage) judging finishes.met in (verdict, is, ends x so_far.holds.within))
      kept (λ unjudged. rw finishes.same at (cleared unjudged (length before) (finishes.owns (length before) (so_far.owns (length before) begun.0)))))

module _ {S : Type 0} (terms : Terms S) where
  -- an input without bytes: the engine is closed at once
  pub closed_at_start : (laws : (s : S) (x : List ℕ) → terms.Holds s x → IsLawful (terms.work s))
      (visible : Bool) {start : EngineState S} {old new : List Slot} {fed : Fed} {result : Result Fed Fault}
      → HoldsIn terms.Holds start [] → start.fed < 2 ^ 63 → HasGot (terms.work start.stage) empty [] fed
      → EndsSo terms visible start fed old new result
      → FedNothing visible (terms.work start.stage) (BeginsAt terms visible start.stage old) new result
  closed_at_start laws visible {start} {old = old} {fed = fed} holds bound got ends before opening most begun =
      let begins : Feeds terms visible start start [] old old = record
      { same = refl; holds = holds; owns = λ first own. own; outputs = λ before begun. begun.1; bound = bound } in
      ended begins laws (IsCall (terms.work start.stage) opening most empty) begun got (alike_itself)
      (closes [] (got_all fed got) (inl refl)) ends

  -- an input that ended, or was enough, didn't break off
  pub ends_sound : (visible : Bool) {engine : EngineState S} {fed : Fed} {old new : List Slot}
      {result : Result Fed Fault}
      (P : Type 0) → (fed ≡ Whole) ⊎ (fed ≡ Enough) → EndsSo terms visible engine fed old new result
      → IfOk result (λ found. found ≡ Broken → P)
  ends_sound visible P sound (finished next finishes) = λ is. absurd (elim sound [ inl one ↦ cc | inr other ↦ cc ])
  ends_sound visible P sound (fell_short _ _ _ _ _ _) = tt

-- what was read was needed

pub piece_within : {n most : ℕ} (buffer : List ℕ) → n ≤ most → length (take n buffer) ≤ most
piece_within {n} buffer within = omega (arith, length-take n buffer)

pub needed_more : {is_complete : List ℕ → Bool} {most n : ℕ} (x buffer : List ℕ) → is_complete x ≡ false → n ≤ most
    → IsNeeded is_complete most (x ++ take n buffer)
needed_more x buffer going within = grind (arith, common_steps)

-- the input that is there, if bytes are visible, and else an input that has what was read

pub of_read : (visible : Bool) (there : Content) (bytes : List ℕ) (breaks_off : Bool) (source : Source)
    (P : Content → Type 0) → (visible ≡ true → (there.bytes ≡ bytes) × (there.breaks_off ≡ breaks_off))
    → ((content : Content) → (visible ≡ false → content.breaks_off ≡ breaks_off) → CameFrom visible content source)
    → ((content : Content) → (visible ≡ true → content.bytes ≡ there.bytes) → content.bytes ≡ bytes
    → content.breaks_off ≡ breaks_off → CameFrom visible content source → P content)
    → OfContent visible there (λ content. P content × CameFrom visible content source)
of_read true there bytes breaks_off source P all came holds =
    let from = came there (λ off. absurd (cc)) in (there, λ t. refl, (holds there (λ t. refl) (all refl).0 (all refl).1 from, from))
of_read false there bytes breaks_off source P all came holds =
    let from = came (record { bytes = bytes; breaks_off = breaks_off; shown = None }) (λ off. refl) in (
      record { bytes = bytes; breaks_off = breaks_off; shown = None },
      λ t. absurd (cc),
      (holds _ (λ t. absurd (cc)) refl refl from, from),
    )

pub of_more : (visible : Bool) (there : Content) (x rest : List ℕ) (source : Source) (P : Content → Type 0)
    → (visible ≡ true → there.bytes ≡ x ++ rest)
    → ((content : Content) → (visible ≡ false → content.breaks_off ≡ false) → CameFrom visible content source)
    → ((content : Content) → (visible ≡ true → content.bytes ≡ there.bytes) → (rest : List ℕ)
    → content.bytes ≡ x ++ rest
    → CameFrom visible content source → P content)
    → OfContent visible there (λ content. P content × CameFrom visible content source)
of_more true there x rest source P all came holds =
    let from = came there (λ off. absurd (cc)) in (there, λ t. refl, (holds there (λ t. refl) rest (all refl) from, from))
of_more false there x rest source P all came holds =
    let from = came (unshown x) (λ off. refl) in (unshown x, λ t. absurd (cc), (holds _ (λ t. absurd (cc)) [] (sym (append-nil x)) from, from))

-- if the output was complete, no read had to report the end
pub told_by_complete : {work : Work} (content : Content) (source : Source) {x : List ℕ} (rest : List ℕ) → IsLawful work
    → work.is_complete x ≡ true → content.bytes ≡ x ++ rest → SawEnd work content source
told_by_complete content source {x} rest lawful complete is ends going =
    absurd (cc (lawful.stays x rest complete).still)

-- what is known of the call that a fault stopped
pub fed_so : {visible : Bool} {before : List Slot} {work : Work} {content : Content} {A B : Step → Type 0}
    {new : List Slot} {result : Result Fed Fault} → ((call : Step) → A call → B call)
    → FedAs visible before work content A new result → FedAs visible before work content B new result
fed_so more (whole sound going well at) = whole sound going well at
fed_so more (had_enough complete well at) = had_enough complete well at
fed_so more (broke_off breaks going reached at swept) = broke_off breaks going reached at swept
fed_so more (judged verdict all ends reached at swept) = judged verdict all ends reached at swept
fed_so more (stopped fault is stop) = stopped fault is (record {
  step = stop.step;
  is = more stop.step stop.is;
  reached = stop.reached;
  stops = stop.stops;
  between = stop.between;
  swept = stop.swept;
})

-- an engine that took in a front of its input without a read: the loop that feeds it goes on from there

pub needed_front : {is_complete : List ℕ → Bool} {most : ℕ} {x : List ℕ} → (x ≡ []) ⊎ (is_complete x ≡ false)
    → IsNeeded is_complete most x
needed_front (inl none) = inl none
needed_front (inr going) = grind (arith, common_steps)

-- Lemmas on what an engine uses of its input, and what is given back of it.

-- What was taken of an input since `start`: x. If nothing was taken before, reads gave no more.
pub record HasTaken (x : List ℕ) (slot : ℕ) (start sources : List Source) : Type 0 where
  pub taken : (source_at sources slot).taken ≡ (source_at start slot).taken ++ x
  pub far : IsUntaken (source_at start slot) → (source_at sources slot).reached ≤ length x

taken_next : {x buffer old_buffer : List ℕ} {slot : ℕ} (size : ℕ) {n : ℕ} {start sources new : List Source}
    → HasTaken x slot start sources → IsTrue (is_readable sources slot)
    → Gave (source_at sources slot).left old_buffer buffer n → new ≡ changed_at slot (gives size n) sources
    → with_next n (source_at sources slot) ≡ (source_at start slot).taken ++ (x ++ take n buffer)
taken_next size took can gave is = grind (arith, common_steps)

pub takes_more : {x buffer old_buffer : List ℕ} {slot : ℕ} (size : ℕ) {n : ℕ} {start sources new : List Source}
    → HasTaken x slot start sources → IsTrue (is_readable sources slot)
    → Gave (source_at sources slot).left old_buffer buffer n → new ≡ changed_at slot (gives size n) sources
    → HasTaken (x ++ take n buffer) slot start new
takes_more size took can gave is = grind (arith, common_steps, taken_next, changed_source)

-- what is spare was given back

back_at : {taken : List ℕ} (start used : List ℕ) {rest : List ℕ} {n : ℕ} → taken ≡ start ++ (used ++ rest)
    → length rest ≡ n → drop (length taken - n) taken ≡ rest
back_at {taken} start used {rest} {n} is long =
    let all : taken ≡ (start ++ used) ++ rest = is ∙ sym (append_assoc start used rest) in
    let at : length taken - n ≡ length (start ++ used) = omega (arith, ap length all ∙ length-append (start ++ used) rest) in
    rw (at, all) (drop_at (start ++ used) rest _ refl)

pub read_used : {work : Work} {content : Content} {x : List ℕ} {slot n : ℕ} {start sources new : List Source}
    (spare : IsSpare work x n) → HasRead content x slot sources → HasTaken x slot start sources
    → IsTrue (is_readable sources slot) → new ≡ changed_at slot (gets_back n) sources
    → content.bytes ≡ spare.used ++ (source_at new slot).left.bytes
read_used {slot} {n} {start} {sources} {new} spare read took can is = rw (
  read.bytes,
  spare.joined,
  append_assoc spare.used spare.rest (source_at sources slot).left.bytes,
  changed_source slot (gets_back n) sources new can is,
  back_at (source_at start slot).taken spare.used (took.taken ∙ ap (λ those. (source_at start slot).taken ++ those) spare.joined) spare.long,
)

-- one byte at the most is a piece
pub needed_within : {is_complete : List ℕ → Bool} {most : ℕ} {x : List ℕ} → 0 < most → IsNeeded is_complete 1 x
    → IsNeeded is_complete most x
needed_within room (inl none) = inl none
needed_within room (inr (before, piece, is, few, going)) = grind (arith, common_steps)

-- what a run leaves of an input

-- all of an input was read, and the output was not complete
pub uses_all : {work : Work} {most slot : ℕ} {there : Content} {x : List ℕ} {source : Source}
    → there.bytes ≡ x ++ source.left.bytes → source.left.bytes ≡ [] → IsNeeded work.is_complete most x
    → work.is_complete x ≡ false → source.reached ≤ length x → Uses work most slot there source
uses_all joined none needed going few = grind (arith, common_steps)

-- the work ended with a verdict within it
pub uses_judged : {work : Work} {most slot : ℕ} {there : Content} {x : List ℕ} {source : Source} {verdict : Verdict}
    → there.bytes ≡ x ++ source.left.bytes → IsNeeded work.is_complete most x → IsSettled work x verdict
    → source.reached ≤ length x → Uses work most slot there source
uses_judged joined needed settled few = grind (arith, common_steps)

-- what was given back is no more than may be
pub read_to_used : {work : Work} {x : List ℕ} {slot n : ℕ} {start sources new : List Source} (spare : IsSpare work x n)
    → (slot ≡ 0 → n ≤ work.ahead) → HasTaken x slot start sources → IsUntaken (source_at start slot)
    → IsTrue (is_readable sources slot) → new ≡ changed_at slot (gets_back n) sources → slot ≡ 0
    → (source_at new slot).reached ≤ length spare.used + work.ahead
read_to_used {slot} {n} {sources} {new} spare few took unread can is standard =
    omega (
      arith,
      few standard,
      took.far unread,
      ap length spare.joined ∙ length-append spare.used spare.rest,
      ap (λ (source : Source). source.reached) (changed_source slot (gets_back n) sources new can is),
    )

-- the output was complete, and what it doesn't use was given back
pub uses_part : {work : Work} {most slot n : ℕ} {there : Content} {x : List ℕ} {start sources new : List Source}
    (spare : IsSpare work x n) → there.bytes ≡ spare.used ++ (source_at new slot).left.bytes → 0 < most
    → work.is_complete spare.used ≡ true → (slot ≡ 0 → n ≤ work.ahead) → HasTaken x slot start sources
    → IsUntaken (source_at start slot) → IsTrue (is_readable sources slot) → new ≡ changed_at slot (gets_back n) sources
    → Uses work most slot there (source_at new slot)
uses_part spare joined room complete few took unread can is = record {
  read = spare.used;
  joined = joined;
  enough = inr complete;
  needed = needed_within room spare.needed;
  exact = λ well. spare.needed;
  few = read_to_used spare few took unread can is;
}
