-- What each call on parts leaves: a step of a piece, a piece that is taken in step by step, the end of the input, and what the stage owes.
use Rattle.std.proofs.{
  lemmas.{Grind.common_steps, List.{append-nil, drop-take, take-append-drop, length-map, map-append}},
  Common.{◌≡◌, ℕ, ◌+◌, ◌-◌, ◌<◌, ◌≤◌, suc, List, [], ◌∷◌, ◌++◌, length, map, Bool, true, false, Option, Some},
  Common.{None, IfSome, IsTrue, Result, Ok, Err, OnOk, IfErr, IfOk, inl, refl, sym, ◌∙◌, ap, arith},
  Common.{take, drop, append_assoc, not, cond, rules},
  Math.Seq.take-length,
}
use Rattle.engine_core.specs.{
  Draft.{Manner, Draft, share, Share, shares_of, draft_part, output_of, with_bytes, with_next},
  Engine.{CutsOff, EndsWith, IsMet, StandsAt, is_verdict},
  FileWriter.{Leaves, At, Breaks, CanCount, CanTell, Goes, IsWrite, is_file, manner_in},
  Written.writes,
  InTurn.fault_in,
  inner.Shares.SharesBegin,
  declared.file_writer.{Opening.TheVariants.{Never, Late}, Tells.{Tells, TheVariants.{Nothing, Sizes, Openings}}},
  Work.Needs,
}
use Rattle.ports_core.specs.{
  Name.has_name,
  Slot.{Effect, effect, Slot, is_writable},
  declared.fault.Fault.{Fault, TheVariants.{Memory, Write, Open}},
  declared.verdict.Verdict.{Verdict, TheVariants.Suffixes},
}
use Rattle.engine_core.proofs.{
  FileWriterLemmas.{goes_still, made_count, leaves_again, reaches_again, reaches_as},
  FileWriterLemmas.{stops_wider, where_short, where_well},
  WriterSteps.{goes_again, goes_lacking},
  WrittenLemmas.{kept_there, stopped_in_turn},
  ShareLemmas.{has_told, bytes_begin},
}
use Rattle.seg_core.specs.{Cut.most}
use Rattle.split_core.specs.{
  Parts.{cut_up, is_full, parts, settled_rest, unless_empty, waiting_rest},
  PartsState.{PartsState, IsReady, Lacks, Stands, filing_of, work},
  Split.{Filing, TellsNoSizes, are_named, is_verbose, draft_of, manner_of, output_by, settled_parts, split_means},
  declared.step.Step.{Step, TheVariants.{Goes as GoesOn, Ends, Begins, Waits}},
  inner.CutLaws.{cut_so, named},
  inner.Sharing.{CannotClose, always_named},
  inner.Step.{IsTurned, Leads},
  inner.Takes.{Extends, Finishes, Moves, TakesStretch, Takes, BeginsNext, numbers, settled_part, begins_next},
  inner.Takes.whole_part,
  laws.{
    CutLaws.{cut_none, cut_on},
    ShareLaws.{are_named_more, named_short, part_begins, settled_count, settled_grow, shares_fewer},
  },
}
use Rattle.split_core.proofs.{CutLaws.cut_two}
use Rattle.engine_core.specs.Engine as engine
use Rattle.ports_core.specs.declared.fault.Fault.TheVariants as fault_is
use Rattle.ports_core.specs.declared.slot.State.TheVariants as file_state
use Rattle.split_core.specs.Ways as ways
use Rattle.split_core.specs.declared.splitter.Splitter.TheVariants as way
use Rattle.split_core.specs.laws.LimitLaws.{settled_some, settled_then_waiting}

pub on_ok : {P : Type 0} (result : Result (Unit {0}) Fault) → P → OnOk result P
on_ok (Ok done) is = is
on_ok (Err f) is = tt

-- Which faults come

pub unjudged : (manner : Manner) (old new : List Slot) (fault : Fault) → Breaks manner old new fault
    → (fault ≡ fault_is.Verdict Suffixes → ⊥) → is_verdict fault ≡ false
unjudged manner old new Memory breaks named = refl
unjudged manner old new (Write slot) breaks named = refl
unjudged manner old new (Open slot) breaks named = refl
unjudged manner old new (fault_is.Verdict Suffixes) breaks named = absurd (named refl)
unjudged manner old new fault breaks named = absurd breaks

-- if all places have names, they don't run out
pub none_lacks : (verbose : Bool) (old new : List Slot) {fault : Fault} → Breaks (always_named verbose) old new fault
    → fault ≡ fault_is.Verdict Suffixes → ⊥
none_lacks verbose old new breaks is = search rules

module _ (late : Bool) (needs : Needs) (Lacks : Type 0) (Why : Verdict → Type 0) (manner : Manner) (verbose : Bool)
    (old new : List Slot) where
  pub met_files : (fault : Fault) → (needs.memory ≡ true) × Lacks → needs.files ≡ true
      → manner.output ≡ output_by verbose
      → Breaks manner old new fault → (fault ≡ fault_is.Verdict Suffixes → Why Suffixes)
      → IsMet (split_means verbose late) needs Lacks Why old new fault
  met_files Memory memory files same breaks ends = memory
  met_files (Write slot) memory files same (out, rose) ends = grind (arith, common_steps)
  met_files (Open slot) memory files same breaks ends = (refl, files, breaks)
  met_files (fault_is.Verdict Suffixes) memory files same breaks ends = ends refl
  met_files fault memory files same breaks ends = absurd breaks

pub met_closing : (verbose : Bool) (Why : Verdict → Type 0) (old new : List Slot) {fault : Fault}
    → CannotClose old new fault
    → IsMet (split_means verbose false) (split_means verbose false).closing (Unit {0}) Why old new fault
met_closing verbose Why old new (slot, is, two, rose) = grind (arith, common_steps)

-- sizes aren't counted
pub always_counts : {tells : Tells} (size : ℕ) (bytes : List ℕ) → TellsNoSizes tells → CanCount tells size bytes
always_counts {tells = Nothing} size bytes is = tt
always_counts {tells = Sizes} size bytes is = absurd (cc)
always_counts {tells = Openings} size bytes is = tt

-- if standard output gets anything about files, it can be written
pub told_writable : (tells : Tells) (slots : List Slot) → CanTell tells slots
    → writes (output_by (is_verbose tells)) ≡ true → IsTrue (is_writable slots 0)
told_writable Nothing slots can is_told = absurd (cc)
told_writable Sizes slots can is_told = absurd (cc)
told_writable Openings slots can is_told = can

-- Shares that begin others

-- what begins a part that may be closed by then
still_begins : (ended : List Share) (made : List (List ℕ)) (more high : List Share)
    → SharesBegin (ended ++ (map (share file_state.Closed) made ++ more)) high
    → SharesBegin (ended ++ map (share file_state.Open) made) high
still_begins [] [] more high begins = tt
still_begins [] (one ∷ made) more [] begins = absurd begins
still_begins [] (one ∷ made) more (whole ∷ high) begins =
    (inl (refl, sym (kept_there (λ (one : Share). one.state) begins.0)), begins.1, still_begins [] made more high begins.2)
still_begins (one ∷ ended) made more [] begins = absurd begins
still_begins (one ∷ ended) made more (whole ∷ high) begins =
    (begins.0, begins.1, still_begins ended made more high begins.2)

-- names ran out for the file that is due: what comes after it makes none
names_out : (filing : Filing) (place : ℕ) (ended : List (List ℕ)) (more high : List Share) {n : ℕ}
    → n ≡ place + length ended → has_name filing.names n ≡ false
    → SharesBegin (map (share file_state.Closed) ended ++ more) high
    → named filing place (map (share file_state.Closed) ended ++ more) ≡ named filing place high
names_out filing place [] more high at none begins =
    named_short filing place [] more (rw at at none) ∙ sym (named_short filing place [] high (rw at at none))
names_out filing place (one ∷ ended) more [] at none begins = absurd begins
names_out filing place (one ∷ ended) more (whole ∷ high) at none begins =
    grind (arith, names_out filing (place + 1) ended more high (omega arith) none begins.2)

-- files are made as they were
filing_same : (state next : PartsState) {old new : List Slot} {fault : Option Fault}
    → Leaves state.writer next.writer old new fault → filing_of next ≡ filing_of state
filing_same state next leaves = cc

-- What a step makes of what came in

-- where the next bytes lead, whatever came in before
abbrev pub LeadsOn : PartsState → List ℕ → Step → Type 0
LeadsOn state piece step = (rest : List ℕ) → Lacks state.limit rest state.left state.has_line
    → Leads state.limit rest state.left state.has_line piece step

abbrev pub rest_of : PartsState → List ℕ → List ℕ
rest_of state x = (cut_up state.limit x).rest

abbrev pub full_of : PartsState → List ℕ → List (List ℕ)
full_of state x = (cut_up state.limit x).full

abbrev pub begun_of : PartsState → List ℕ → List ℕ
begun_of state x = settled_rest state.limit (rest_of state x)

-- what is begun, what waits and more are together what is left and more
all_of : {state : PartsState} {x : List ℕ} (more : List ℕ) → Stands state x
    → begun_of state x ++ (state.waiting ++ more) ≡ rest_of state x ++ more
all_of {state} {x} more stands =
    cc (append_assoc (begun_of state x) (waiting_rest state.limit (rest_of state x)) more, settled_then_waiting _ _)

-- with more of x this is written, and then the numbers are right
record Comes (state : PartsState) (x taken : List ℕ) (after : Draft) (are : ℕ × Bool × List ℕ) : Type 0 where
  is : draft_of state.limit (x ++ taken) ≡ after
  lacks : Lacks state.limit (rest_of state (x ++ taken)) are.0 are.1
  waits : are.2 ≡ waiting_rest state.limit (rest_of state (x ++ taken))

-- no part is full then
none_full : (state : PartsState) (x taken : List ℕ) → is_full state.limit (rest_of state x ++ taken) ≡ false
    → cut_up state.limit (x ++ taken) ≡ cut_so (full_of state x) (rest_of state x ++ taken)
none_full state x taken short = rw (cut_on state.limit x taken, cut_none state.limit _ short, append-nil)

-- what was taken so far is a beginning of what the whole piece leads to
below : {state : PartsState} {x : List ℕ} (piece : List ℕ) (bytes : ℕ) {after : Draft} {are : ℕ × Bool × List ℕ}
    → Comes state x (take bytes piece) after are
    → SharesBegin (shares_of after) (settled_parts state.limit (x ++ piece))
below {state} {x} piece bytes comes = rw (← comes.is) (rw (append_assoc x _ _, take-append-drop bytes piece) at
    (settled_grow state.limit (x ++ take bytes piece) (drop bytes piece)))

-- a fault came on the way
takes_not : {state next : PartsState} {taken : List ℕ} {change : Draft → Draft} {are : ℕ × Bool × List ℕ}
    {outs : Effect} {f : Fault}
    → ((x : List ℕ) → Stands state x
    → SharesBegin (shares_of (change (draft_of state.limit x))) (settled_parts state.limit (x ++ taken)))
    → Moves state next are change outs (Some f)
    → Takes state next taken outs (Some f)
takes_not {state = state} {taken = taken} {change} begins moves = record {
  limit = moves.limit;
  leaves = moves.goes.leaves;
  stands = tt;
  reaches = λ x stands. stops_wider (moves.goes.reaches _ _ stands.writes) (part_begins _ _ _ (begins x stands));
  short = λ is x stands. let draft = change _ in
      let ran = moves.goes.short is _ _ stands.writes in record {
        none = are_named_more (filing_of state).names (suc (length draft.ended)) _ ran.none
            (omega (arith, made_count draft ran.begun, shares_fewer _ _ (begins x stands)));
        all = λ before at. rw (names_out (filing_of state) 0 draft.ended _ _ (omega arith) ran.none (begins x stands)) at (ran.all before at);
      };
}

-- the part is full, and the next has begun
turned_so : {state : PartsState} {x taken first past : List ℕ}
    → IsTurned state.limit (rest_of state x ++ taken) first past
    → Comes state x taken (record { ended = full_of state x ++ unless_empty first; opening = Late; bytes = past })
    (most state.limit - length past, false, [])
turned_so {state} {x} {taken} {first} {past} led = grind (arith, common_steps, cut_two, cut_on)

-- what a step takes of a piece; if a fault comes, the piece is what was to be taken
abbrev pub taken : ℕ → List ℕ → Option Fault → List ℕ
taken bytes piece None = take bytes piece
taken bytes piece (Some f) = piece

module _ {state next : PartsState} (piece : List ℕ) (bytes : ℕ) {outs : Effect} where
  takes_by : (fault : Option Fault) (change : Draft → Draft) {are : ℕ × Bool × List ℕ}
      → ((x : List ℕ) → Stands state x → Comes state x (take bytes piece) (change (draft_of state.limit x)) are)
      → Moves state next are change outs fault
      → Takes state next (taken bytes piece fault) outs fault
  takes_by None change comes moves = record {
    limit = moves.limit;
    leaves = moves.goes.leaves;
    stands = λ x stands. let come = comes x stands in
        let writes = moves.goes.writes _ _ stands.writes in
        let naming = filing_same state next moves.goes.leaves in grind arith;
    reaches = λ x stands. reaches_as refl (ap (draft_part _) (comes x stands).is)
        (moves.goes.reaches _ _ stands.writes);
    short = tt;
  }
  takes_by (Some f) change comes moves = takes_not (λ x stands. below piece bytes (comes x stands)) moves

  -- all that is left goes to the part that was begun
  pub goes_on : (fault : Option Fault) (left : ℕ) (has_line : Bool) → LeadsOn state piece (GoesOn bytes left has_line)
      → Moves state next (left, has_line, []) (with_bytes (state.waiting ++ take bytes piece))
      outs fault
      → Takes state next (taken bytes piece fault) outs fault
  goes_on fault left has_line leads = takes_by fault _ (λ x stands.
      let led = leads _ stands.lacks in let cut = none_full state x _ led.short in record {
        is = cc (all_of _ stands);
        lacks = rw (cut, rest_of) led.lacks;
        waits = rw (cut, rest_of) (sym led.waits);
      })

  -- what waits begins the next part
  pub begins_on : (fault : Option Fault) → LeadsOn state piece (Begins bytes)
      → BeginsNext state next (take bytes piece) outs fault
      → Takes state next (taken bytes piece fault) outs fault
  begins_on fault leads = takes_by fault _ (λ x stands.
      rw stands.waits (turned_so (leads _ stands.lacks)))

-- these bytes are the last of the part

module _ {state : PartsState} (piece : List ℕ) (end bytes : ℕ) (leads : LeadsOn state piece (Ends end bytes)) where
  ends_to : (x : List ℕ) → Stands state x → Comes state x (take bytes piece)
      (begins_next (drop end (take bytes piece)) (with_bytes (state.waiting ++ take end piece)
      (draft_of state.limit x))) (most state.limit - length (drop end (take bytes piece)), false, [])
  ends_to x stands = rw (all_of (take end piece) stands) (turned_so (leads (rest_of state x) stands.lacks))

  pub ends_stopped : {visible : Bool} {mid : PartsState} {old wet : List Slot} {f : Fault}
      → Extends state mid (take end piece) (effect visible old wet) (Some f)
      → Takes state mid piece (effect visible old wet) (Some f)
  ends_stopped extends = takes_not (λ x stands. still_begins _ _ _ _ (rw (map-append, append_assoc) at (below piece bytes (ends_to x stands))))
      extends

  pub ends_on : {visible : Bool} {mid next : PartsState} {old wet new : List Slot} (fault : Option Fault) → end ≤ bytes
      → Extends state mid (take end piece) (effect visible old wet) None
      → BeginsNext mid next (take (bytes - end) (drop end piece)) (effect visible wet new) fault
      → Takes state next (taken bytes piece fault) (effect visible old new) fault
  ends_on {mid = mid} fault low extends turn = takes_by piece bytes fault
      (λ draft. begins_next _ _) ends_to (record {
        limit = turn.limit ∙ extends.limit;
        same = where_well fault turn.same (λ same. same ∙ cc (all));
        goes = goes_again _ (λ draft. ap (λ bytes. begins_next bytes (with_bytes (state.waiting ++ take end piece) draft)) all)
            (λ manner draft. bytes_begin manner (state.waiting ++ take end piece) draft) extends.goes turn.goes;
      }) where
        all : mid.waiting ++ take (bytes - end) (drop end piece) ≡ drop end (take bytes piece)
        all = let within : end + (bytes - end) ≡ bytes = omega arith in
            ap (λ (those : ℕ × Bool × List ℕ). those.2 ++ take (bytes - end) (drop end piece)) extends.same
            ∙ rw (← drop-take end (bytes - end) piece, within)

-- all of the piece waits

pub waited : (visible : Bool) (state next : PartsState) (piece : List ℕ) (slots : List Slot) (result : Result ℕ Fault)
    → 0 < length piece → LeadsOn state piece Waits
    → IsReady state slots → IfOk result (λ n. n ≡ length piece)
    → OnOk result (next ≡ record state { left = state.left - length piece; waiting = state.waiting ++ piece })
    → IfErr result (λ f. (f ≡ Memory) × (next ≡ state))
    → TakesStretch state next piece (effect visible slots slots) result
waited visible state next piece slots (Ok n) some leads ready count waits err = grind (arith, common_steps, takes_by, take-length, none_full, goes_still)
-- there is no room for it
waited visible state next piece slots (Err f) some leads ready count waits err =
    rw (err.0, err.1) (takes_not {change = with_bytes []} {are = numbers state}
    (λ x stands. rw (← append-nil (begun_of state x)) at (settled_grow state.limit x piece))
    (record { limit = refl; same = tt; goes = goes_lacking ready.writer refl }))

-- A piece is taken in step by step.

pub takes_none : (visible : Bool) (state : PartsState) {slots : List Slot} → IsReady state slots
    → Takes state state [] (effect visible slots slots) None
takes_none visible state ready = search rules

pub takes_again : {visible : Bool} {state mid next : PartsState} (first more : List ℕ) {old wet new : List Slot}
    (fault : Option Fault)
    → Takes state mid first (effect visible old wet) None → Takes mid next more (effect visible wet new) fault
    → Takes state next (first ++ more) (effect visible old new) fault
takes_again {state = state} {mid} first more fault one other = record {
  limit = other.limit ∙ one.limit;
  leaves = leaves_again one.leaves other.leaves;
  stands = where_well fault other.stands (λ stays x stands. rw (append_assoc x first more) at (stays (x ++ first) (one.stands x stands)));
  reaches = λ x stands. reaches_again (part_begins _ _ _ (settled_grow state.limit x first)) (one.reaches x stands)
      (reaches_as (sym (as_mid (x ++ first))) (sym (all_of_mid x)) (rw (← one.leaves.tells) (other.reaches (x ++ first) (one.stands x stands))));
  short = where_short fault other.short (λ short x stands. let ran = short (x ++ first) (one.stands x stands) in record {
    none = rw (one.limit, one.leaves.naming, append_assoc x first more) at ran.none;
    all = λ before at. rw (all_of_mid x) at (ran.all before (rw (as_mid (x ++ first)) ((one.reaches x stands).there before at)));
  });
} where
  as_mid : (z : List ℕ) → settled_part mid z ≡ settled_part state z
  as_mid z = cc

  all_of_mid : (x : List ℕ) → settled_part mid ((x ++ first) ++ more) ≡ settled_part state (x ++ (first ++ more))
  all_of_mid x = rw (append_assoc x first more) (as_mid _)

pub still_ready : {state next : PartsState} {bytes : List ℕ} {outs : Effect} → IsReady state outs.old
    → Takes state next bytes outs None → IsReady next outs.new
still_ready ready takes = grind arith

-- The end of the input

-- if no part was begun, nothing is left
no_rest : (state : PartsState) (x : List ℕ) → begun_of state x ≡ [] → rest_of state x ≡ []
no_rest state x none = by _ (settled_some _ _) where
  by : (rest : List ℕ) → (0 < length rest → 0 < length (begun_of state x)) → rest ≡ []
  by [] some = refl
  by (byte ∷ rest) some = absurd (omega (arith, ap length none))

pub finishes_none : (visible : Bool) (state : PartsState) {slots : List Slot} → IsReady state slots
    → false ≡ is_file state.writer.current → Finishes state state (effect visible slots slots) None
finishes_none visible state ready none = grind (arith, no_rest, append-nil)

-- what waits is written, and then the part has all that is left
abbrev pub closes : PartsState → Draft → Draft
closes state draft = with_next Never (with_bytes state.waiting draft)

pub some_broke : (result : Result (Unit {0}) Fault) → IfErr result IsWrite → IfSome (fault_in result) IsWrite
some_broke result broke = search rules

pub closed_so : {state next : PartsState} {outs : Effect} (fault : Option Fault)
    → next.limit ≡ state.limit → Goes state.writer next.writer (closes state) outs fault
    → IfSome fault IsWrite → Finishes state next outs fault
closed_so {state = state} fault limit goes broke = record {
  limit = limit;
  leaves = goes.leaves;
  broke = broke;
  reaches = λ x stands.
      let whole : whole_part state x ≡ draft_part (manner_of (filing_of state)) (closes state (draft_of state.limit x)) =
      grind (arith, append-nil, settled_then_waiting) in
      reaches_as refl whole (goes.reaches _ _ stands.writes);
}

-- What the stage owes

have_names : (state : PartsState) (x : List ℕ) {have : Bool}
    → are_named (filing_of state).names (length (settled_parts state.limit x)) ≡ have
    → are_named (filing_of state).names (length (map (share file_state.Closed) (parts state.limit x))) ≡ have
have_names state x is = grind (arith, length-map, settled_count)

pub all_have_names : {state : PartsState} {x : List ℕ} → Stands state x
    → are_named (filing_of state).names (length (map (share file_state.Closed) (parts state.limit x))) ≡ true
all_have_names {state} {x} stands = have_names state x (search rules)

-- as long as all parts have names, more can come
pub never_done : {state : PartsState} {x : List ℕ} → Stands state x → false ≡ (work state).is_complete x
never_done stands = sym (ap not (all_have_names stands))

work_by : (state next : PartsState) → next.limit ≡ state.limit → filing_of next ≡ filing_of state
    → work next ≡ work state
work_by state next limit names = cc

at_writer : {visible : Bool} {before : List Slot} {state : PartsState} {x : List ℕ} {now : List Slot}
    → StandsAt ways.terms (way.Parts state) visible before x now
    → At visible state.writer before (settled_part state x) now
at_writer at = search rules

module _ (visible : Bool) (state next : PartsState) (piece : List ℕ) (old new : List Slot) where
  cut_off : (f : Fault) → Takes state next piece (effect visible old new) (Some f)
      → CutsOff ways.terms (way.Parts state) (λ x. (work state).settled (x ++ piece)) (effect visible old new) f
  cut_off (fault_is.Verdict Suffixes) stop before x at = engine.judged refl new ((stop.short refl x at.holds).all before (at_writer at)) refl
  cut_off Memory stop before x at = grind (arith, stopped_in_turn, has_told)
  cut_off (Write slot) stop before x at = grind (arith, stopped_in_turn, has_told)
  cut_off (Open slot) stop before x at = grind (arith, stopped_in_turn, has_told)
  cut_off f stop before x at = absurd stop.leaves.slots

  pub passes_by : (result : Result (Unit {0}) Fault) → IsReady state old
      → Takes state next piece (effect visible old new) (fault_in result)
      → engine.Passes ways.terms piece (way.Parts state) (way.Parts next)
      (effect visible old new) (engine.IsMetWith ways.terms piece (way.Parts state)) result
  passes_by (Ok done) ready takes = grind arith
  passes_by (Err f) ready takes =
      let cut = cut_off f takes in
      let met = met_files false (work state).means.feeding (true ≡ true) (EndsWith ways.terms piece (way.Parts state)) (manner_in state.writer)
      (filing_of state).verbose old new f (refl, refl) refl (ap output_of ready.tells) takes.leaves.slots (λ is x stands.
      let none = have_names state (x ++ piece) (takes.short is x stands).none in
      (ap not none, ap (λ (have : Bool). cond (not have) (Some Suffixes) None) none)) in
      grind (arith, filing_same)

-- the end

pub finishes_by : (visible : Bool) (state next : PartsState) (old new : List Slot) (result : Result (Unit {0}) Fault)
    → IsReady state old → Finishes state next (effect visible old new) (fault_in result)
    → engine.Finishes ways.terms (way.Parts state) (way.Parts next)
    (effect visible old new) (engine.IsMetThere ways.terms (way.Parts state)) result
finishes_by visible state next old new (Ok done) ready ends = grind (arith, all_have_names)
finishes_by visible state next old new (Err f) ready ends =
    grind (arith, common_steps, work_by, filing_same, stopped_in_turn, has_told, at_writer)
