-- Lemmas on the stage of `head` and `tail`, and on what it uses.
use Rattle.std.proofs.lemmas.{
  Grind.common_steps,
  Option.none-some,
  Bool.{false≢true, leb-false, cases_lt, le-leb, lt-leb, leb-true},
  List.{take_all, nil_from_length, append-nil, append_cancel_left, take-append-drop, take-append-le, take_at},
  List.{drop_all, length-drop, length-take, Elements.All-replicate},
}
use Rattle.std.proofs.{
  Common.{◌≡◌, ℕ, ◌+◌, ◌-◌, ◌<◌, ◌≤◌, ◌&&◌, not, List, [], ◌∷◌, ◌++◌, ◌⊎◌, length, Bool, true, false},
  Common.{IsTrue, Ok, Err, Result, OnOk, nat_le, inl, inr, None, refl, sym, ◌∙◌, ap, subst, arith, length-append},
  Common.{◌↔◌, replicate, lit<, zero, suc, take, drop, rules},
}
use Rattle.ports_core.specs.{
  Slot.{effect, Slot, is_writable, with_written, visible_of},
  Source.Source,
  declared.{fault.Fault.Fault, verdict.Verdict.{Verdict, TheVariants.Changed}},
  Inputs.PassesOver,
}
use Rattle.engine_core.specs.{
  Written.{Written, StoppedBetween, only_out},
  Work.{Work, Means, Needs, on_output, IsNeeded, IsSettled, IsSpare},
  Engine.{EndsThere, IsMetThere, TakesIn, TookIn, PutsOut, CutsOff, IsMet, cut, judged, MayGet},
  EngineState.{EngineState, HoldsIn},
}
use Rattle.engine_core.proofs.{WrittenLemmas.out_more, SpareLemmas.all_used}
use Rattle.ports_core.proofs.InputsLemmas.{passes_so}
use Rattle.seg_core.{
  specs.{declared.unit.Unit.{Unit as Counted, TheVariants.{Bytes, Lines}}, Line.delimiters},
  proofs.{
    Delimiters.{delimiters-le-length, delimiters-take-add, delimiters-take-le},
    FirstLines.delimiters-first_lines,
  },
}
use Rattle.ends_core.specs.{
  declared.{ends.Portion.{Portion, TheVariants.{First, ButLast, FromNth, Last, Between}}, front.Front.Front, kept.Kept.Kept},
  declared.span.Span.Span,
  Ends.{measure, first_of, after_of, last_of},
  Shown.bytes_between,
  Head.{head_work, IsDone, ahead_of},
  Stage.{Stretch, the_first, the_last, keeps, front_in, work_in, stretch_of, delim_of, unit_of, count_of, left_of},
  Stage.{waiting_of, waiting, past_in, past_of, may_lack, least_in, missing_of, work, Holds, terms, is_done},
  Stage.all_but_last,
  inner.{
    Stage.{EndsBadly, changed, stopped, WritesNothing, passed, due, due_at_end, left_waiting, is_full, unused_of},
    Stage.{FullLacksNone, SameAsked, front_after, piece_for, wanted_by},
    Kept.Stops,
  },
  Kept.{held_of, most_of, delim_of as kept_delim, unit_of as kept_unit},
  laws.WorkLaws.{full_head, enough_came, fewer_came, bytes_between-append},
  laws.EndsLaws.{ends_together, first_then_after, measure-append, first_of-append, first_of-short, after_of-append},
  laws.EndsLaws.{last_of-append, but_last_of-append, first_of-full},
}
use Rattle.ends_core.proofs.{
  KeptLemmas.{measure-delimiters, first_of-more, but_last_grows, first_of-nil, after-past, stays},
}
use Rattle.ports_core.specs.declared.fault.Fault.TheVariants as fault_is
use Rattle.ends_core.proofs.KeptLemmas as stop

-- what depends only on what was asked for is the same if the same was asked for
same_for : {A : Type 0} (f : Stretch → ℕ → Counted → ℕ → A) {old new : Portion} → SameAsked old new
    → f (stretch_of new) (delim_of new) (unit_of new) (count_of new)
    ≡ f (stretch_of old) (delim_of old) (unit_of old) (count_of old)
same_for f same = grind (arith, common_steps)

pub same_work : {old new : Portion} → SameAsked old new → work new ≡ work old
same_work same = same_for work_in same

-- a stage writes to standard output alone, and may need memory if the last are kept
pub on_means : (s : Stretch) (delim : ℕ) (unit : Counted) (n : ℕ) → (work_in s delim unit n).means ≡ on_output (keeps s)
on_means the_first delim unit n = refl
on_means s delim unit n = refl

-- between two places as many bytes came in as are counted
came_all : (span : Span) {x : List ℕ} → Holds (Between span) x → span.came ≡ length x
came_all span holds = omega (arith, holds.missing, holds.past)

-- the work ends well if nothing is missing
pub well_there : (ends : Portion) (x : List ℕ) → missing_of ends ≡ 0 → Holds ends x → (work ends).verdict x ≡ None
well_there (Between span) x none holds = enough_came span.end x (omega (arith, came_all span holds))
well_there ends x none holds = refl

-- while bytes come the work never ends badly
pub none_settled : (ends : Portion) (x : List ℕ) {verdict : Verdict} → IsSettled (work ends) x verdict → ⊥
none_settled (First _ _) x {verdict} settled = none-some verdict settled.1
none_settled (Between span) x {verdict} settled =
    none-some verdict (sym (enough_came span.end x (leb-true span.end (length x) settled.0)) ∙ settled.1)
none_settled ends x settled = false≢true settled.0

-- with these bytes the output has what is due, whatever came before
abbrev pub Makes : Portion → List ℕ → (List ℕ → Written) → Type 0
Makes ends bytes whole = (x : List ℕ) → Holds ends x → record ((work ends).settled x) { out = ((work ends).settled x).out ++ bytes } ≡ whole x

-- what is written with a piece is what the output gains by it
pub went_out : (ends : Portion) (piece : List ℕ) → Makes ends (due ends piece) (λ x. (work ends).settled (x ++ piece))
went_out (First count _) piece x holds = grind (arith, common_steps, first_of-append)
went_out (ButLast kept) piece x holds = grind (arith, common_steps, but_last_of-append)
went_out (FromNth count _) piece x holds = grind (arith, common_steps, after_of-append)
went_out (Last _) piece x holds = refl
went_out (Between span) piece x holds =
    rw (came_all span holds) (ap only_out (sym (bytes_between-append span.from span.end x piece)))

-- what is written at the end is what the output gains by it
pub rest_out : (ends : Portion) → Makes ends (due_at_end ends) (work ends).whole
rest_out (Last _) x holds = ap only_out holds.waits
rest_out ends x holds = grind (arith, common_steps)

module _ (visible : Bool) (ends : Portion) (bytes : List ℕ) {whole : List ℕ → Written} (makes : Makes ends bytes whole)
    {old new : List Slot} where
  pub puts_out : new ≡ with_written 0 (visible_of visible bytes) old → PutsOut terms ends whole (effect visible old new)
  puts_out wrote before x at = rw (makes x at.holds) at (out_more visible before _ old new bytes at.outputs wrote)

  -- what stopped a write stopped an output of bytes
  pub cuts_off : {lacks : Bool} {f : Fault} → Stops visible lacks bytes old new f
      → CutsOff terms ends whole (effect visible old new) f
  cuts_off {f = f} stops before x at = cut (stop.unjudged visible stops)
      (subst (λ output. StoppedBetween output visible before ((work ends).settled x) (whole x) f new)
      (sym (ap (λ means. means.output) (on_means (stretch_of ends) (delim_of ends) (unit_of ends) (count_of ends))))
      (rw (makes x at.holds) at (stop.between visible at.outputs stops)))

-- what waits after the piece
waits_next : (ends : Portion) {x : List ℕ} (piece : List ℕ) → Holds ends x
    → left_waiting ends piece ≡ waiting ends (x ++ piece)
waits_next (ButLast kept) piece holds = grind (arith, common_steps, last_of-append)
waits_next (Last kept) piece holds = grind (arith, common_steps, last_of-append)
waits_next ends piece holds = refl

waits_now : (ends : Portion) {next : Portion} {x : List ℕ} (piece : List ℕ) → SameAsked ends next
    → waiting_of next ≡ left_waiting ends piece → Holds ends x → waiting_of next ≡ waiting next (x ++ piece)
waits_now ends {x} piece same waits holds =
    cc (waits, waits_next ends piece holds, same_for (λ s d u n. (work_in s d u n).waiting (x ++ piece)) same)

left_now : (ends : Portion) {next : Portion} {x : List ℕ} (piece : List ℕ) → SameAsked ends next
    → left_of next ≡ left_of ends - measure (delim_of ends) (unit_of ends) piece → Holds ends x
    → keeps (stretch_of next) ≡ false
    → left_of next ≡ front_in (stretch_of next) (count_of next) - measure (delim_of next) (unit_of next) (x ++ piece)
left_now ends {x = x} piece same left holds none =
    omega (
      arith,
      left,
      holds.left (rw same.stretch at none),
      measure-append (delim_of ends) (unit_of ends) x piece,
      same_for (λ s d u n. front_in s n - measure d u (x ++ piece)) same,
    )

missing_now : (ends : Portion) {next : Portion} {x : List ℕ} (piece : List ℕ) → SameAsked ends next
    → missing_of next ≡ missing_of ends - length piece → Holds ends x
    → missing_of next ≡ least_in (stretch_of next) - length (x ++ piece)
missing_now ends {x = x} piece same missing holds =
    omega (arith, length-append x piece, holds.missing, ap least_in same.stretch)

none_lacks : (ends : Portion) → keeps (stretch_of ends) ≡ false → may_lack ends ≡ false
none_lacks (First count _) none = cc
none_lacks ends none = cc

full_lacks : (ends : Portion) (x : List ℕ) → waiting_of ends ≡ waiting ends x → FullLacksNone ends
    → unit_of ends ≡ Bytes
    → count_of ends ≤ length x → may_lack ends ≡ false
full_lacks (ButLast kept) x waits full bytes enough = grind (arith, common_steps)
full_lacks (Last kept) x waits full bytes enough = grind (arith, common_steps)
full_lacks ends x waits full bytes enough = refl

-- how many bytes come in after a head

pub past_after : (delim : ℕ) (unit : Counted) (n : ℕ) (x : List ℕ)
    → length x - length (first_of delim unit n x) ≡ length (after_of delim unit n x)
past_after delim unit n x =
    omega (
      arith,
      ap length (first_then_after delim unit n x),
      length-append (first_of delim unit n x)
          (after_of delim unit n x),
    )

past_next : (ends : Portion) {x : List ℕ} (piece : List ℕ) → Holds ends x
    → past_of ends + length (unused_of ends piece)
    ≡ past_in (stretch_of ends) (delim_of ends) (unit_of ends) (count_of ends) (x ++ piece)
past_next (First count _) piece holds = grind (arith, common_steps, after_of-append, past_after)
past_next (Between span) {x} piece holds =
    omega (arith, came_all span holds, length-append x piece, length-drop (span.end - span.came) piece)
past_next ends piece holds = refl

pub takes_in : (ends : Portion) {next : Portion} (piece : List ℕ) → SameAsked ends next
    → past_of next ≡ past_of ends + length (unused_of ends piece)
    → missing_of next ≡ missing_of ends - length piece
    → left_of next ≡ left_of ends - measure (delim_of ends) (unit_of ends) piece
    → waiting_of next ≡ left_waiting ends piece → FullLacksNone next → TakesIn Holds piece ends next
takes_in ends {next} piece same past missing left waits full x holds =
    let waits_next = waits_now ends piece same waits holds in record {
      byte = rw same.delim holds.byte;
      left = λ none. left_now ends piece same left holds none;
      waits = waits_next;
      past = past ∙ past_next ends piece holds ∙ sym (same_for (λ s d u n. past_in s d u n (x ++ piece)) same);
      missing = missing_now ends piece same missing holds;
      none = none_lacks next;
      full = full_lacks next (x ++ piece) waits_next full;
    }

-- a head is complete exactly if it is done

incomplete : (delim : ℕ) (unit : Counted) (but_last : Bool) (n : ℕ) (x : List ℕ) → delim < 256
    → (not but_last && nat_le n (measure delim unit x)) ≡ false → IsDone delim unit but_last n x → ⊥
incomplete delim unit false n x byte short done =
    let few : measure delim unit x < n = leb-false n (measure delim unit x) short in
    let same : x ++ 0 ∷ [] ≡ x = sym (first_of-more delim unit n x 0 few) ∙ done (0 ∷ []) (All-replicate (λ byte. byte < 256) 1 0 (lit< tt))
    ∙ first_of-short delim unit n {x = x} few in
    omega (arith, length-append x (0 ∷ []), ap length same)
incomplete delim unit true n x byte short done =
    but_last_grows delim unit n x (replicate (n + 1) delim) (let many = measure-delimiters delim unit {k = n + 1} in omega arith)
    (done (replicate (n + 1) delim) (All-replicate (λ byte. byte < 256) (n + 1) delim byte))

head_exact : (delim : ℕ) (unit : Counted) (but_last : Bool) (n : ℕ) (x : List ℕ) (full : Bool) → delim < 256
    → full ≡ (head_work delim unit but_last n).is_complete x → IsTrue full ↔ IsDone delim unit but_last n x
head_exact delim unit but_last n x true byte is = (λ yes y bytes. (full_head delim unit but_last n x y (sym is)).1, λ done. refl)
head_exact delim unit but_last n x false byte is = (λ yes. absurd (false≢true yes), λ done. absurd (incomplete delim unit but_last n x byte (sym is) done))

between_exact : (end : ℕ) (x : List ℕ) (full : Bool) → full ≡ nat_le end (length x) → IsTrue full ↔ end ≤ length x
between_exact end x true is = (λ yes. leb-true end (length x) (sym is), λ enough. refl)
between_exact end x false is =
    (λ yes. absurd (false≢true yes), λ enough. absurd (false≢true (is ∙ le-leb end (length x) enough)))

pub done_is_exact : (ends : Portion) {x : List ℕ} {full : Bool} → Holds ends x → full ≡ (work ends).is_complete x
    → IsTrue full ↔ is_done ends x
done_is_exact (First count front) {x} {full} holds is = head_exact front.delim front.unit false count x full holds.byte is
done_is_exact (ButLast kept) {x} {full} holds is = head_exact (kept_delim kept) (kept_unit kept) true (most_of kept) x full holds.byte is
done_is_exact (Between span) {x} {full} holds is = between_exact span.end x full is
done_is_exact ends holds is = grind (arith, common_steps)

pub full_is : (ends : Portion) {x : List ℕ} → Holds ends x → is_full ends ≡ (work ends).is_complete x
full_is (First count _) holds = grind (arith, common_steps)
full_is (Between span) holds = ap (nat_le span.end) (came_all span holds)
full_is ends holds = refl

-- if memory may be lacking, something is kept
pub lacks_kept : (ends : Portion) → may_lack ends ≡ true → keeps (stretch_of ends) ≡ true
lacks_kept (First count _) lacking = cc
lacks_kept ends lacking = cc

-- why a call stopped
pub met : (visible : Bool) (ends : Portion) (needs : Means → Needs) (Lacks : Type 0) (Fails : Verdict → Type 0)
    {lacks : Bool} {bytes : List ℕ} {old new : List Slot} {f : Fault}
    → (lacks ≡ true → ((needs (on_output (keeps (stretch_of ends)))).memory ≡ true) × Lacks)
    → IsTrue (is_writable old 0) → Stops visible lacks bytes old new f
    → IsMet (work ends).means (needs (work ends).means) Lacks Fails old new f
met visible ends needs Lacks Fails room can stops =
    rw (on_means (stretch_of ends) (delim_of ends) (unit_of ends) (count_of ends))
    (stop.met (on_output (keeps (stretch_of ends))) (needs (on_output (keeps (stretch_of ends)))) Lacks Fails visible refl room can stops)

-- how its end stopped

pub ends_changed : (visible : Bool) {ends : Portion} {missing : ℕ} {slots : List Slot} {f : Fault}
    → missing_of ends ≡ missing
    → f ≡ fault_is.Verdict Changed → 0 < missing → EndsBadly visible ends slots slots f
ends_changed visible are is some = rw is (changed (omega arith) refl)

pub ends_stopped : (visible : Bool) {ends : Portion} {kept : Kept} {n : ℕ} {old new : List Slot} {f : Fault}
    → ends ≡ Last kept → n ≡ length (held_of kept) → Stops visible false (take n (held_of kept)) old new f
    → EndsBadly visible ends old new f
ends_stopped visible {kept = kept} {n} {f = f} is all stops =
    rw is (stopped f (rw (take_all n (held_of kept) (omega arith)) at stops))

pub ends_cut : (visible : Bool) (ends : Portion) {old new : List Slot} {f : Fault} → EndsBadly visible ends old new f
    → CutsOff terms ends (work ends).whole (effect visible old new) f
ends_cut visible (Between _) (changed _ same) before x at = judged refl _ at.outputs same
ends_cut visible ends (changed some same) before x at = absurd (omega arith)
ends_cut visible ends (stopped f stops) before x at = cuts_off visible ends (due_at_end ends) (rest_out ends) stops before x at

pub ends_met : (visible : Bool) (ends : Portion) {old new : List Slot} {f : Fault} → IsTrue (is_writable old 0)
    → EndsBadly visible ends old new f → IsMetThere terms ends old new f
ends_met visible (Between span) can (changed some same) =
    λ x holds. fewer_came span.end x (omega (arith, came_all span holds))
ends_met visible ends can (changed some same) = absurd (omega arith)
ends_met visible ends can (stopped f stops) =
    met visible ends (λ means. means.closing) _ (EndsThere terms ends) (λ never. absurd (cc)) can stops

-- what a call owes for its result, from what the call within it gave

pub on_ok_each : {P P2 P3 Q : Type 0} (result : Result (Unit {0}) Fault) → (P → P2 → P3 → Q) → OnOk result P
    → OnOk result P2 → OnOk result P3 → OnOk result Q
on_ok_each (Ok u) also is too three = also is too three
on_ok_each (Err f) also is too three = tt

-- what is passed over of an input before any piece is as a piece with which nothing is written

-- with no byte nothing is written
pub silent_none : (ends : Portion) → WritesNothing ends []
silent_none (FromNth _ front) = (stays front front.unit).0
silent_none (Between span) = (omega arith, inl refl)
silent_none ends = refl

pub passed_none : (ends : Portion) → ends ≡ passed ends []
passed_none (FromNth count front) = ap (FromNth count) (stays front front.unit).1
passed_none (Between span) = ap (λ came. Between (record span { came = came })) (omega arith)
passed_none ends = refl

pub passed_front : {visible : Bool} {slot count n : ℕ} {ends next : Portion} {front now : Front} {old new : List Source}
    → ends ≡ FromNth n front → next ≡ FromNth n now
    → PassesOver visible slot count (λ x. (after_of front.delim front.unit front.left x ≡ [])
    × (now ≡ front_after front x)) old new
    → PassesOver visible slot count (λ x. WritesNothing ends x × (next ≡ passed ends x)) old new
passed_front is after passes = passes_so _ passes (λ x long keeps. rw (is, after, keeps.1) (keeps.0, refl))

pub passed_span : {visible : Bool} {slot count : ℕ} {ends next : Portion} {span now : Span} {old new : List Source}
    → ends ≡ Between span → next ≡ Between now
    → PassesOver visible slot count (λ x. (length x ≤ span.from) × ((x ≡ []) ⊎ (length x < span.end))
    × (now ≡ record span { came = span.came + length x })) old new
    → PassesOver visible slot count (λ x. WritesNothing ends x × (next ≡ passed ends x)) old new
passed_span is after passes =
    passes_so _ passes (λ x long keeps. rw (is, after, keeps.2) ((keeps.0, keeps.1), refl))

-- none stands between the places that comes before the first
pub none_before : (from end : ℕ) (x : List ℕ) → length x ≤ from → bytes_between from end x ≡ []
none_before from end x few = drop_all from (take end x) (omega (arith, length-take end x))

took_in : (ends : Portion) {x : List ℕ} → Holds ends [] → terms.size ends ≡ 0 → WritesNothing ends x
    → TookIn terms ends (passed ends x) x
took_in (FromNth count front) {x} fresh none silent = record {
  same = refl;
  size = omega arith;
  holds = takes_in (FromNth count front) x (record { stretch = refl; delim = refl; unit = refl; count = refl }) refl (omega arith) refl refl
      (λ bytes full. refl) [] fresh;
  ready = λ slots is. is;
  owns = λ first slots is. is;
  idle = sym (went_out (FromNth count front) x [] fresh)
      ∙ ap (λ bytes. record ((work (FromNth count front)).settled []) { out = ((work (FromNth count front)).settled []).out ++ bytes }) silent
      ∙ ap only_out (append-nil _);
  going = inr refl;
}
took_in (Between span) {x} fresh none silent = record {
  same = refl;
  size = omega arith;
  holds = takes_in (Between span) x (record { stretch = refl; delim = refl; unit = refl; count = refl })
      (omega (arith, length-drop (span.end - span.came) x)) (omega arith) (omega arith) refl (λ bytes full. refl) [] fresh;
  ready = λ slots is. is;
  owns = λ first slots is. is;
  idle = ap only_out (none_before span.from span.end x silent.0 ∙ sym (none_before span.from span.end [] (omega arith)));
  going = elim silent.1 [
    | inl empty ↦ inl empty
    | inr less ↦ inr (lt-leb span.end (length x) less)
  ];
}
took_in ends fresh none silent = rw silent (record {
  same = refl;
  size = omega arith;
  holds = fresh;
  ready = λ slots is. is;
  owns = λ first slots is. is;
  idle = refl;
  going = inl refl;
})

pub loads : (visible : Bool) {slot count : ℕ} {ends next : Portion} {old new : List Source} → Holds ends []
    → terms.size ends ≡ 0
    → PassesOver visible slot count (λ x. WritesNothing ends x × (next ≡ passed ends x)) old new
    → PassesOver visible slot count (TookIn terms ends next) old new
loads visible {ends = ends} fresh none passes =
    passes_so _ passes (λ x long keeps. rw keeps.1 (took_in ends fresh none keeps.0))

-- What waits in an engine that was fed a text.
module _ (engine : EngineState Portion) (x : List ℕ) (holds : HoldsIn Holds engine x) where
  pub head_waits : stretch_of engine.stage ≡ all_but_last
      → waiting_of engine.stage ≡ last_of (delim_of engine.stage) (unit_of engine.stage) (count_of engine.stage) x
  head_waits is = holds.within.waits ∙ ap (λ s. (work_in s (delim_of engine.stage) (unit_of engine.stage) (count_of engine.stage)).waiting x) is

  pub tail_waits : stretch_of engine.stage ≡ the_last
      → waiting_of engine.stage ≡ last_of (delim_of engine.stage) (unit_of engine.stage) (count_of engine.stage) x
  tail_waits is = holds.within.waits ∙ ap (λ s. (work_in s (delim_of engine.stage) (unit_of engine.stage) (count_of engine.stage)).waiting x) is

  pub loses_nothing : stretch_of engine.stage ≡ all_but_last
      → ((work engine.stage).settled x).out ++ waiting_of engine.stage ≡ x
  loses_nothing is = search (rules, head_waits, ends_together)

first_within : (delim : ℕ) (unit : Counted) (n : ℕ) (x : List ℕ) → length (first_of delim unit n x) ≤ length x
first_within delim unit n x =
    omega (
      arith,
      length-append (first_of delim unit n x) (after_of delim unit n x),
      ap length
          (first_then_after delim unit n x),
    )

-- the first n of a text are n, if it has as many
first_measures : (delim : ℕ) (unit : Counted) (n : ℕ) (x : List ℕ) → n ≤ measure delim unit x
    → n ≤ measure delim unit (first_of delim unit n x)
first_measures delim Lines n x full = omega (arith, delimiters-first_lines delim n x full)
first_measures delim Bytes n x full = omega (arith, length-take n x)

-- if n lines or bytes are used, the last byte is needed
last_needed : (delim : ℕ) (unit : Counted) (n : ℕ) {k : ℕ} {used : List ℕ} → length used ≡ suc k
    → first_of delim unit n used ≡ used → measure delim unit (take k used) < n
last_needed delim unit n {k} {used} long again = elim (cases_lt (measure delim unit (take k used)) n) [
  | inl short ↦ short
  | inr full ↦ absurd (omega (
    arith,
    ap length (rw (take-append-drop, again) at (first_of-full delim unit n (take k used) (drop k used) full)),
    first_within delim unit n (take k used),
    length-take k used,
  ))
]

needed_by : (delim : ℕ) (unit : Counted) (n k : ℕ) {used : List ℕ} → length used ≡ k → first_of delim unit n used ≡ used
    → IsNeeded (head_work delim unit false n).is_complete 1 used
needed_by delim unit n zero {used} long again = inl (nil_from_length used long)
needed_by delim unit n (suc k) {used} long again = inr (
  take k used,
  drop k used,
  sym (take-append-drop k used),
  omega (arith, length-drop k used),
  lt-leb n (measure delim unit (take k used)) (last_needed delim unit n long again),
)

first_needed : (delim : ℕ) (unit : Counted) (n : ℕ) (x : List ℕ)
    → IsNeeded (head_work delim unit false n).is_complete 1 (first_of delim unit n x)
first_needed delim unit n x = elim (cases_lt (measure delim unit (first_of delim unit n x)) n) [
  | inl short ↦ inr (
    first_of delim unit n x,
    [],
    sym (append-nil (first_of delim unit n x)),
    omega arith,
    lt-leb n
        (measure delim unit (first_of delim unit n x)) short,
  )
  | inr full ↦ needed_by delim unit n (length (first_of delim unit n x)) refl
      (rw first_then_after at (sym (first_of-full delim unit n (first_of delim unit n x) (after_of delim unit n x)
      full)))
]

first_enough : (delim : ℕ) (unit : Counted) (n : ℕ) (x : List ℕ)
    → (after_of delim unit n x ≡ []) ⊎ ((head_work delim unit false n).is_complete (first_of delim unit n x) ≡ true)
first_enough delim unit n x = elim (cases_lt (measure delim unit x) n) [
  | inl short ↦ inl (after-past delim unit n x short)
  | inr full ↦ inr (le-leb n (measure delim unit (first_of delim unit n x)) (first_measures delim unit n x full))
]

-- a head uses the first n, and nothing that stands after them
pub first_used : (delim : ℕ) (unit : Counted) (n : ℕ) {x : List ℕ}
    → IsSpare (head_work delim unit false n) x (length (after_of delim unit n x))
first_used delim unit n = search (rules, first_then_after, first_needed, first_enough)

-- what was needed to the last byte is its own first n
needed_whole : (delim : ℕ) (unit : Counted) (n : ℕ) {used : List ℕ}
    → IsNeeded (head_work delim unit false n).is_complete 1 used → first_of delim unit n used ≡ used
needed_whole delim unit n (inl none) = rw none (first_of-nil delim unit n)
needed_whole delim unit n (inr (before, piece, is, few, going)) = rw is (with_piece piece few) where
  short : measure delim unit before < n
  short = leb-false n (measure delim unit before) going

  with_piece : (piece : List ℕ) → length piece ≤ 1 → first_of delim unit n (before ++ piece) ≡ before ++ piece
  with_piece [] few = rw append-nil (first_of-short delim unit n short)
  with_piece (byte ∷ []) few = first_of-more delim unit n before byte short
  with_piece (byte ∷ next ∷ piece) few = absurd (omega arith)

pub written_used : (delim : ℕ) (unit : Counted) (n : ℕ) {used rest : List ℕ}
    → IsNeeded (head_work delim unit false n).is_complete 1 used
    → (rest ≡ []) ⊎ ((head_work delim unit false n).is_complete used ≡ true)
    → first_of delim unit n (used ++ rest) ≡ used
written_used delim unit n needed (inl none) = grind (arith, common_steps, append-nil, needed_whole)
written_used delim unit n needed (inr complete) = grind (arith, common_steps, first_of-full, leb-true, needed_whole)

pub rest_left : (delim : ℕ) (unit : Counted) (n : ℕ) (used : List ℕ) {rest : List ℕ}
    → IsNeeded (head_work delim unit false n).is_complete 1 used
    → (rest ≡ []) ⊎ ((head_work delim unit false n).is_complete used ≡ true)
    → after_of delim unit n (used ++ rest) ≡ rest
rest_left delim unit n used {rest} needed enough =
    append_cancel_left used _ _ (rw (written_used delim unit n needed enough) at
    (first_then_after delim unit n (used ++ rest)))

-- the bytes that aren't used depend only on when the output is complete
spare_so : {one other : Work} {x : List ℕ} {n : ℕ} → one.is_complete ≡ other.is_complete → IsSpare one x n
    → IsSpare other x n
spare_so same spare = record {
  used = spare.used;
  rest = spare.rest;
  joined = spare.joined;
  long = spare.long;
  needed = rw same at spare.needed;
  enough = rw same at spare.enough;
}

pub spare_here : (ends : Portion) {x : List ℕ} → Holds ends x → IsSpare (work ends) x (past_of ends)
spare_here (First count front) {x} holds = spare_so refl
    (subst (IsSpare (head_work front.delim front.unit false count) x) (sym (holds.past ∙ past_after front.delim front.unit count x))
    (first_used front.delim front.unit count))
spare_here (Between span) {x} holds = spare_so refl
    (subst (IsSpare (head_work 0 Bytes false span.end) x) (length-drop span.end x ∙ sym holds.past) (first_used 0 Bytes span.end))
spare_here ends {x} holds = all_used (work ends) x refl

-- a text that goes on from x, cut in two so that more stands before the cut than in x: the cut is after x, and what is before it and after
-- x has no more delimiters than bytes

goes_past : (delim : ℕ) (x piece used rest : List ℕ) → x ++ piece ≡ used ++ rest
    → delimiters delim x < delimiters delim used → length x < length used
goes_past delim x piece used rest is more = elim (cases_lt (length x) (length used)) [
  | inl past ↦ past
  | inr short ↦
      let front : used ≡ take (length used) x = rw (← is, take-append-le (length used) x piece short) at
      (sym (take_at used rest (length used) refl)) in
      absurd (omega (arith, ap (delimiters delim) front, delimiters-take-le delim (length used) x))
]

few_between : (delim : ℕ) (x piece used rest : List ℕ) → x ++ piece ≡ used ++ rest → length x < length used
    → delimiters delim used + length x ≤ delimiters delim x + length used
few_between delim x piece used rest is past =
    let all : take (length x + (length used - length x)) (x ++ piece) ≡ used
    = ap (λ k. take k (x ++ piece)) (omega arith) ∙ ap (take (length used)) is ∙ take_at used rest (length used) refl in
    omega (
      arith,
      delimiters-take-add delim (length x) (length used - length x) (x ++ piece),
      ap (delimiters delim) all,
      ap (delimiters delim) (take_at x piece (length x) refl),
      delimiters-le-length delim (take (length used - length x) (drop (length x) (x ++ piece))),
      length-take (length used - length x) (drop (length x) (x ++ piece)),
    )

few_spare : (delim : ℕ) (unit : Counted) (count : ℕ) {left n : ℕ} (x piece : List ℕ) {work : Work}
    (spare : IsSpare work (x ++ piece) n) → left ≡ count - measure delim unit x → measure delim unit x < count
    → count ≤ measure delim unit spare.used
    → length piece ≤ piece_for unit left → n ≤ ahead_of unit
few_spare delim Bytes count x piece spare is going enough within =
    omega (arith, length-append {A = ℕ}, ap length spare.joined)
few_spare delim Lines count x piece spare is going enough within =
    let past = goes_past delim x piece spare.used spare.rest spare.joined (omega arith) in
    let few = few_between delim x piece spare.used spare.rest spare.joined past in
    omega (arith, length-append {A = ℕ}, ap length spare.joined)

pub may_get : (ends : Portion) → MayGet terms ends (wanted_by ends)
may_get (First count front) x piece after n holds going within same later spare = elim spare.enough [
  | inl none ↦ omega (arith, ap length none)
  | inr complete ↦ few_spare front.delim front.unit count x piece spare (holds.left refl)
      (leb-false count (measure front.delim front.unit x) going) (leb-true count (measure front.delim front.unit spare.used) complete) within
]
may_get (Between span) x piece after n holds going within same later spare = elim spare.enough [
  | inl none ↦ omega (arith, ap length none)
  | inr complete ↦ few_spare 0 Bytes span.end x piece spare (ap (λ came. span.end - came) (came_all span holds))
      (leb-false span.end (length x) going) (leb-true span.end (length spare.used) complete) within
]
may_get ends x piece after n holds going within same later spare = grind (arith, common_steps)

pub wants_some : (ends : Portion) {x : List ℕ} → Holds ends x → (work ends).is_complete x ≡ false → 0 < wanted_by ends
wants_some (First count _) holds going = grind (arith, common_steps)
wants_some (Between span) {x} holds going =
    omega (arith, leb-false span.end (length x) going, came_all span holds)
wants_some ends holds going = omega arith
