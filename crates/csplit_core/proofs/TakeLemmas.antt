-- Taking lines in, and cutting them as often as operands cut.
use Rattle.std.proofs.{Common.{◌≡◌, ◌≢◌, ◌⊎◌, inl, inr, ℕ, ◌+◌, ◌-◌, ◌≤◌, Bool, true, false, Option, Some, None, List, []}, Common.{◌∷◌, ◌++◌, length, refl, sym, ◌∙◌, ap, subst, arith, append_assoc, length-append, take, drop, eqb}, Common.{append-nil, take-append-drop, length-take-le, rules}, lemmas.{Grind.common_steps, Bool.{false≢true, cases_lt}, List.append_cancel_left}, Math.Seq.take-nil}
use Rattle.seg_core.{
  specs.{Line.{line_count, first_lines, after_lines, but_last_lines}, inner.Lines.last_lines, Window.Window},
  proofs.FirstLines.first_lines_then_rest,
}
use Rattle.engine_core.{
  specs.{Written.{Written, Begins}, FileWriter.{IsReady, size_of}, Draft.draft_part},
  proofs.{
    FileWriterLemmas.{keeps_files, leaves_still, reaches_as, reaches_still, where_well, stops_wider},
    WrittenLemmas.{part_trans, part_begins_itself},
  },
}
use Rattle.ports_core.specs.{Slot.{Slot, effect}, declared.fault.Fault.Fault}
use Rattle.csplit_core.specs.{
  Input.{newline, all_lines},
  Operand.{Line, Number, Operand, Search, Target},
  Plan.{State, Ending, used_up, missed, above, below, Plan, CutPoint, CutsAt, search_line, past_last},
  inner.PlanLaws.EndsAs,
  Output.{Style, manner_of},
  Planned.plan,
  Progress.EndsHere,
  laws.{PlanLaws.{plan_runs, past_near}, SectionLaws.{ends_as, cuts_from, grows}},
  inner.Cutter.{CutsIn, bare, settled_part, part_at, IsWhole, IsLine, Joins, Arrives, Keeps, Puts, Comes, Waits, Due},
  inner.Cutter.{due, last_due, left_in, after_cut, CutsNow, CutsShort, Cut, CutsHeld, held_well, held_short, WillCut},
  inner.Cutter.{TriesNext, Takes, Tries, IsAfter, CutAt, Spreading, Spread, WillSkip, PassesOver, emptied, IsAimed},
  Section.{is_final, most_waiting, settled_end},
  declared.{progress.Attempt.{Attempt, TheVariants.Below}},
  Cutter.{CutterState, state_in, text_from, settled_draft, draft_by, IsFit, IsSound, IsAt, IsLive, IsPast, Stands},
  Cutter.{load, EndsNow, kept_by},
}
use Rattle.csplit_core.proofs.{
  CutterLemmas.{at_more, part_more, all_left, live_part, left_count, settled_part_is, most_is, draft_is, Held},
  CutterLemmas.{final_count, ended_still, keeps_on, reaches_then, settled_same, HoldsLines, past_now, past_settled},
  LineLemmas.{all_lines-append, all_lines-line, length-all_lines, count-append, count-line, count_from, whole-append},
  LineLemmas.none_from,
  TryLemmas.stays,
  WholeLemmas.ends_after_all,
}

-- A cut doesn't stand before the lines that are left.

live_before : (cutter : CutterState) (x t : List ℕ) (ends : EndsNow cutter x) {operand : Operand}
    {operands : List Operand} (cut : CutPoint) → (state_in cutter).operands ≡ operand ∷ operands
    → CutsAt cutter.style (all_lines x ++ all_lines t) (state_in cutter) operand operand.target cut
    → settled_end (line_count newline x) ends.ending ≤ cut.line
live_before cutter x t ends cut are at =
    let so = cuts_from cutter.style (all_lines x) (all_lines t) (state_in cutter) ends.ending (ends_as ends.runs) are in
    rw (length-all_lines x) at (so.1 cut at)

-- lines of the open section are written only if they are settled
module _ {cutter : CutterState} {x left : List ℕ} {at : IsAt (bare cutter) x left} (arrives : Arrives cutter at)
    (fit : IsFit cutter) (differs : cutter.aim ≡ Below → ⊥) where
  taken_low : (at.taken ≡ 0)
      ⊎ (cutter.progress.current + at.taken ≤ settled_end (line_count newline x) arrives.ends.ending)
  taken_low =
      let live : is_final arrives.ends.ending ≡ false = search rules in
      let most : cutter.window.most ≡ most_waiting arrives.ends.ending = search (rules, live, most_is, ends_as) in
      let end = ends_after_all (line_count newline x) arrives.ends.ending live in
      elim (cases_lt 0 at.taken) [
        | inl some ↦ elim arrives.enough [
          | inl none ↦ inl none
          | inr enough ↦ inr (let count = at.counted in omega (arith, left_count at, at.few, fit.fits.some))
        ]
        | inr none ↦ inl (omega arith)
      ]

  place_before : (t : List ℕ) (cut : CutPoint) → IsWhole x → CutsIn cutter (x ++ t) cut
      → cutter.progress.current ≤ cut.line → cutter.progress.current + at.taken ≤ cut.line
  place_before t cut whole goes from = elim taken_low [
    | inl none ↦ omega arith
    | inr low ↦ omega (
      arith,
      live_before cutter x t arrives.ends cut goes.its.are (rw (all_lines-append t (inl whole)) at goes.its.cuts),
    )
  ]

  low_taken : (t : List ℕ) → IsWhole x → (ending : Ending)
      → EndsAs cutter.style (all_lines (x ++ t)) (state_in cutter) ending → is_final ending ≡ true → at.taken ≡ 0
  low_taken t whole used_up ends final = absurd (false≢true final)
  low_taken t whole (missed operand repetition) ends final = absurd (false≢true final)
  low_taken t whole (above operand repetition cut) ends final = absurd (false≢true final)
  low_taken t whole (below operand repetition) (operands, cut, are, at, low, often) final = elim taken_low [
    | inl none ↦ none
    | inr high ↦ absurd (omega (arith, live_before cutter x t arrives.ends cut are (rw (all_lines-append t (inl whole)) at at)))
  ]

none_before : (a b : List ℕ) → a ++ b ≡ [] → a ≡ []
none_before [] b none = refl
none_before (byte ∷ a) b none = absurd (cc)

-- the cutter is live if its aim isn't below the current line
live_of : {cutter : CutterState} {x : List ℕ} → (cutter.aim ≡ Below → ⊥) → Stands cutter x → IsLive cutter x
live_of differs (inl live) = live
live_of differs (inr past) = absurd (differs past.aim)

-- Lines came in, and only those are left that are held.

live_comes : {visible : Bool} {cutter next : CutterState} {low : Written} {x : List ℕ} {old new : List Slot}
    → IsFit next
    → (live : IsLive next x) → Begins low (settled_part next x)
    → Puts cutter next low (settled_part next x) (effect visible old new) None
    → Comes visible cutter low old new next x []
live_comes {next = next} {low} {x} fit live begins puts = record {
  left = next.window.held;
  left_is = λ differs. sym (append-nil next.window.held);
  at = record {
    steps = live.at.steps;
    leads = live.at.leads;
    counted = live.at.counted;
    taken = live.at.taken;
    written = live.at.written;
    few = live.at.few;
    written_is = live.at.written_is;
    left_is = live.at.left_is;
    writes = live.at.writes;
  };
  arrives = record { ends = live.ends; low = λ final. absurd (false≢true (sym live.live ∙ final)); enough = either };
  grows = subst (Begins low) (sym (live_part live)) begins;
  reaches = reaches_as refl (live_part live) puts;
} where
  most : next.window.most ≡ most_waiting live.ends.ending
  most = search (rules, most_is, ends_as)

  either : (live.at.taken ≡ 0) ⊎ (next.window.most ≤ line_count newline next.window.held)
  either = let settled = live.settled in let some = fit.fits.some in
      elim (cases_lt (most_waiting live.ends.ending) (next.lines + 1 - next.progress.current)) [
        | inl more ↦ inr (omega (arith, left_count live.at, most))
        | inr none ↦ inl (omega arith)
      ]

pub waits_none : {visible : Bool} {cutter : CutterState} {slots : List Slot} → IsSound cutter
    → IsReady cutter.writer slots
    → (cutter.aim ≡ Below → ⊥) → Waits visible cutter [] slots slots cutter []
waits_none {cutter = cutter} sound ready differs = record {
  keeps = record { operands = refl; style = refl; writer = leaves_still ready };
  sound = sound;
  lines = omega arith;
  size = omega arith;
  comes = λ x whole stands. rw (append-nil x) (live_comes sound.fit (live_of differs stands) (part_begins_itself _)
      (reaches_still keeps_files refl));
}

-- Lines came in, and nothing was done with them yet.

-- the same cutter after more lines came
abbrev pub more_lines : CutterState → ℕ → Attempt → CutterState
more_lines cutter lines aim = record cutter { lines = lines; aim = aim }

comes_on : {visible : Bool} {cutter now : CutterState} {low : Written} {x pending : List ℕ} {old new : List Slot}
    (come : Comes visible cutter low old new now x pending) (t those waiting : List ℕ) {lines : ℕ} {aim : Attempt}
    → 1 ≤ now.progress.current → Joins x t → lines ≡ line_count newline (x ++ t)
    → those ≡ text_from (now.progress.current + come.at.taken) (x ++ t)
    → (aim ≢ Below → those ≡ now.window.held ++ waiting)
    → (ends : EndsNow (more_lines now lines aim) (x ++ t)) → (is_final ends.ending ≡ true → come.at.taken ≡ 0)
    → Comes visible cutter low old new (more_lines now lines aim) (x ++ t) waiting
unfolding at_more
comes_on {now = now} {low} {x} come t those waiting some joins count left_is waits ends final =
    let first = now.progress.current + come.at.taken in
    let same = part_more t those joins some come.at come.arrives.ends count left_is in record {
      left = those;
      left_is = waits;
      at = at_more t those joins some come.at come.arrives.ends count left_is;
      arrives = record {
        ends = ends;
        low = final;
        enough = elim come.arrives.enough [
          | inl none ↦ inl none
          | inr enough ↦ inr (omega (
            arith,
            ap (line_count newline) left_is,
            ap (line_count newline) come.at.left_is,
            count_from first (x ++ t),
            count_from first x,
            count-append t joins,
          ))
        ];
      };
      grows = subst (Begins low) same come.grows;
      reaches = reaches_as refl (sym same) come.reaches;
    }

comes_as : {visible : Bool} {cutter next : CutterState} {low : Written} {x y pending : List ℕ} {old new : List Slot}
    → x ≡ y → Comes visible cutter low old new next x pending → Comes visible cutter low old new next y pending
comes_as is come = rw (← is) come

line_has : (line : List ℕ) → IsLine line → 1 ≤ length line
line_has line one = grind (arith, common_steps)

-- what is left with a line that isn't cut
line_left : {cutter : CutterState} {x left : List ℕ} (line pending waiting : List ℕ) → IsFit cutter
    → IsLine line → IsWhole x → (at : IsAt (bare cutter) x left) → left ≡ cutter.window.held ++ pending
    → (WillSkip cutter → waiting ≡ []) → ((WillSkip cutter → ⊥) → waiting ≡ pending ++ line)
    → cutter.window.held ++ waiting ≡ text_from (cutter.progress.current + at.taken) (x ++ line)
line_left {cutter} {x} line pending waiting fit one whole at left_is skips keeps =
    let first = cutter.progress.current + at.taken in
    elim (cases_lt (cutter.lines + 1) cutter.progress.current) [
      | inl skipped ↦
          let counted = at.counted in
          let none : cutter.window.held ++ pending ≡ [] = sym left_is ∙ at.left_is ∙ none_from first x (omega arith) in
          let held : cutter.window.held ≡ [] = none_before cutter.window.held pending none in
          rw (skips skipped, held) (sym (none_from first (x ++ line)
          (omega (arith, skipped, fit.fits.current, count-line line whole one))))
      | inr near ↦
          let not : WillSkip cutter → ⊥ = λ skipped. absurd (omega arith) in
          rw (keeps not) (sym (append_assoc cutter.window.held pending line) ∙ ap (λ those. those ++ line) (sym left_is)
          ∙ all_left line (inl whole) fit.fits.some at (λ skipped. absurd (not skipped)))
    ]

-- One more line came, and it isn't cut.
pub waits_line : {visible : Bool} {cutter now : CutterState} {done pending line : List ℕ} {aim : Attempt}
    {old slots : List Slot} (waiting : List ℕ) → Waits visible cutter done old slots now pending → IsWhole done
    → (now.aim ≡ Below → ⊥) → IsLine line → IsSound (more_lines now (now.lines + 1) aim)
    → TriesNext now line (more_lines now (now.lines + 1) aim) None
    → (WillSkip now → waiting ≡ []) → ((WillSkip now → ⊥) → waiting ≡ pending ++ line)
    → Waits visible cutter (done ++ line) old slots (more_lines now (now.lines + 1) aim) waiting
waits_line {visible} {cutter} {now} {done} {pending} {line} {aim} {old} {slots} waiting waits complete differs one sound tries skips keeps = record {
  keeps = record { operands = waits.keeps.operands; style = waits.keeps.style; writer = waits.keeps.writer };
  sound = sound;
  lines = omega (arith, waits.lines, length-append done line, line_has line one);
  size = elim (cases_lt (now.lines + 1) now.progress.current) [
    | inl skipped ↦ omega (arith, waits.size, length-append done line, ap length (skips skipped))
    | inr near ↦
        let kept = keeps (λ skipped. absurd (omega arith)) in
        omega (arith, waits.size, length-append done line, ap length kept, length-append pending line)
  ];
  comes = λ x front stands.
      let come = waits.comes x front stands in
      let whole = whole-append done front complete in
      let ends = tries (x ++ done) whole come.at.counted come.arrives.ends in
      let fit = waits.sound.fit in
      comes_as (append_assoc x done line)
      (comes_on come line (now.window.held ++ waiting) waiting fit.fits.some (inl whole)
      (ap (λ n. n + 1) come.at.counted ∙ sym (count-line line whole one))
      (line_left line pending waiting fit one whole come.at (come.left_is differs) skips keeps) (λ other. refl) ends
      (low_taken come.arrives fit differs line whole ends.ending (ends_as ends.runs)));
}

-- the next operand stands as it did: it cuts below the current line only if it did before
final_still : {style : Style} {lines more : List Line} {state : State} {aim : Attempt}
    (one : EndsHere style lines state aim) (two : EndsHere style more state aim) → is_final two.ending ≡ true
    → is_final one.ending ≡ true
final_still one two final = search rules

-- the first line is the whole text, or it is complete
joins_by : {text x rest : List ℕ} (n : ℕ) → Joins text rest → (IsWhole text → IsWhole x) → Joins x (take n rest)
joins_by n (inl whole) ends = inl (ends whole)
joins_by n (inr none) ends = inr (ap (take n) none ∙ take-nil n)

-- Lines were passed over.
pub waits_over : {visible : Bool} {cutter mid next : CutterState} {text pending rest : List ℕ} {n : ℕ}
    {old slots : List Slot} → Waits visible cutter text old slots mid pending → Joins text rest
    → PassesOver mid rest next n
    → Waits visible cutter (text ++ take n rest) old slots next (pending ++ take n rest)
waits_over {visible} {cutter} {mid} {next} {text} {pending} {rest} {n} {old} {slots} waits joins over =
    subst (λ those. Waits visible cutter (text ++ more) old slots those (pending ++ more)) (sym over.same) (record {
      keeps = record { operands = waits.keeps.operands; style = waits.keeps.style; writer = waits.keeps.writer };
      sound = subst IsSound over.same over.sound;
      lines = omega (arith, waits.lines, over.few, length-append text more, long);
      size = omega (arith, waits.size, length-append text more, length-append pending more);
      comes = λ x front stands.
          let come = waits.comes x front stands in
          let here = joins_by n joins (λ whole. whole-append text front whole) in
          let both = over.ends (x ++ text) here come.at.counted come.arrives.ends in
          let ends : EndsNow (more_lines mid next.lines mid.aim) ((x ++ text) ++ more) =
          subst (λ those. EndsNow those ((x ++ text) ++ more)) over.same both.1 in
          let some = waits.sound.fit.fits.some in
          comes_as (append_assoc x text more)
          (comes_on come more (come.left ++ more) (pending ++ more) some here both.0
          (all_left more here some come.at (λ skips. ap (λ k. take k rest) (over.none skips)))
          (λ other. ap (λ those. those ++ more) (come.left_is other) ∙ append_assoc mid.window.held pending more) ends
          (λ final. come.arrives.low (final_still come.arrives.ends ends final)));
    }) where
      more : List ℕ
      more = take n rest

      long : length more ≡ n
      long = length-take-le n rest over.within

-- What is settled of the lines that came in is written, and the others are held.

pub sound_held : {mid next : CutterState} {left : List ℕ} → Held mid left next → IsSound mid → IsSound next
sound_held held sound = search rules

pub held_takes : {visible : Bool} {cutter now next : CutterState} {text pending : List ℕ} {old mid new : List Slot}
    {fault : Option Fault} → Waits visible cutter text old mid now pending → (now.aim ≡ Below → ⊥)
    → HoldsLines visible now (now.window.held ++ pending) mid new next fault
    → Takes visible cutter text old new next fault
held_takes {visible} {cutter} {now} {next} {text} {pending} {old} {mid} {new} {fault} waits differs held = record {
  keeps = keeps_on waits.keeps held.keeps;
  reaches = λ x front stands. let come = waits.comes x front stands in
      reaches_then waits.keeps.style come.grows come.reaches
      (reaches_as refl (sym (settled_same (x ++ text) waits.keeps))
      ((held_at come.left (come.left_is differs)).reaches (x ++ text) come.at come.arrives));
  went = where_well fault held.went (λ went. record {
    stands = λ x front stands. let come = waits.comes x front stands in
        (subst (λ those. Held now those next) (sym (come.left_is differs)) went).stands (x ++ text) come.at come.arrives;
    sound = sound_held went waits.sound;
    size = held_load went waits;
  });
} where
  held_at : (left : List ℕ) → left ≡ now.window.held ++ pending → HoldsLines visible now left mid new next fault
  held_at left is = subst (λ those. HoldsLines visible now those mid new next fault) (sym is) held

  held_load : Held now (now.window.held ++ pending) next → Waits visible cutter text old mid now pending
      → load next ≤ load cutter + length text
  held_load went waits = grind (arith, common_steps, length-append, went.size, went.same, waits.lines, waits.size)

-- If the cut is below the current line, later lines go nowhere.

pub past_plan : (style : Style) (operands : List Operand) {x : List ℕ} (t : List ℕ) → IsWhole x
    → is_final (plan style operands (all_lines x)).ending ≡ true
    → plan style operands (all_lines (x ++ t)) ≡ plan style operands (all_lines x)
past_plan style operands t whole final = search (rules, all_lines-append, stays)

final_draft : (style : Style) (operands : List Operand) (x : List ℕ)
    → is_final (plan style operands (all_lines x)).ending ≡ true
    → draft_by style (all_lines x) (plan style operands (all_lines x)).steps
    (kept_by (plan style operands (all_lines x)).last.operands) [] ≡ settled_draft style operands (all_lines x)
final_draft style operands x final =
    draft_is settled_end style operands x 0 (plan_runs style operands (all_lines x)) (search (rules, final_count)) refl

past_draft : (style : Style) (operands : List Operand) {x : List ℕ} (t : List ℕ) → IsWhole x
    → is_final (plan style operands (all_lines x)).ending ≡ true
    → settled_draft style operands (all_lines x) ≡ settled_draft style operands (all_lines (x ++ t))
past_draft style operands {x} t whole final =
    let same = past_plan style operands t whole final in
    sym (final_draft style operands x final)
    ∙ ended_still style operands t (kept_by (plan style operands (all_lines x)).last.operands)
    [] (inl whole) (plan_runs style operands (all_lines x))
    ∙ ap (λ (p : Plan). draft_by style (all_lines (x ++ t)) p.steps (kept_by p.last.operands) []) (sym same)
    ∙ final_draft style operands (x ++ t) (ap (λ (p : Plan). is_final p.ending) same ∙ final)

pub past_part : {cutter : CutterState} {x : List ℕ} (t : List ℕ) → IsWhole x → IsPast cutter x
    → settled_part cutter x ≡ settled_part cutter (x ++ t)
past_part {cutter} {x} t whole past = sym (search (rules, settled_part_is)) ∙ ap (draft_part (manner_of cutter.style))
    (past_draft cutter.style cutter.operands t whole past.past) ∙ settled_part_is cutter.style cutter.operands (all_lines (x ++ t))

pub is_past : {cutter : CutterState} {x : List ℕ} → cutter.aim ≡ Below → Stands cutter x → IsPast cutter x
is_past aim fact = search rules

pub still_past : {cutter : CutterState} {x : List ℕ} (t : List ℕ) → IsWhole x → IsPast cutter x → IsPast cutter (x ++ t)
still_past t whole past = search (rules, past_plan, past_draft)

pub took_past : {visible : Bool} {cutter : CutterState} {t : List ℕ} {slots : List Slot} → cutter.aim ≡ Below
    → IsSound cutter → IsReady cutter.writer slots → Takes visible cutter t slots slots cutter None
took_past aim sound ready = search (rules, keeps_files, leaves_still, reaches_still, past_part, is_past, still_past)

-- Taking texts in, one after another.

pub more_settled : (cutter : CutterState) {x : List ℕ} (t : List ℕ) → IsWhole x
    → Begins (settled_part cutter x) (settled_part cutter (x ++ t))
more_settled cutter {x} t whole = rw (← all_lines-append t (inl whole)) at (grows cutter.style cutter.operands (all_lines x) (all_lines t))

-- one text was taken in after another

pub takes_again : {visible : Bool} {one two three : CutterState} {a b : List ℕ} {old mid new : List Slot}
    {fault : Option Fault} → IsWhole a → Takes visible one a old mid two None → Takes visible two b mid new three fault
    → Takes visible one (a ++ b) old new three fault
takes_again {one = one} {three = three} {a} {b} {fault = fault} whole first second = record {
  keeps = keeps_on first.keeps second.keeps;
  reaches = λ x before stands. reaches_then first.keeps.style (more_settled one a before) (first.reaches x before stands)
      (reaches_as (search (rules, settled_same)) (search (rules, append_assoc, settled_same))
      (second.reaches (x ++ a) (whole-append a before whole) (first.went.stands x before stands)));
  went = where_well fault second.went (λ went. record {
    stands = λ x before stands. rw (append_assoc x a b) at (went.stands (x ++ a) (whole-append a before whole) (first.went.stands x before stands));
    sound = went.sound;
    size = omega (arith, length-append a b);
  });
}

pub takes_wider : {visible : Bool} {cutter next : CutterState} {a : List ℕ} (b : List ℕ) {old new : List Slot}
    {fault : Fault} → IsWhole a → Takes visible cutter a old new next (Some fault)
    → Takes visible cutter (a ++ b) old new next (Some fault)
takes_wider {cutter = cutter} {a = a} b whole stopped = record {
  keeps = stopped.keeps;
  reaches = λ x before stands. stops_wider (stopped.reaches x before stands)
      (rw (append_assoc x a b) at (more_settled cutter b (whole-append a before whole)));
  went = tt;
}

pub takes_none : {visible : Bool} {cutter : CutterState} {slots : List Slot} → IsSound cutter
    → IsReady cutter.writer slots
    → Takes visible cutter [] slots slots cutter None
takes_none sound ready = search rules

pub none_there : {held : List ℕ} {empty : Bool} → empty ≡ eqb (length held) 0 → empty ≡ true → held ≡ []
none_there is true_is = grind (arith, common_steps)

-- Later lines go nowhere.

past_on : {cutter : CutterState} {x : List ℕ} (t : List ℕ) → Joins x t → IsPast cutter x
    → IsPast cutter (x ++ t) × (settled_part cutter x ≡ settled_part cutter (x ++ t))
past_on t (inl whole) past = (still_past t whole past, past_part t whole past)
past_on {x = x} t (inr none) past = rw (none, append-nil x) (past, refl)

pub past_takes : {visible : Bool} {cutter now : CutterState} {done pending : List ℕ} (rest : List ℕ)
    {old new : List Slot}
    → Waits visible cutter done old new now pending → now.aim ≡ Below → Joins done rest
    → Takes visible cutter (done ++ rest) old new (emptied now) None
past_takes {cutter = cutter} {now} {done} rest {old} {new} waits aim joins = record {
  keeps = keeps;
  reaches = λ x front stands. let come = waits.comes x front stands in
      reaches_as refl (sym (past_settled aim come.at come.arrives ∙ (past x front stands).1
      ∙ settled_same ((x ++ done) ++ rest) keeps ∙ ap (settled_part cutter) (append_assoc x done rest))) come.reaches;
  went = record {
    stands = λ x front stands. inr (subst (IsPast (emptied now)) (append_assoc x done rest) (past x front stands).0);
    sound = record { fit = search rules; aim = waits.sound.aim };
    size = grind (arith, common_steps, length-append, waits.size, waits.lines);
  };
} where
  keeps : Keeps cutter (emptied now) old new None
  keeps = record { operands = waits.keeps.operands; style = waits.keeps.style; writer = waits.keeps.writer }

  past : (x : List ℕ) → IsWhole x → Stands cutter x → IsPast (emptied now) ((x ++ done) ++ rest)
      × (settled_part now (x ++ done) ≡ settled_part now ((x ++ done) ++ rest))
  past x front stands = let come = waits.comes x front stands in
      past_on rest (elim joins [ inl whole ↦ inl (whole-append done front whole) | inr none ↦ inr none ])
      (past_now aim come.at come.arrives)

-- A line came that is cut.

-- a line that is cut isn't left out; a search begins no earlier than at the current line
search_from : (suppress : Bool) (state : State) → state.current ≤ search_line suppress state
search_from suppress state = search rules

cut_near : (style : Style) (lines : List Line) (state : State) (operand : Operand) (target : Target) (cut : CutPoint)
    → CutsAt style lines state operand target cut
    → (state.current ≤ cut.line) × (cut.line ≤ length lines + past_last style target) → state.current ≤ length lines
cut_near style lines state operand (Number n) cut at within = omega (arith, within.0, within.1)
cut_near style lines state operand (Search pattern kept offset) cut at within =
    let first = at.0 in omega (arith, first.not_before, first.within, search_from style.suppress state)

-- what is settled grows
grows_by : (cutter : CutterState) {x : List ℕ} (t : List ℕ) → Joins x t
    → Begins (settled_part cutter x) (settled_part cutter (x ++ t))
grows_by cutter t (inl whole) = more_settled cutter t whole
grows_by cutter {x} t (inr none) = rw (none, append-nil x) (part_begins_itself _)

-- the cut is due over the lines that are left with the line
record IsDue (cutter : CutterState) (cut : CutPoint) (before rest line x : List ℕ) (low : Written) : Type 0 where
  pub at : IsAt (bare cutter) x (before ++ rest)
  pub here : CutsNow (due cutter cut before rest line) x at
  pub same : low ≡ part_at at

module _ {visible : Bool} {cutter now mid : CutterState} {done pending before rest line : List ℕ} {cut : CutPoint}
    {old slots : List Slot} (waits : Waits visible cutter done old slots now pending) (complete : IsWhole done)
    (differs : now.aim ≡ Below → ⊥) (one : IsLine line) (mid_is : mid ≡ more_lines now (now.lines + 1) mid.aim)
    (tries : TriesNext now line mid (Some cut)) (parts : before ++ rest ≡ now.window.held ++ (pending ++ line))
    (before_is : before ≡ but_last_lines newline (after_cut mid cut) (before ++ rest)) where
  due_at : {x : List ℕ} (front : IsWhole x) (stands : Stands cutter x)
      → IsDue (more_lines now (now.lines + 1) mid.aim) cut before rest line ((x ++ done) ++ line)
      (part_at (waits.comes x front stands).at)
  unfolding at_more
  due_at {x} front stands =
      let come = waits.comes x front stands in
      let whole = whole-append done front complete in
      let some = waits.sound.fit.fits.some in
      let cuts = tries (x ++ done) whole come.at.counted come.arrives.ends in
      let goes = cuts.0 in
      let lines : now.lines + 1 ≡ line_count newline ((x ++ done) ++ line) =
      ap (λ n. n + 1) come.at.counted ∙ sym (count-line line whole one) in
      let near : now.progress.current ≤ now.lines + 1 =
      (let e = cut_near now.style (all_lines ((x ++ done) ++ line)) (state_in now) goes.its.operand goes.its.operand.target cut goes.its.cuts (goes.from, goes.within) in
      omega (arith, length-all_lines ((x ++ done) ++ line))) in
      let mid_lines : mid.lines ≡ now.lines + 1 = ap (λ (c : CutterState). c.lines) mid_is in
      let left_is : before ++ rest ≡ text_from (now.progress.current + come.at.taken) ((x ++ done) ++ line) =
      parts ∙ sym (append_assoc now.window.held pending line) ∙ ap (λ those. those ++ line) (sym (come.left_is differs))
      ∙ all_left line (inl whole) some come.at (λ skips. absurd (omega arith)) in
      let at = at_more line (before ++ rest) (inl whole) some come.at come.arrives.ends lines left_is in
      let low = place_before come.arrives waits.sound.fit differs line cut whole goes goes.from in
      let count : line_count newline (before ++ rest) - after_cut mid cut
      ≡ cut.line - (now.progress.current + come.at.taken) =
      omega (
        arith,
        mid_lines,
        ap (line_count newline) left_is,
        count_from (now.progress.current + come.at.taken) ((x ++ done) ++ line),
        come.at.few,
        goes.within,
        past_near now.style goes.its.operand.target,
        length-all_lines ((x ++ done) ++ line),
      ) in record {
        at = at;
        here = record {
          last = (all_lines (x ++ done), all_lines-line line whole one, λ ends. whole-append line whole (inr ends));
          near = omega (arith, cuts.1, mid_lines);
          low = low;
          before_is = before_is ∙ ap (λ n. first_lines newline n (before ++ rest)) count;
          goes = goes;
        };
        same = part_more line (before ++ rest) (inl whole) some come.at come.arrives.ends lines left_is;
      }

  pub waits_cut : {next : CutterState} {left : List ℕ} {new : List Slot}
      → Cut visible (due mid cut before rest line) slots new next left
      → Waits visible cutter (done ++ line) old new next left
  waits_cut {next} {left} {new} made =
      let cuts = rw mid_is at made in record {
        keeps = keeps_on waits.keeps cuts.keeps;
        sound = cuts.sound;
        lines = omega (arith, cuts.lines, waits.lines, length-append done line, line_has line one);
        size = omega (
          arith,
          cuts.size,
          waits.size,
          ap length parts,
          length-append now.window.held (pending ++ line),
          length-append pending line,
          length-append done line,
        );
        comes = λ x front stands.
            let come = waits.comes x front stands in
            let at_cut = due_at front stands in
            let made' = cuts.comes ((x ++ done) ++ line) at_cut.at at_cut.here in
            let low = subst (Begins (settled_part cutter x)) at_cut.same come.grows in
            comes_as (append_assoc x done line) (record {
              left = made'.left;
              left_is = made'.left_is;
              at = made'.at;
              arrives = made'.arrives;
              grows = part_trans _ _ _ low made'.grows;
              reaches = reaches_then waits.keeps.style low (reaches_as refl (sym at_cut.same) come.reaches) made'.reaches;
            });
      }

  pub cut_stops : {next : CutterState} (more : List ℕ) {new : List Slot} {fault : Fault} → Joins line more
      → CutsShort visible (due mid cut before rest line) slots new next fault
      → Takes visible cutter ((done ++ line) ++ more) old new next (Some fault)
  cut_stops more joins stops =
      let stopped = rw mid_is at stops in record {
        keeps = keeps_on waits.keeps stopped.keeps;
        reaches = λ x front stands.
            let come = waits.comes x front stands in
            let at_cut = due_at front stands in
            let all = (x ++ done) ++ line in
            let here : Joins all more = elim joins [
              | inl ends ↦ inl (whole-append line (whole-append done front complete) ends)
              | inr none ↦ inr none
            ] in
            let text : all ++ more ≡ x ++ ((done ++ line) ++ more) =
            ap (λ those. those ++ more) (append_assoc x done line) ∙ append_assoc x (done ++ line) more in
            reaches_then waits.keeps.style (subst (Begins (settled_part cutter x)) at_cut.same come.grows)
            (reaches_as refl (sym at_cut.same) come.reaches)
            (stops_wider (stopped.reaches all at_cut.at at_cut.here)
            (subst (λ high. Begins high (settled_part cutter (x ++ ((done ++ line) ++ more)))) (sym (settled_same all waits.keeps))
            (subst (λ those. Begins (settled_part cutter all) (settled_part cutter those)) text (grows_by cutter more here))));
        went = tt;
      }

-- Cutting as often as operands cut the lines that are left.

-- Trying the next operand changes only the aim.

pub spread_fit : {now mid : CutterState} → mid ≡ record now { aim = mid.aim } → IsFit now → IsFit mid
spread_fit is fit = search rules

-- the next operand cuts, too; a cut that is due then
abbrev pub due_on : CutterState → CutPoint → (before rest line : List ℕ) → Due
due_on cutter cut before rest line = due cutter cut before rest line

cuts_again : {visible : Bool} {due : Due} {now : CutterState} (cut : CutPoint) {x before rest : List ℕ} {low : Written}
    {old new : List Slot} (after : IsAfter visible due x low old new now (before ++ rest))
    → Tries now due.line now (Some cut) → WillCut now cut
    → before ≡ first_lines newline (cut.line - now.progress.current) (before ++ rest)
    → {aim : Attempt} → CutsNow (due_on (record now { aim = aim }) cut before rest due.line) x after.now
cuts_again cut {before = before} {rest} after tries will first = let both = tries _ after.looked in record {
  last = after.looked.last;
  near = both.1 (inl after.near);
  low = omega (arith, after.none, will.from);
  before_is = first ∙ ap (λ n. first_lines newline n (before ++ rest)) (omega (arith, after.none));
  goes = both.0;
}

module _ {visible : Bool} {due : Due} {now : CutterState} {aim : Attempt} {cut : CutPoint} {before rest : List ℕ}
    {old between : List Slot} (so_far : Spreading visible due old between now (before ++ rest))
    (tries : Tries now due.line (record now { aim = aim }) (Some cut)) (will : WillCut now cut)
    (first : before ≡ first_lines newline (cut.line - now.progress.current) (before ++ rest)) where
  more_at : {next : CutterState} {end : List ℕ} {new : List Slot}
      → Spreading visible (due_on (record now { aim = aim }) cut before rest due.line) between new next end
      → Spreading visible due old new next end
  more_at once = record {
    keeps = keeps_on so_far.keeps once.keeps;
    lines = once.lines ∙ so_far.lines;
    fit = once.fit;
    held = once.held;
    after = λ x at here.
        let after = so_far.after x at here in
        let again = once.after x after.now (cuts_again cut after tries will first) in record {
          now = again.now;
          looked = again.looked;
          near = again.near;
          none = again.none;
          grows = part_trans _ _ _ after.grows again.grows;
          reaches = search (rules, reaches_then);
        };
    size = let a = once.size in let b = so_far.size in omega arith;
    end = (
      so_far.end.0 ++ (before ++ once.end.0),
      so_far.end.1 ∙ ap (λ those. so_far.end.0 ++ (before ++ those)) once.end.1
          ∙ ap (λ those. so_far.end.0 ++ those) (sym (append_assoc before once.end.0 _))
          ∙ sym (append_assoc so_far.end.0 (before ++ once.end.0) _),
    );
  }

  stopped_at : {next : CutterState} {new : List Slot} {fault : Fault}
      → CutsShort visible (due_on (record now { aim = aim }) cut before rest due.line) between new next fault
      → CutsShort visible due old new next fault
  stopped_at stopped = record {
    keeps = keeps_on so_far.keeps stopped.keeps;
    reaches = λ x at here. let after = so_far.after x at here in reaches_then so_far.keeps.style after.grows after.reaches
        (reaches_as refl (sym (settled_same x so_far.keeps)) (stopped.reaches x after.now (cuts_again cut after tries will first)));
  }

module _ {visible : Bool} {due : Due} {now mid : CutterState} {cut : CutPoint} {left before rest : List ℕ} {n : ℕ}
    {old between : List Slot} (so_far : Spreading visible due old between now left)
    (is : mid ≡ record now { aim = mid.aim }) (tries : Tries now due.line mid (Some cut)) (will : WillCut now cut)
    (n_is : n ≡ cut.line - mid.progress.current) (first : before ≡ first_lines newline n left)
    (after : rest ≡ after_lines newline n left) where
  parts : left ≡ before ++ rest
  parts = rw (first, after) (sym (first_lines_then_rest newline n left))

  so : Spreading visible due old between now (before ++ rest)
  so = subst (Spreading visible due old between now) parts so_far

  begins : before ≡ first_lines newline (cut.line - now.progress.current) (before ++ rest)
  begins = first ∙ ap (λ those. first_lines newline n those) parts
      ∙ ap (λ k. first_lines newline k (before ++ rest)) (n_is ∙ ap (λ (c : CutterState). cut.line - c.progress.current) is)

  none_held : mid.window.held ++ before ≡ before
  none_held = ap (λ those. those ++ before) (ap (λ (c : CutterState). c.window.held) is ∙ so_far.held)

  tries_now : Tries now due.line (record now { aim = mid.aim }) (Some cut)
  tries_now = subst (λ (those : CutterState). Tries now due.line those (Some cut)) is tries

  pub spread_sizes : size_of mid.writer.current + length mid.window.held + length before + length rest
      ≤ size_of due.cutter.writer.current + length (left_in due)
  spread_sizes = omega (
    arith,
    so_far.size,
    ap (λ (c : CutterState). size_of c.writer.current) is,
    ap (λ (c : CutterState). length c.window.held) is,
    ap length so_far.held,
    ap length parts,
    length-append before rest,
  )

  pub spread_more : {next : CutterState} {end : List ℕ} {new : List Slot}
      → CutAt visible (due_on mid cut (mid.window.held ++ before) rest due.line) between new next end
      → Spreading visible due old new next end
  spread_more {next} {end} {new} at_cut = more_at so tries_now will begins
      (subst (λ (those : CutterState). Spreading visible (due_on those cut before rest due.line) between new next end) is
      (subst (λ those. Spreading visible (due_on mid cut those rest due.line) between new next end) none_held at_cut.spreading))

  pub spread_stopped : {next : CutterState} {new : List Slot} {fault : Fault}
      → CutsShort visible (due_on mid cut (mid.window.held ++ before) rest due.line) between new next fault
      → CutsShort visible due old new next fault
  spread_stopped {next} {new} {fault} stops = stopped_at so tries_now will begins
      (subst (λ (those : CutterState). CutsShort visible (due_on those cut before rest due.line) between new next fault) is
      (subst (λ those. CutsShort visible (due_on mid cut those rest due.line) between new next fault) none_held stops))

-- No operand cuts any more. The lines that are left go on waiting where they are.

pub spread_cut : {visible : Bool} {due : Due} {mid : CutterState} {left : List ℕ} (pending : List ℕ)
    {old new : List Slot}
    → Spread visible due old new mid left → (mid.aim ≢ Below → left ≡ pending) → length pending ≤ length left
    → Cut visible due old new mid pending
spread_cut {visible} {due} {mid} {left} pending {old} {new} spread same short =
    let so = spread.so_far in
    subst (λ those. Cut visible due old new those pending) (sym spread.is) (record {
      keeps = record { operands = so.keeps.operands; style = so.keeps.style; writer = so.keeps.writer };
      lines = so.lines;
      sound = record { fit = spread_fit refl so.fit; aim = subst IsAimed spread.is spread.aim };
      size = let size = so.size in omega (arith, ap length so.held, short);
      comes = λ x at here. let after = so.after x at here in record {
        left = left;
        left_is = λ other. same other ∙ ap (λ those. those ++ pending) (sym so.held);
        at = after.now;
        arrives = record {
          ends = subst (λ (c : CutterState). EndsNow c x) spread.is (spread.tries x after.looked);
          low = λ final. after.none;
          enough = inl after.none;
        };
        grows = after.grows;
        reaches = after.reaches;
      };
    })

pub spread_all : {visible : Bool} {due : Due} {mid : CutterState} {left : List ℕ} {old new : List Slot}
    → Spread visible due old new mid left → Cut visible due old new mid left
spread_all {left = left} spread = spread_cut left spread (λ other. refl) (omega arith)

-- Or they are held.

held_as : {visible : Bool} {mid next : CutterState} {left those : List ℕ} {old new : List Slot} {fault : Option Fault}
    → left ≡ those → HoldsLines visible mid those old new next fault → HoldsLines visible mid left old new next fault
held_as {visible} {mid} {next} {old = old} {new} {fault} is held = subst (λ those. HoldsLines visible mid those old new next fault) (sym is) held

pub held_cut : {visible : Bool} {due : Due} {mid next : CutterState} {left : List ℕ} {old between new : List Slot}
    (fault : Option Fault) → Spread visible due old between mid left → (mid.aim ≡ Below → ⊥)
    → HoldsLines visible mid (mid.window.held ++ left) between new next fault → CutsHeld visible due old new next fault
held_cut {left = left} (Some fault) spread differs held =
    let so = spread_cut left spread (λ other. refl) (omega arith) in held_short fault (record {
      keeps = keeps_on so.keeps held.keeps;
      reaches = λ x at here. let come = so.comes x at here in
          reaches_then so.keeps.style come.grows come.reaches (reaches_as refl (sym (settled_same x so.keeps))
          ((held_as (come.left_is differs) held).reaches x come.at come.arrives));
    })
held_cut {mid = mid} {next} {left} None spread differs held =
    let so = spread_cut left spread (λ other. refl) (omega arith) in
    let sound = sound_held held.went so.sound in held_well (record {
      keeps = keeps_on so.keeps held.keeps;
      lines = ap (λ (c : CutterState). c.lines) held.went.same ∙ so.lines;
      sound = sound;
      size = let a = held.went.size in let b = so.size in omega (arith, length-append mid.window.held left);
      comes = λ x at here.
          let come = so.comes x at here in
          let holds = held_as (come.left_is differs) held in
          let settled = settled_same x held.keeps in
          live_comes sound.fit
          (live_of (λ below. differs (sym (ap (λ (c : CutterState). c.aim) held.went.same) ∙ below)) (holds.went.stands x come.at come.arrives))
          (subst (Begins _) (sym settled) (part_trans _ _ _ come.grows (holds.begins x come.at come.arrives)))
          (reaches_as refl settled (reaches_then so.keeps.style come.grows come.reaches (holds.reaches x come.at come.arrives)));
    })

-- what stands after the lines before the last ones
last_by : (n place : ℕ) (all : List ℕ) → take place all ≡ but_last_lines newline n all
    → drop place all ≡ last_lines newline n all
last_by n place all is = append_cancel_left (take place all) (drop place all) (last_lines newline n all)
    (take-append-drop place all ∙ sym (first_lines_then_rest newline (line_count newline all - n) all)
    ∙ ap (λ those. those ++ last_lines newline n all) (sym is))

-- The lines that waited were taken out of the cutter before.

cut_by : {visible : Bool} {cutter next : CutterState} {window : Window} {cut : CutPoint} {before rest line : List ℕ}
    {old new : List Slot} {fault : Option Fault}
    → CutsHeld visible (due (record cutter { window = window }) cut before rest line) old new next fault
    → CutsHeld visible (due cutter cut before rest line) old new next fault
cut_by (held_short fault stops) = held_short fault (record {
  keeps = stops.keeps;
  reaches = λ x at here. stops.reaches x at (search rules);
})
cut_by (held_well made) = held_well (record {
  keeps = made.keeps;
  lines = made.lines;
  sound = made.sound;
  size = made.size;
  comes = λ x at here. let come = made.comes x at (search rules) in record {
    left = come.left;
    left_is = come.left_is;
    at = come.at;
    arrives = come.arrives;
    grows = come.grows;
    reaches = come.reaches;
  };
})

pub cut_drained : {visible : Bool} {cutter next : CutterState} {window : Window} {cut : CutPoint} {n : ℕ}
    (place : ℕ) {all same : List ℕ} (text : List ℕ) {before rest line : List ℕ} {old new : List Slot}
    {fault : Option Fault} → window ≡ record cutter.window { held = [] }
    → all ≡ cutter.window.held ++ text → same ≡ cutter.window.held ++ text → n ≡ after_cut cutter cut
    → before ≡ take place all → rest ≡ drop place all
    → take place same ≡ but_last_lines newline n same → CutsHeld visible
    (due (record cutter { window = window }) cut (window.held ++ before) rest line) old new next fault
    → CutsHeld visible (last_due cutter cut (cutter.window.held ++ text) line) old new next fault
cut_drained {visible} {cutter} {next} {window} {cut} {n} place {all} {same} text {before} {rest} {line} {old} {new} {fault} none all_is same_is n_is before_is rest_is place_is made =
    let first = subst (λ those. take place those ≡ but_last_lines newline n those) (same_is ∙ sym all_is) place_is in
    subst (λ left. CutsHeld visible (last_due cutter cut left line) old new next fault) all_is
    (subst (λ k. CutsHeld visible (due cutter cut (but_last_lines newline k all) (last_lines newline k all) line) old new next fault) n_is
    (rw (← first, ← last_by n place all first, ← before_is, ← rest_is) (cut_by (rw none at made))))
