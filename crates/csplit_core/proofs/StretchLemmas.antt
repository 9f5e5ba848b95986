-- Lines of a text wait in the text, from one stretch to the next, until they are written or held.
use Rattle.std.proofs.{Common.{◌≡◌, ◌≢◌, ◌⊎◌, inl, inr, ℕ, ◌+◌, ◌-◌, ◌<◌, ◌≤◌, ◌^◌, Bool, true, false, Option, Some, None, List, []}, Common.{◌∷◌, ◌++◌, length, refl, sym, ◌∙◌, ap, subst, arith, append_assoc, length-append, IfSome, Ok, Err}, Common.{take, drop, take-append-drop, length-drop, length-take-le, take-add, drop-drop, rules}, lemmas.{Grind.common_steps, List.{append-nil, drop_all, drop_at, drop-append-le, drop-take, take_all, take_at}}}
use Rattle.seg_core.{
  specs.{Line.{ends_with, line_count, lines_of, but_last_lines}, inner.Lines.last_lines, Window.{Window, without_first}},
  proofs.FirstLines.first_lines_then_rest,
}
use Rattle.ports_core.specs.{Slot.Slot, declared.fault.Fault.Fault}
use Rattle.engine_core.specs.FileWriter.{IsReady, size_of}
use Rattle.csplit_core.specs.{Input.{newline, without_newline}, Plan.CutPoint, inner.Cutter.{IsFound, IsWhole, IsLine, Waits, Due, due, last_due, after_cut, CutsShort, Cut, CutsHeld}, inner.Cutter.{held_well, held_short, TriesNext, Takes, IsEnd, IsNextFound, WillSkip, Starts, StopsAt, Extends}, inner.Cutter.{pending_in, next_in, next_end, IsWithin, MayGoOn, Taking, Advances, Settles}, declared.{line_cutter.{Passed.Passed, Stretch.Stretch}, progress.Attempt.TheVariants.Below}, Cutter.{CutterState, IsSound, load}}
use Rattle.csplit_core.proofs.{CutterLemmas.HoldsLines, LineLemmas.{first_line, whole-append, whole_drop}, TakeLemmas.{cut_stops, held_takes, more_lines, past_takes, waits_cut, waits_line, waits_none, waits_over}}

-- a slice of a text, as the end of what came in
slice_is : (text : List ℕ) (from end : ℕ) → from ≤ end → take (end - from) (drop from text) ≡ drop from (take end text)
slice_is text from end low = sym (ap (λ n. drop from (take n text)) (let e : end ≡ from + (end - from) = omega arith in e)
    ∙ drop-take from (end - from) text)

-- what waits, once more came in
pending_more : (text : List ℕ) (from end n : ℕ) → from ≤ end → end ≤ length text
    → drop from (take (end + n) text) ≡ drop from (take end text) ++ take n (drop end text)
pending_more text from end n low within = ap (drop from) (take-add end n text)
    ∙ drop-append-le from (take end text) (take n (drop end text)) (omega (arith, length-take-le end text within))

none_from : (text : List ℕ) (end : ℕ) → end ≤ length text → drop end (take end text) ≡ []
none_from text end within = drop_all end (take end text) (omega (arith, length-take-le end text within))

pub well_of : {visible : Bool} {due : Due} {old new : List Slot} {next : CutterState}
    → CutsHeld visible due old new next None → Cut visible due old new next []
well_of (held_well made) = made

pub short_of : {visible : Bool} {due : Due} {old new : List Slot} {next : CutterState} {fault : Fault}
    → CutsHeld visible due old new next (Some fault) → CutsShort visible due old new next fault
short_of (held_short fault stops) = stops

-- The next line of a text.

pub starts_found : {cutter : CutterState} {text : List ℕ} {size : ℕ} → IsWhole text → IsNextFound cutter text size
    → Starts text size
starts_found {size = size} whole found = record {
  within = found.within;
  line = found.line;
  rest = whole_drop size whole;
  complete = inr found.ends;
}

pub starts_next : {text : List ℕ} (line rest : List ℕ) → IsWhole text → text ≡ line ++ rest
    → (0 < length text → lines_of newline text ≡ line ∷ lines_of newline rest)
    → (ends_with newline line ≡ false → rest ≡ []) → 0 < length line → Starts text (length line)
starts_next {text} line rest whole joined first last some = record {
  within = omega (arith, long);
  line = subst IsLine (sym front) (first_line text line rest (first (omega (arith, long))));
  rest = whole_drop (length line) whole;
  complete = ends (ends_with newline line) refl;
} where
  long : length text ≡ length line + length rest
  long = ap length joined ∙ length-append line rest

  front : take (length line) text ≡ line
  front = ap (take (length line)) joined ∙ take_at line rest (length line) refl

  ends : (complete : Bool) → ends_with newline line ≡ complete
      → (drop (length line) text ≡ []) ⊎ (ends_with newline (take (length line) text) ≡ true)
  ends true is = inr (ap (ends_with newline) front ∙ is)
  ends false is = inl (ap (drop (length line)) joined ∙ drop_at line rest (length line) refl ∙ last is)

pub starts_line : {line : List ℕ} → IsLine line → Starts line (length line)
starts_line {line} one = record {
  within = omega arith;
  line = subst IsLine (sym (take_all (length line) line (omega arith))) one;
  rest = inl (drop_all (length line) line (omega arith));
  complete = inl (drop_all (length line) line (omega arith));
}

-- Lines were passed over, and the lines before them wait.

pub extended : {cutter next : CutterState} {text : List ℕ} {from end : ℕ} (passed : Passed) (on : Stretch)
    → MayGoOn text from end → StopsAt cutter (drop end text) next passed → on.from ≡ from → on.end ≡ end + passed.size
    → (0 < on.next → (next.aim ≢ Below) × Starts (drop on.end text) on.next)
    → (on.next ≡ 0 → (next.aim ≡ Below) ⊎ (drop on.end text ≡ []))
    → (on.is_found ≡ true → passed.found ≡ Some on.next) → Extends cutter text from end next on
extended {cutter} {next} {text} {from} {end} passed on place stops from_is end_is starts none known = record {
  more = omega (arith, end_is);
  taking = λ visible first old new waits. record {
    waits = rw (from_is, end_is, pending_more text from end passed.size place.low place.within, take-add end passed.size text)
        (waits_over waits place.joins stops.over);
    from = omega (arith, from_is, end_is, place.low);
    within = let few = stops.over.within in let low = place.within in omega (arith, end_is, length-drop end text);
    joins = elim place.joins [
      | inl whole ↦ inl (subst IsWhole (sym done) (whole-append _ whole stops.over.whole))
      | inr nothing ↦ inr (rest ∙ ap (drop passed.size) nothing ∙ drop_all passed.size [] (omega arith))
    ];
    next = starts;
    none = none;
    found = λ is. next_found (known is) stops.found;
  };
} where
  done : take on.end text ≡ take end text ++ take passed.size (drop end text)
  done = ap (λ n. take n text) end_is ∙ take-add end passed.size text

  rest : drop on.end text ≡ drop passed.size (drop end text)
  rest = ap (λ n. drop n text) end_is ∙ sym (drop-drop passed.size end text)

  next_found : passed.found ≡ Some on.next → IfSome passed.found (IsNextFound next (drop passed.size (drop end text)))
      → IsFound next (without_newline (take on.next (drop on.end text))) (next.lines + 1) true
  next_found is fact = rw rest ((rw is at fact).found)

-- what stands before the last lines, and these lines
last_parts : (n : ℕ) (left : List ℕ) → but_last_lines newline n left ++ last_lines newline n left ≡ left
last_parts n left = first_lines_then_rest newline (line_count newline left - n) left

pub some_next : {text : List ℕ} {size : ℕ} → Starts text size → 0 < size
some_next start = grind (arith, common_steps, start.line)

-- the next line of a text as a slice, and the lines that wait with it
abbrev pub line_in : List ℕ → Stretch → List ℕ
line_in text stretch = take (next_end stretch - stretch.end) (drop stretch.end text)

abbrev pub waits_now : CutterState → List ℕ → Stretch → List ℕ
waits_now cutter text stretch = cutter.window.held ++ take (next_end stretch - stretch.from) (drop stretch.from text)

-- The next line comes after a stretch of the text that waits.

module _ {text : List ℕ} {stretch : Stretch} (within : IsWithin text stretch)
    (start : Starts (drop stretch.end text) stretch.next) where
  pub end_within : next_end stretch ≤ length text
  end_within = let a = start.within in let b = within.within in omega (arith, length-drop stretch.end text)

  -- what waits with the line
  pub waiting_next : drop stretch.from (take (next_end stretch) text)
      ≡ pending_in text stretch ++ next_in text stretch
  waiting_next = pending_more text stretch.from stretch.end stretch.next within.from within.within

  pub slice_next : take (next_end stretch - stretch.from) (drop stretch.from text)
      ≡ drop stretch.from (take (next_end stretch) text)
  slice_next = slice_is text stretch.from (next_end stretch) (let low = within.from in omega arith)

  done_next : take (next_end stretch) text ≡ take stretch.end text ++ next_in text stretch
  done_next = take-add stretch.end stretch.next text

  pub goes_on : {from : ℕ} → from ≤ next_end stretch → MayGoOn text from (next_end stretch)
  goes_on low = record {
    low = low;
    within = end_within;
    rest = subst IsWhole (drop-drop stretch.next stretch.end text) start.rest;
    joins = elim start.complete [
      | inl none ↦ inr (sym (drop-drop stretch.next stretch.end text) ∙ none)
      | inr ends ↦ inl (subst IsWhole (sym done_next) (whole-append _ within.before (inr ends)))
    ];
  }

  line_is : line_in text stretch ≡ next_in text stretch
  line_is = ap (λ n. take n (drop stretch.end text)) (let e : next_end stretch - stretch.end ≡ stretch.next = omega arith in e)

  parts_now : (now : CutterState) {mid : CutterState} {all : List ℕ} → mid ≡ more_lines now (now.lines + 1) mid.aim
      → all ≡ waits_now mid text stretch
      → all ≡ now.window.held ++ (pending_in text stretch ++ next_in text stretch)
  parts_now now {mid} is parts = parts ∙ ap (λ those. mid.window.held ++ those) (slice_next ∙ waiting_next)
      ∙ ap (λ (c : CutterState). c.window.held ++ (pending_in text stretch ++ next_in text stretch)) is

  -- The contract of `take_next`, by whether the line is cut.
  module _ {visible : Bool} {now : CutterState} {old : List Slot} (differs : now.aim ≡ Below → ⊥) where
    pub line_kept : {mid next : CutterState} {from : ℕ} {on : Stretch}
        → mid ≡ more_lines now (now.lines + 1) mid.aim → IsSound mid
        → TriesNext now (line_in text stretch) mid None
        → (WillSkip now → from ≡ next_end stretch) → ((WillSkip now → ⊥) → from ≡ stretch.from)
        → Extends mid text from (next_end stretch) next on → 0 < stretch.next
        → Advances visible now text stretch old old next (Ok on)
    line_kept {mid} {from = from} is sound tries skips keeps extends some = record {
      more = omega (arith, extends.more, some);
      taken = λ first slots waits. extends.taking visible first slots old (kept waits);
    } where
      waiting : List ℕ
      waiting = drop from (take (next_end stretch) text)

      kept : {first : CutterState} {slots : List Slot}
          → Waits visible first (take stretch.end text) slots old now (pending_in text stretch)
          → Waits visible first (take (next_end stretch) text) slots old mid waiting
      kept {first} {slots} waits = subst (λ done. Waits visible first done slots old mid waiting) (sym done_next)
          (subst (λ those. Waits visible first (take stretch.end text ++ next_in text stretch) slots old those waiting) (sym is)
          (waits_line waiting waits within.before differs start.line
          (subst IsSound is sound) (subst (λ those. TriesNext now (next_in text stretch) those None) is (rw line_is at tries))
          (λ skip. ap (λ n. drop n (take (next_end stretch) text)) (skips skip) ∙ none_from text (next_end stretch) end_within)
          (λ not. ap (λ n. drop n (take (next_end stretch) text)) (keeps not) ∙ waiting_next)))

    module _ {mid : CutterState} {cut : CutPoint} {before rest : List ℕ}
        (is : mid ≡ more_lines now (now.lines + 1) mid.aim)
        (tries : TriesNext now (line_in text stretch) mid (Some cut))
        (parts : before ++ rest ≡ waits_now mid text stretch)
        (before_is : before ≡ but_last_lines newline (after_cut mid cut) (waits_now mid text stretch)) where
      pub line_cut : {end next : CutterState} {from : ℕ} {left : List ℕ} {on : Stretch} {new : List Slot}
          → Cut visible (due mid cut before rest (line_in text stretch)) old new end left
          → drop from (take (next_end stretch) text) ≡ left
          → Extends end text from (next_end stretch) next on → 0 < stretch.next
          → Advances visible now text stretch old new next (Ok on)
      line_cut {new = new} made left_is extends some = record {
        more = omega (arith, extends.more, some);
        taken = λ first slots waits. extends.taking visible first slots new (rw (left_is, done_next)
            (waits_cut waits within.before differs start.line is (rw line_is at tries) (parts_now now is parts)
            (before_is ∙ ap (but_last_lines newline (after_cut mid cut)) (sym parts)) (rw line_is at made)));
      }

      pub line_fails : {next : CutterState} {new : List Slot} {fault : Fault}
          → CutsShort visible (due mid cut before rest (line_in text stretch)) old new next fault
          → Advances visible now text stretch old new next (Err fault)
      line_fails {next} {new} {fault} stops = record {
        more = tt;
        taken = λ first slots waits. subst (λ those. Takes visible first those slots new next (Some fault)) all
            (cut_stops waits within.before differs start.line is (rw line_is at tries) (parts_now now is parts)
            (before_is ∙ ap (but_last_lines newline (after_cut mid cut)) (sym parts)) (drop stretch.next (drop stretch.end text))
            (elim start.complete [ inl none ↦ inr none | inr ends ↦ inl (inr ends) ]) (rw line_is at stops));
      } where
        all : (take stretch.end text ++ next_in text stretch) ++ drop stretch.next (drop stretch.end text) ≡ text
        all = append_assoc (take stretch.end text) _ (drop stretch.next (drop stretch.end text))
            ∙ ap (λ those. take stretch.end text ++ those) (take-append-drop stretch.next (drop stretch.end text))
            ∙ take-append-drop stretch.end text

    -- the cut stands among the lines that are held, or before the first line of the text that waits
    module _ {mid : CutterState} {cut : CutPoint} (is : mid ≡ more_lines now (now.lines + 1) mid.aim)
        (tries : TriesNext now (line_in text stretch) mid (Some cut)) where
      pub held_fails : {next : CutterState} {new : List Slot} {fault : Fault}
          → CutsShort visible (last_due mid cut (waits_now mid text stretch)
          (line_in text stretch)) old new next fault → Advances visible now text stretch old new next (Err fault)
      held_fails stops = line_fails is tries (last_parts (after_cut mid cut) (waits_now mid text stretch)) refl stops

      pub held_cuts : {end next : CutterState} {on : Stretch} {new : List Slot}
          → Cut visible (last_due mid cut (waits_now mid text stretch)
          (line_in text stretch)) old new end []
          → Extends end text (next_end stretch) (next_end stretch) next on → 0 < stretch.next
          → Advances visible now text stretch old new next (Ok on)
      held_cuts made extends some = line_cut is tries (last_parts (after_cut mid cut) (waits_now mid text stretch)) refl
          made (none_from text (next_end stretch) end_within) extends some

  -- What is left after a cut stands at the end of the text that was cut.
  pub left_is : (place : ℕ) {rest left : List ℕ}
      → rest ≡ drop place (take (next_end stretch - stretch.from) (drop stretch.from text)) → IsEnd left rest
      → drop (next_end stretch - length left) (take (next_end stretch) text) ≡ left
  left_is place {left = left} rest_is (front, is) =
      let done = take (next_end stretch) text in
      let waiting = drop stretch.from done in
      let before = (take stretch.from done ++ take place waiting) ++ front in
      let all : done ≡ before ++ left = sym (take-append-drop stretch.from done)
      ∙ ap (λ those. take stretch.from done ++ those) (sym (take-append-drop place waiting)
      ∙ ap (λ those. take place waiting ++ those) (sym (rest_is ∙ ap (drop place) slice_next) ∙ is))
      ∙ sym (append_assoc (take stretch.from done) (take place waiting) (front ++ left))
      ∙ sym (append_assoc (take stretch.from done ++ take place waiting) front left) in
      ap (drop (next_end stretch - length left)) all
      ∙ drop_at before left (next_end stretch - length left)
      (omega (arith, ap length all, length-append before left, length-take-le (next_end stretch) text end_within))

-- The lines that are cut are those that wait and a text after them.

pub parts_in : (held waiting : List ℕ) (place : ℕ) {before rest : List ℕ} → before ≡ take place waiting
    → rest ≡ drop place waiting → (held ++ before) ++ rest ≡ held ++ waiting
parts_in held waiting place before_is rest_is = rw (before_is, rest_is)
    (append_assoc held (take place waiting) (drop place waiting)
    ∙ ap (λ those. held ++ those) (take-append-drop place waiting))

pub before_in : (held waiting : List ℕ) (place : ℕ) {n k : ℕ} {before : List ℕ} → before ≡ take place waiting → n ≡ k
    → held ++ take place waiting ≡ but_last_lines newline n (held ++ waiting)
    → held ++ before ≡ but_last_lines newline k (held ++ waiting)
before_in held waiting place before_is same is =
    ap (λ those. held ++ those) before_is ∙ is ∙ ap (λ j. but_last_lines newline j (held ++ waiting)) same

-- Taking a text in, stretch by stretch.

-- The bytes of the open file and of the lines that wait can be counted.
pub waits_fit : {visible : Bool} {cutter next : CutterState} {text : List ℕ} (stretch : Stretch) {old new : List Slot}
    → Taking visible cutter next text stretch old new → load cutter + length text < 2 ^ 63
    → size_of next.writer.current + length next.window.held
    + length (take (stretch.end - stretch.from) (drop stretch.from text)) < 2 ^ 63
waits_fit {text = text} stretch so_far fits =
    let size = so_far.waits.size in let long = length-take-le stretch.end text so_far.within in
    let same = ap length (slice_is text stretch.from stretch.end so_far.from) in omega (arith, fits, size, long, same)

-- nothing of a text came in
pub taking_none : {visible : Bool} {cutter : CutterState} {text : List ℕ} {next : ℕ} {slots : List Slot}
    → IsSound cutter → IsReady cutter.writer slots → cutter.aim ≢ Below → (0 < next → Starts text next)
    → (next ≡ 0 → (cutter.aim ≡ Below) ⊎ (text ≡ []))
    → Taking visible cutter cutter text (record { from = 0; end = 0; next = next; is_found = false }) slots slots
taking_none sound ready live start none = record {
  waits = waits_none sound ready live;
  from = omega arith;
  within = omega arith;
  joins = inl (inl refl);
  next = λ some. (live, start some);
  none = none;
  found = λ is. absurd (cc);
}

-- complete lines stand before a next line
pub taking_within : {visible : Bool} {cutter now : CutterState} {text : List ℕ} {stretch : Stretch}
    {old new : List Slot} → Taking visible cutter now text stretch old new → 0 < stretch.next → IsWithin text stretch
taking_within {text = text} {stretch} so_far some = record {
  from = so_far.from;
  within = so_far.within;
  before = elim so_far.joins [
    | inl whole ↦ whole
    | inr none ↦ let a = (so_far.next some).1.within in absurd (omega (arith, ap length none))
  ];
}

-- no line is left, or lines go nowhere any more
pub settles_all : {visible : Bool} {cutter now next : CutterState} {text : List ℕ} (stretch : Stretch)
    {old mid new : List Slot} {fault : Option Fault} → Taking visible cutter now text stretch old mid
    → stretch.next ≡ 0
    → Settles visible now (take (stretch.end - stretch.from) (drop stretch.from text)) mid new next fault
    → Takes visible cutter text old new next fault
settles_all {visible} {cutter} {now} {next} {text} stretch {old} {mid} {new} {fault} so_far none settles =
    subst (λ those. Takes visible cutter those old new next fault) (take-append-drop stretch.end text)
    (settles cutter (take stretch.end text) (drop stretch.end text) old
    (subst (Waits visible cutter _ old mid now) (sym (slice_is text stretch.from stretch.end so_far.from)) so_far.waits)
    (so_far.none none) so_far.joins)

pub hold_settles : {visible : Bool} {now next : CutterState} {pending : List ℕ} {old new : List Slot}
    {fault : Option Fault}
    → (now.aim ≡ Below → ⊥) → HoldsLines visible now (now.window.held ++ pending) old new next fault
    → Settles visible now pending old new next fault
hold_settles differs held first done rest slots waits (inl aim) joins = absurd (differs aim)
hold_settles differs held first done rest slots waits (inr none) joins =
    rw (none, append-nil done) (held_takes waits differs held)

pub past_settles : {visible : Bool} {now : CutterState} {window : Window} {pending : List ℕ} {n : ℕ}
    {slots : List Slot}
    → now.aim ≡ Below → n ≡ length now.window.held → window ≡ without_first now.window n
    → Settles visible now pending slots slots (record now { window = window }) None
past_settles {visible} {now} {window} {slots = slots} aim all dropped first done rest old waits either joins =
    subst (λ those. Takes visible first (done ++ rest) old slots (record now { window = those }) None) (sym none)
    (past_takes rest waits aim joins) where
      none : window ≡ record now.window { held = [] }
      none = search (rules, drop_all)
