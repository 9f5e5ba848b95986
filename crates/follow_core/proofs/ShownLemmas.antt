-- Lemmas on looks that see what is visible: the snapshot and the fate decide what calls give.
use Rattle.std.proofs.{
  lemmas.{
    Grind.common_steps,
    List.{length-drop, drop-drop as drop_drop, take-append-drop, take_all},
    Bool.{false≢true, eq-eqb, Decides.nat_tests},
  },
  Common.{◌≡◌, ℕ, Bool, List, [], ◌∷◌, ◌++◌, inl, inr, ◌∙◌, ap, ◌+◌, length, take, true, false, Some},
  Common.{None, Option, refl, sym, arith, ◌-◌, ◌≤◌, drop, is_some},
  Math.Seq.take-add,
}
use Rattle.watch_core.specs.Snapshot.{Snapshot}
use Rattle.follow_core.specs.{
  declared.notice.Notice.Notice,
  Event.{Begins, Event, begins_none, begins_on, after_change, all_but, all_held, came_of, change_between, due_from},
  Event.gives,
  Event.{notes, notes_in, notes_past},
  Look.{Fate, sound, unread},
  Reading.{AreRead, Caught, Changed, First, Later, LedTo, ReadOn, begun, came_all, came_early, first_unmeasured},
  Reading.{first_unsought, measured, none_read, not_asked, not_begun, not_led, not_measured, not_open, not_opened},
  Reading.{not_told, one_more},
  Reading.{opened_there, read_all, read_none, read_part, read_some, unchanged},
  Share.{Due, came_before, due_later, given_by, is_kept, led_before, left_from},
  Version.{held_at, is_same, open_after_look},
}
use Rattle.follow_core.proofs.EventLemmas.{begins_after, begins_bytes, begins_more}

-- what was given, by how far calls came: what comes before the call that failed, or a beginning of what is due
abbrev pub AreBy : (Fate → List Event) → List Event → Option Fate → List Event → Type 0
AreBy before due (Some fate) events = events ≡ before fate
AreBy before due None events = Begins events due

reads_are : {snapshot : Snapshot} {name : List ℕ} {file : Option ℕ} {from : ℕ} {bytes : List ℕ} {at : ℕ}
    → AreRead true snapshot name file from bytes at
    → (from ≤ at) × (bytes ≡ take (at - from) (drop from (held_at snapshot file)))
reads_are {from = from} none_read = (omega arith, let none : from - from ≡ 0 = omega arith in rw none refl)
reads_are {snapshot} {file = file} {from} (one_more {bytes = bytes} {at} piece read saw) =
    let (past, is) = reads_are read in
    let count : (at + length piece) - from ≡ (at - from) + length piece = omega arith in
    let place : from + (at - from) ≡ at = omega arith in (
      omega arith,
      rw (count, take-add, drop_drop, place) (λ i. is i ++ (saw.1 refl).0 i),
    )

-- what reads gave after these lines
noted_are : {snapshot : Snapshot} {name : List ℕ} {file : Option ℕ} {from len : ℕ} {reach : Option Fate}
    {events : List Event} (past : List Event) {due : List Event} (before : Fate → List Event)
    → due ≡ past ++ gives (drop from (held_at snapshot file)) ∷ []
    → before sound ≡ due → ((at : ℕ) → before (unread file at) ≡ all_but (left_from snapshot file at) due)
    → ((left : ℕ) (more : List Event) → all_but left (past ++ more) ≡ past ++ all_but left more)
    → len ≡ length (held_at snapshot file) → ReadOn true snapshot name file from len reach events
    → AreBy before due reach (past ++ events)
noted_are {snapshot} {file = file} {from} past before is whole part apart long (read_all {at = at} read over) =
    let held = held_at snapshot file in let (beyond, are) = reads_are read in let size = length-drop from held in
    let end : length held ≤ at = elim over [ inl within ↦ omega (arith, within, long) | inr saw ↦ (saw.1 refl).1 refl ] in
    rw (whole, is) (ap (λ those. past ++ gives those ∷ [])
    (are ∙ take_all (at - from) (drop from held) (omega (arith, end, size))))
noted_are {snapshot} {file = file} {from} past before is whole part apart long (read_part {at = at} read below can) =
    let held = held_at snapshot file in let (beyond, are) = reads_are read in let size = length-drop from held in
    let left : length (drop from held) - (length held - at) ≡ at - from = omega (arith, size, below, long, beyond) in
    rw (part at, is, apart) (rw left (ap (λ those. past ++ gives those ∷ []) are))
noted_are {snapshot} {file = file} {from} past before is whole part apart long (read_some {at = at} read) =
    let held = held_at snapshot file in
    rw is (begins_after past (begins_bytes (
      drop (at - from) (drop from held),
      sym (take-append-drop (at - from) (drop from held)) ∙ ap (λ those. those ++ drop (at - from) (drop from held)) (sym (reads_are read).1),
    )))
noted_are past before is whole part apart long read_none = rw is (begins_after past begins_none)

past_apart : (seen len : ℕ) (left : ℕ) (more : List Event)
    → all_but left (notes_past seen len ++ more) ≡ notes_past seen len ++ all_but left more
past_apart seen len left more = grind (arith, common_steps)

came_is : (snapshot : Snapshot) (file : Option ℕ) (seen : ℕ) → is_some file ≡ true
    → came_of snapshot file seen ≡ notes_past seen (length (held_at snapshot file))
    ++ gives (drop (due_from seen (length (held_at snapshot file))) (held_at snapshot file)) ∷ []
came_is snapshot None seen some = absurd (false≢true some)
came_is snapshot (Some file) seen some = refl

pub caught_are : {snapshot : Snapshot} {name : List ℕ} {file : Option ℕ} {seen : ℕ} {reach : Option Fate}
    {events : List Event} → Caught true snapshot name file seen reach events
    → AreBy (λ fate. came_before snapshot fate (came_of snapshot file seen)) (came_of snapshot file seen) reach events
caught_are (not_open none) = rw none refl
caught_are (not_measured some can) = refl
caught_are {snapshot} {file = file} {seen} (measured {len = len} some saw read) =
    let long = saw.1 refl in
    noted_are (notes_past seen len) (λ fate. came_before snapshot fate (came_of snapshot file seen))
    (came_is snapshot file seen some ∙ sym (ap
    (λ those. notes_past seen those ++ gives (drop (due_from seen those) (held_at snapshot file)) ∷ []) long))
    refl (λ at. refl) (past_apart seen len) long read

-- Where the name leads.

pub unchanged_same : (file : Option ℕ) → change_between file file ≡ None
unchanged_same None = refl
unchanged_same (Some file) = grind (arith, common_steps, eq-eqb)

held_notes : (snapshot : Snapshot) (file : Option ℕ) (notice : Notice)
    → notes_in (notes notice ∷ all_held snapshot file) ≡ notes notice ∷ []
held_notes snapshot None notice = refl
held_notes snapshot (Some file) notice = refl

held_is : (snapshot : Snapshot) (file : Option ℕ) (len : ℕ) → is_some file ≡ true
    → all_held snapshot file ≡ notes_past 0 len ++ gives (drop (due_from 0 len) (held_at snapshot file)) ∷ []
held_is snapshot None len some = absurd (false≢true some)
held_is snapshot (Some file) len some = grind (arith, common_steps, nat_tests)

-- a line about a change, and then what came of the new file
then_are : {snapshot : Snapshot} {name : List ℕ} {file : Option ℕ} {reach : Option Fate} {events : List Event}
    (notice : Notice) → Caught true snapshot name file 0 reach events
    → AreBy (λ fate. led_before snapshot fate (notes notice ∷ all_held snapshot file))
    (notes notice ∷ all_held snapshot file) reach (notes notice ∷ events)
then_are notice (not_open none) = rw none refl
then_are {snapshot} {file = file} notice (not_measured some can) = sym (held_notes snapshot file notice)
then_are {snapshot} {file = file} notice (measured {len = len} some saw read) =
    noted_are (notes notice ∷ notes_past 0 len) (λ fate. led_before snapshot fate (notes notice ∷ all_held snapshot file))
    (ap (λ those. notes notice ∷ those) (held_is snapshot file len some)) refl (λ at. refl)
    (λ left more. ap (λ those. notes notice ∷ those) (past_apart 0 len left more)) (saw.1 refl) read

due_is : {snapshot : Snapshot} {name : List ℕ} {opened : Option ℕ} {notice : Notice}
    → Changed true snapshot name opened notice
    → after_change (change_between opened (snapshot.leads name)) (all_held snapshot (snapshot.leads name))
    ≡ notes notice ∷ all_held snapshot (snapshot.leads name)
due_is {snapshot} {name} {opened} changed = ap (λ those. after_change those (all_held snapshot (snapshot.leads name)))
    (ap (change_between opened) (sym (changed.saw.1 refl)) ∙ changed.is)

led_are : {by_name : Bool} {snapshot : Snapshot} {name : List ℕ} {opened : Option ℕ} {reach : Option Fate}
    {events : List Event} → LedTo true by_name snapshot name opened reach events
    → let led = open_after_look by_name name opened snapshot in
    let due = after_change (change_between opened led) (all_held snapshot led) in
    AreBy (λ fate. led_before snapshot fate due) due reach events
led_are {snapshot = snapshot} {opened = opened} (not_asked by) =
    rw by (sym (ap (λ those. after_change those (all_held snapshot opened)) (unchanged_same opened)))
led_are (not_led by can) = refl
led_are {snapshot = snapshot} {name} {opened} (unchanged by saw none) =
    rw by (sym (ap (λ those. after_change those (all_held snapshot (snapshot.leads name)))
    (ap (change_between opened) (sym (saw.1 refl)) ∙ none)))
led_are (not_told by changed) = rw (by, due_is changed) (begins_on begins_none)
led_are {snapshot = snapshot} {name} (not_opened {notice = notice} by changed can) =
    rw (by, due_is changed) (sym (held_notes snapshot (snapshot.leads name) notice))
led_are {snapshot = snapshot} {name} (opened_there {notice = notice} {file} by changed saw caught) =
    rw (by, due_is changed, ← (saw.1 refl)) (then_are notice caught)

change_led : (opened led : Option ℕ) {notice : Notice} → change_between opened led ≡ Some notice
    → is_same led opened ≡ false
change_led opened led is = grind (arith, common_steps)

-- a call that failed was no call on this file
abbrev IsElse : Option ℕ → Option Fate → Type 0
IsElse opened None = Unit {0}
IsElse opened (Some fate) = is_kept opened fate ≡ false

caught_else : {snapshot : Snapshot} {name : List ℕ} {file : Option ℕ} {seen : ℕ} {reach : Option Fate}
    {events : List Event} (opened : Option ℕ) → Caught true snapshot name file seen reach events
    → is_same file opened ≡ false → IsElse opened reach
caught_else opened (not_open none) other = refl
caught_else opened (not_measured some can) other = other
caught_else opened (measured some saw (read_all read over)) other = refl
caught_else opened (measured some saw (read_part read below can)) other = other
caught_else opened (measured some saw read_none) other = tt
caught_else opened (measured some saw (read_some read)) other = tt

led_else : {by_name : Bool} {snapshot : Snapshot} {name : List ℕ} {opened : Option ℕ} {reach : Option Fate}
    {events : List Event} → LedTo true by_name snapshot name opened reach events → IsElse opened reach
led_else (not_asked by) = refl
led_else (not_led by can) = refl
led_else (unchanged by saw none) = refl
led_else (not_told by changed) = tt
led_else (not_opened by changed can) = refl
led_else {opened = opened} (opened_there {file = file} by changed saw caught) =
    caught_else opened caught (change_led opened file
    (ap (change_between opened) (saw.1 refl ∙ sym (changed.saw.1 refl)) ∙ changed.is))

-- A later look, and the first look.

same_self : (file : Option ℕ) → is_some file ≡ true → is_same file file ≡ true
same_self None some = absurd (false≢true some)
same_self (Some file) some = grind (arith, common_steps, eq-eqb)

early_are : {snapshot : Snapshot} {name : List ℕ} {opened : Option ℕ} {seen : ℕ} {reach : Option Fate}
    {events : List Event} (due : Due) → due.came ≡ came_of snapshot opened seen → (reach ≡ Some sound → ⊥)
    → Caught true snapshot name opened seen reach events
    → AreBy (given_by due snapshot opened) (due.came ++ due.led) reach events
early_are due is early (not_open none) = absurd (early refl)
early_are {opened = opened} due is early (not_measured some can) = rw (same_self opened some) refl
early_are due is early (measured some saw (read_all read over)) = absurd (early refl)
early_are {opened = opened} due is early (measured some saw (read_part read below can)) =
    rw (same_self opened some, is) (caught_are (measured some saw (read_part read below can)))
early_are {snapshot} {name} due is early (measured some saw read_none) =
    rw is (begins_more due.led (caught_are {snapshot = snapshot} {name = name} (measured some saw read_none)))
early_are due is early (measured some saw (read_some read)) =
    rw is (begins_more due.led (caught_are (measured some saw (read_some read))))

all_are : (snapshot : Snapshot) (opened : Option ℕ) {came : List Event} (led : List Event) (due : Due)
    (reach : Option Fate) → came ≡ due.came → AreBy (λ fate. led_before snapshot fate due.led) due.led reach led
    → IsElse opened reach → AreBy (given_by due snapshot opened) (due.came ++ due.led) reach (came ++ led)
all_are snapshot opened led due (Some fate) first second other = rw other (λ i. first i ++ second i)
all_are snapshot opened led due None first second other = rw first (begins_after due.came second)

pub later_are : {by_name : Bool} {snapshot : Snapshot} {name : List ℕ} {opened : Option ℕ} {seen : ℕ}
    {reach : Option Fate} {events : List Event} → Later true by_name snapshot name opened seen reach events
    → let due = due_later by_name name opened seen snapshot in
    AreBy (given_by due snapshot opened) (due.came ++ due.led) reach events
later_are {by_name} {snapshot} {name} {opened} {seen} (came_early early caught) =
    early_are (due_later by_name name opened seen snapshot) refl early caught
later_are {by_name} {snapshot} {name} {opened} {seen} {reach} (came_all {led = led} first second) =
    all_are snapshot opened led (due_later by_name name opened seen snapshot) reach (caught_are first) (led_are second)
    (led_else second)

same_none : (file : Option ℕ) → is_same file None ≡ false
same_none None = refl
same_none (Some file) = refl

pub first_are : {snapshot : Snapshot} {name : List ℕ} {file : Option ℕ} {seeks : Bool} {start : List ℕ → List ℕ}
    {reach : Option Fate} {events : List Event} → file ≡ snapshot.leads name
    → First true snapshot name file seeks start reach events
    → let due : Due = record { came = []; led = gives (start (held_at snapshot (snapshot.leads name))) ∷ [] } in
    AreBy (given_by due snapshot None) due.led reach events
first_are leads not_begun = begins_none
first_are {file = file} leads (first_unmeasured can) = rw (same_none file) refl
first_are leads (first_unsought seeks can) = refl
first_are {snapshot} {file = file} {start = start} leads (begun saw part read) =
    noted_are [] _ (ap (λ those. gives those ∷ []) (ap (λ those. start (held_at snapshot those)) (sym leads) ∙ sym (part refl)))
    refl (λ at. rw (same_none file) refl) (λ left more. refl) (saw.1 refl) read
