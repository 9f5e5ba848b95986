-- Lemmas on what the outputs have after a look at a name.
use Rattle.follow_core.specs.{
  Standing.{CanVisit, NameState, IsFollowed, IsLeft, Stands},
  declared.{
    visitor.Stop.{Stop, TheVariants.{Broke, Over}},
    name.Standing.{Standing, TheVariants.{Followed, Left}},
  },
  Reading.{AreAtLook, AreFound, CallsFind, Caught, First, IsFound, IsLong, IsMissing, LedTo, LookGives, NoneBreaks, ReadOn, Saw},
  Reading.{at_first, at_later, begun, came_all, came_early, first_unmeasured, first_unsought, looks_more, measured},
  Reading.names_more,
  Reading.{no_looks, not_asked, not_begun, not_led, not_measured, not_open, not_opened, not_told, opened_there},
  Reading.read_all,
  Reading.{read_none, read_part, read_some, unchanged},
  Event.{Begins, Event, came_of, gives, remarks_in},
  Version.{entries_led, held_at, open_after_later, open_after_look},
  Gain.gains_after,
  inner.{
    Giving.{Are, BrokeAt, ByStop, Came, Follows, Yields, Moment, Pen, Shared, Sight, Starts, fault_by, is_read, moment},
    Giving.{LooksAgain, stop_in, text_under},
    Visits.{SaysFailed, StandsBefore, TellsStop, Visited, VisitsBy},
  },
  Look.{Fate, Look, Visit, Ways, broken_by, can_meet, entries_in, failed_by, failed_in, fate_at, is_dropped, is_first},
  Look.{snapshots, sound, sound_visit, unopened, visit_at},
  Notice.is_missing,
  FollowState.new_state,
  Share.{Due, Share, due_at, due_later, events_at, failure_of, failure_remark, given_at, given_by, is_unopened},
  Share.missing_share,
  Share.{no_share, opened_in, share_by},
  Printing.PrinterState,
  Telling.{Failure, Remark, Tells, failed, failure_message, tail_by},
}
use Rattle.follow_core.proofs.{
  CallLemmas.{came_none, failure_said, wrote_after, wrote_line},
  CallGivesLemmas.{broke_at, broke_why, gives_both, gives_none, gives_so, keeps_others, none_of, opened_now, some_of},
  CatchLemmas.long_by,
  EventLemmas.begins_trans,
  ShownLemmas.{AreBy, first_are, later_are},
  LookLemmas.{broke_by, broken_more, broken_sound, failed_more, failed_sound, open_more, seeing},
}
use Rattle.std.proofs.{
  lemmas.Grind.common_steps,
  Common.{◌⊎◌, ◌≡◌, ◌<◌, ◌+◌, arith, zero, suc, ℕ, Bool, true, false, not, List, [], ◌∷◌, ◌++◌, length, Option, Some},
  Common.{None, refl, sym, ◌∙◌, ap, if◌then◌else◌, subst, inl, inr, ◌&&◌, Result, Ok, Err, IsTrue, is_none},
  Common.{get_or, is_some},
  lemmas.{List.{append-nil, map-append}, Bool.{false≢true, not-true}},
}
use Rattle.watch_core.{
  specs.{
    Snapshot.{Snapshot, latest, opens_as},
    Watched.{NameBreaks, Reopens, Watched, is_watchable, no_name, opens, watched_at},
  },
  proofs.NameLemmas.{latest-last, watchable_within},
}
use Rattle.ports_core.{
  specs.{
    Slot.{Slot, changed_at},
    Message.{OnError, SaysOn},
    declared.{reason.Reason.Reason, fault.Fault.{Fault, TheVariants.Open}},
  },
  proofs.SlotLemmas.changed_there,
}
use Rattle.watch_core.specs.declared.watch.Broken.TheVariants as broken

-- The outputs have what the look gives for the name, by its visit. If what looks see isn't visible, they have a share.
pub record Looked (see : Sight) (ways : Ways) (before : List Look) (name : List ℕ) (old new : Moment)
    (has_failed : Bool) (visit : Visit) : Type 0 where
  pub share : Share
  pub is_share : see.visible_in ≡ true → (visits : List Visit)
      → share ≡ share_by ways name before (seeing see.snapshot visits) visit
  pub found : IsFound see.visible_in ways before see.snapshot name visit share
      ⊎ IsMissing see.visible_in before see.snapshot name visit share
  pub failed : is_some share.failure ≡ has_failed
  pub shared : Shared see.visible share old.pen new.pen None

-- the message of a failure is written after what was given
said_after : {visible opened : Bool} {name bytes : List ℕ} (line : Remark) {lines : List Remark} {old mid : Pen}
    {slots : List Slot}
    → Came visible opened name bytes lines old mid None
    → OnError (Tells visible old.printer.calling line) mid.slots slots
    → Came visible opened name bytes (lines ++ line ∷ []) old (record mid { slots = slots }) None
said_after {visible} {opened} {name} {bytes} line {old = old} came says = record {
  printer_is = came.printer_is;
  slots = wrote_after _ _ _ _ _ _ _ None (append-nil (text_under old.printer opened name bytes)) refl came.slots (wrote_line visible _ line says);
}

fault_line : (name : List ℕ) (visit : Visit) → is_some (broken_by visit.fate) ≡ true
    → (failed (record { fault = fault_by 0 visit.fate; why = visit.why }) name ∷ []
    ≡ failure_remark name (failure_of visit)) × (is_some (failure_of visit) ≡ true)
fault_line name visit = by visit.fate where
  by : (fate : Fate) → is_some (broken_by fate) ≡ true → let those : Visit = record { fate = fate; why = visit.why } in
      (failed (record { fault = fault_by 0 fate; why = visit.why }) name ∷ []
      ≡ failure_remark name (failure_of those)) × (is_some (failure_of those) ≡ true)
  by sound broke = absurd (false≢true broke)
  by fate broke = (refl, refl)

-- what a call that failed has to fit: the look, whether it opened the file, and whether calls can fail
abbrev Fits : (first by_name seeks can : Bool) → Option Fate → Type 0
Fits first by_name seeks can None = Unit {0}
Fits first by_name seeks can (Some fate) = (can_meet first by_name seeks fate ≡ true)
    × ((not (is_unopened fate) && first) ≡ first) × ((fate ≡ sound) ⊎ (can ≡ true))

read_fits : {visible : Bool} {snapshot : Snapshot} {name : List ℕ} {file : Option ℕ} {from len : ℕ}
    {reach : Option Fate}
    {events : List Event} (first by_name seeks : Bool) → ReadOn visible snapshot name file from len reach events
    → Fits first by_name seeks (snapshot.breaks name) reach
read_fits first by_name seeks (read_all read over) = (refl, refl, inl refl)
read_fits first by_name seeks (read_part read below can) = (refl, refl, inr can)
read_fits first by_name seeks read_none = tt
read_fits first by_name seeks (read_some read) = tt

caught_fits : {visible : Bool} {snapshot : Snapshot} {name : List ℕ} {file : Option ℕ} {seen : ℕ} {reach : Option Fate}
    {events : List Event} (by_name seeks : Bool) → Caught visible snapshot name file seen reach events
    → Fits false by_name seeks (snapshot.breaks name) reach
caught_fits by_name seeks (not_open none) = (refl, refl, inl refl)
caught_fits by_name seeks (not_measured some can) = (refl, refl, inr can)
caught_fits by_name seeks (measured some saw read) = read_fits false by_name seeks read

led_fits : {visible by_name : Bool} {snapshot : Snapshot} {name : List ℕ} {opened : Option ℕ} {reach : Option Fate}
    {events : List Event} (seeks : Bool) → LedTo visible by_name snapshot name opened reach events
    → Fits false by_name seeks (snapshot.breaks name) reach
led_fits seeks (not_asked by) = (refl, refl, inl refl)
led_fits seeks (not_led by can) = (by, refl, inr can)
led_fits seeks (unchanged by saw none) = (refl, refl, inl refl)
led_fits seeks (not_told by changed) = tt
led_fits seeks (not_opened by changed can) = (by, refl, inr can)
led_fits {by_name = by_name} seeks (opened_there by changed saw caught) = caught_fits by_name seeks caught

look_fits : {visible : Bool} {ways : Ways} {snapshot : Snapshot} {name : List ℕ} {reach : Option Fate}
    {events : List Event}
    (looks : List Look) → LookGives visible ways looks snapshot name reach events
    → Fits (is_first looks) ways.by_name ways.seeks (snapshot.breaks name) reach
look_fits [] (at_first file saw not_begun) = tt
look_fits [] (at_first file saw (first_unmeasured can)) = (refl, refl, inr can)
look_fits [] (at_first file saw (first_unsought seeks can)) = (seeks, refl, inr can)
look_fits {ways = ways} [] (at_first file saw (begun long part read)) = read_fits true ways.by_name ways.seeks read
look_fits {ways = ways} (first ∷ looks) (at_later opened seen long (came_early early caught)) =
    caught_fits ways.by_name ways.seeks caught
look_fits {ways = ways} (first ∷ looks) (at_later opened seen long (came_all came led)) = led_fits ways.seeks led

-- what is due was given; if a call on the name failed, what comes before it; if following ended, a beginning
abbrev pub AreGiven : Option Stop → List Event → (due before : List Event) → Type 0
AreGiven None events due before = events ≡ due
AreGiven (Some (Broke why)) events due before = events ≡ before
AreGiven (Some (Over why)) events due before = Begins events due

are_by : {Is : Option Fate → List Event → Type 0} {due : List Event} (fate : Fate) (before : Fate → List Event)
    (stop : Option Stop) (events : List Event) → before sound ≡ due
    → ((reach : Option Fate) (events : List Event) → Is reach events → AreBy before due reach events)
    → ByStop Is fate stop events → AreGiven stop events due (before fate)
are_by fate before None events whole so given = so (Some sound) events given ∙ whole
are_by fate before (Some (Broke why)) events whole so given = so (Some fate) events given
are_by fate before (Some (Over why)) events whole so (all, is, begins) = begins_trans begins (so None all is)

-- the events are those of a look after these by the snapshot and by this fate, at which the name isn't missing
abbrev IsShown : Ways → List Look → Snapshot → List ℕ → Fate → Option Stop → List Event → Type 0
IsShown ways before snapshot name fate stop events = (visits : List Visit) → let look = seeing snapshot visits in
    ((is_first before && is_missing (entries_in ways name (before ++ look ∷ []))) ≡ false)
    × AreGiven stop events (events_at ways name before look)
    (given_by (due_at ways name before look) snapshot (opened_in ways name before) fate)

abbrev shared_as : (opened : Bool) → List ℕ → List Event → Option Failure → Share
shared_as opened name events failure = record { name = name; is_opened = opened; events = events; failure = failure }

module _ {see : Sight} {ways : Ways} {before : List Look} {name : List ℕ} {old mid : Moment} where
  -- all that is due was given
  pub looked_whole : {fate : Fate}
      (ends : Yields see.visible (LookGives see.visible_in ways before see.snapshot name) fate
      (is_first before) name old mid None)
      → (see.visible_in ≡ true → IsShown ways before see.snapshot name fate None ends.events)
      → Looked see ways before name old mid false sound_visit
  looked_whole ends shown = record {
    share = shared_as (is_first before) name ends.events None;
    found = inl (record {
      named = refl;
      opened = refl;
      failed = refl;
      events = inr ends.given;
      broke = inl refl;
    });
    is_share = λ t visits. let (kept, are) = shown t visits in rw (are, kept) refl;
    failed = refl;
    shared = rw (append-nil (remarks_in name ends.events)) ends.came;
  }

  -- a call failed: what comes before it was given, and the message follows
  pub looked_broke : (place : ℕ) {slots : List Slot} {fault : Fault} (visit : Visit)
      → is_some (broken_by visit.fate) ≡ true → fault ≡ fault_by place visit.fate
      → (ends : Yields see.visible (LookGives see.visible_in ways before see.snapshot name) visit.fate
      (is_first before) name
      old mid (Some (Broke fault)))
      → (see.visible_in ≡ true → IsShown ways before see.snapshot name visit.fate (Some (Broke fault)) ends.events)
      → SaysFailed see.visible old.pen.printer.calling name visit.why fault mid.pen.slots slots
      → Looked see ways before name old (record mid { pen = record mid.pen { slots = slots } }) true visit
  looked_broke place visit broke is ends shown says =
      let line = fault_line name visit broke in let (met, openly, can) = look_fits before ends.given in record {
        share = shared_as (is_first before) name ends.events (failure_of visit);
        is_share = λ t visits. let (kept, are) = shown t visits in rw (line.1, openly, are) refl;
        found = inl (record {
          named = refl;
          opened = sym openly;
          failed = refl;
          events = inr ends.given;
          broke = can;
        });
        failed = line.1;
        shared = rw (← line.0) (said_after _ ends.came (failure_said (is_read visit.fate) place name (rw is at says)));
      }

-- The first look.

-- the entries of a name after the first look
entries_first : (ways : Ways) {name : List ℕ} (look : Look) {led : Option ℕ} → look.snapshot.leads name ≡ led
    → entries_in ways name (look ∷ []) ≡ entries_led look.snapshot None led
entries_first ways look is = append-nil _ ∙ ap (entries_led look.snapshot None) is

-- what is due at the first look of the file to which the name leads
due_first : (ways : Ways) {name : List ℕ} (look : Look) {file : ℕ} → look.snapshot.leads name ≡ Some file
    → record { came = []; led = gives (ways.start (held_at look.snapshot (look.snapshot.leads name))) ∷ [] }
    ≡ due_at ways name [] look
due_first ways look leads = ap (λ those. record { came = []; led = gives those ∷ [] })
    (ap (λ those. ways.start (held_at look.snapshot those)) leads
    ∙ sym (ap (gains_after ways.start []) (entries_first ways look leads) ∙ append-nil _))

-- what calls find is what is due
pub calls_find : (ways : Ways) (name : List ℕ) (before : List Look) (look : Look) (fate : Fate) (events : List Event)
    → CallsFind ways name before look (Some fate) events → events ≡ given_at ways name before look fate
calls_find ways name [] look fate events (file, leads, first) =
    subst (λ due. events ≡ given_by due look.snapshot None fate) (due_first ways look leads)
    (first_are {snapshot = look.snapshot} {name = name} {file = Some file} (sym leads) first)
calls_find ways name (first ∷ looks) look fate events later = later_are {snapshot = look.snapshot} {name = name} later

-- A later look.

-- What is due of a name at the look after these was given, without the message about a call that failed. If no call
-- failed, the file to which the name leads was seen up to its length.
pub record Gave (see : Sight) (ways : Ways) (looks : List Look) (place : ℕ) (name : List ℕ) (led : Option ℕ)
    (old new : Moment) (fate : Fate) (result : Result ℕ Stop) : Type 0 where
  pub kept : is_dropped place looks ≡ false
  pub ends : Yields see.visible (LookGives see.visible_in ways looks see.snapshot name) fate
      (is_first looks) name old new
      (stop_in result)
  pub shown : see.visible_in ≡ true → IsShown ways looks see.snapshot name fate (stop_in result) ends.events
  pub last : see.visible_in ≡ true → (ways.by_name ≡ false → is_some led ≡ true)
      × ((visits : List Visit) → led ≡ opened_in ways name (looks ++ seeing see.snapshot visits ∷ []))

-- One look more.
begun_more : (looks : List Look) (look : Look) → is_first (looks ++ look ∷ []) ≡ false
begun_more [] look = refl
begun_more (before ∷ looks) look = refl

some_call : (visit : Visit) → is_some (failed_by visit None) ≡ is_some (broken_by visit.fate)
some_call visit = by visit.fate where
  by : (fate : Fate) → is_some (failed_by (record { fate = fate; why = visit.why }) None) ≡ is_some (broken_by fate)
  by sound = refl
  by fate = refl

kept_more : (place : ℕ) (looks : List Look) (look : Look) {visit : Visit} → is_dropped place looks ≡ false
    → visit_at place look ≡ visit → is_dropped place (looks ++ look ∷ []) ≡ is_some (broken_by visit.fate)
kept_more place looks look {visit} kept at =
    ap is_some (failed_more place looks look (none_of (failed_in place looks) kept) at) ∙ some_call visit

-- a name on which no call failed at the last look is looked at again
through_stands : {visible : Bool} {ways : Ways} (looks : List Look) (look : Look) {place : ℕ} {name : List ℕ}
    {file led : Option ℕ} {len : ℕ}
    (watched : Watched) → watched.name ≡ name → is_none watched.failed ≡ true → is_dropped place looks ≡ false
    → fate_at place look ≡ sound → (visible ≡ true → file ≡ led)
    → (visible ≡ true → (ways.by_name ≡ false → is_some led ≡ true) × (led ≡ opened_in ways name (looks ++ look ∷ [])))
    → IsLong visible ways.by_name look.snapshot name file len
    → IsFollowed visible ways (looks ++ look ∷ []) place name (record watched { opened = file }) len
through_stands looks look watched named can kept at leads last long = grind
    (arith, common_steps, none_of, not-true, failed_sound, begun_more, map-append, latest-last)

-- what a look gave, and how the name stands after it
looked_visited : {see : Sight} {ways : Ways} {looks : List Look} {place : ℕ} {name : List ℕ} {old new : Moment}
    {has_failed : Bool} {standing : Standing} (visit : Visit) → is_dropped place looks ≡ false
    → Looked see ways looks name old new has_failed visit
    → ((visits : List Visit) → visit_at place (seeing see.snapshot visits) ≡ visit
    → Stands see.visible_in ways (looks ++ seeing see.snapshot visits ∷ []) place name (watched_at new.watched place)
    standing)
    → Visited see ways looks place (record { text = name; standing = standing }) old new has_failed
looked_visited visit kept looked stands = record {
  visit = visit;
  share = looked.share;
  found = λ visits at. record {
    is = λ t. rw (kept, at) (looked.is_share t visits);
    found = inr (kept, rw at looked.found);
  };
  is_failed = looked.failed;
  shared = looked.shared;
  stands = stands;
}

module _ {see : Sight} {ways : Ways} {place : ℕ} {one : NameState} {old new : Moment} where
  visits_by : (now : Standing) {failed : Bool} (change : Watched → Watched)
      → new.watched ≡ changed_at place change old.watched → IsTrue (is_watchable old.watched place)
      → CanVisit (record one { standing = now }) (change (watched_at old.watched place))
      → (watched_at new.watched place ≡ change (watched_at old.watched place) → (looks : List Look)
      → StandsBefore see ways looks place one old
      → Visited see ways looks place (record one { standing = now }) old new failed)
      → VisitsBy see ways place one old now new (Ok failed)
  visits_by now change is can ready visited = record {
    visited = visited there;
    stopped = tt;
    ready = subst (CanVisit _) (sym there) ready;
    others = keeps_others change is;
    halts = tt;
  } where
    there : watched_at new.watched place ≡ change (watched_at old.watched place)
    there = rw is (changed_there no_name place change old.watched (watchable_within old.watched place can))

  -- the name broke
  drops : (fate : Fate) (fault : Fault) → (watched_at old.watched place).name ≡ one.text
      → IsTrue (is_watchable old.watched place) → (broke : BrokeAt place old.watched new.watched fate fault)
      → ((looks : List Look) → StandsBefore see ways looks place one old
      → (is_dropped place looks ≡ false)
      × Looked see ways looks one.text old new true (record { fate = fate; why = broke.reason })
      × (can_meet (is_first looks) ways.by_name ways.seeks fate ≡ true))
      → VisitsBy see ways place one old Left new (Ok true)
  drops fate fault named can broke gave = visits_by Left _ broke.names can tt (λ there looks stands.
      let visit : Visit = record { fate = fate; why = broke.reason } in
      let (kept, looked, met) = gave looks stands in
      looked_visited visit kept looked (λ visits at. rw there (record {
        begun = begun_more looks (seeing see.snapshot visits);
        named = named;
        why = inl (kept_more place looks _ kept at ∙ broke.broke, broken_more looks _ (sym (broke_by visit)) kept at met, refl);
      })))

  -- no call on the name failed
  pub gave_through : {led : Option ℕ} {len : ℕ} (fate : Fate) → (watched_at old.watched place).name ≡ one.text
      → IsTrue (is_watchable old.watched place) → Follows see.visible_in led place old.watched new.watched fate None
      → ((looks : List Look) → StandsBefore see ways looks place one old
      → Gave see ways looks place one.text led old new fate (Ok len))
      → (let now =
      watched_at new.watched place in IsLong see.visible_in ways.by_name see.snapshot now.name now.opened len)
      → VisitsBy see ways place one old (Followed len) new (Ok false)
  gave_through {len = len} fate named can (file, is, leads) gave long =
      visits_by (Followed len) (opens file) is can (named, none_of (watched_at old.watched place).failed (not-true _ can))
      (λ there looks stands.
      let made = gave looks stands in looked_visited sound_visit made.kept (looked_whole made.ends made.shown)
      (λ visits at. rw there (through_stands looks (seeing see.snapshot visits) (watched_at old.watched place) named can made.kept
      (ap (λ (v : Visit). v.fate) at) leads (λ t. let (some, opened) = made.last t in (some, opened visits)) (rw (opened_now place old.watched is can, named) at long))))

  pub gave_fails : {led : Option ℕ} {slots : List Slot} {why : Reason} (fate : Fate) (stop : Stop) {now : Standing}
      {result : Result Bool Fault} → (watched_at old.watched place).name ≡ one.text
      → IsTrue (is_watchable old.watched place)
      → Follows see.visible_in led place old.watched new.watched fate (Some stop)
      → ((looks : List Look) → StandsBefore see ways looks place one old
      → Gave see ways looks place one.text led old (record new { pen = record new.pen { slots = slots } }) fate
      (Err stop))
      → (is_some (watched_at new.watched place).failed ≡ true → why ≡ (watched_at new.watched place).reason)
      → TellsStop (SaysFailed see.visible new.pen.printer.calling one.text why) slots now new.pen.slots stop result
      → VisitsBy see ways place one old now new result
  gave_fails {slots = slots} fate (Broke fault) named can broke gave reason (tells, left, says) = rw (tells, left) (drops fate fault named can broke (λ looks stands.
      let made = gave looks stands in (
        made.kept,
        looked_broke {mid = record new { pen = record new.pen { slots = slots } }} place (record { fate = fate; why = broke.reason })
            broke.broke broke.fault_is made.ends made.shown
            (rw (made.ends.came.printer_is refl, broke_why can broke reason) at says),
        (look_fits looks made.ends.given).0,
      )))
  gave_fails fate (Over fault) named can follows gave reason (tells, same) = rw tells (record {
    visited = tt;
    stopped = λ looks stands. let made = gave looks stands in (
      made.kept,
      record {
        share = shared_as (is_first looks) one.text made.ends.events None;
        begins = λ t visits. let (kept, are) = made.shown t visits in
            rw kept (record { name = refl; opened = refl; events = are; unfailed = refl });
        found = record {
          named = refl;
          opened = refl;
          unfailed = refl;
          all = made.ends.given.0;
          begins = made.ends.given.2;
          events = made.ends.given.1;
        };
        short = rw (append-nil (remarks_in one.text made.ends.events), same) made.ends.came;
      },
    );
    ready = tt;
    others = tt;
    halts = follows;
  })

-- How the first look ends.

pub first_missing : {see : Sight} {ways : Ways} {place : ℕ} {name : List ℕ} {old : Moment} {watched : List Watched}
    {slots : List Slot} {is_there : Bool} {reason : Reason} {now : Standing}
    → now ≡ (if ways.by_name then Followed 0 else Left)
    → Reopens see.visible_in see.snapshot old.watched watched place is_there → is_there ≡ false
    → (watched_at old.watched place).name ≡ name → IsTrue (is_watchable old.watched place)
    → (see.visible_in ≡ true → IsTrue (is_watchable watched place)
    → reason ≡ see.snapshot.missing (watched_at watched place).name)
    → SaysOn see.visible (tail_by old.pen.printer.calling) reason
    (failure_message (Open place) name) old.pen.slots slots
    → VisitsBy see ways place (new_state name) old now (moment watched old.pen.printer slots) (Ok true)
first_missing {see} {ways} {place} {name} {old} {watched} {slots} {reason = reason} is reopens gone named can why says =
    rw is (visits_by _ (opens None) (rw none at reopens.names) can (ready ways.by_name) (λ there looks fresh. rw fresh.0
    (looked_visited _ refl looked (λ visits at. rw there (stands visits at ways.by_name refl))))) where
      none : reopens.file ≡ None
      none = none_of reopens.file (reopens.found ∙ gone)

      nowhere : see.visible_in ≡ true → see.snapshot.leads name ≡ None
      nowhere t = sym (reopens.leads t ∙ ap see.snapshot.leads named) ∙ none

      lost : Saw see.visible_in see.snapshot name (opens_as None)
      lost = (rw (none, named) at reopens.opens, λ t. sym (nowhere t))

      left : watched_at watched place ≡ opens None (watched_at old.watched place)
      left = rw (reopens.names, none) (changed_there no_name place (opens None) old.watched (watchable_within old.watched place can))

      told : see.visible_in ≡ true → reason ≡ see.snapshot.missing name
      told t = why t (rw left can) ∙ ap see.snapshot.missing (ap (λ (w : Watched). w.name) left ∙ named)

      looked : Looked see ways [] name old (moment watched old.pen.printer slots) true (record { fate = sound; why = reason })
      looked = record {
        share = missing_share name reason;
        is_share = λ is visits. rw (told is) (grind (arith, common_steps, entries_first));
        found = inr (record { first = refl; kept = refl; nowhere = lost; is = refl });
        failed = refl;
        shared = said_after _ came_none (failure_said false place name says);
      }

      unbroken : (watched_at old.watched place).failed ≡ None
      unbroken = none_of (watched_at old.watched place).failed (not-true _ can)

      ready : (by_name : Bool)
          → CanVisit (record { text = name; standing = if by_name then Followed 0 else Left })
          (opens None (watched_at old.watched place))
      ready true = (named, unbroken)
      ready false = tt

      stands : (visits : List Visit)
          → visit_at place (seeing see.snapshot visits) ≡ record { fate = sound; why = reason } → (by_name : Bool)
          → ways.by_name ≡ by_name
          → Stands see.visible_in ways (seeing see.snapshot visits ∷ []) place name
          (opens None (watched_at old.watched place))
          (if by_name then Followed 0 else Left)
      stands visits at true way = through_stands [] (seeing see.snapshot visits) (watched_at old.watched place) named can refl
          (ap (λ (v : Visit). v.fate) at) (λ t. refl) (λ t. (
            λ other. absurd (false≢true (sym other ∙ way)),
            sym (nowhere t),
          )) (λ by. inr lost)
      stands visits at false way = record {
        begun = refl;
        named = named;
        why = inr (record {
          way = way;
          unbroken = unbroken;
          kept = kept_more place [] (seeing see.snapshot visits) refl at;
          closed = refl;
          unopened = nowhere;
        });
      }

pub first_unopened : {see : Sight} {ways : Ways} {place : ℕ} {name : List ℕ} {old : Moment} {watched : List Watched}
    {slots : List Slot} {fault : Fault} {why : Reason} {now : Standing} {result : Result Bool Fault}
    → (watched_at old.watched place).name ≡ name → IsTrue (is_watchable old.watched place)
    → fault ≡ Open place → NameBreaks (λ file. broken.Open) place old.watched watched
    → see.snapshot.breaks (watched_at old.watched place).name ≡ true
    → (is_some (watched_at watched place).failed ≡ true → why ≡ (watched_at watched place).reason)
    → TellsStop (SaysFailed see.visible old.pen.printer.calling name why) old.pen.slots now slots (Broke fault) result
    → VisitsBy see ways place (new_state name) old now (moment watched old.pen.printer slots)
    result
first_unopened {place = place} {name} {old} {watched} {fault = fault} named can is call fails reason (tells, left, says) =
    let broke : BrokeAt place old.watched watched unopened fault = broke_at (λ file. broken.Open) refl refl is call in
    rw (tells, left) (drops unopened fault named can broke (λ looks fresh. rw fresh.0 (
      refl,
      record {
        share = missing_share name broke.reason;
        is_share = λ is visits. refl;
        found = inl (record {
          named = refl;
          opened = refl;
          failed = refl;
          events = inl (refl, refl, refl);
          broke = inr (rw named at fails);
        });
        failed = refl;
        shared = said_after _ came_none (failure_said false place name (rw (is, broke_why can broke reason) at says));
      },
      refl,
    )))

-- A call on the file that was just opened failed.

-- the file was opened; its start part was given under its header, or what comes before a call that failed
pub first_gave : {see : Sight} {ways : Ways} {place : ℕ} {name : List ℕ} {inside : PrinterState} {old new : Moment}
    {mid : List Watched} {is_there : Bool} {fate : Fate} {result : Result ℕ Stop}
    → inside ≡ old.pen.printer → (reopens : Reopens see.visible_in see.snapshot old.watched mid place is_there)
    → is_there ≡ true → (watched_at old.watched place).name ≡ name
    → Yields see.visible (First see.visible_in see.snapshot name reopens.file ways.seeks ways.start) fate true name
    (record old { pen = record old.pen { printer = inside } }) new (stop_in result)
    → (looks : List Look) → StandsBefore see ways looks place (new_state name) old
    → Gave see ways looks place name (see.snapshot.leads name) old new fate result
first_gave {see} {ways} {name = name} {old = old} {new} {fate = fate} {result} viewed reopens there named gave looks fresh =
    let (file, is) = some_of reopens.file (reopens.found ∙ there) in
    let saw : Saw see.visible_in see.snapshot name (opens_as (Some file))
    = (rw (is, named) at reopens.opens, λ t. rw (is, named) at (reopens.leads t)) in
    let ends = rw (viewed, is) at gave in rw fresh.0 (record {
      kept = refl;
      ends = gives_so (λ reach events. at_first file saw) ends;
      shown = λ t visits.
          let look = seeing see.snapshot visits in
          let leads = sym (saw.1 t) in
          let same : due ≡ due_at ways name [] look = due_first ways look leads in (
            ap is_missing (entries_first ways look leads),
            subst (λ those. AreGiven (stop_in result) ends.events (those.came ++ those.led) (given_by those see.snapshot None fate))
                same (are_by fate (given_by due see.snapshot None) (stop_in result) ends.events refl
                (λ reach events. first_are {snapshot = see.snapshot} {name = name} {file = Some file} {seeks = ways.seeks}
                {start = ways.start} (saw.1 t)) (rw t at ends.given)),
          );
      last = λ t. (λ way. ap is_some (sym (saw.1 t)), λ visits. refl);
    }) where
      due : Due
      due = record { came = []; led = gives (ways.start (held_at see.snapshot (see.snapshot.leads name))) ∷ [] }

pub first_long : {visible_in : Bool} {snapshot : Snapshot} (visible by_name : Bool) (seen : Snapshot) {place : ℕ}
    (len : ℕ)
    {old mid new : List Watched} {is_there : Bool} → Reopens visible_in snapshot old mid place is_there
    → is_there ≡ true
    → IsTrue (is_watchable old place) → new ≡ mid
    → IsLong visible false seen (watched_at mid place).name (watched_at mid place).opened len
    → IsLong visible by_name seen (watched_at new place).name (watched_at new place).opened len
first_long visible by_name seen {place} len {old} reopens there can same long = rw same (long_by seen len _
    (λ none is. absurd (false≢true (ap is_some (sym none ∙ ap (λ (w : Watched). w.opened)
    (opened_now place old reopens.names can)) ∙ reopens.found ∙ there))) long)

pub first_started : {see : Sight} {ways : Ways} {now : Snapshot} {place : ℕ} {name : List ℕ} {inside : PrinterState}
    {old mid new : Moment} {is_there : Bool} {result : Result ℕ Stop} → inside ≡ old.pen.printer
    → Reopens see.visible_in see.snapshot old.watched mid.watched place is_there → is_there ≡ true
    → (watched_at old.watched place).name ≡ name → IsTrue (is_watchable old.watched place) → now ≡ see.snapshot
    → Yields see.visible (Are []) sound true name (record old { pen = record old.pen { printer = inside } }) mid None
    → (starts : Starts (record see { snapshot = now }) ways.seeks ways.start place name mid new (stop_in result))
    → (looks : List Look) → StandsBefore see ways looks place (new_state name) old
    → Gave see ways looks place name (see.snapshot.leads name) old new starts.fate result
first_started {see} {now = now} {place} {name} {old = old} {mid} viewed reopens there named can same header starts =
    first_gave viewed reopens there named (gives_both (λ reach events more are first. rw are first) header
    (rw (known, same, opened) at starts.ends)) where
      is : watched_at mid.watched place ≡ record (watched_at old.watched place) { opened = reopens.file }
      is = opened_now place old.watched reopens.names can

      known : (watched_at mid.watched place).name ≡ name
      known = ap (λ (w : Watched). w.name) is ∙ named

      opened : (watched_at mid.watched place).opened ≡ reopens.file
      opened = ap (λ (w : Watched). w.opened) is

-- a later look at a name whose file was seen up to some place
pub later_gave : {see : Sight} {ways : Ways} {place : ℕ} {name : List ℕ} {position : ℕ} {old new : Moment}
    {result : Result ℕ Stop} → (again : LooksAgain see ways.by_name place name position old new result)
    → (looks : List Look)
    → Stands see.visible_in ways looks place name (watched_at old.watched place) (Followed position)
    → Gave see ways looks place name (open_after_look ways.by_name name (watched_at old.watched place).opened
    see.snapshot)
    old new again.fate result
later_gave again [] followed = absurd (false≢true (sym followed.begun))
later_gave {see} {ways} {place} {name} {position} {old} {result = result} again (before ∷ looks) followed =
    let ends = rw followed.named at again.ends in record {
      kept = followed.kept;
      ends = gives_so (λ reach events. at_later opened position followed.long) ends;
      shown = λ t visits. (
        refl,
        rw (
          ← (followed.stands t),
          ← (seen_same (latest (snapshots (before ∷ looks))) position see.snapshot opened
              (rw t at followed.long)),
        ) (are_by again.fate (given_by due see.snapshot opened) (stop_in result) ends.events refl
            (λ reach events later. later_are {by_name = ways.by_name} {snapshot = see.snapshot} {name = name} {opened = opened}
            {seen = position} later) (rw t at ends.given)),
      );
      last = λ t. (
        λ way. ap (λ by_name. is_some (open_after_look by_name name opened see.snapshot)) way ∙ followed.there t way,
        λ visits. ap (λ those. open_after_look ways.by_name name those see.snapshot) (followed.stands t)
            ∙ sym (open_more ways name before looks (seeing see.snapshot visits)),
      );
    } where
      opened : Option ℕ
      opened = (watched_at old.watched place).opened

      due : Due
      due = due_later ways.by_name name opened position see.snapshot

      seen_same : (last : Snapshot) (seen : ℕ) (snapshot : Snapshot) (file : Option ℕ)
          → IsLong true ways.by_name last name file seen → came_of snapshot file seen ≡ came_of snapshot file
          (length (held_at last file))
      seen_same last seen snapshot None long = refl
      seen_same last seen snapshot (Some file) long = ap (came_of snapshot (Some file)) (long.1 refl)

-- a later look at a name that can be looked at
module _ {see : Sight} {ways : Ways} {place : ℕ} {name : List ℕ} {position : ℕ} {old new : Moment}
    (can : CanVisit (record { text = name; standing = Followed position }) (watched_at old.watched place)) where
  -- no call failed
  pub looks_through : {len : ℕ} → LooksAgain see ways.by_name place name position old new (Ok len)
      → VisitsBy see ways place (record { text = name; standing = Followed position }) old (Followed len) new (Ok false)
  looks_through again = gave_through again.fate can.0 (rw can.1 refl) again.follows (later_gave again) again.long

  -- the look was stopped
  pub looks_short : {slots : List Slot} {why : Reason} {stop : Stop} {now : Standing} {result : Result Bool Fault}
      → LooksAgain see ways.by_name place name position old (record new { pen = record new.pen { slots = slots } })
      (Err stop)
      → (is_some (watched_at new.watched place).failed ≡ true → why ≡ (watched_at new.watched place).reason)
      → TellsStop (SaysFailed see.visible new.pen.printer.calling name why) slots now new.pen.slots stop result
      → VisitsBy see ways place (record { text = name; standing = Followed position }) old now new result
  looks_short {stop = stop} again = gave_fails again.fate stop can.0 (rw can.1 refl) again.follows (later_gave again)

-- A name that is looked at no more.

still_open : (name : List ℕ) (opened : Option ℕ) (snaps : List Snapshot)
    → open_after_later false name opened snaps ≡ opened
still_open name opened [] = refl
still_open name opened (snapshot ∷ snaps) = still_open name opened snaps

still_left : {visible : Bool} {ways : Ways} (looks : List Look) (look : Look) {place : ℕ} {name : List ℕ}
    {watched : Watched} → fate_at place look ≡ sound → IsLeft visible ways looks place name watched
    → IsLeft visible ways (looks ++ look ∷ []) place name watched
still_left [] look fine left = absurd (false≢true (sym left.begun))
still_left {ways} (before ∷ looks) look {place} {name} {watched} fine left = record {
  begun = refl;
  named = left.named;
  why = elim left.why [
    | inl (dropped, broke, closed) ↦ inl (
      ap is_some (failed_sound place (before ∷ looks) look fine)
          ∙ dropped,
      broken_sound (before ∷ looks) look fine broke,
      closed,
    )
    | inr missed ↦ inr (record {
      way = missed.way;
      unbroken = missed.unbroken;
      kept = ap is_some (failed_sound place (before ∷ looks) look fine) ∙ missed.kept;
      closed = missed.closed;
      unopened = λ t. grind (arith, common_steps, still_open, missed.way, missed.unopened t);
    })
  ];
}

pub left_visited : {see : Sight} {ways : Ways} {place : ℕ} {name : List ℕ} {now : Moment} (looks : List Look)
    → IsLeft see.visible_in ways looks place name (watched_at now.watched place)
    → Visited see ways looks place (record { text = name; standing = Left }) now now false
left_visited [] left = absurd (false≢true (sym left.begun))
left_visited {see} {ways} {place} {name} (first ∷ looks) left = elim left.why [
  | inl dropped ↦ record {
    visit = sound_visit;
    share = no_share name;
    found = λ visits at. record { is = λ t. rw dropped.0 refl; found = inl (dropped.0, refl) };
    is_failed = refl;
    shared = came_none;
    stands = λ visits at. still_left (first ∷ looks) (seeing see.snapshot visits) (ap (λ (v : Visit). v.fate) at) left;
  }
  -- if no file is open and names aren't followed, nothing is due
  | inr missed ↦
      looked_visited sound_visit missed.kept (looked_whole (gives_none sound
      (at_later None 0 (λ by. absurd (false≢true (sym missed.way ∙ by))) (came_all (not_open refl) (not_asked missed.way))))
      (λ t visits. (refl, grind (arith, common_steps, missed.unopened t, missed.way))))
      (λ visits at. still_left (first ∷ looks) (seeing see.snapshot visits) (ap (λ (v : Visit). v.fate) at) left)
]

-- Names on which no call can fail.

sound_among : {visible : Bool} {ways : Ways} {before : List Look} {look : Look} (from : ℕ) (names : List (List ℕ))
    {shares : List Share} → AreAtLook visible ways before look from names shares → (place : ℕ) → place < length names
    → look.snapshot.breaks (get_or names place []) ≡ false → failed_in (from + place) before ≡ None
    → fate_at (from + place) look ≡ sound
sound_among from [] given place within unbroken kept = absurd (omega arith)
sound_among {before} {look} from (name ∷ names) (names_more given rest) zero within unbroken kept = grind (arith, common_steps)
sound_among {before} {look} from (name ∷ names) (names_more given rest) (suc place) within unbroken kept =
    let at : from + 1 + place ≡ from + suc place = omega arith in
    rw at at (sound_among (from + 1) names rest place (omega arith) unbroken (rw (← at) at kept))

none_breaks_before : {name : List ℕ} (looks : List Look) (look : Look) → NoneBreaks name (looks ++ look ∷ [])
    → NoneBreaks name looks × (look.snapshot.breaks name ≡ false)
none_breaks_before [] look none = (tt, none.0)
none_breaks_before (first ∷ looks) look none = let rest = none_breaks_before looks look none.1 in ((none.0, rest.0), rest.1)

pub names_stay : (visible : Bool) (ways : Ways) (names : List (List ℕ)) (looks : List Look) (shares : List Share)
    → AreFound visible ways names looks shares → (place : ℕ) → place < length names
    → NoneBreaks (get_or names place []) looks → failed_in (ways.first + place) looks ≡ None
names_stay visible ways names looks shares no_looks place within none = refl
names_stay visible ways names looks shares (looks_more {looks = before} {look} {shares = given} found at_look) place within none =
    let (so_far, unbroken) = none_breaks_before before look none in
    let kept = names_stay visible ways names before given found place within so_far in
    failed_sound (ways.first + place) before look (sound_among ways.first names at_look place within unbroken kept) ∙ kept
