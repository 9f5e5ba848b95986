-- Lemmas on what calls in a look give, one after another.
use Rattle.std.proofs.{
  lemmas.{Grind.common_steps, List.{append-nil, take-append-le, length-drop, length-take-le}, Bool.false≢true},
  Common.{◌≡◌, ℕ, Bool, List, [], ◌∷◌, ◌++◌, ◌⊎◌, ◌∙◌, ap, ◌+◌, ◌<◌, length, take, true, false, Some, subst},
  Common.{None, Option, refl, sym, arith, ◌≤◌, option_map, suc, zero, IsTrue, is_some},
  Common.rules,
}
use Rattle.ports_core.{
  specs.{Slot.{Slot, is_open, changed_at}, declared.{fault.Fault.Fault, reason.Reason.Reason}},
  proofs.{InputsLemmas.changed_elsewhere, SlotLemmas.{changed_at-again, length-changed_at, changed_there}},
}
use Rattle.follow_core.specs.{
  Sharing.{CameTo, CanPrint},
  Printing.{broke as short_broke, no_room},
  declared.{visitor.Stop.{Stop, TheVariants.{Broke, Over}}},
  inner.Giving.{Are, ArePut, BrokeAt, ByStop, Came, CanGoOn, Copies, Follows, Yields, Keeps, Moment, Pen, Puts, Sight},
  inner.Giving.{fault_by, over_by},
  inner.Visits.KeepsOthers,
  Reading.{AreRead, IsLong, Saw, none_read, one_more, read_all, read_part, read_some},
  Event.{begins_none, Event, bytes_in, gives},
  Look.{Fate, broken_by, sound, unread},
  Telling.Remark,
}
use Rattle.follow_core.proofs.{
  EventLemmas.{begins_after, begins_bytes, bytes-append, remarks-append},
  CallLemmas.{tells_state, came_none, came_after, puts_after, puts_nothing},
}
use Rattle.watch_core.{
  specs.declared.watch.{Broken.{Broken, TheVariants.Read}},
  specs.Watched.{NameBreaks, GaveFrom, Watched, no_name, is_watchable, open_contents, opens, watched_at},
  specs.Snapshot.{Snapshot, Found, holds_many, reads_as},
  proofs.NameLemmas.{broke_so, watchable_within},
}
use Rattle.ports_core.specs.declared.fault.Fault.TheVariants as fault

-- Events that are given.

pub given_so : {One Both : Option Fate → List Event → Type 0} (fate : Fate) (stop : Option Stop) (events : List Event)
    → ((reach : Option Fate) (events : List Event) → One reach events → Both reach events)
    → ByStop One fate stop events → ByStop Both fate stop events
given_so fate None events so given = so (Some sound) events given
given_so fate (Some (Broke why)) events so given = so (Some fate) events given
given_so fate (Some (Over why)) events so (all, is, begins) = (all, so None all is, begins)

module _ {visible is_opened : Bool} {fate : Fate} {name : List ℕ} where
  -- a relation of events may be replaced by what follows from it
  pub gives_over : {One Both : Option Fate → List Event → Type 0} {other : Fate} {old new : Moment} {why : Fault}
      → ((events : List Event) → One None events → Both None events)
      → Yields visible One fate is_opened name old new (Some (Over why))
      → Yields visible Both other is_opened name old new (Some (Over why))
  gives_over so ends = record {
    events = ends.events;
    given = (ends.given.0, so ends.given.0 ends.given.1, ends.given.2);
    came = ends.came;
  }

  abbrev pub gives_so : {One Both : Option Fate → List Event → Type 0} {old new : Moment} {stop : Option Stop}
      → ((reach : Option Fate) (events : List Event) → One reach events → Both reach events)
      → Yields visible One fate is_opened name old new stop → Yields visible Both fate is_opened name old new stop
  gives_so {stop = stop} so ends =
      record { events = ends.events; given = given_so fate stop ends.events so ends.given; came = ends.came }

  -- the watched names don't matter
  pub gives_at : {Is : Option Fate → List Event → Type 0} {old new : Moment} {watched names : List Watched}
      {stop : Option Stop} → Yields visible Is fate is_opened name old new stop
      → Yields visible Is fate is_opened name (record old { watched = watched }) (record new { watched = names }) stop
  gives_at ends = record { events = ends.events; given = ends.given; came = ends.came }

  -- if the first of two steps was done, both end as the second does
  pub gives_both : {One Two Both : Option Fate → List Event → Type 0} {first : Fate} {old mid new : Moment}
      {stop : Option Stop}
      → ((reach : Option Fate) (events more : List Event) → One (Some sound) events → Two reach more
      → Both reach (events ++ more)) → Yields visible One first is_opened name old mid None
      → Yields visible Two fate false name mid new stop → Yields visible Both fate is_opened name old new stop
  gives_both {Two = Two} {Both} {stop = stop} join one two = record {
    events = one.events ++ two.events;
    given = by stop two.events two.given;
    came = rw (bytes-append one.events two.events, remarks-append name one.events two.events)
        (came_after one.came two.came);
  } where
    by : (stop : Option Stop) (events : List Event) → ByStop Two fate stop events
        → ByStop Both fate stop (one.events ++ events)
    by None events given = join (Some sound) one.events events one.given given
    by (Some (Broke why)) events given = join (Some fate) one.events events one.given given
    by (Some (Over why)) events (all, is, begins) =
        (one.events ++ all, join None one.events all one.given is, begins_after one.events begins)

fails_not : {fate : Fate} → is_some (broken_by fate) ≡ true → Some fate ≡ Some sound → ⊥
fails_not {fate} broke is = let same : fate ≡ sound = cc in
    false≢true (subst (λ those. is_some (broken_by those) ≡ true) same broke)

-- a stop of the first of two steps stops both
pub gives_early : {visible is_opened : Bool} {One Both : Option Fate → List Event → Type 0} {fate : Fate}
    {name : List ℕ}
    {old new : Moment} (place : ℕ) (watched watched_new : List Watched) (stop : Stop)
    → Keeps place watched watched_new fate (Some stop)
    → ((reach : Option Fate) (events : List Event) → (reach ≡ Some sound → ⊥) → One reach events → Both reach events)
    → Yields visible One fate is_opened name old new (Some stop)
    → Yields visible Both fate is_opened name old new (Some stop)
gives_early place watched watched_new (Broke why) keeps so ends = record {
  events = ends.events;
  given = so _ ends.events (fails_not keeps.0.broke) ends.given;
  came = ends.came;
}
gives_early place watched watched_new (Over why) keeps so ends = gives_over (λ events. so None events (λ is. absurd (cc))) ends

module _ {visible : Bool} {Is : Option Fate → List Event → Type 0} {name : List ℕ} {now : Moment} where
  abbrev pub gives_none : (fate : Fate) {watched : List Watched} → Is (Some sound) []
      → Yields visible Is fate false name now (record now { watched = watched }) None
  gives_none fate is = record { events = []; given = is; came = came_none }

  -- a call failed before anything was given
  pub gives_failed : (fate : Fate) {watched : List Watched} {why : Fault} → Is (Some fate) []
      → Yields visible Is fate false name now (record now { watched = watched }) (Some (Broke why))
  gives_failed fate is = record { events = []; given = is; came = came_none }

-- Bytes that were written are one event.

one_event : {visible opened : Bool} {name bytes : List ℕ} {old new : Pen} {over : Option Fault}
    → Came visible opened name bytes [] old new over
    → Came visible opened name (bytes_in (gives bytes ∷ [])) [] old new over
one_event {bytes = bytes} came = rw (append-nil bytes) came

-- A header alone is no event.

none_put : (over : Option Fault) {bytes : List ℕ} → ArePut over bytes [] → bytes ≡ []
none_put None is = is
none_put (Some why) {bytes = []} is = refl
none_put (Some why) {bytes = byte ∷ bytes} (rest, is) = absurd (cc)

pub header_only : {visible is_opened : Bool} {name : List ℕ} {old new : Moment} (over : Option Fault)
    → Puts visible is_opened name [] old.pen new.pen over
    → Yields visible (Are []) sound is_opened name old new (option_map Over over)
header_only None put = record { events = []; given = refl; came = rw (none_put None put.are) at put.came }
header_only (Some why) put =
    record { events = []; given = ([], refl, begins_none); came = rw (none_put (Some why) put.are) at put.came }

-- Copying, read by read.

-- a read that gave these bytes into a buffer with room
pub read_saw : {visible : Bool} (snapshot : Snapshot) (known : Watched) {at n : ℕ} {old new : List ℕ} → n ≤ length old
    → length new ≡ length old → 0 < length old
    → (visible ≡ true → GaveFrom (open_contents snapshot known) at old new n)
    → Found snapshot known.name (reads_as known.opened at (take n new))
    → Saw visible snapshot known.name (reads_as known.opened at (take n new))
read_saw snapshot known {at} {n} {old} {new} few long room gave found = (
  found,
  λ t. (
    rw (length-take-le n new (omega arith)) (gave t).front,
    λ none. let zero_is : n ≡ 0 = (let size = length-take-le n new (omega arith) in let empty = ap length none in omega arith) in
        let left = ap length ((gave t).ended zero_is room).0 in
        let size = length-drop at (open_contents snapshot known) in omega arith,
  ),
)

-- what was copied so far, or a beginning of it if following ends
pub record Copied (see : Sight) (known : Watched) (from : ℕ) (name : List ℕ) (old new : Moment) (at : ℕ)
    (over : Option Fault) : Type 0 where
  pub bytes : List ℕ
  pub puts : Puts see.visible false name bytes old.pen new.pen over
  pub read : AreRead see.visible_in see.snapshot known.name known.opened from bytes at

module _ {see : Sight} {known : Watched} {from : ℕ} {name : List ℕ} {old : Moment} where
  pub copied_none : Copied see known from name old old from None
  copied_none = record { bytes = []; puts = puts_nothing; read = none_read }

  -- one piece more was copied, or a beginning of it
  pub copied_more : {at n : ℕ} {read_old read_new : List ℕ} {mid new : Moment} (tail : List ℕ) {over : Option Fault}
      → n ≤ length read_old → length read_new ≡ length read_old → 0 < length read_old
      → (see.visible_in ≡ true → GaveFrom (open_contents see.snapshot known) at read_old read_new n)
      → Found see.snapshot known.name (reads_as known.opened at (take n read_new))
      → Copied see known from name old mid at None
      → Puts see.visible false name (take n (read_new ++ tail)) mid.pen new.pen over
      → Copied see known from name old new (at + n) over
  copied_more {n = n} {read_new = read_new} tail few long room gave found so_far put = record {
    bytes = so_far.bytes ++ take n (read_new ++ tail);
    puts = puts_after so_far.puts put;
    read = rw (take-append-le n read_new tail (omega arith))
        (rw (length-take-le n read_new (omega arith)) at (one_more (take n read_new) so_far.read
        (read_saw see.snapshot known few long room gave found)));
  }

-- How the outputs can be used after a call.

use_after : (visible : Bool) (text : List ℕ) (output error : Slot) (others new : List Slot) (stop : Option Stop)
    → CameTo visible text (output ∷ error ∷ others) new (over_by stop) → CanPrint (output ∷ error ∷ others)
    → CanGoOn stop new
use_after visible text output error others new None is can = search rules
use_after visible text output error others new (Some (Broke why)) is can = search rules
use_after visible text output error others new (Some (Over why)) (short_broke n part) can = grind (arith, common_steps)
use_after visible text output error others new (Some (Over why)) (no_room n within is) can = grind (arith, common_steps)

came_can : {visible is_opened : Bool} {name bytes : List ℕ} {lines : List Remark} {old new : Pen} (stop : Option Stop)
    → Came visible is_opened name bytes lines old new (over_by stop) → CanPrint old.slots → CanGoOn stop new.slots
came_can {visible} {lines = lines} {old = old} {new} stop came can = by old.slots refl can where
  by : (slots : List Slot) → old.slots ≡ slots → CanPrint slots → CanGoOn stop new.slots
  by [] is can = search rules
  by (output ∷ []) is can = search rules
  by (output ∷ error ∷ others) is can = let (last, said, text) = came.slots output error others is in
      use_after visible _ _ _ _ _ stop text (can.0, ap is_open (tells_state visible _ lines error last said) ∙ can.1)

pub puts_can : {visible is_opened : Bool} {name due : List ℕ} {old new : Pen} (over : Option Fault)
    → Puts visible is_opened name due old new over → CanPrint old.slots → CanGoOn (option_map Over over) new.slots
puts_can None put can = came_can None put.came can
puts_can (Some why) put can = came_can (Some (Over why)) put.came can

pub ends_can : {visible is_opened : Bool} {Is : Option Fate → List Event → Type 0} {fate : Fate} {name : List ℕ}
    {old new : Moment} {stop : Option Stop} → Yields visible Is fate is_opened name old new stop
    → CanPrint old.pen.slots
    → CanGoOn stop new.pen.slots
ends_can {stop = stop} ends can = came_can stop ends.came can

pub opens_same : (names : List Watched) (place : ℕ)
    → changed_at place (opens (watched_at names place).opened) names ≡ names
opens_same [] place = refl
opens_same (name ∷ names) zero = refl
opens_same (name ∷ names) (suc place) = ap (λ rest. name ∷ rest) (opens_same names place)

-- the file that was opened is the open file of the name
pub opened_there : (names : List Watched) (place : ℕ) {file : Option ℕ} → IsTrue (is_watchable names place)
    → watched_at (changed_at place (opens file) names) place ≡ record (watched_at names place) { opened = file }
opened_there names place {file} can = changed_there no_name place (opens file) names (watchable_within names place can)

pub opened_now : (place : ℕ) {file : Option ℕ} (old : List Watched) {new : List Watched}
    → new ≡ changed_at place (opens file) old
    → IsTrue (is_watchable old place) → watched_at new place ≡ record (watched_at old place) { opened = file }
opened_now place old is can = ap (λ those. watched_at those place) is ∙ opened_there old place can

-- a change of one name keeps the other names
pub keeps_others : {place : ℕ} (change : Watched → Watched) {old new : List Watched} → new ≡ changed_at place change old
    → KeepsOthers place old new
keeps_others {place} change {old} is = grind (arith, common_steps, length-changed_at, changed_elsewhere)

pub some_of : (file : Option ℕ) → is_some file ≡ true → (id : ℕ) × (file ≡ Some id)
some_of None some = absurd (false≢true some)
some_of (Some id) some = (id, refl)

pub none_of : {X : Type 0} (x : Option X) → is_some x ≡ false → x ≡ None
none_of None is = refl
none_of (Some x) is = cc

-- A name that broke.

-- a call failed on the names as they were, and broke one
pub broke_at : {place : ℕ} {old now new : List Watched} {fate : Fate} {why : Fault} (how : Option ℕ → Broken)
    → broken_by fate ≡ Some (how (watched_at old place).opened)
    → now ≡ old → why ≡ fault_by place fate → NameBreaks how place now new → BrokeAt place old new fate why
broke_at {place} {old} {fate} how is same fault (reason, broken) = record {
  broke = ap is_some is;
  fault_is = fault;
  reason = reason;
  names = rw (broken, same, is) (sym (broke_so reason old place how refl));
}

-- the reason that the watch has for the name
pub broke_why : {place : ℕ} {old new : List Watched} {fate : Fate} {fault : Fault} {why : Reason}
    → IsTrue (is_watchable old place) → (broke : BrokeAt place old new fate fault)
    → (is_some (watched_at new place).failed ≡ true → why ≡ (watched_at new place).reason) → why ≡ broke.reason
broke_why {place} {old} {new} {fate} can broke visible =
    visible (ap (λ (w : Watched). is_some w.failed) there ∙ broke.broke) ∙ ap (λ (w : Watched). w.reason) there where
      there : watched_at new place
          ≡ record (watched_at old place) { opened = None; failed = broken_by fate; reason = broke.reason }
      there = rw broke.names (changed_there no_name place _ old (watchable_within old place can))

-- a file was opened, and then a call on it kept the names or broke this name: that is one call that follows the name
pub follows_from : {visible : Bool} {led file : Option ℕ} (place : ℕ) (old : List Watched) {mid : List Watched}
    (new : List Watched) (fate : Fate)
    (stop : Option Stop) → mid ≡ changed_at place (opens file) old → (stop ≡ None → visible ≡ true → file ≡ led)
    → Keeps place mid new fate stop → Follows visible led place old new fate stop
follows_from {file} place old new fate stop opened leads given = grind (arith, common_steps, changed_at-again)

-- what was found about the length of an open file is known of the name
pub is_held : {visible : Bool} (by_name : Bool) (snapshot : Snapshot) (name : List ℕ) (opened : Option ℕ) {len : ℕ}
    → is_some opened ≡ true → Saw visible snapshot name (holds_many opened len)
    → IsLong visible by_name snapshot name opened len
is_held by_name snapshot name None some saw = absurd (false≢true some)
is_held by_name snapshot name (Some file) some saw = saw

-- How copying ends.

module _ {see : Sight} {name : List ℕ} {from place len : ℕ} {old : Moment} where
  pub copies_all : (at : ℕ) {mid : Moment} {watched : List Watched}
      → Copied see (watched_at old.watched place) from name old mid at None
      → (len ≤ at) ⊎ Saw see.visible_in see.snapshot (watched_at old.watched place).name
      (reads_as (watched_at old.watched place).opened at [])
      → watched ≡ old.watched → Copies see from place name len old (record mid { watched = watched }) None
  copies_all at copied over same = record {
    fate = sound;
    ends = record {
      events = gives copied.puts.bytes ∷ [];
      given = read_all (rw copied.puts.are copied.read) over;
      came = one_event copied.puts.came;
    };
    keeps = same;
  }

  pub copies_part : (at : ℕ) {mid : Moment} {now watched : List Watched} {why : Fault} → at < len
      → Copied see (watched_at old.watched place) from name old mid at None
      → now ≡ old.watched → why ≡ fault.Read place → NameBreaks (λ file. Read file at) place now watched
      → see.snapshot.breaks (watched_at old.watched place).name ≡ true
      → Copies see from place name len old (record mid { watched = watched }) (Some (Broke why))
  copies_part at below copied same fault broken can = record {
    fate = unread (watched_at old.watched place).opened at;
    ends = record {
      events = gives copied.puts.bytes ∷ [];
      given = read_part (rw copied.puts.are copied.read) below can;
      came = one_event copied.puts.came;
    };
    keeps = (broke_at (λ file. Read file at) refl same fault broken, refl);
  }

  pub copies_short : (at : ℕ) {new : Moment} {why : Fault}
      → Copied see (watched_at old.watched place) from name old new at (Some why)
      → new.watched ≡ old.watched → Copies see from place name len old new (Some (Over why))
  copies_short at copied same = record {
    fate = sound;
    ends = record {
      events = gives copied.puts.bytes ∷ [];
      given = (gives copied.bytes ∷ [], read_some copied.read, begins_bytes copied.puts.are);
      came = one_event copied.puts.came;
    };
    keeps = same;
  }
