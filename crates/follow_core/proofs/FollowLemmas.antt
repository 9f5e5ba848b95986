-- Lemmas on a look at all names: at one name after another, one look more, a look that was stopped, and looks in turn.
use Rattle.std.proofs.{
  lemmas.Grind.common_steps,
  Common.{◌≡◌, ℕ, zero, suc, ◌<◌, ◌≤◌, ◌+◌, Bool, true, false, ◌||◌, List, [], ◌∷◌, ◌++◌, length, take, set},
  Common.{get_or, slice_index_or, refl, sym, ◌∙◌, ap, subst, arith, append_assoc, inl, inr, ◌⊎◌, Option, Err, Ok},
  Common.{None, Some, rules},
  Math.{Bool.or-false, Seq.{get_or-append_seam, map-set_same, take-suc}},
  lemmas.Bool.{cases_eq, cases_lt},
  lemmas.List.{append-nil, get_or-map, get_or-set_other, get_or-set_same, length-append, length-map},
  lemmas.List.{length-set, length-take-le, get_or_past},
}
use Rattle.ports_core.specs.{Slot.{Slot, changed_at}, declared.fault.Fault.Fault}
use Rattle.follow_core.specs.{
  FollowState.{AllReady, Begun, up_to},
  Look.{Look, Visit, Ways, failed_for, failed_in, is_dropped, sound_visit},
  Share.{BeginsShare, Share, share_by, share_of},
  inner.{Visits.{KeepsOthers, Opened, Stopped, Visited, VisitedTo, VisitsBy}, Giving.{IsFront, Moment, Sight}},
  Printing.PrinterState,
  Reading.{AreAtLook, IsGiven, names_more, no_names},
  Sharing.{AllShared, AllShort},
  Standing.{CanVisit, NameState, Stands, StandsAmong, failed_of, no_state, state_at, texts, IsWatched},
  declared.name.Standing.{Standing, TheVariants.{New, Followed, Left}},
}
use Rattle.follow_core.proofs.{
  CallLemmas.{wrote_after},
  CallGivesLemmas.none_of,
  LookLemmas.{broken_sound, met_none},
  RunLemmas.{failed-append, last-append, messages-append, text-append},
}
use Rattle.watch_core.specs.{Watched.{Watched, opens, watched_at}, declared.watch.Broken.Broken}

-- A look at one name after another.

pub nothing_shared : {visible : Bool} {printer : PrinterState} {slots : List Slot}
    → AllShared visible printer [] slots printer slots
nothing_shared {visible} {printer} {slots} = record { printer_is = refl; slots = search rules }

-- Further shares.

pub all_both : {visible : Bool} {printer mid after : PrinterState} {shares more : List Share} {old now new : List Slot}
    → AllShared visible printer shares old mid now
    → AllShared visible mid more now after new → AllShared visible printer (shares ++ more) old after new
all_both {printer} {shares} {more} all rest = record {
  printer_is = rw (rest.printer_is, all.printer_is, last-append printer.headers printer.last shares more) refl;
  slots = wrote_after _ _ _ _ _ _ _ None (sym (text-append printer.headers printer.last shares more))
      (sym (messages-append shares more)) all.slots (rw all.printer_is at rest.slots);
}

-- One name more.

visit_there : (visits : List Visit) (visit : Visit) {all : List Visit} → IsFront (visits ++ visit ∷ []) all
    → {place : ℕ} → length visits ≡ place → slice_index_or all place sound_visit ≡ visit
visit_there visits visit (rest, is) count =
    rw (is, append_assoc visits (visit ∷ []) rest, ← count) (get_or-append_seam visits visit rest sound_visit)

front_before : (visits : List Visit) (visit : Visit) {all : List Visit} → IsFront (visits ++ visit ∷ []) all
    → IsFront visits all
front_before visits visit (rest, is) = (visit ∷ rest, is ∙ append_assoc visits (visit ∷ []) rest)

pub text_there : (names : List NameState) {place : ℕ} → place < length names
    → get_or (texts names) place [] ≡ (state_at names place).text
text_there names {place} within = search (rules, get_or-map)

pub texts_set : (names : List NameState) {place : ℕ} (default one : NameState) → place < length names
    → one.text ≡ (get_or names place default).text → texts (set names place one) ≡ texts names
texts_set names {place} default one within same = map-set_same (λ (n : NameState). n.text) names place one default same

pub length_texts : (names : List NameState) → length (texts names) ≡ length names
length_texts names = length-map names (λ (n : NameState). n.text)

pub same_length : (names now : List NameState) → texts now ≡ texts names → length names ≡ length now
same_length names now same = sym (length_texts names) ∙ ap length (sym same) ∙ length_texts now

names_next : (names : List NameState) {place : ℕ} → place < length names
    → take place (texts names) ++ (state_at names place).text ∷ [] ≡ take (place + 1) (texts names)
names_next names {place} within = let next : place + 1 ≡ suc place = omega arith in
    rw (next, take-suc (texts names) place [] (rw (length_texts names) within), text_there names within) refl

-- what a look gives for one name more
one_given : {visible : Bool} {ways : Ways} {looks : List Look} {look : Look} (from : ℕ) (names : List (List ℕ))
    {name : List ℕ} {shares : List Share} {share : Share} → AreAtLook visible ways looks look from names shares
    → IsGiven visible ways looks look (from + length names) name share
    → AreAtLook visible ways looks look from (names ++ name ∷ []) (shares ++ share ∷ [])
one_given from [] no_names given = let e : from + 0 ≡ from = omega arith in names_more (rw e at given) no_names
one_given from (first ∷ names) (names_more is rest) given =
    let e : from + suc (length names) ≡ (from + 1) + length names = omega arith in
    names_more is (one_given (from + 1) names rest (rw e at given))

pub visited_more : {see : Sight} {ways : Ways} {looks : List Look} {now : List NameState} {one : NameState} {place : ℕ}
    {old mid new : Moment} {before failed : Bool} → place < length now
    → VisitsBy see ways (ways.first + place) (state_at now place) mid one.standing new (Ok failed)
    → one.text ≡ (state_at now place).text → VisitedTo see ways looks place now old mid before
    → VisitedTo see ways looks (place + 1) (set now place one) old new (before || failed)
visited_more {see} {ways} {looks} {now} {one} {place} {mid = mid} {new} {failed = failed} within visits same sofar = record {
  visits = sofar.visits ++ visited.visit ∷ [];
  shares = sofar.shares ++ visited.share ∷ [];
  count = length-append sofar.visits (visited.visit ∷ []) ∙ ap (λ n. n + 1) sofar.count ∙ omega arith;
  found = λ all front. rw (texts_set now no_state one within same, ← names_next now within)
      (one_given ways.first (take place (texts now)) (sofar.found all (front_before sofar.visits visited.visit front))
      (rw (length-take-le place (texts now) (rw (length_texts now) (omega arith)))
      (visited.found all (visit_there sofar.visits visited.visit front sofar.count))));
  is_failed = rw (failed-append sofar.shares (visited.share ∷ []), sofar.is_failed, visited.is_failed, or-false failed)
      refl;
  shared = all_both sofar.shared (record {
    printer_is = visited.shared.printer_is refl;
    slots = rw (append-nil, append-nil) visited.shared.slots;
  });
  done = λ all front other below. there all front other below (cases_eq other place);
  rest = λ other above inside. grind (arith, common_steps, length-set, inside, sofar.rest);
} where
  visited : Visited see ways looks (ways.first + place) (record (state_at now place) { standing = one.standing }) mid new
      failed
  visited = visits.visited looks (sofar.rest place (omega arith) within)

  -- each other name stands as before
  stays : (looks : List Look) (other : ℕ) → (other ≡ place → ⊥)
      → StandsAmong see.visible_in ways looks now mid.watched other
      → StandsAmong see.visible_in ways looks (set now place one) new.watched other
  stays looks other elsewhere stands = rw (
    get_or-set_other now place other one no_state elsewhere,
    visits.others.others (ways.first + other) (λ at. elsewhere (omega arith)),
  ) stands

  there : (all : List Visit) → IsFront (sofar.visits ++ visited.visit ∷ []) all → (other : ℕ) → other < place + 1
      → (other ≡ place) ⊎ (other ≡ place → ⊥)
      → StandsAmong see.visible_in ways (looks ++ record { snapshot = see.snapshot; visits = all } ∷ [])
      (set now place one) new.watched other
  there all front other below (inr elsewhere) = stays (looks ++ record { snapshot = see.snapshot; visits = all } ∷ []) other elsewhere
      (sofar.done all (front_before sofar.visits visited.visit front) other (omega arith))
  there all front other below (inl at) = rw (at, get_or-set_same now place one no_state within, same)
      (visited.stands all (visit_there sofar.visits visited.visit front sofar.count))

-- whether a name broke doesn't depend on the reason
none_failed : (watched : Watched) → failed_of watched ≡ None → watched.failed ≡ None
none_failed watched = by watched.failed where
  by : (failed : Option Broken) → failed_for watched.reason failed ≡ None → failed ≡ None
  by None none = refl
  by (Some call) none = absurd (cc)

-- a name that isn't broken is watched as the looks say
pub unbroken_watched : {ways : Ways} {looks : List Look} {place : ℕ} {name : List ℕ} {watched : Watched}
    → watched.name ≡ name
    → watched.failed ≡ None → is_dropped place looks ≡ false → IsWatched ways looks place name watched
unbroken_watched named unbroken kept = grind (arith, common_steps, none_of, met_none)

-- each name is watched as the looks say, however it stands
pub watched_there : (visible : Bool) {ways : Ways} {looks : List Look} {place : ℕ} (name : List ℕ) (watched : Watched)
    (standing : Standing) → Stands visible ways looks place name watched standing
    → IsWatched ways looks place name watched
watched_there visible {place} name watched New stands = grind (arith, common_steps, unbroken_watched)
watched_there visible name watched (Followed position) stands = unbroken_watched stands.named stands.unbroken stands.kept
watched_there visible name watched Left stands = elim stands.why [
  | inl (dropped, broke, closed) ↦ record { named = stands.named; broke = broke; closed = λ is. closed }
  | inr missed ↦ unbroken_watched stands.named missed.unbroken missed.kept
]

-- what is true of each name stays true after a file of one of them was opened, if it is true of that name then
opens_keeps : (Is : Watched → Type 0) (names : List Watched) (place other : ℕ) (file : Option ℕ)
    → Is (watched_at names other)
    → (other ≡ place → Is (opens file (watched_at names other)))
    → Is (watched_at (changed_at place (opens file) names) other)
opens_keeps Is [] place other file is here = is
opens_keeps Is (name ∷ names) zero zero file is here = here refl
opens_keeps Is (name ∷ names) zero (suc other) file is here = is
opens_keeps Is (name ∷ names) (suc place) zero file is here = is
opens_keeps Is (name ∷ names) (suc place) (suc other) file is here = opens_keeps Is names place other file is (λ same. here (ap suc same))

-- a look that was stopped at a name
pub visited_short : {see : Sight} {ways : Ways} {looks : List Look} {now : List NameState} {standing : Standing}
    {place : ℕ}
    {old mid new : Moment} {before : Bool} {why : Fault} → place < length now
    → VisitsBy see ways (ways.first + place) (state_at now place) mid standing new (Err why)
    → VisitedTo see ways looks place now old mid before → length new.watched ≡ ways.first + length now
    → (whole part : List Share) × Begun see.visible_in ways (texts now) looks see.snapshot new.watched whole part
    × (printed : PrinterState) × (reached : List Slot)
    × AllShared see.visible old.pen.printer whole old.pen.slots printed reached
    × AllShort see.visible printed part reached new.pen.slots why
visited_short {see} {ways} {looks} {now} {place = place} {mid = mid} {new} {why = why} within visits sofar many = (
  sofar.shares,
  stopped.1.share ∷ [],
  up_to sofar.visits place sofar.shares stopped.1.share sofar.count (omega (arith, within, size))
      (omega (arith, many, size), λ above. omega (arith, many, size), λ other inside. still other (omega (arith, inside, many, size)))
      (sofar.found sofar.visits front) (rw (text_there now within) stopped.1.found)
      (λ t. subst (BeginsShare stopped.1.share) (share_is t) (stopped.1.begins t sofar.visits)),
  mid.pen.printer,
  mid.pen.slots,
  sofar.shared,
  record { slots = rw (append-nil, append-nil) stopped.1.short.slots },
) where
  number : ℕ
  number = ways.first + place

  opened : Opened number mid.watched new.watched
  opened = visits.halts

  size : length (texts now) ≡ length now
  size = length_texts now

  front : IsFront sofar.visits sofar.visits
  front = ([], sym (append-nil sofar.visits))

  stopped : (is_dropped number looks ≡ false) × Stopped see ways looks (state_at now place).text mid new why
  stopped = visits.stopped looks (sofar.rest place (omega arith) within)

  look : Look
  look = record { snapshot = see.snapshot; visits = sofar.visits }

  share_is : see.visible_in ≡ true
      → share_by ways (state_at now place).text looks look sound_visit
      ≡ share_of ways looks look number (get_or (texts now) place [])
  share_is t =
      let count = sofar.count in
      rw (text_there now within, stopped.0, get_or_past sofar.visits number sound_visit (omega arith)) refl

  watched_now : (other : ℕ) → other < length now → (other < place) ⊎ (place ≤ other)
      → IsWatched ways (looks ++ look ∷ []) (ways.first + other) (state_at now other).text
      (watched_at mid.watched (ways.first + other))
  watched_now other inside (inl less) = watched_there see.visible_in _ _ (state_at now other).standing (sofar.done sofar.visits front other less)
  watched_now other inside (inr more) =
      let count = sofar.count in
      let is = watched_there see.visible_in _ _ (state_at now other).standing (sofar.rest other more inside) in record {
        named = is.named;
        broke = broken_sound looks look (ap (λ (v : Visit). v.fate) (get_or_past sofar.visits (ways.first + other) sound_visit (omega arith))) is.broke;
        closed = is.closed;
      }

  -- the name at which the look was stopped isn't broken
  unbroken : (other : ℕ) → other ≡ place → (watched_at mid.watched (ways.first + other)).failed ≡ None
  unbroken other at = rw at (none_failed (watched_at mid.watched number)
      ((watched_there see.visible_in _ _ (state_at now place).standing (sofar.rest place (omega arith) within)).broke.call
      ∙ none_of (failed_in number looks) stopped.0))

  still : (other : ℕ) → other < length now
      → IsWatched ways (looks ++ look ∷ []) (ways.first + other) (slice_index_or (texts now) other [])
      (watched_at new.watched (ways.first + other))
  still other inside =
      let now_is = watched_now other inside (cases_lt other place) in
      rw (text_there now inside, opened.1) (opens_keeps
      (IsWatched ways (looks ++ look ∷ []) (ways.first + other) (state_at now other).text) mid.watched number
      (ways.first + other) opened.0 now_is
      (λ same. record {
        named = now_is.named;
        broke = now_is.broke;
        closed = λ broken. grind (arith, common_steps);
      }))

pub next_ready : (first : ℕ) (names : List NameState) (one : NameState) {place : ℕ} {watched watched_new : List Watched}
    → place < length names → AllReady names first watched → KeepsOthers (first + place) watched watched_new
    → CanVisit one (watched_at watched_new (first + place)) → AllReady (set names place one) first watched_new
next_ready first names one {place} {watched_new} within ready keeps can other inside = grind
    (arith, common_steps, cases_eq, get_or-set_same, get_or-set_other, length-set)
