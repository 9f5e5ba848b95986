-- Lemmas on looks at all names, one after another.
use Rattle.std.proofs.{
  Common.{◌≡◌, ℕ, zero, suc, ◌<◌, ◌≤◌, ◌+◌, ◌-◌, Bool, true, false, IsTrue, List, [], ◌∷◌, ◌++◌, length, take},
  Common.{slice_index_or, refl, sym, ◌∙◌, ap, subst, arith, inl, inr, ◌⊎◌, Option, Some, Err, map, Ok, Result, None},
  Common.{is_some, rules},
  Math.{Bool.{or-false as or_none, and-false as and_none}, Seq.take-append_seam},
  lemmas.Grind.common_steps,
  lemmas.Bool.{cases_lt, false≢true},
  lemmas.List.{append-nil, get_or-map, length-append, length-map, take_all, get_or-append-add, get_or_append_left},
  lemmas.List.{map-append, take-append-le},
}
use Rattle.ports_core.specs.{Slot.{Slot, adds, streams}, declared.{fault.Fault.Fault, calling.Calling.Calling}}
use Rattle.follow_core.specs.{
  FollowState.{AllReady, CanLook, FollowState, Holds, IsCause, IsOther, LooksOn, StandsIn, goes_on_at, is_alive},
  FollowState.{is_alive_from, new_state, nothing, lacks_memory, output_broke, opened_follow, Asked, Point},
  FollowState.point,
  Look.{Look, Ways, snapshots, ways_of},
  inner.{
    Visits.{StandFrom, VisitedTo, VisitsAll, any_goes_on, goes_on_as, AddsSome, BeginsLook, MakesLook, LookedAll},
    Giving.{IsFront, HasStopped, Moment, Sight, moment},
  },
  Reading.{looks_more, no_looks},
  Sharing.CanPrint,
  Standing.{AllStand, NoneGoesOn, NameState, Stands, no_state, state_at, texts, AreWatched},
  declared.{run.Method.Method, start.Start.Start},
  declared.{name.Standing.{Standing, TheVariants.New}, follow.Phase.{Phase, TheVariants.{Fresh, Looking, Over}}},
  Ending.{AreMost, asked_so, is_by_name, is_over, until_over, Made},
}
use Rattle.follow_core.proofs.{
  CallLemmas.no_memory,
  RunLemmas.failed-append,
  FollowLemmas.{nothing_shared, all_both, length_texts, text_there, same_length, unbroken_watched, watched_there},
}
use Rattle.watch_core.{specs.{Snapshot.{Snapshot}, Watched.{Watched, watched_at, added, no_name}}}
use Rattle.ports_core.specs.declared.fault.Fault.TheVariants as fault

-- One look more at all names, or a look that was stopped.

-- Names that are looked at.

-- following has as many names as were given
length_names : (follow : FollowState) {names : List (List ℕ)} → texts follow.names ≡ names
    → length follow.names ≡ length names
length_names follow same = rw (← same) (sym (length_texts follow.names))

-- Names that were added.

added_at : (before : List Watched) (names : List (List ℕ)) {place : ℕ} → place < length names
    → watched_at (before ++ map added names) (length before + place) ≡ added (slice_index_or names place [])
added_at before names {place} within = grind (arith, common_steps, get_or-append-add, get_or-map)

added_stand : (visible : Bool) (ways : Ways) (before : List Watched) (names : List (List ℕ))
    → ways.first ≡ length before
    → AllStand visible ways [] (map new_state names) (before ++ map added names)
added_stand visible ways before names first_is place within = grind (arith, common_steps, length-map, get_or-map, added_at)

added_ready : (names : List NameState) {first : ℕ} (before : List Watched) → (0 < length names → first ≡ length before)
    → AllReady names first (before ++ map added (texts names))
added_ready names {first} before first_is place within = grind (arith, common_steps, added_at, length_texts, get_or-map)

-- following stands as before, but its names are watched now, after those that were watched before
pub record IsAdded (old mid : FollowState) (watched watched_mid : List Watched) : Type 0 where
  pub fresh : old.phase ≡ Fresh
  pub mid_is : mid ≡ record old { phase = Looking; first = mid.first }
  pub watched_is : watched_mid ≡ watched ++ map added (texts old.names)
  pub first_is : 0 < length old.names → mid.first ≡ length watched

pub added_begins : {visible_in : Bool} {old mid : FollowState} {watched watched_mid : List Watched}
    → IsAdded old mid watched watched_mid → BeginsLook visible_in old watched mid watched_mid
added_begins {visible_in} {old} {mid} {watched} {watched_mid} is = record {
  phase = ap (λ (f : FollowState). f.phase) is.mid_is;
  ready = rw (is.mid_is, is.watched_is) (added_ready old.names watched is.first_is);
  -- the names that others added stand before these names
  others = λ number other. search (rules, get_or_append_left);
  holds = λ visible asked looks slots holds.
      let new : (looks ≡ []) × (old.names ≡ map new_state (texts old.names)) × (length watched ≡ asked.ways.first)
      = rw is.fresh at holds.stand in rw is.mid_is (record {
        way = holds.way;
        same = holds.same;
        numbered = λ looking some. is.first_is (rw (length_names old holds.same) some) ∙ new.2;
        stand = (
          rw (new.0, new.1, is.watched_is) (added_stand visible_in asked.ways watched (texts old.names) (sym new.2)),
          rw (is.watched_is, length-append, new.2, length-map, length-map) refl,
        );
        shares = holds.shares;
        found = holds.found;
        shared = holds.shared;
        failed = holds.failed;
      });
}

-- Whether a further look can give something.

pub goes_on_there : (ways : Ways) (looks : List Look) (place : ℕ) (name : List ℕ) (watched : Watched)
    (standing : Standing) → Stands true ways looks place name watched standing
    → goes_on_as ways.by_name standing ≡ goes_on_at ways looks place name
goes_on_there ways looks place name watched standing stands = grind (arith, common_steps, or_none, and_none)

pub alive_from : (ways : Ways) (looks : List Look) (from : ℕ) (names : List NameState)
    → ((place : ℕ) → place < length names
    → goes_on_as ways.by_name (state_at names place).standing
    ≡ goes_on_at ways looks (from + place) (state_at names place).text)
    → any_goes_on ways.by_name names ≡ is_alive_from ways looks from (texts names)
alive_from ways looks from [] all = refl
alive_from ways looks from (name ∷ names) all =
    let here : from + 0 ≡ from = omega arith in
    rw (
      all 0 (omega arith),
      here,
      alive_from ways looks (1 + from) names (λ place within.
          let next : from + suc place ≡ 1 + from + place = omega arith in rw next at (all (suc place) (omega arith))),
    ) refl

new_there : {names : List NameState} {place : ℕ} → place < length names → names ≡ map new_state (texts names)
    → (state_at names place).standing ≡ New
new_there {names} {place} within new =
    let inside : place < length (texts names) = rw (length_texts names) within in
    ap (λ (those : List NameState). (state_at those place).standing) new
    ∙ ap (λ (n : NameState). n.standing) (get_or-map new_state (texts names) place [] no_state inside)

pub fresh_alive : (ways : Ways) {looks : List Look} {names : List NameState} → looks ≡ []
    → names ≡ map new_state (texts names) → (place : ℕ) → place < length names
    → goes_on_as ways.by_name (state_at names place).standing
    ≡ goes_on_at ways looks (ways.first + place) (state_at names place).text
fresh_alive ways {names} none new place within = search (rules, new_there, or_none)

-- No name goes on.

none_before : (by_name : Bool) (names : List NameState) (place : ℕ) → place < length names
    → any_goes_on by_name names ≡ false → goes_on_as by_name (state_at names place).standing ≡ false
none_before by_name [] place within none = absurd (omega arith)
none_before by_name (name ∷ names) zero within none = grind (arith, common_steps)
none_before by_name (name ∷ names) (suc place) within none = grind (arith, common_steps, none_before by_name names place)

no_more_of : (visible : Bool) (ways : Ways) (looks : List Look) (place : ℕ) (name : List ℕ) (watched : Watched)
    (standing : Standing) → Stands visible ways looks place name watched standing → 0 < length looks
    → goes_on_as ways.by_name standing ≡ false
    → (is_some watched.failed ≡ true) ⊎ ((ways.by_name ≡ false) × (watched.opened ≡ None))
no_more_of visible ways looks place name watched standing stands some none = grind (arith, common_steps)

-- Why a look was stopped.

-- standard output can be written if following isn't over
can_print : (old : FollowState) (watched : List Watched) (slots : List Slot) → (old.phase ≡ Over → ⊥)
    → CanLook old watched slots → CanPrint slots
can_print old watched slots live can = grind (arith, common_steps)

cause_is : {old : FollowState} {slots slots_new : List Slot} {why : Fault} (watched : List Watched)
    → (old.phase ≡ Over → ⊥) → CanLook old watched slots → HasStopped why slots_new → IsCause old slots slots_new why
cause_is {old} {slots} {slots_new} watched live can (inl memory, error) = rw memory lacks_memory
cause_is {old} {slots} {slots_new} watched live can (inr (is, broken), error) = grind (arith, common_steps, can_print, output_broke)

-- The calls by which names broke.

-- before the first look no name broke of those that were added
none_broken : {ways : Ways} {looks : List Look} (names : List (List ℕ)) (before watched : List Watched) → looks ≡ []
    → length before ≡ ways.first → IsFront watched (before ++ map added names) → AreWatched ways looks names watched
none_broken names before watched none first_is (rest, are) = rw none (
  (let size = sizes in omega arith),
  (λ above. absurd (omega arith)),
  rw (← first_is) (λ place within. let inside : place < length names = (let size = sizes in omega arith) in
      let is : watched_at watched (length before + place) ≡ added (slice_index_or names place [])
      = grind (arith, common_steps, added_at, get_or_append_left, inside, are, within) in
      unbroken_watched (ap (λ (w : Watched). w.name) is) (ap (λ (w : Watched). w.failed) is) refl),
) where
  sizes : length before + length names ≡ length watched + length rest
  sizes = rw (length-append, length-append, length-map) at (ap length are)

module _ {visible_in visible : Bool} {asked : Asked} {looks : List Look} {follow : FollowState} {watched : List Watched}
    {slots : List Slot} (holds : Holds visible_in visible asked looks (point follow watched slots)) where
  pub none_going : 0 < length looks → any_goes_on follow.by_name follow.names ≡ false → NoneGoesOn asked.ways watched
  none_going some none = phase follow.phase holds.stand where
    phase : (phase : Phase) → StandsIn visible_in asked.ways looks follow.names watched phase
        → NoneGoesOn asked.ways watched
    phase Fresh stand = absurd (let empty = ap length stand.0 in omega arith)
    phase Looking stand = λ place within.
        let inside : place < length follow.names = (let as_many = stand.1 in omega arith) in
        no_more_of visible_in asked.ways looks (asked.ways.first + place) _ (watched_at watched (asked.ways.first + place))
        (state_at follow.names place).standing (stand.0 place inside) some
        (rw (ap (λ (those : Ways). those.by_name) holds.way)
        (none_before follow.by_name follow.names place inside none))
    phase Over stand = absurd stand

  pub watched_are : AreWatched asked.ways looks asked.names watched
  watched_are = phase follow.phase holds.stand where
    phase : (phase : Phase) → StandsIn visible_in asked.ways looks follow.names watched phase
        → AreWatched asked.ways looks asked.names watched
    phase Fresh stand = none_broken asked.names watched watched stand.0 stand.2 (map added asked.names, refl)
    phase Looking stand =
        let many = rw (length_names follow holds.same) at stand.1 in (
          omega arith,
          (λ above. many),
          λ place within.
              let inside : place < length follow.names = (let as_many = stand.1 in omega arith) in
              rw (← holds.same, text_there follow.names inside)
              (watched_there visible_in _ (watched_at watched (asked.ways.first + place)) (state_at follow.names place).standing
              (stand.0 place inside)),
        )
    phase Over stand = absurd stand

  -- the names stand as the looks before left them
  stand_from : follow.phase ≡ Looking
      → StandFrom visible_in
      (ways_of follow.by_name follow.start asked.ways.first) looks follow.first follow.names watched
  stand_from looking = let (stand, many) = rw looking at holds.stand in
      rw (← holds.way) (record {
        numbered = λ some. holds.numbered looking (rw (← length_names follow holds.same) some);
        stand = stand;
        many = many;
      })

-- A look, by how following stood before.

module _ {visible_in visible : Bool} {snapshot : Snapshot} {seen seen_new : List Snapshot} {old : FollowState}
    {new : FollowState} {watched watched_new : List Watched} {slots : List Slot} {why : Fault}
    (live : old.phase ≡ Over → ⊥) (can : CanLook old watched slots) (is : why ≡ fault.Memory)
    (same : seen_new ≡ seen) where
  -- there was no memory to begin a look: some names were added, or all, and no call was made on any
  makes_none : ((asked : Asked) (looks : List Look) → Holds visible_in visible asked looks (point old watched slots)
      → AreWatched asked.ways looks asked.names watched_new) → ((number : ℕ) → IsOther old watched number
      → watched_at watched_new number ≡ watched_at watched number)
      → MakesLook visible_in visible snapshot seen (point old watched slots) seen_new (point new watched_new slots)
      (Err why)
  makes_none unbroken others = record {
    looked = tt;
    stopped = λ asked looks holds. record {
      shares = holds.shares;
      found = holds.found;
      whole = [];
      part = [];
      begun = nothing (unbroken asked looks holds);
      printer = old.printer;
      reached = slots;
      shared = rw (append-nil holds.shares) holds.shared;
      short = rw is (record { slots = λ output error others at. (error, refl, rw (← at) no_memory) });
    };
    seen_is = tt;
    saw = inl same;
    phase = tt;
    ready = tt;
    can = tt;
    cause = rw is lacks_memory;
    error = (can_print old watched slots live can).1;
    others = others;
  }

  pub makes_few : old.phase ≡ Fresh → AddsSome (texts old.names) watched watched_new
      → MakesLook visible_in visible snapshot seen (point old watched slots) seen_new (point new watched_new slots)
      (Err why)
  makes_few fresh adds = makes_none
      (λ asked looks holds.
      let stand = rw fresh at holds.stand in
      none_broken asked.names watched watched_new stand.0 stand.2 (rw holds.same at adds.front))
      (λ number other. rw adds.kept.1 (get_or_append_left watched adds.kept.0 no_name number
      (subst (λ phase. IsOther (record old { phase = phase }) watched number) fresh other)))

  pub makes_all : {mid : FollowState} {watched_mid : List Watched} → BeginsLook visible_in old watched mid watched_mid
      → watched_new ≡ watched_mid
      → MakesLook visible_in visible snapshot seen (point old watched slots) seen_new (point new watched_new slots)
      (Err why)
  makes_all begins added_now = makes_none
      (λ asked looks holds. rw added_now (watched_are (begins.holds visible asked looks slots holds)))
      (λ number other. rw added_now (begins.others number other).1)

-- the names were looked at, after they were watched and the watch began a look
module _ {see : Sight} {old mid : FollowState} {watched watched_mid : List Watched} {slots : List Slot}
    {names : List NameState} {new : Moment} (live : old.phase ≡ Over → ⊥) (can : CanLook old watched slots)
    (begins : BeginsLook see.visible_in old watched mid watched_mid) where
  others : {result : Result Bool Fault}
      → VisitsAll see (ways_of mid.by_name mid.start) mid.first mid.names (moment watched_mid mid.printer slots) names
      new result → (number : ℕ) → IsOther old watched number
      → watched_at new.watched number ≡ watched_at watched number
  others visits number other =
      let (others, same) = begins.others number other in
      visits.others number (subst (λ phase. IsOther (record mid { phase = phase }) watched_mid number) begins.phase others) ∙ same

  pub makes_look : {seen seen_new : List Snapshot} (result : Result Bool Fault)
      → seen_new ≡ seen ++ see.snapshot ∷ []
      → VisitsAll see (ways_of mid.by_name mid.start) mid.first mid.names (moment watched_mid mid.printer slots) names
      new result
      → MakesLook see.visible_in see.visible see.snapshot seen (point old watched slots) seen_new
      (point (record mid { names = names; printer = new.pen.printer }) new.watched new.pen.slots) result
  makes_look (Ok failed) saw visits = record {
    looked = λ asked looks before.
        let holds = begins.holds see.visible asked looks slots before in
        let stood = stand_from holds begins.phase in
        let visited : VisitedTo see asked.ways looks (length mid.names) names (moment watched_mid mid.printer slots) new failed =
        rw holds.way (visits.visited asked.ways.first looks stood) in
        let look : Look = record { snapshot = see.snapshot; visits = visited.visits } in
        let front : IsFront visited.visits visited.visits = ([], sym (append-nil visited.visits)) in
        let many = same_length mid.names names visits.same in
        let taken : take (length mid.names) (texts names) ≡ asked.names = (let size = length_texts names in
        take_all (length mid.names) (texts names) (omega arith) ∙ visits.same ∙ holds.same) in (
          visited.visits,
          record {
            way = holds.way;
            same = visits.same ∙ holds.same;
            numbered = holds.numbered;
            stand = subst (StandsIn see.visible_in asked.ways (looks ++ look ∷ []) names new.watched) (sym begins.phase) (
              (λ place within. visited.done visited.visits front place (omega (arith, within, many))),
              rw (← many) (visits.count ∙ stood.many),
            );
            shares = holds.shares ++ visited.shares;
            found = looks_more holds.found (rw taken at (visited.found visited.visits front));
            shared = all_both holds.shared visited.shared;
            failed = rw (failed-append holds.shares visited.shares, holds.failed, visited.is_failed) refl;
          },
        );
    stopped = tt;
    seen_is = saw;
    saw = tt;
    phase = begins.phase;
    ready = visits.ready;
    can = visits.can;
    cause = tt;
    error = visits.can.1;
    others = others visits;
  }
  makes_look (Err why) saw visits = record {
    looked = tt;
    stopped = λ asked looks before.
        let holds = begins.holds see.visible asked looks slots before in
        let (whole, part, begun, printer, reached, shared, short) =
        visits.stopped asked.ways.first looks (stand_from holds begins.phase) in record {
          shares = holds.shares;
          found = holds.found;
          whole = whole;
          part = part;
          begun = grind (arith, common_steps, holds.way, holds.same);
          printer = printer;
          reached = reached;
          shared = all_both holds.shared shared;
          short = short;
        };
    seen_is = tt;
    saw = inr saw;
    phase = tt;
    ready = tt;
    can = tt;
    cause = cause_is watched live can visits.error;
    error = visits.error.1;
    others = others visits;
  }

-- this many looks were made, and `going` says whether a further look can give something
pub record Progress (visible_in visible : Bool) (asked : Asked) (shows : ℕ → Snapshot) (made : ℕ) (going : Bool)
    (now : Point) (seen : List Snapshot) : Type 0 where
  pub looks : List Look
  pub count : length looks ≡ made
  pub observed : seen ≡ snapshots looks
  pub is_made : Made visible_in asked.ways asked.names shows looks
  pub alive : visible_in ≡ true → 0 < length looks → is_alive asked.ways asked.names looks ≡ going
  pub ends : going ≡ false → NoneGoesOn asked.ways now.watched
  pub holds : Holds visible_in visible asked looks now

module _ {visible_in visible : Bool} {asked : Asked} {shows : ℕ → Snapshot} where
  pub one_more : {made : ℕ} {now : ℕ → Snapshot} {old : Point} {new : FollowState} {seen seen_new : List Snapshot}
      {watched : List Watched} {slots : List Slot} {going : Bool}
      → now ≡ shows → Progress visible_in visible asked shows made true old seen
      → LooksOn visible_in visible (now (length seen)) old (point new watched slots)
      → seen_new ≡ seen ++ now (length seen) ∷ [] → ((visible : Bool) (asked : Asked) (looks : List Look)
      (watched : List Watched) (slots : List Slot) → Holds true visible asked looks (point new watched slots)
      → going ≡ is_alive asked.ways asked.names looks)
      → ((visible_in visible : Bool) (asked : Asked) (looks : List Look) (watched : List Watched) (slots : List Slot)
      → Holds visible_in visible asked looks (point new watched slots) → 0 < length looks → going ≡ false
      → NoneGoesOn asked.ways watched)
      → Progress visible_in visible asked shows (made + 1) going (point new watched slots) seen_new
  one_more {now} {seen} {watched} {slots} same p looks_on more alive none =
      let (visits, holds) = looks_on asked p.looks p.holds in
      let look : Look = record { snapshot = now (length seen); visits = visits } in record {
        looks = p.looks ++ look ∷ [];
        count = length-append p.looks (look ∷ []) ∙ ap (λ n. n + 1) p.count;
        observed = grind (arith, common_steps, map-append, p.observed);
        is_made = grind (
          arith,
          common_steps,
          map-append,
          length-append,
          length-map,
          take-append-le,
          take-append_seam,
          p.is_made,
          p.observed,
          p.alive,
        );
        alive = λ t above. sym (alive visible asked (p.looks ++ look ∷ []) watched slots (rw t at holds));
        ends = none visible_in visible asked (p.looks ++ look ∷ []) watched slots holds
            (let long = length-append p.looks (look ∷ []) in omega arith);
        holds = holds;
      }

  -- no further look was made: all that were asked for were made, or a further look could give nothing
  pub ended : {made count : ℕ} {going : Bool} {now : Point} {seen : List Snapshot} → made ≤ count
      → (made < count → (0 < made) × (going ≡ false)) → Progress visible_in visible asked shows made going now seen
      → LookedAll visible_in visible asked count shows now seen
  ended within over p = let count = p.count in record {
    looks = p.looks;
    observed = p.observed;
    made = p.is_made;
    within = omega arith;
    over = λ fewer. let (some, stops) = over (omega arith) in let above : 0 < length p.looks = omega arith in
        (above, (λ t. p.alive t above ∙ stops), p.ends stops);
    holds = p.holds;
  }

-- How many looks there are until a process is gone.

until_step : (process : Option ℕ) (shows : ℕ → Snapshot) (from left : ℕ) → 0 < left
    → is_over process (shows from) ≡ false
    → until_over process shows from left ≡ 1 + until_over process shows (from + 1) (left - 1)
until_step process shows from left some runs = grind (arith, common_steps)

until_least : (process : Option ℕ) (shows : ℕ → Snapshot) (from left : ℕ) → 0 < left
    → 0 < until_over process shows from left
until_least process shows from left some = grind (arith, common_steps)

until_within : (process : Option ℕ) (shows : ℕ → Snapshot) (from left : ℕ) → until_over process shows from left ≤ left
until_within process shows from zero = omega arith
until_within process shows from (suc left) = grind (arith, common_steps, until_within process shows (from + 1) left)

until_found : (process : Option ℕ) (shows : ℕ → Snapshot) (from left : ℕ) → until_over process shows from left < left
    → (last : ℕ) × (from + until_over process shows from left ≡ suc last) × IsTrue (is_over process (shows last))
until_found process shows from zero fewer = absurd (omega arith)
until_found process shows from (suc left) fewer = grind (arith, common_steps, until_found process shows (from + 1) left)

-- the greatest number of looks isn't less than the number of looks that were made
pub most_made : (visible : Bool) (process : Option ℕ) (shows : ℕ → Snapshot) (count made : ℕ) → made ≤ count
    → (visible ≡ true → made ≤ until_over process shows 0 count)
    → (most : ℕ) × AreMost visible process shows count most × (made ≤ most)
most_made false process shows count made within left = (
  count,
  record { are = λ t. absurd (false≢true t); within = omega arith; found = λ fewer. absurd (omega arith) },
  within,
)
most_made true process shows count made within left = (
  until_over process shows 0 count,
  record {
    are = λ t. refl;
    within = until_within process shows 0 count;
    found = λ fewer. grind (arith, common_steps, until_found);
  },
  left refl,
)

-- if fewer looks were made than asked for, the greatest number of looks is at least one more
pub most_more : {visible : Bool} {process : Option ℕ} {shows : ℕ → Snapshot} {count made : ℕ}
    → (visible ≡ true → until_over process shows 0 count ≡ made + until_over process shows made (count - made))
    → made < count → (most : ℕ) × AreMost visible process shows count most × (made + 1 ≤ most)
most_more {visible} {process} {shows} {count} {made} is below = most_made visible process shows count (made + 1) (omega arith)
    (λ t. let all = is t in let some = until_least process shows made (count - made) (omega arith) in omega arith)

-- one look more, before which the process isn't gone
pub until_more : (process : Option ℕ) {shows now : ℕ → Snapshot} {made count seen : ℕ} {gone : Bool}
    → until_over process shows 0 count ≡ made + until_over process shows made (count - made) → made < count
    → gone ≡ is_over process (now seen) → gone ≡ false → now ≡ shows → seen ≡ made
    → until_over process shows 0 count ≡ made + 1 + until_over process shows (made + 1) (count - (made + 1))
until_more process {shows} {now} {made} {count} {seen} is below visible runs same at = grind (arith, common_steps, until_step)

-- the last look, before which the process is gone
pub until_last : {visible : Bool} {process : Option ℕ} {shows now : ℕ → Snapshot} {made count seen : ℕ} {gone : Bool}
    → (visible ≡ true → until_over process shows 0 count ≡ made + until_over process shows made (count - made))
    → made < count → (IsTrue gone → IsTrue (is_over process (now seen))) → gone ≡ true → now ≡ shows → seen ≡ made
    → AreMost visible process shows count (made + 1)
until_last {process} {shows} {now} {made} {count} {seen} is below found gone same at =
    let over : is_over process (shows made) ≡ true = ap (is_over process) (sym (λ i. same i (at i))) ∙ found gone in record {
      are = λ t. let all = is t in let one = last_is (count - made) (omega arith) over in omega arith;
      within = omega arith;
      found = λ fewer. (made, omega arith, over);
    } where
      last_is : (left : ℕ) → 0 < left → is_over process (shows made) ≡ true → until_over process shows made left ≡ 1
      last_is zero some over = absurd (omega arith)
      last_is (suc left) some over = rw over refl

-- A whole run.

-- if no process is given, as many looks are made as are asked for
pub as_many : {visible_in : Bool} {shows : ℕ → Snapshot} {count most : ℕ} → AreMost visible_in None shows count most
    → most ≡ count
as_many {count = count} {most} are = elim (cases_lt most count) [
  | inl fewer ↦ absurd (false≢true (are.found fewer).2)
  | inr all ↦ omega (arith, all, are.within)
]

texts_of_new : (names : List (List ℕ)) → texts (map new_state names) ≡ names
texts_of_new [] = refl
texts_of_new (name ∷ names) = ap (λ rest. name ∷ rest) (texts_of_new names)

pub open_holds : {visible_in visible headers by_name : Bool} {calling : Calling} (method : Method) {start : Start}
    {names : List (List ℕ)} {follow : FollowState} {watched : List Watched} {slots : List Slot}
    → by_name ≡ is_by_name method → follow ≡ opened_follow calling by_name start headers names → watched ≡ []
    → slots ≡ streams
    → Holds visible_in visible (asked_so calling method start headers names streams) [] (point follow watched slots)
open_holds method {names = names} by is unwatched fresh = rw (is, by, fresh) (record {
  way = refl;
  same = texts_of_new names;
  numbered = λ looking some. refl;
  stand = grind (arith, common_steps, texts_of_new);
  shares = [];
  found = no_looks;
  shared = nothing_shared;
  failed = refl;
})
