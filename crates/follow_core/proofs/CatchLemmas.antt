-- Lemmas on what a call on a name gives: what came to the open file, and where the name leads.
use Rattle.std.proofs.{
  lemmas.{Grind.common_steps, Bool.{false≢true, eqb-true}},
  Common.{◌≡◌, ◌⊎◌, ℕ, Bool, List, [], ◌∷◌, inr, inl, ◌∙◌, ap, subst, true, false, Some, None, Option, refl, sym, arith},
  Common.{Result, Ok, Err, IsTrue, IfOk, option_map},
}
use Rattle.follow_core.specs.{
  inner.Giving.{Adds, Are, Yields, Keeps, Leads, LooksAgain, Moment, Sight, stop_in},
  declared.{visitor.Stop.{Stop}, notice.Notice.Notice},
  Event.{change_between, notes},
  Look.sound,
  Version.open_after_look,
  Reading.{Changed, IsLong, Saw, came_all, came_early, not_asked, opened_there, unchanged},
}
use Rattle.follow_core.proofs.CallGivesLemmas.{
  follows_from,
  gives_at,
  gives_both,
  gives_early,
  gives_none,
  opened_now,
  opens_same,
}
use Rattle.watch_core.specs.{
  Watched.{Finds, Reopens, Watched, file_seen, is_watchable, watched_at},
  Snapshot.{Snapshot, Found, leads_to, opens_as},
  declared.watch.Seen.Seen,
}

-- Where the name leads.

nothing_led : (led : Option ℕ) {opened : Option ℕ} → change_between opened led ≡ None → led ≡ opened
nothing_led led is = grind (arith, common_steps, eqb-true)

seen_file : (snapshot : Snapshot) (led : Option ℕ)
    → option_map (λ (file : Seen). file.id) (option_map (file_seen snapshot) led) ≡ led
seen_file snapshot None = refl
seen_file snapshot (Some file) = refl

-- what changed, as the code finds it
pub change_seen : {visible : Bool} (snapshot : Snapshot) {old now : List Watched} (place : ℕ) {found : Option Seen}
    {id : Option ℕ} {result : Option Notice}
    → result ≡ change_between id (option_map (λ (file : Seen). file.id) found) → id ≡ (watched_at now place).opened
    → now ≡ old → (visible ≡ true → Finds snapshot (watched_at old place).name found)
    → Found snapshot (watched_at old place).name (leads_to (option_map (λ (file : Seen). file.id) found))
    → (led : Option ℕ) × Saw visible snapshot (watched_at old place).name (leads_to led)
    × (change_between (watched_at old place).opened led ≡ result)
change_seen snapshot {old} place {found = found} is opened same finds seen = (
  option_map (λ (file : Seen). file.id) found,
  (seen, λ t. ap (option_map (λ (file : Seen). file.id)) (finds t) ∙ seen_file snapshot _),
  sym (is ∙ ap (λ those. change_between those (option_map (λ (file : Seen). file.id) found))
      (opened ∙ ap (λ names. (watched_at names place).opened) same)),
)

-- what is known of a name whether or not names are followed; that it leads nowhere is known only if they are
pub long_by : {visible : Bool} (snapshot : Snapshot) {name : List ℕ} (held : ℕ) {by_name : Bool} (opened : Option ℕ)
    → (opened ≡ None → by_name ≡ true
    → Saw visible snapshot name (leads_to None) ⊎ Saw visible snapshot name (opens_as None))
    → IsLong visible false snapshot name opened held → IsLong visible by_name snapshot name opened held
long_by snapshot held None lost long = lost refl
long_by snapshot held (Some file) lost long = long

-- How following a name ends.

module _ {see : Sight} {place : ℕ} {name : List ℕ} {position : ℕ} {old : Moment} {watched : List Watched} where
  -- names aren't followed
  leads_not : {by_name : Bool} → by_name ≡ false → watched ≡ old.watched
      → Leads see by_name place name position old (record old { watched = watched }) (Ok position)
  leads_not by same = record {
    fate = sound;
    ends = gives_none sound (not_asked by);
    long = λ long. rw same (long_by see.snapshot position _ (λ none is. absurd (false≢true (sym by ∙ is))) long);
    follows = ((watched_at old.watched place).opened, same ∙ sym (opens_same old.watched place), λ t. rw by refl);
  }

  -- the name leads to the open file
  pub leads_same : {led : Option ℕ} → (watched_at old.watched place).name ≡ name
      → Saw see.visible_in see.snapshot (watched_at old.watched place).name (leads_to led)
      → change_between (watched_at old.watched place).opened led ≡ None → watched ≡ old.watched
      → Leads see true place name position old (record old { watched = watched }) (Ok position)
  leads_same {led = led} named saw none same = record {
    fate = sound;
    ends = gives_none sound (unchanged refl saw none);
    long = λ long. rw same (long_by see.snapshot position _ (λ shut is. inl (rw (nothing_led led none ∙ shut) at saw)) long);
    follows = (
      (watched_at old.watched place).opened,
      same ∙ sym (opens_same old.watched place),
      λ t. sym (nothing_led led none) ∙ saw.1 t ∙ ap see.snapshot.leads named,
    );
  }

-- the change was reported, and all that the file holds was given, or a beginning
pub leads_opened : {see : Sight} {is_there : Bool} {place : ℕ} {name : List ℕ} {position : ℕ} {old mid new : Moment}
    {notice : Notice} {result : Result ℕ Stop} → IsTrue (is_watchable old.watched place)
    → (watched_at old.watched place).name ≡ name
    → Changed see.visible_in see.snapshot (watched_at old.watched place).name
    (watched_at old.watched place).opened notice
    → Yields see.visible (Are (notes notice ∷ [])) sound false name old mid None
    → Reopens see.visible_in see.snapshot old.watched mid.watched place is_there
    → Adds see place name 0 mid new result → Leads see true place name position old new result
leads_opened {see} {place = place} {name} {old = old} {mid} {new} {result = result} can named changed line reopens adds =
    record {
      fate = adds.fate;
      ends = gives_both (λ reach events more are caught. rw are (opened_there refl changed saw caught)) line
          (rw here at adds.ends);
      long = λ those. by result (rw here at adds.long) adds.keeps;
      follows = follows_from place old.watched new.watched adds.fate (stop_in result) reopens.names
          (λ none t. reopens.leads t ∙ ap see.snapshot.leads named) adds.keeps;
    } where
      saw : Saw see.visible_in see.snapshot (watched_at old.watched place).name (opens_as reopens.file)
      saw = (reopens.opens, reopens.leads)

      here : watched_at mid.watched place ≡ record (watched_at old.watched place) { opened = reopens.file }
      here = opened_now place old.watched reopens.names can

      by : (result : Result ℕ Stop)
          → IfOk result (IsLong see.visible_in false see.snapshot (watched_at old.watched place).name reopens.file)
          → Keeps place mid.watched new.watched adds.fate (stop_in result)
          → let now = watched_at new.watched place in
          IfOk result (IsLong see.visible_in true see.snapshot now.name now.opened)
      by (Ok len) long same = rw (same, here) (long_by see.snapshot len reopens.file (λ none is. inr (rw none at saw)) long)
      by (Err stop) long keeps = tt

module _ {see : Sight} {place : ℕ} {name : List ℕ} {position : ℕ} {old : Moment} where
  pub stopped_looks : (by_name : Bool) {new : Moment} {stop : Stop} → Adds see place name position old new (Err stop)
      → LooksAgain see by_name place name position old new (Err stop)
  stopped_looks by_name {new} {stop} adds = record {
    fate = adds.fate;
    ends = gives_early place old.watched new.watched stop adds.keeps (λ reach events. came_early) adds.ends;
    long = tt;
    follows = follows_from {visible = see.visible_in}
        {led = open_after_look by_name name (watched_at old.watched place).opened see.snapshot} place old.watched
        new.watched adds.fate (Some stop) (sym (opens_same old.watched place)) (λ none. absurd (cc)) adds.keeps;
  }

  -- One call after another.
  looks_both : {by_name : Bool} {mid new : Moment} {len : ℕ} {result : Result ℕ Stop} → mid.watched ≡ old.watched
      → Adds see place name position old mid (Ok len)
      → Leads see by_name place name len (record mid { watched = old.watched }) new result
      → LooksAgain see by_name place name position old new result
  looks_both same adds leads = record {
    fate = leads.fate;
    ends = gives_both (λ reach came led. came_all) (gives_at {watched = old.watched} adds.ends) leads.ends;
    long = leads.long adds.long;
    follows = leads.follows;
  }

  pub caught_looks : {by_name : Bool} {new : Moment} {len : ℕ} → by_name ≡ false
      → Adds see place name position old new (Ok len)
      → LooksAgain see by_name place name position old new (Ok len)
  caught_looks {new = new} is adds = looks_both {mid = new} adds.keeps adds (leads_not is adds.keeps)

  pub led_looks : {by_name : Bool} {now : Snapshot} {mid new : Moment} {len : ℕ} {result : Result ℕ Stop}
      → by_name ≡ true → now ≡ see.snapshot → Adds see place name position old mid (Ok len)
      → Leads (record see { snapshot = now }) true place name len mid new result
      → LooksAgain see by_name place name position old new result
  led_looks {mid = mid} {new} {len} {result} is seen adds leading =
      let leads = subst (λ watched. Leads see true place name len (record mid { watched = watched }) new result) adds.keeps
      (rw seen at leading) in rw is (looks_both {mid = mid} adds.keeps adds leads)
