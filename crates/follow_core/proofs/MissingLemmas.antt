-- Lemmas on names that are followed as long as they lead to a file: a name that leads nowhere at a look is dropped.
use Rattle.std.proofs.{
  Common.{◌≡◌, ◌⊎◌, inl, inr, ℕ, ◌+◌, ◌≤◌, ◌<◌, zero, suc, Bool, true, false, List, [], ◌∷◌, ◌++◌, Option, Some},
  Common.None,
  Common.{refl, sym, ◌∙◌, ap, arith, length, get_or, is_some},
  lemmas.{Option.none-some, Bool.{cases_lt, false≢true}},
  Math.{Bool.and-false},
}
use Rattle.watch_core.specs.{
  Snapshot.{Snapshot, Finding, Found, clinging, first_led, forgiving, is_nowhere, leads_to, opens_as, or_else},
}
use Rattle.follow_core.specs.{
  Event.{Event},
  Look.{Failed, Fate, Look, Visit, Ways, fate_at, failed_by, failed_in, is_dropped, sound, visit_at},
  Reading.{AllInsist, AreAtLook, AreFound, IsFound, IsGiven, LeadsNowhere, LedTo, LookGives, at_first, at_later},
  Reading.came_all,
  Reading.{came_early, looks_more},
  Reading.{names_more, no_looks, not_asked, not_led, not_opened, not_told, opened_there, unchanged},
  Share.{Share},
}
use Rattle.follow_core.proofs.LookLemmas.{failed_more}

-- a call doesn't find that a name leads nowhere if that makes it fail
never_nowhere : (snapshot : Snapshot) (name : List ℕ) (finding : Finding) → snapshot.insists ≡ true
    → is_nowhere finding ≡ true → Found snapshot name finding → ⊥
never_nowhere snapshot name finding insists nowhere found =
    false≢true (sym (and-false (snapshot.finds name finding)) ∙ rw (insists, nowhere) at found)

-- A call on a name fails at a look at which the name leads nowhere.

led_told : (snapshot : Snapshot) {name : List ℕ} {by_name : Bool} {opened : Option ℕ} {reach : Option Fate}
    {events : List Event} → LedTo true by_name snapshot name opened reach events → reach ≡ Some sound
    → by_name ≡ true → snapshot.insists ≡ true → snapshot.leads name ≡ None → ⊥
led_told snapshot (not_asked not_by) is by insists leads = false≢true (sym not_by ∙ by)
led_told snapshot (not_led by_name can) is by insists leads = absurd (cc)
led_told snapshot {name} (unchanged by_name saw none) is by insists leads =
    never_nowhere snapshot name (leads_to None) insists refl (rw (saw.1 refl ∙ leads) at saw.0)
led_told snapshot (not_told by_name changed) is by insists leads = absurd (cc)
led_told snapshot (not_opened by_name changed can) is by insists leads = absurd (cc)
led_told snapshot {name} (opened_there by_name changed saw caught) is by insists leads =
    never_nowhere snapshot name (leads_to None) insists refl (rw (changed.saw.1 refl ∙ leads) at changed.saw.0)

look_told : {ways : Ways} {before : List Look} (snapshot : Snapshot) {name : List ℕ} {reach : Option Fate}
    {events : List Event} → LookGives true ways before snapshot name reach events → reach ≡ Some sound
    → ways.by_name ≡ true → snapshot.insists ≡ true → snapshot.leads name ≡ None → ⊥
look_told snapshot (at_first file saw first) is by insists leads = none-some file (sym leads ∙ sym (saw.1 refl))
look_told snapshot (at_later opened seen long (came_early early caught)) is by insists leads = early is
look_told snapshot (at_later opened seen long (came_all came led)) is by insists leads =
    led_told snapshot led is by insists leads

found_sound : (ways : Ways) (before : List Look) (look : Look) (place : ℕ) {name : List ℕ} {share : Share}
    → IsFound true ways before look.snapshot name (visit_at place look) share → ways.by_name ≡ true
    → look.snapshot.insists ≡ true → look.snapshot.leads name ≡ None → fate_at place look ≡ sound → ⊥
found_sound ways before look place found by insists leads fine = elim found.events [
  | inl (first, other, none) ↦ absurd (cc)
  | inr shown ↦ look_told look.snapshot shown (ap Some fine) by insists leads
]

-- A name that leads nowhere and wasn't dropped breaks at such a look.

given_sound : (ways : Ways) (before : List Look) (look : Look) (place : ℕ) {name : List ℕ} {share : Share}
    → IsGiven true ways before look place name share → ways.by_name ≡ true → look.snapshot.insists ≡ true
    → look.snapshot.leads name ≡ None → is_dropped place before ≡ false → fate_at place look ≡ sound → ⊥
given_sound ways before look place given by insists leads kept fine = elim given.found [
  | inl (dropped, none) ↦ false≢true (sym kept ∙ dropped)
  | inr (held, inr missing) ↦ never_nowhere look.snapshot _ (opens_as None) insists refl missing.nowhere.0
  | inr (held, inl found) ↦ found_sound ways before look place found by insists leads fine
]

among_sound : (ways : Ways) (before : List Look) (look : Look) (from : ℕ) (names : List (List ℕ)) {shares : List Share}
    → AreAtLook true ways before look from names shares → ways.by_name ≡ true → look.snapshot.insists ≡ true
    → (place : ℕ) → place < length names → look.snapshot.leads (get_or names place []) ≡ None
    → is_dropped (from + place) before ≡ false → fate_at (from + place) look ≡ sound → ⊥
among_sound ways before look from [] given by insists place within leads kept fine = absurd (omega arith)
among_sound ways before look from (name ∷ names) (names_more given rest) by insists zero within leads kept fine =
    let at : from + 0 ≡ from = omega arith in
    given_sound ways before look from given by insists leads (rw at at kept) (rw at at fine)
among_sound ways before look from (name ∷ names) (names_more given rest) by insists (suc place) within leads kept fine =
    let at : from + suc place ≡ from + 1 + place = omega arith in
    among_sound ways before look (from + 1) names rest by insists place (omega arith) leads (rw at at kept) (rw at at fine)

-- A name that was dropped stays dropped.

dropped_by : (visit : Visit) (later more : Option Failed) → (is_some later ≡ true → is_some more ≡ true)
    → is_some (failed_by visit later) ≡ true → is_some (failed_by visit more) ≡ true
dropped_by visit later more on = by visit.fate where
  by : (fate : Fate) → is_some (failed_by (record visit { fate = fate }) later) ≡ true
      → is_some (failed_by (record visit { fate = fate }) more) ≡ true
  by sound dropped = on dropped
  by fate dropped = refl

still_dropped : (place : ℕ) (looks : List Look) (look : Look) → is_dropped place looks ≡ true
    → is_dropped place (looks ++ look ∷ []) ≡ true
still_dropped place [] look dropped = absurd (cc)
still_dropped place (first ∷ looks) look dropped =
    dropped_by (visit_at place first) (failed_in place looks) (failed_in place (looks ++ look ∷ [])) (still_dropped place looks look) dropped

-- a name on which a call failed at a look is dropped by this look
now_dropped : (place : ℕ) (looks : List Look) (look : Look) → is_dropped place looks ≡ false
    → (fate_at place look ≡ sound → ⊥) → is_dropped place (looks ++ look ∷ []) ≡ true
now_dropped place looks look kept failed =
    ap is_some (failed_more place looks look (none (failed_in place looks) kept) refl) ∙ by (fate_at place look) failed where
      none : (broken : Option Failed) → is_some broken ≡ false → broken ≡ None
      none None is = refl
      none (Some call) is = absurd (cc)

      by : (fate : Fate) → (fate ≡ sound → ⊥)
          → is_some (failed_by (record (visit_at place look) { fate = fate }) None) ≡ true
      by sound failed = absurd (failed refl)
      by fate failed = refl

nowhere_before : {name : List ℕ} (looks : List Look) (look : Look) → LeadsNowhere name (looks ++ look ∷ [])
    → LeadsNowhere name looks ⊎ (look.snapshot.leads name ≡ None)
nowhere_before [] look (inl leads) = inr leads
nowhere_before [] look (inr none) = absurd none
nowhere_before (first ∷ looks) look (inl leads) = inl (inl leads)
nowhere_before (first ∷ looks) look (inr later) = elim (nowhere_before looks look later) [
  | inl before ↦ inl (inr before)
  | inr leads ↦ inr leads
]

insist_before : (looks : List Look) (look : Look) → AllInsist (looks ++ look ∷ [])
    → AllInsist looks × (look.snapshot.insists ≡ true)
insist_before [] look all = (tt, all.0)
insist_before (first ∷ looks) look all = let rest = insist_before looks look all.1 in ((all.0, rest.0), rest.1)

-- after one look more, a name that led nowhere at any of the looks is dropped
one_more_go : (ways : Ways) (names : List (List ℕ)) (before : List Look) (look : Look) {more : List Share}
    → AreAtLook true ways before look ways.first names more → ways.by_name ≡ true → look.snapshot.insists ≡ true
    → (place : ℕ) → place < length names
    → (LeadsNowhere (get_or names place []) before → is_dropped (ways.first + place) before ≡ true)
    → LeadsNowhere (get_or names place []) (before ++ look ∷ []) → (dropped : Bool)
    → is_dropped (ways.first + place) before ≡ dropped → is_dropped (ways.first + place) (before ++ look ∷ []) ≡ true
one_more_go ways names before look at_look by insists place within so_far nowhere true was =
    still_dropped (ways.first + place) before look was
one_more_go ways names before look at_look by insists place within so_far nowhere false was =
    let there : LeadsNowhere (get_or names place []) before → ⊥ = λ missing. false≢true (sym was ∙ so_far missing) in
    elim (nowhere_before before look nowhere) [
      | inl missing ↦ absurd (there missing)
      | inr leads ↦ now_dropped (ways.first + place) before look was
          (among_sound ways before look ways.first names at_look by insists place within leads was)
    ]

pub names_go : (ways : Ways) (names : List (List ℕ)) (looks : List Look) → ways.by_name ≡ true → AllInsist looks
    → (shares : List Share) → AreFound true ways names looks shares → (place : ℕ) → place < length names
    → LeadsNowhere (get_or names place []) looks → is_dropped (ways.first + place) looks ≡ true
names_go ways names looks by insist shares no_looks place within nowhere = absurd nowhere
names_go ways names looks by insist shares (looks_more {looks = before} {look} {shares = given} found at_look) place within nowhere =
    let insisted = insist_before before look insist in
    one_more_go ways names before look at_look by insisted.1 place within
    (names_go ways names before by insisted.0 given found place within) nowhere (is_dropped (ways.first + place) before) refl

-- If looks cling, the first file stays.

stays_on : (leads : ℕ → Option ℕ) (file n later : ℕ) → n ≤ later → first_led leads n ≡ Some file
    → first_led leads later ≡ Some file
stays_on leads file n zero within is = let same : n ≡ zero = omega arith in rw same at is
stays_on leads file n (suc later) within is = elim (cases_lt n (suc later)) [
  | inl less ↦ ap (λ led. or_else led (leads later)) (stays_on leads file n later (omega (arith, less)) is)
  | inr past ↦ let same : n ≡ suc later = omega (arith, within, past) in rw same at is
]

pub stays_first : (shows : ℕ → Snapshot) (name : List ℕ) (file n later : ℕ) → n ≤ later
    → (clinging shows n).leads name ≡ Some file → (clinging shows later).leads name ≡ Some file
stays_first shows name file n later within is =
    stays_on (λ look. (forgiving (shows look)).leads name) file (suc n) (suc later) (omega arith) is
