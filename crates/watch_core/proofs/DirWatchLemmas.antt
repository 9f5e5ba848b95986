-- Lemmas on a watch over real files, if one of its names changes.
use Rattle.std.proofs.{
  Common.{◌≡◌, ℕ, zero, suc, refl, replicate, Bool, true, false, IsTrue, List, ap, subst, get_or, set, is_some, ◌⊎◌, inl, inr},
  Common.{not, sym, ◌∙◌, Option, Some, None, option_map},
  lemmas.Bool.{false≢true, not-false},
}
use Rattle.ports_core.specs.Slot.{changed_at}
use Rattle.watch_core.{
  specs.{
    declared.{dir_name.Manner.{Manner, TheVariants.{Plain, Forgiving, Clinging, Insisting}}, watch.Seen.Seen},
    DirWatchState.{files_by, DirWatchState, seen},
    Snapshot.{Snapshot, Finding, Found, clinging, first_led, forgiving, has_zero, insisting, is_nowhere, latest, leads_to, opens_as, or_else},
    Watched.{CanBreak, Watched, Reopens, watched_at, is_watchable, opens},
  },
  proofs.NameLemmas.{name_changes, name_there, names_within},
}

pub one_changes : {watch : DirWatchState} {names : List Watched} {manner : Manner} {within rested : ℕ} {fed : Bool}
    (turns place : ℕ) (change : Watched → Watched) {item new : Watched}
    → record { turns = turns; watched = names; manner = manner; within = within; rested = rested; fed = fed } ≡ watch
    → IsTrue (is_watchable watch.watched place)
    → item ≡ get_or names place item → new ≡ change item → set names place new ≡ changed_at place change watch.watched
one_changes {watch} {names} turns place change {item} {new} is can at changed =
    let those : names ≡ watch.watched = ap (λ (all : DirWatchState). all.watched) is in
    name_changes names watch.watched place change item new those (names_within names watch.watched place those can) at changed

-- any call may have found anything, except that a name leads nowhere if that fails
pub finds_any : (manner : Manner) (within n : ℕ) (name : List ℕ) (finding : Finding)
    → (manner ≡ Insisting → is_nowhere finding ≡ false)
    → Found (latest (replicate n (files_by manner within))) name finding
finds_any manner within zero name finding there = refl
finds_any Plain within (suc zero) name finding there = refl
finds_any Forgiving within (suc zero) name finding there = refl
finds_any Clinging within (suc zero) name finding there = refl
finds_any Insisting within (suc zero) name finding there = ap not (there refl)
finds_any manner within (suc (suc n)) name finding there = finds_any manner within (suc n) name finding there

-- What calls find if the watch forgives or clings.

abbrev pub Forgives : Manner → Type 0
Forgives manner = (manner ≡ Forgiving) ⊎ (manner ≡ Clinging)

unlike : {manner : Manner} {A : Type 0} → Forgives manner → manner ≡ Insisting → A
unlike (inl is) other = absurd (cc)
unlike (inr is) other = absurd (cc)

pub finds_forgiven : {manner : Manner} (within n : ℕ) (name : List ℕ) (finding : Finding) → Forgives manner
    → Found (latest (replicate n (files_by manner within))) name finding
finds_forgiven {manner} within n name finding forgives = finds_any manner within n name finding (unlike forgives)

pub forgives_now : {watch : DirWatchState} {names : List Watched} {turns : ℕ} {manner : Manner} {within rested : ℕ}
    {fed : Bool}
    → record { turns = turns; watched = names; manner = manner; within = within; rested = rested; fed = fed } ≡ watch
    → Forgives manner → Forgives watch.manner
forgives_now is forgives = subst (λ (those : DirWatchState). Forgives those.manner) is forgives

-- What calls find if the watch insists: a file is there.

pub insists_now : {watch : DirWatchState} {names : List Watched} {turns : ℕ} {manner : Manner} {within rested : ℕ}
    {fed : Bool}
    → record { turns = turns; watched = names; manner = manner; within = within; rested = rested; fed = fed } ≡ watch
    → watch.manner ≡ Insisting → manner ≡ Insisting
insists_now is insists = ap (λ (those : DirWatchState). those.manner) is ∙ insists

pub leads_there : (found : Option Seen) → is_some found ≡ true
    → is_nowhere (leads_to (option_map (λ (file : Seen). file.id) found)) ≡ false
leads_there None is = absurd (false≢true is)
leads_there (Some file) is = refl

pub opens_there : (file : Option ℕ) → is_some file ≡ true → is_nowhere (opens_as file) ≡ false
opens_there None is = absurd (false≢true is)
opens_there (Some file) is = refl

-- a call on any name can fail; if the watch forgives, only on a name with a byte 0
breaks_any : (manner : Manner) (name : List ℕ) (within n : ℕ)
    → (manner ≡ Forgiving → has_zero name ≡ true)
    → (latest (replicate n (files_by manner within))).breaks name ≡ true
breaks_any manner name within zero is = refl
breaks_any Plain name within (suc zero) is = refl
breaks_any Forgiving name within (suc zero) is = is refl
breaks_any Clinging name within (suc zero) is = refl
breaks_any Insisting name within (suc zero) is = refl
breaks_any manner name within (suc (suc n)) is = breaks_any manner name within (suc n) is

-- What looks show from now on.

pub forgives_all : (manner : Manner) (within : ℕ)
    → ◌≡◌ {A = ℕ → Snapshot} (λ n. files_by Forgiving within) (λ n. forgiving (files_by manner within))
forgives_all Plain within = refl
forgives_all Forgiving within = refl
forgives_all Clinging within = refl
forgives_all Insisting within = refl

pub insists_all : (manner : Manner) (within : ℕ)
    → ◌≡◌ {A = ℕ → Snapshot} (λ n. files_by Insisting within) (λ n. insisting (files_by manner within))
insists_all Plain within = refl
insists_all Forgiving within = refl
insists_all Clinging within = refl
insists_all Insisting within = refl

-- a name that leads nowhere at each look led nowhere first
led_nowhere : (n : ℕ) → None ≡ first_led (λ look. None) n
led_nowhere zero = refl
led_nowhere (suc n) = ap (λ led. or_else led None) (led_nowhere n)

pub clings_all : (manner : Manner) (within : ℕ)
    → ◌≡◌ {A = ℕ → Snapshot} (λ n. files_by Clinging within) (clinging (λ n. files_by manner within))
clings_all Plain within = λ i. λ n. record (files_by Clinging within) { leads = λ name. led_nowhere (suc n) i }
clings_all Forgiving within = λ i. λ n. record (files_by Clinging within) { leads = λ name. led_nowhere (suc n) i }
clings_all Clinging within = λ i. λ n. record (files_by Clinging within) { leads = λ name. led_nowhere (suc n) i }
clings_all Insisting within = λ i. λ n. record (files_by Clinging within) { leads = λ name. led_nowhere (suc n) i }

pub may_break : {watch : DirWatchState} {names : List Watched} {turns : ℕ} {manner : Manner} {within rested : ℕ}
    {fed : Bool} (name : List ℕ)
    → record { turns = turns; watched = names; manner = manner; within = within; rested = rested; fed = fed } ≡ watch
    → (manner ≡ Forgiving → has_zero name ≡ true) → (latest (seen watch)).breaks name ≡ true
may_break {turns} {manner} name is unforgiven =
    subst (λ (those : DirWatchState). (latest (seen those)).breaks name ≡ true) is (breaks_any manner name _ turns unforgiven)

-- if the watch doesn't forgive, a call on any name can fail
pub unforgiven : {watch : DirWatchState} {names : List Watched} {turns : ℕ} {manner : Manner} {within rested : ℕ}
    {fed forgives : Bool} (name : List ℕ)
    → record { turns = turns; watched = names; manner = manner; within = within; rested = rested; fed = fed } ≡ watch
    → (manner ≡ Forgiving → IsTrue forgives) → forgives ≡ false → (latest (seen watch)).breaks name ≡ true
unforgiven name is must none = may_break name is (λ (forgiving : _ ≡ Forgiving). absurd (false≢true (sym none ∙ must forgiving)))

-- a call can fail on a name with a byte 0
pub zero_breaks : {watch : DirWatchState} {names : List Watched} {manner : Manner} {within rested : ℕ} (turns place : ℕ)
    {item : Watched} {fed zero_in : Bool}
    → record { turns = turns; watched = names; manner = manner; within = within; rested = rested; fed = fed } ≡ watch
    → IsTrue (is_watchable watch.watched place) → item ≡ get_or names place item → zero_in ≡ has_zero item.name
    → not zero_in ≡ false → CanBreak (seen watch) watch.watched place
zero_breaks {watch} {names} turns place {item} {zero_in} is can at zero_is some =
    let those : names ≡ watch.watched = ap (λ (all : DirWatchState). all.watched) is in
    let found : item ≡ watched_at watch.watched place = name_there names place item (names_within names watch.watched place those can) at
    ∙ ap (λ all. watched_at all place) those in
    may_break _ is (λ (forgives : _ ≡ Forgiving). ap (λ (those : Watched). has_zero those.name) (sym found) ∙ sym zero_is ∙ not-false zero_in some)

-- nothing is said about which file was opened
pub opened_some : {watch : DirWatchState} {snapshot : Snapshot} {names : List Watched} {manner : Manner}
    {within rested : ℕ} (turns : ℕ) {place : ℕ} {item new : Watched} {fed is_there : Bool}
    → record { turns = turns; watched = names; manner = manner; within = within; rested = rested; fed = fed } ≡ watch
    → IsTrue (is_watchable watch.watched place)
    → item ≡ get_or names place item → new ≡ opens new.opened item → is_some new.opened ≡ is_there
    → Found snapshot (watched_at watch.watched place).name (opens_as new.opened)
    → Reopens false snapshot watch.watched (set names place new) place is_there
opened_some {names} turns {place} {new} is can at changed found finding = record {
  file = new.opened;
  found = found;
  names = one_changes turns place (opens new.opened) is can at changed;
  leads = λ visible. absurd (false≢true visible);
  opens = finding;
}
