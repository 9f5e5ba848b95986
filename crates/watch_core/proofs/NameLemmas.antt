-- Lemmas on the names that are watched, if one of them changes.
use Rattle.std.proofs.{
  Common.{◌≡◌, ℕ, ◌<◌, zero, suc, Bool, true, false, ◌&&◌, IsTrue, List, [], ◌∷◌, ◌++◌, length, refl, sym, ◌∙◌, ap},
  Common.{subst, arith, get_or, set, is_some, Option},
  lemmas.Bool.false≢true,
}
use Rattle.ports_core.{specs.{Slot.changed_at, declared.reason.Reason.Reason}, proofs.SlotLemmas.set-changed}
use Rattle.watch_core.specs.{
  Snapshot.{Snapshot, latest},
  Watched.{Watched, watched_at, is_watchable, is_readable, breaks},
  declared.watch.Broken.Broken,
}

pub watchable_within : (names : List Watched) (place : ℕ) → IsTrue (is_watchable names place) → place < length names
watchable_within [] place can = absurd (false≢true can)
watchable_within (name ∷ names) zero can = omega arith
watchable_within (name ∷ names) (suc place) can = let rest : place < length names = watchable_within names place can in omega arith

second : (a b : Bool) → IsTrue (a && b) → IsTrue b
second true b both = both
second false b both = absurd (false≢true both)

pub readable_watchable : (names : List Watched) (place : ℕ) → IsTrue (is_readable names place)
    → IsTrue (is_watchable names place)
readable_watchable names place can = second (is_some (watched_at names place).opened) (is_watchable names place) can

pub name_there : (names : List Watched) (place : ℕ) (name : Watched) → place < length names
    → name ≡ get_or names place name → name ≡ watched_at names place
name_there [] place name within is = absurd (omega arith)
name_there (first ∷ names) zero name within is = is
name_there (first ∷ names) (suc place) name within is = name_there names place name (omega arith) is

pub name_changes : (names now : List Watched) (place : ℕ) (change : Watched → Watched) (name new : Watched)
    → names ≡ now → place < length names → name ≡ get_or names place name → new ≡ change name
    → set names place new ≡ changed_at place change now
name_changes names now place change name new is within at changed =
    ap (set names place) changed ∙ set-changed names place change name within at ∙ ap (changed_at place change) is

pub names_within : (names now : List Watched) (place : ℕ) → names ≡ now → IsTrue (is_watchable now place)
    → place < length names
names_within names now place is can = watchable_within names place (subst (λ those. is_watchable those place ≡ true) (sym is) can)

-- after one more look, that look is the last
pub latest-last : (snapshots : List Snapshot) (snapshot : Snapshot) → latest (snapshots ++ snapshot ∷ []) ≡ snapshot
latest-last [] snapshot = refl
latest-last (one ∷ []) snapshot = refl
latest-last (one ∷ two ∷ snapshots) snapshot = latest-last (two ∷ snapshots) snapshot

-- a name breaks as it does with the file that was open
pub broke_so : (why : Reason) (names : List Watched) (place : ℕ) (how : Option ℕ → Broken) {file : Option ℕ}
    → file ≡ (watched_at names place).opened
    → changed_at place (breaks why (λ other. how file)) names ≡ changed_at place (breaks why how) names
broke_so why [] place how is = refl
broke_so why (name ∷ names) zero how is = ap (λ file. breaks why (λ other. how file) name ∷ names) is
broke_so why (name ∷ names) (suc place) how is = ap (λ rest. name ∷ rest) (broke_so why names place how is)
