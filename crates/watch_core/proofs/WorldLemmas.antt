-- Lemmas on what edits do to the files.
use Rattle.std.proofs.{
  Common.{◌≡◌, ℕ, ◌<◌, ◌≤◌, zero, suc, Bool, true, false, List, [], ◌∷◌, ◌++◌, length, Option, Some, None, refl, sym, ◌∙◌, ap, arith},
  Common.{◌⊎◌, inl, inr, slice_index_or, get_or, set},
}
use Rattle.ports_core.{proofs.SlotLemmas.set-changed, specs.Slot.changed_at}
use Rattle.watch_core.specs.Edits.{append, Bar, Link, World, led_to, with_file, edited, seen_in, shown}

-- if links and bars stay, each name leads where it led
pub same_leads : (forgives : Bool) (old new : World) (name : List ℕ) → new.links ≡ old.links → new.bars ≡ old.bars
    → (shown forgives new).leads name ≡ (shown forgives old).leads name
same_leads false old new name links bars = ap (λ those. led_to those name) links
same_leads true old new name links bars = rw (links, bars)

pub append_leads : (forgives : Bool) (world : World) (name bytes other : List ℕ)
    → (shown forgives (edited (append name bytes) world)).leads other ≡ (shown forgives world).leads other
append_leads forgives world name bytes other = by (led_to world.links name) where
  by : (led : Option ℕ) → (shown forgives (with_file led (λ held. held ++ bytes) world)).leads other
      ≡ (shown forgives world).leads other
  by None = refl
  by (Some file) = same_leads forgives world _ other refl refl

grown_at : (files : List (List ℕ)) (place file : ℕ) (bytes : List ℕ)
    → (slice_index_or (changed_at place (λ held. held ++ bytes) files) file [] ≡ slice_index_or files file [])
    ⊎ ((place ≡ file)
    × (slice_index_or (changed_at place (λ held. held ++ bytes) files) file []
    ≡ slice_index_or files file [] ++ bytes))
grown_at [] place file bytes = inl refl
grown_at (held ∷ files) zero zero bytes = inr (refl, refl)
grown_at (held ∷ files) zero (suc file) bytes = inl refl
grown_at (held ∷ files) (suc place) zero bytes = inl refl
grown_at (held ∷ files) (suc place) (suc file) bytes = elim (grown_at files place file bytes) [
  | inl same ↦ inl same
  | inr both ↦ inr (ap suc both.0, both.1)
]

-- an append changes no file but the one to which the name leads, and this file grows
pub append_grows : (world : World) (name bytes : List ℕ) (file : ℕ)
    → ((seen_in (edited (append name bytes) world)).holds file ≡ (seen_in world).holds file)
    ⊎ ((led_to world.links name ≡ Some file)
    × ((seen_in (edited (append name bytes) world)).holds file ≡ (seen_in world).holds file ++ bytes))
append_grows world name bytes file = by (led_to world.links name) refl where
  by : (led : Option ℕ) → led_to world.links name ≡ led
      → ((seen_in (with_file led (λ held. held ++ bytes) world)).holds file ≡ (seen_in world).holds file)
      ⊎ ((led ≡ Some file)
      × ((seen_in (with_file led (λ held. held ++ bytes) world)).holds file ≡ (seen_in world).holds file ++ bytes))
  by None is = inl refl
  by (Some place) is = elim (grown_at world.files place file bytes) [
    | inl same ↦ inl same
    | inr both ↦ inr (ap Some both.0, both.1)
  ]

-- nothing changes if there is no such file
changed_nowhere : {X : Type 0} (xs : List X) (place : ℕ) (change : X → X) → length xs ≤ place
    → changed_at place change xs ≡ xs
changed_nowhere [] place change beyond = refl
changed_nowhere (x ∷ xs) zero change beyond = absurd (omega arith)
changed_nowhere (x ∷ xs) (suc place) change beyond = ap (λ rest. x ∷ rest) (changed_nowhere xs place change (omega arith))

pub file_stays : (world : World) (led : Option ℕ) (file : ℕ) (change : List ℕ → List ℕ) → led ≡ Some file
    → length world.files ≤ file → world ≡ with_file led change world
file_stays world led file change is beyond = rw is (ap (λ files. record world { files = files }) (sym (changed_nowhere world.files file change beyond)))

-- to set a file to its changed bytes is to change it
pub file_changed : (world : World) (links : List Link) (files : List (List ℕ)) (ended : List ℕ) (bars : List Bar)
    (led : Option ℕ) (file : ℕ) (change : List ℕ → List ℕ) (held new : List ℕ)
    → record { links = links; files = files; ended = ended; bars = bars } ≡ world → led ≡ Some file
    → file < length files → held ≡ get_or files file held → new ≡ change held
    → record { links = links; files = set files file new; ended = ended; bars = bars } ≡ with_file led change world
file_changed world links files ended bars led file change held new is leads within there changed =
    ap (λ those. record { links = links; files = those; ended = ended; bars = bars })
    (ap (set files file) changed ∙ set-changed files file change held within there)
    ∙ ap (with_file (Some file) change) is ∙ ap (λ those. with_file those change world) (sym leads)
