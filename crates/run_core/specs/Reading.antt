-- What a run leaves of its inputs.
use Rattle.std.specs.Prelude.{◌≡◌, ℕ, ◌≤◌, ◌<◌, Bool, true, false, List, [], ◌∷◌, ◌⊎◌, length, Option, Some, None}
use Rattle.ports_core.specs.{
  Source.{Content, Source, source_at, source_of},
  Inputs.CameFrom,
  declared.reason.Reason.{Reason, TheVariants.Other},
}
use Rattle.engine_core.specs.Work.{Work}
use Rattle.run_core.specs.{Feeding.{IsReadTo, LeavesOf, Step, SawEnd, Uses}, Input.{Input, next_slot}}

-- What is left of an input that was done, by its source. If bytes are visible, all is left except what was used. If the
-- input ended, a read reported that, or the output was complete. An input that couldn't be opened isn't open.
abbrev pub IsLeft : Bool → Work → ℕ → ℕ → Option Content → Source → Type 0
IsLeft visible work most slot None source = source.is_open ≡ false
IsLeft visible work most slot (Some content) source = (visible ≡ true → Uses work most slot content source)
    × CameFrom visible content source × SawEnd work content source

-- what is left of an input that was done, by its number; a later `-` has none
abbrev pub IsDone : Bool → Work → ℕ → Option ℕ → Option Content → List Source → Type 0
IsDone visible work most None content sources = Unit {0}
IsDone visible work most (Some slot) content sources = (slot < length sources)
    × IsLeft visible work most slot content (source_at sources slot)

abbrev pub AreDone : Bool → (Option (List ℕ) → Work) → ℕ → List Input → List Source → Type 0
AreDone visible work most [] sources = Unit {0}
AreDone visible work most (input ∷ inputs) sources =
    IsDone visible (work input.shown) most input.slot input.content sources × AreDone visible work most inputs sources

-- why a source broke; `Other` without a source
abbrev pub reason_of : Option ℕ → List Source → Reason
reason_of None sources = Other
reason_of (Some slot) sources = (source_at sources slot).reason

-- what is left of an input by its number, if a fault stopped this step
abbrev pub LeavesAt : Bool → Content → Option ℕ → List Source → Step → Type 0
LeavesAt visible content None sources = λ step. Unit {0}
LeavesAt visible content (Some slot) sources = λ step. LeavesOf visible content (source_at sources slot) step
    × (visible ≡ true → IsReadTo slot (source_at sources slot) step)

-- an input to which a run didn't come: it wasn't opened, or nothing was asked of it
abbrev pub IsUntouched : Option ℕ → Option Content → List Source → Type 0
IsUntouched None content sources = Unit {0}
IsUntouched (Some slot) content sources = (length sources ≤ slot)
    ⊎ ((there : Content) × (content ≡ Some there) × (source_at sources slot ≡ source_of there))

abbrev pub AreUntouched : List Input → List Source → Type 0
AreUntouched [] sources = Unit {0}
AreUntouched (input ∷ inputs) sources = IsUntouched input.slot input.content sources × AreUntouched inputs sources

-- how many inputs there are once these names were taken: each name except `-` opens one
abbrev pub count_after : ℕ → List (List ℕ) → ℕ
count_after count [] = count
count_after count (name ∷ names) = count_after (next_slot count name) names
