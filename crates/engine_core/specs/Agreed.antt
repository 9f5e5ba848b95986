-- What all continuations of an input agree on, and on which parts of it they don't. An input is bytes, or lines, and a
-- continuation is what may still come, perhaps nothing.
use Rattle.std.specs.{
  Prelude.{◌≡◌, ◌⊎◌, ◌↔◌, ℕ, ◌+◌, ◌-◌, ◌<◌, ◌≤◌, nat_lt, Bool, List, [], ◌∷◌, ◌++◌, All, get_or, length},
  Prelude.{map, if◌then◌else◌},
}
use Rattle.engine_core.specs.{Written.{Written, IsBeginning, Begins}, Work.Work}
use Rattle.ports_core.specs.Slot.{Slot, has_file}

-- The most that the outputs of all continuations of x have in common. `whole` is what is made of an input in the end,
-- `begins` says that one whole is a beginning of another, and `outputs` gives the outputs of a whole, in order.
pub record AgreeOn {A W : Type 0} (comes : List A → Type 0) (begins : W → W → Type 0) (outputs : W → List (List A))
    (whole : List A → W) (x : List A) (agreed : W) : Type 0 where
  -- in the end every continuation has these outputs, and each of them begins as here
  pub common : (y : List A) → comes y → begins agreed (whole (x ++ y))
  -- some continuation has no further output
  pub fewest : (y : List A) × comes y × (length (outputs (whole (x ++ y))) ≡ length (outputs agreed))
  -- for each output two continuations have no more in common in it
  pub longest : (place : ℕ) → place < length (outputs agreed) → (y : List A) × (z : List A) × comes y × comes z
      × ((front : List A) → IsBeginning front (get_or (outputs (whole (x ++ y))) place [])
      → IsBeginning front (get_or (outputs (whole (x ++ z))) place [])
      → length front ≤ length (get_or (outputs agreed) place []))

-- Element i of the input goes to some place under one continuation of x, and not under another. `Goes x i at` says that
-- element i of the input x, counted from 0, goes to the place `at`.
abbrev pub GoesApart : {A P : Type 0} → (List A → Type 0) → (List A → ℕ → P → Type 0) → List A → ℕ → Type 0
GoesApart {A = A} {P} comes Goes x i = (y : List A) × (z : List A) × (at : P) × comes y × comes z × Goes (x ++ y) i at
    × (Goes (x ++ z) i at → ⊥)

-- The waiting elements are the last of x, and exactly those on which continuations differ.
pub record DifferOn {A P : Type 0} (comes : List A → Type 0) (Goes : List A → ℕ → P → Type 0)
    (x waiting : List A) : Type 0 where
  pub before : List A
  pub are_last : x ≡ before ++ waiting
  pub differ : (i : ℕ) → length before ≤ i → i < length x → GoesApart comes Goes x i
  -- any other element goes to the same places, or nowhere, under all continuations
  pub decided : (i : ℕ) → i < length before → (y z : List A) (at : P) → comes y → comes z → Goes (x ++ y) i at
      → Goes (x ++ z) i at

-- Inputs of bytes

-- bytes that may still come
abbrev pub CanCome : List ℕ → Type 0
CanCome y = All (λ byte. byte < 256) y

-- the bytes of each file
abbrev pub file_bytes : Written → List (List ℕ)
file_bytes part = map (λ (file : Slot). file.written) part.files

-- whether each file is there: open or closed
abbrev pub files_there : Written → List Bool
files_there part = map (λ (file : Slot). has_file file.state) part.files

-- the outputs by their place: standard output at place 0, and then the files in their order
abbrev pub outputs_of : Written → List (List ℕ)
outputs_of part = part.out ∷ file_bytes part

abbrev pub output_at : Written → ℕ → List ℕ
output_at part place = get_or (outputs_of part) place []

-- the most that the outputs of all continuations of x have in common
abbrev pub IsAgreed : Work → List ℕ → Written → Type 0
IsAgreed work = AgreeOn CanCome Begins outputs_of work.whole

-- where a byte goes: to the output at this place, after this many bytes of it
pub record Spot : Type 0 where
  pub place : ℕ
  pub offset : ℕ

abbrev pub spot : ℕ → ℕ → Spot
spot place offset = record { place = place; offset = offset }

-- The spot of byte i of an input, counted from 0, if the outputs from a place on have the bytes of the input, one
-- output after another. A byte that these outputs lack has no spot.
abbrev pub spots_from : ℕ → List (List ℕ) → ℕ → List Spot
spots_from place [] i = []
spots_from place (bytes ∷ outputs) i = if nat_lt i (length bytes) then spot place i ∷ []
    else spots_from (place + 1) outputs (i - length bytes)

-- the spot `at` is one of these spots
abbrev pub GoesTo : Spot → List Spot → Type 0
GoesTo at [] = ⊥
GoesTo at (one ∷ spots) = (at ≡ one) ⊎ GoesTo at spots

-- byte i of the input x goes to the spot `at`; `spots_of x i` has one spot, several, or none
abbrev pub GoesBy : (List ℕ → ℕ → List Spot) → List ℕ → ℕ → Spot → Type 0
GoesBy spots_of x i at = GoesTo at (spots_of x i)

-- the waiting bytes are the last of x, and exactly those on which continuations differ
abbrev pub IsUndecided : (List ℕ → ℕ → List Spot) → List ℕ → List ℕ → Type 0
IsUndecided spots_of = DifferOn CanCome (GoesBy spots_of)

-- The spots are right: in the end each output has, at each of its offsets, the one byte of the input that goes there.
pub record ArePlaced (work : Work) (spots_of : List ℕ → ℕ → List Spot) : Type 0 where
  -- a byte that goes to a spot stands there
  pub stands : (x : List ℕ) (i : ℕ) (at : Spot) → i < length x → GoesTo at (spots_of x i)
      → (at.offset < length (output_at (work.whole x) at.place))
      × (get_or (output_at (work.whole x) at.place) at.offset 0 ≡ get_or x i 0)
  -- some byte goes to each spot of the outputs
  pub filled : (x : List ℕ) (at : Spot) → at.offset < length (output_at (work.whole x) at.place) → (i : ℕ)
      × (i < length x) × GoesTo at (spots_of x i)
  -- in each output bytes stand in the order in which they came in; so no two go to the same spot
  pub order : (x : List ℕ) (i j : ℕ) (one other : Spot) → one.place ≡ other.place → GoesTo one (spots_of x i)
      → GoesTo other (spots_of x j) → i < j ↔ one.offset < other.offset

-- By no right spots do fewer bytes wait.
abbrev pub NoFewerWait : (List ℕ → Type 0) → Work → (x waiting : List ℕ) → Type 0
NoFewerWait comes work x waiting = (spots_of : List ℕ → ℕ → List Spot) (other : List ℕ) → ArePlaced work spots_of
    → DifferOn comes (GoesBy spots_of) x other → length waiting ≤ length other

-- The bytes that wait: on them continuations differ by some right spots, and by no right spots do fewer wait.
pub record AreWaiting (work : Work) (x waiting : List ℕ) : Type 0 where
  pub spots_of : List ℕ → ℕ → List Spot
  pub placed : ArePlaced work spots_of
  pub undecided : IsUndecided spots_of x waiting
  pub least : NoFewerWait CanCome work x waiting
