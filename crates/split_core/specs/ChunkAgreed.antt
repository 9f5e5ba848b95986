-- What all continuations of an input agree on, if it is cut into chunks. At the end each continuation makes all files,
-- so they agree on each output by itself.
use Rattle.std.specs.{
  Prelude.{◌≡◌, ◌≢◌, ◌⊎◌, ℕ, ◌-◌, ◌<◌, ◌≤◌, suc, nat_lt, true, List, [], ◌∷◌, ◌++◌, get_or, length, take},
  Prelude.{Option, if◌then◌else◌},
}
use Rattle.seg_core.specs.{Line.joined, declared.cut.Chunks.Chunks}
use Rattle.engine_core.specs.{
  Agreed.{CanCome, Spot, file_bytes, output_at, spots_from},
  Written.{Written, IsBeginning, Begins},
  InTurn.AllClosed,
  Work.Work,
}
use Rattle.ports_core.specs.{Slot.Slot, declared.slot.State.TheVariants.Open}
use Rattle.split_core.specs.{Chunks.{in_the_end, is_as_said, pieces_in}, ChunkWork.{ChunksPlan, chunks_whole}}

-- bytes that may come after x: with them it has the size that the input showed
abbrev pub CanFollow : Option ℕ → List ℕ → List ℕ → Type 0
CanFollow said x y = CanCome y × (is_as_said said (x ++ y) ≡ true)

-- two continuations of x have no more in common in this output than `agreed` has
abbrev pub HasNoMore : (List ℕ → Type 0) → Work → List ℕ → Written → ℕ → Type 0
HasNoMore comes work x agreed place = (y : List ℕ) × (z : List ℕ) × comes y × comes z
    × ((front : List ℕ) → IsBeginning front (output_at (work.whole (x ++ y)) place)
    → IsBeginning front (output_at (work.whole (x ++ z)) place) → length front ≤ length (output_at agreed place))

-- The most that all continuations of x have in common in each output: nothing, if `agreed` has no such output.
pub record AgreeAt (comes : List ℕ → Type 0) (work : Work) (x : List ℕ) (agreed : Written) : Type 0 where
  -- at the end every continuation has these outputs, each with this beginning
  pub common : (y : List ℕ) → comes y → Begins agreed (work.whole (x ++ y))
  -- in each output two continuations have no more in common
  pub longest : (place : ℕ) → HasNoMore comes work x agreed place

-- two continuations give different things
abbrev pub TwoDiffer : {A : Type 0} → (List ℕ → Type 0) → (List ℕ → A) → Type 0
TwoDiffer comes given = (y : List ℕ) × (z : List ℕ) × comes y × comes z × (given y ≢ given z)

-- Which files there are: first the files that are the same at the end of all continuations, closed; then at most one
-- file, open and with a byte.
pub record AreMade (comes : List ℕ → Type 0) (work : Work) (x : List ℕ) (files : List Slot) : Type 0 where
  pub closed : List Slot
  pub next : List Slot
  pub are : files ≡ closed ++ next
  pub are_closed : AllClosed closed
  -- at the end every continuation begins with these files
  pub stay : (y : List ℕ) → comes y → take (length closed) (work.whole (x ++ y)).files ≡ closed
  -- no continuation has another file, or two of them differ in the next file
  pub most : ((y : List ℕ) → comes y → (work.whole (x ++ y)).files ≡ closed)
      ⊎ TwoDiffer comes (λ y. take (suc (length closed)) (work.whole (x ++ y)).files)
  pub begun : (next ≡ []) ⊎ ((file : Slot) × (next ≡ file ∷ []) × (file.state ≡ Open) × (0 < length file.written))

-- where byte i of an input goes, counted from 0: the files have its bytes one after another
abbrev pub chunk_spots : ChunksPlan → Option ℕ → List ℕ → ℕ → List Spot
chunk_spots plan said x i = spots_from 1 (file_bytes (chunks_whole plan said x)) i

-- where byte i of an input goes if only the piece at a place is written, to standard output
abbrev pub piece_spots : ℕ → List (List ℕ) → ℕ → List Spot
piece_spots place pieces i = if nat_lt i (length (joined (take place pieces))) then []
    else spots_from 0 (get_or pieces place [] ∷ []) (i - length (joined (take place pieces)))

abbrev pub one_chunk_spots : ℕ → Chunks → Option ℕ → List ℕ → ℕ → List Spot
one_chunk_spots place chunks said x i = piece_spots place (pieces_in (in_the_end chunks said x)) i
