-- What private calls say of chunks.
use Rattle.std.specs.{Prelude.{ℕ, ◌≡◌, ◌+◌, ◌<◌, ◌≤◌, List, [], ◌∷◌, ◌++◌, drop, length, map}, List.range_with_len}
use Rattle.engine_core.specs.Written.{IsBeginning}
use Rattle.seg_core.specs.declared.cut.Chunks.{Chunks}
use Rattle.split_core.specs.{Chunks.{before_chunk, chunk_at, chunk_start, passed}, Parts.CutUp}

-- exactly the chunks before this place have all that goes with them
pub record HaveEnded (chunks : Chunks) (size : ℕ) (x : List ℕ) (place : ℕ) : Type 0 where
  pub within : place ≤ chunks.count
  pub before : chunk_start chunks.count size place ≤ passed chunks size x
  pub next : place < chunks.count → passed chunks size x < chunk_start chunks.count size (place + 1)

-- A text of at most `size` bytes, cut up: what it has of each chunk before this place, and all the rest as one piece.
abbrev pub cut_before : Chunks → ℕ → List ℕ → ℕ → CutUp
cut_before chunks size x place = record {
  full = map (chunk_at chunks size x) (range_with_len 0 place);
  rest = drop (length (before_chunk chunks size place x)) x;
}

-- the bytes `low` begin the first piece, or `last` if there is none
abbrev pub BeginsFirst : List ℕ → List (List ℕ) → List ℕ → Type 0
BeginsFirst low [] last = IsBeginning low last
BeginsFirst low (piece ∷ pieces) last = IsBeginning low piece

-- a text that is cut up goes on: its full pieces stay, and its rest begins the next piece
pub record GoesOn (low high : CutUp) : Type 0 where
  pub more : List (List ℕ)
  pub full : high.full ≡ low.full ++ more
  pub rest : BeginsFirst low.rest more high.rest
