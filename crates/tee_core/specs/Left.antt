-- What each output of a run has at its end.
use Rattle.std.specs.{
  Prelude.{◌≡◌, ◌⊎◌, ℕ, ◌<◌, ◌≤◌, Bool, List, [], ◌∷◌, ◌++◌, length, take, Option},
  List.concat,
}
use Rattle.ports_core.specs.{
  Slot.{Slot, adds, breaks, closes, visible_of, unopened},
  Source.{Content, Source},
  Streams.streams_with,
  declared.{reason.Reason.Reason, fault.Fault.Fault},
}
use Rattle.tee_core.specs.Run.{ComesIn, TeeRun, all_opened, output_at}

-- what an output has in the end, which was `start` when it was opened, once these pieces were copied
pub data EndsWith (visible : Bool) (pieces : List (List ℕ)) (start : Slot) : Slot → Type 0 where
  -- it never broke: it has all, and is open or closed
  all_open : EndsWith visible pieces start (adds (visible_of visible (concat pieces)) start)
  all_closed : EndsWith visible pieces start (closes (adds (visible_of visible (concat pieces)) start))
  -- it broke in a piece: it has all before this piece, and a beginning of the piece
  broke_in : (before : List (List ℕ)) (piece : List ℕ) (after : List (List ℕ)) (n : ℕ) (why : Reason)
      → pieces ≡ before ++ piece ∷ after → n < length piece
      → EndsWith visible pieces start (breaks why (adds (visible_of visible (concat before ++ take n piece)) start))
  -- it broke as it was closed: it has all
  broke_closing : (why : Reason)
      → EndsWith visible pieces start (breaks why (closes (adds (visible_of visible (concat pieces)) start)))
  -- it is a file that couldn't be opened
  not_opened : (kept : List ℕ) (why : Reason) → (kept ≡ start.name) ⊎ (kept ≡ [])
      → EndsWith visible pieces start (unopened why kept)

-- The input came in some pieces, and each output ended with what these give it. Or nothing was opened.
pub data LeftBy (run : TeeRun) (visible_in : Bool) (content : Content) (source : Source) (new : List Slot)
    : Type 0 where
  after_pieces : (pieces : List (List ℕ)) (fault : Option Fault) (is_vain : Bool)
      → ComesIn visible_in content source is_vain pieces fault
      → ((n : ℕ) → n ≤ length run.names
      → EndsWith run.visible pieces (output_at (all_opened run) n) (output_at new n))
      → LeftBy run visible_in content source new
  none_opened : (error : Slot) → new ≡ streams_with error → LeftBy run visible_in content source new
