-- How a run ends that is asked for help or the version.
use Rattle.std.specs.Prelude.{◌≡◌, ℕ, ◌<◌, Bool, List, [], ◌∷◌, codes, length, take}
use Rattle.ports_core.specs.{
  Message.{Says, Tells},
  Slot.{Slot, adds, breaks, visible_of},
  Streams.{standard_error, standard_output, streams_with},
  Text.{message_of, status_after},
  declared.{fault.Fault.TheVariants.{Memory, Write}, calling.Speaker.Speaker, reason.Reason.Reason},
}

-- Standard output got the text. Or it got a beginning of the text and broke; that is reported, unless its reader is
-- gone and the tool was called by its own name. Or there was no memory for the text, and that is reported.
pub data TellsText (visible : Bool) (speaker : Speaker) (text : List ℕ) (new : List Slot) (status : ℕ) : Type 0 where
  text_whole : new ≡ adds (visible_of visible text) standard_output ∷ standard_error ∷ [] → status ≡ 0
      → TellsText visible speaker text new status
  text_cut : (n : ℕ) → n < length text → (why : Reason) (error : Slot)
      → Tells visible speaker why (Write 0) (codes "standard output") standard_error error
      → new ≡ breaks why (adds (visible_of visible (take n text)) standard_output) ∷ error ∷ []
      → status ≡ status_after (Write 0) speaker.calling why → TellsText visible speaker text new status
  no_text : (error : Slot) → Says visible speaker (message_of Memory []) standard_error error → new ≡ streams_with error
      → status ≡ 1 → TellsText visible speaker text new status
