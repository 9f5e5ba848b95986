-- Lemmas on lists of events: two lists joined, what entries give, and beginnings.
use Rattle.std.proofs.{Common.{◌≡◌, ℕ, List, [], ◌∷◌, ◌++◌, refl, sym, append_assoc}}
use Rattle.follow_core.specs.{
  Event.{Begins, begins_none, begins_within, begins_on, Event, bytes_in, gives},
  Event.{remarks_in, notes},
  inner.Giving.IsFront,
}

pub bytes-append : (events more : List Event) → bytes_in (events ++ more) ≡ bytes_in events ++ bytes_in more
bytes-append [] more = refl
bytes-append (notes notice ∷ events) more = bytes-append events more
bytes-append (gives bytes ∷ events) more =
    rw (bytes-append events more) (sym (append_assoc bytes (bytes_in events) (bytes_in more)))

pub remarks-append : (name : List ℕ) (events more : List Event)
    → remarks_in name (events ++ more) ≡ remarks_in name events ++ remarks_in name more
remarks-append name [] more = refl
remarks-append name (notes notice ∷ events) more = rw (remarks-append name events more) refl
remarks-append name (gives bytes ∷ events) more = remarks-append name events more

-- Beginnings.

pub begins_more : {part all : List Event} (more : List Event) → Begins part all → Begins part (all ++ more)
begins_more more begins_none = begins_none
begins_more more (begins_within bytes) = begins_within bytes
begins_more more (begins_on begins) = begins_on (begins_more more begins)

pub begins_after : (front : List Event) {part all : List Event} → Begins part all
    → Begins (front ++ part) (front ++ all)
begins_after [] begins = begins
begins_after (event ∷ front) begins = begins_on (begins_after front begins)

pub begins_bytes : {bytes due : List ℕ} → IsFront bytes due → Begins (gives bytes ∷ []) (gives due ∷ [])
begins_bytes front = begins_within (front.0, front.1)

pub begins_trans : {one two all : List Event} → Begins one two → Begins two all → Begins one all
begins_trans begins_none second = begins_none
begins_trans (begins_within (rest, is)) (begins_within (more, also)) =
    begins_within (rest ++ more, rw (also, is) (append_assoc _ rest more))
begins_trans (begins_within bytes) (begins_on second) = begins_within bytes
begins_trans (begins_on first) (begins_on second) = begins_on (begins_trans first second)
begins_trans (begins_on begins_none) (begins_within (more, is)) = begins_within (more, is)
