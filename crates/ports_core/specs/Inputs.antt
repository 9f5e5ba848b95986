-- What a run knows of its inputs, and what it leaves of them.
use Rattle.std.specs.Prelude.{◌≡◌, ℕ, ◌<◌, ◌≤◌, ◌^◌, Bool, true, false, List, [], ◌++◌, length}
use Rattle.ports_core.specs.{Slot.changed_at, Source.{Content, Source, looks, skips, source_at, unshown}}

abbrev pub empty : Content
empty = unshown []

-- `P` is true of the content of an input; if bytes are visible, the content is `there`
abbrev pub OfContent : Bool → Content → (Content → Type 0) → Type 0
OfContent visible there P = (content : Content) × (visible ≡ true → content ≡ there) × P content

-- An input with this content came from a source that was open. If bytes aren't visible, the content breaks off exactly
-- if the source is broken.
pub record CameFrom (visible : Bool) (content : Content) (source : Source) : Type 0 where
  pub was_open : source.is_open ≡ true
  pub breaks : visible ≡ false → content.breaks_off ≡ source.is_broken

-- no input but this one was touched
pub record KeepsOthers (slot : ℕ) (old new : List Source) : Type 0 where
  pub count : length new ≡ length old
  pub others : (place : ℕ) → (place ≡ slot → ⊥) → source_at new place ≡ source_at old place

-- looks at this input asked for at most `most` bytes each, and nothing else was done
pub record HasLooked (most slot : ℕ) (old new : List Source) : Type 0 where
  pub size : ℕ
  pub within : size ≤ most
  pub looked : source_at new slot ≡ looks size (source_at old slot)
  pub others : KeepsOthers slot old new

-- The next `count` bytes of an input were passed over, fewer than 2^63. `Keeps` is true of these bytes. If bytes aren't
-- visible, it is true of some text of that length.
pub record PassesOver (visible : Bool) (slot count : ℕ) (Keeps : List ℕ → Type 0) (old new : List Source)
    : Type 0 where
  pub few : count < 2 ^ 63
  pub front : List ℕ
  pub long : count ≡ length front
  pub there : visible ≡ true → (source_at old slot).left.bytes ≡ front ++ (source_at new slot).left.bytes
  pub passed : new ≡ changed_at slot (skips count) old
  pub keeps : Keeps front

-- no read or look asked for more than `most` bytes
abbrev pub AsksAtMost : ℕ → List Source → Type 0
AsksAtMost most sources = (place : ℕ) → (source_at sources place).asked ≤ most

-- no read or look of a run asks for more than this many bytes
abbrev pub largest_piece : ℕ
largest_piece = 65536
