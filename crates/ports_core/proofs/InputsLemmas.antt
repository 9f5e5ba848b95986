-- Lemmas on what reads leave of the inputs of a run.
use Rattle.std.proofs.{
  lemmas.Grind.common_steps,
  Common.{◌≡◌, ℕ, ◌≤◌, Bool, true, false, IsTrue, List, [], ◌++◌, take, slice_index_or, arith, ◌<◌, append-nil},
  Common.{take-append-drop, ◌^◌, max, zero, suc, ◌∷◌, length, replicate, if◌then◌else◌, refl, sym, ap},
  lemmas.Bool.false≢true,
  lemmas.List.{length-replicate, length-take-le},
}
use Rattle.ports_core.specs.{
  Inputs.{AsksAtMost, CameFrom, KeepsOthers, OfContent, HasLooked, PassesOver},
  Slot.changed_at,
  Source.{Content, ReadFails, Source, source_at, is_readable, gives, Gave, BrokeOff, IsFresh, looks, skips},
}
use Rattle.ports_core.proofs.{SlotLemmas.{changed_there, elsewhere, length-changed_at}, SourceLemmas.readable_within}

-- the bytes x were read of this input, and the others are left
pub record HasRead (content : Content) (x : List ℕ) (slot : ℕ) (sources : List Source) : Type 0 where
  pub bytes : content.bytes ≡ x ++ (source_at sources slot).left.bytes
  pub breaks_off : (source_at sources slot).left.breaks_off ≡ content.breaks_off

pub nothing_read : (slot : ℕ) (sources : List Source) → HasRead (source_at sources slot).left [] slot sources
nothing_read slot sources = grind arith

-- a change of one input changes no other

pub changed_elsewhere : {X : Type 0} (default : X) (place other : ℕ) (change : X → X) (xs : List X)
    → (other ≡ place → ⊥) → slice_index_or (changed_at place change xs) other default ≡ slice_index_or xs other default
changed_elsewhere = elsewhere

pub keeps_others : (slot : ℕ) (change : Source → Source) (old new : List Source) → new ≡ changed_at slot change old
    → KeepsOthers slot old new
keeps_others slot change old new is = grind (arith, length-changed_at, changed_elsewhere)

pub keeps_itself : (slot : ℕ) (sources : List Source) → KeepsOthers slot sources sources
keeps_itself slot sources = grind arith

pub keeps_again : (slot : ℕ) (old mid new : List Source) → KeepsOthers slot old mid → KeepsOthers slot mid new
    → KeepsOthers slot old new
keeps_again slot old mid new first second = grind arith

-- a change of an input that can be read is a change of its source
pub changed_source : (slot : ℕ) (change : Source → Source) (sources new : List Source)
    → IsTrue (is_readable sources slot) → new ≡ changed_at slot change sources
    → source_at new slot ≡ change (source_at sources slot)
changed_source slot change sources new can is = grind (arith, changed_there, readable_within)

-- an input that can be read didn't break
pub sound_at : (sources : List Source) (slot : ℕ) → IsTrue (is_readable sources slot)
    → (source_at sources slot).is_broken ≡ false
sound_at sources slot can = grind arith

-- an input that can be read still can after a read
pub still_readable : (slot : ℕ) (sources new : List Source) (size n : ℕ) → new ≡ changed_at slot (gives size n) sources
    → IsTrue (is_readable sources slot) → IsTrue (is_readable new slot)
still_readable slot sources new size n is can = grind (arith, changed_source)

pub read_more : (content : Content) (x : List ℕ) (slot : ℕ) (sources new : List Source) (old_buffer buffer : List ℕ)
    (size n : ℕ) → HasRead content x slot sources → IsTrue (is_readable sources slot)
    → Gave (source_at sources slot).left old_buffer buffer n → new ≡ changed_at slot (gives size n) sources
    → HasRead content (x ++ take n buffer) slot new
read_more content x slot sources new old_buffer buffer size n read can gave is = grind (arith, common_steps, changed_source, take-append-drop)

pub read_to_end : (content : Content) (x : List ℕ) (slot : ℕ) (sources : List Source) → HasRead content x slot sources
    → (source_at sources slot).left.bytes ≡ [] → (source_at sources slot).left.breaks_off ≡ false
    → (content.breaks_off ≡ false) × (content.bytes ≡ x)
read_to_end content x slot sources read none sound = grind (arith, append-nil)

pub read_broken : (content : Content) (x : List ℕ) (slot : ℕ) (sources : List Source) → HasRead content x slot sources
    → BrokeOff (source_at sources slot).left → (content.bytes ≡ x) × (content.breaks_off ≡ true)
read_broken content x slot sources read broke = grind (arith, append-nil)

-- an input that can be read came from its source, if the content doesn't break off
pub came_sound : (visible : Bool) {content : Content} (sources : List Source) (slot : ℕ)
    → IsTrue (is_readable sources slot) → (visible ≡ false → content.breaks_off ≡ false)
    → CameFrom visible content (source_at sources slot)
came_sound visible sources slot can sound = grind arith

-- an input whose read failed came from its source, if the content breaks off
pub came_broken : (visible : Bool) {content : Content} (slot size : ℕ) (sources new : List Source)
    → IsTrue (is_readable sources slot) → ReadFails slot size sources new
    → (visible ≡ false → content.breaks_off ≡ true) → CameFrom visible content (source_at new slot)
came_broken visible slot size sources new can (why, is) broken = grind (arith, changed_source)

pub of_content : (visible : Bool) (there seen : Content) (source : Source) (P : Content → Type 0)
    → (visible ≡ true → P there)
    → (visible ≡ false → P seen) → source.is_open ≡ true → seen.breaks_off ≡ source.is_broken
    → OfContent visible there (λ content. P content × CameFrom visible content source)
of_content true there seen source P visible untold was alike = grind arith
of_content false there seen source P visible untold was alike = grind arith

pub read_failed : (content : Content) (x : List ℕ) (slot : ℕ) (sources new : List Source) (size : ℕ)
    → HasRead content x slot sources → IsTrue (is_readable sources slot) → ReadFails slot size sources new
    → content.bytes ≡ x ++ (source_at new slot).left.bytes
read_failed content x slot sources new size read can (why, is) = grind (arith, changed_source)

-- a read that reported the end took nothing
pub read_none_more : (content : Content) (x : List ℕ) (slot : ℕ) (sources new : List Source) (size n : ℕ)
    → HasRead content x slot sources → IsTrue (is_readable sources slot) → n ≡ 0
    → new ≡ changed_at slot (gives size n) sources → content.bytes ≡ x ++ (source_at new slot).left.bytes
read_none_more content x slot sources new size n read can none is = grind (arith, changed_source)

-- a read that asks for no more than `most` bytes keeps to the limit
pub asked_again : (slot size most n : ℕ) (sources new : List Source) → IsTrue (is_readable sources slot)
    → new ≡ changed_at slot (gives size n) sources → size ≤ most → (source_at sources slot).asked ≤ most
    → (source_at new slot).asked ≤ most
asked_again slot size most n sources new can is within so_far = grind (arith, changed_source)

pub asked_at_end : (slot size most : ℕ) (sources new : List Source) → IsTrue (is_readable sources slot)
    → ReadFails slot size sources new → size ≤ most → (source_at sources slot).asked ≤ most
    → (source_at new slot).asked ≤ most
asked_at_end slot size most sources new can (why, is) within so_far = grind (arith, changed_source)

pub broken_now : (slot size : ℕ) (sources new : List Source) → IsTrue (is_readable sources slot)
    → ReadFails slot size sources new → (source_at new slot).is_broken ≡ true
broken_now slot size sources new can (why, is) = grind (arith, changed_source)

-- a read that gave nothing, though there was room, reported the end
pub ended_now : (slot size n : ℕ) (sources new : List Source) → IsTrue (is_readable sources slot)
    → new ≡ changed_at slot (gives size n) sources → n ≡ 0 → 0 < size → (source_at new slot).ended ≡ true
ended_now slot size n sources new can is none room = grind (arith, changed_source)

pub fresh_asks : (most : ℕ) (sources : List Source) → IsFresh sources → AsksAtMost most sources
fresh_asks most sources fresh = grind arith

-- an input of which nothing is passed over is as it was
pub none_passed : (slot : ℕ) (sources : List Source) → sources ≡ changed_at slot (skips 0) sources
none_passed slot [] = refl
none_passed zero (source ∷ sources) = grind (arith, common_steps)
none_passed (suc slot) (source ∷ sources) = ap (λ those. source ∷ those) (none_passed _ _)

-- the front of an input that can be read was passed over
pub passed_at : (slot count : ℕ) (old new : List Source) → IsTrue (is_readable old slot)
    → new ≡ changed_at slot (skips count) old → source_at new slot ≡ skips count (source_at old slot)
passed_at slot count old new can is = grind (arith, changed_there, readable_within)

-- no look was made

pub looked_none : (most slot : ℕ) (sources : List Source) → HasLooked most slot sources sources
looked_none most slot sources = grind arith

-- one look was made
pub looked_once : {most slot size : ℕ} {old new : List Source} → IsTrue (is_readable old slot) → size ≤ most
    → new ≡ changed_at slot (looks size) old → HasLooked most slot old new
looked_once {size} can few is = record { size = size; within = few; looked = changed_source _ _ _ _ can is; others = keeps_others _ _ _ _ is }

-- more looks were made
pub looked_again : {least most slot : ℕ} {old mid new : List Source} → HasLooked most slot old mid
    → HasLooked least slot mid new → least ≤ most → HasLooked most slot old new
looked_again first next few = record {
  size = max first.size next.size;
  within = omega arith;
  looked = grind arith;
  others = grind (arith, keeps_again);
}

-- an input that was looked at can still be read
pub looked_readable : {most slot : ℕ} {old new : List Source} → HasLooked most slot old new
    → IsTrue (is_readable old slot) → IsTrue (is_readable new slot)
looked_readable looked can = grind arith

-- if no byte is passed over, a statement on the empty text is enough
pub passes_none : (visible : Bool) {slot : ℕ} (Keeps : List ℕ → Type 0) {sources : List Source} → Keeps []
    → PassesOver visible slot 0 Keeps sources sources
passes_none visible Keeps keeps = grind (arith, none_passed)

-- a front of the bytes that are left was passed over
passes_front : (visible : Bool) {slot count : ℕ} {old new : List Source} → IsTrue (is_readable old slot)
    → (visible ≡ true → count ≤ length (source_at old slot).left.bytes) → count < 2 ^ 63
    → new ≡ changed_at slot (skips count) old
    → PassesOver visible slot count (λ x. Unit {0}) old new
passes_front true {slot} {count} {old} can has few passed =
    let bytes = (source_at old slot).left.bytes in
    let long : length (take count bytes) ≡ count = length-take-le count bytes (has refl) in record {
      few = few;
      front = take count bytes;
      long = sym long;
      there = λ t. rw (ap (λ (source : Source). source.left.bytes) (passed_at _ _ _ _ can passed)) (sym (take-append-drop count bytes));
      passed = passed;
      keeps = tt;
    }
passes_front false {count = count} can has few passed = record {
  few = few;
  front = replicate count 0;
  long = sym (length-replicate count 0);
  there = λ t. absurd (false≢true t);
  passed = passed;
  keeps = tt;
}

-- a front was passed over, or nothing if that can't be done
pub passes_if : (visible done : Bool) {slot count : ℕ} {old new : List Source} → IsTrue (is_readable old slot)
    → (IsTrue done → visible ≡ true → count ≤ length (source_at old slot).left.bytes) → count < 2 ^ 63
    → (IsTrue done → new ≡ changed_at slot (skips count) old) → (done ≡ false → new ≡ old)
    → PassesOver visible slot (if done then count else 0) (λ x. Unit {0}) old new
passes_if visible true can has few passed stays = passes_front _ can (has refl) few (passed refl)
passes_if visible false can has few passed stays = rw (stays refl) (passes_none _ _ tt)

-- the flag that says whether bytes were passed over is known
pub passes_by : {visible : Bool} {slot : ℕ} {Keeps : List ℕ → Type 0} {old new : List Source} (count : ℕ) (done : Bool)
    {is : Bool} → done ≡ is
    → PassesOver visible slot (if done then count else 0) Keeps old new
    → PassesOver visible slot (if is then count else 0) Keeps old new
passes_by count done is passes = grind arith

-- what follows from a statement on the bytes that were passed over
pub passes_so : {visible : Bool} {slot count : ℕ} {Before : List ℕ → Type 0} (Keeps : List ℕ → Type 0)
    {old new : List Source}
    → PassesOver visible slot count Before old new → ((x : List ℕ) → count ≡ length x → Before x → Keeps x)
    → PassesOver visible slot count Keeps old new
passes_so Keeps passes so = grind arith
