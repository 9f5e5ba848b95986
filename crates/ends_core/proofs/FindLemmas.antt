-- Where the last lines of a text begin, looked for from its end, block by block; and what an input shows there.
use Rattle.std.proofs.{
  lemmas.Grind.common_steps,
  lemmas.Option.none-some,
  lemmas.List.{length-take, length-drop, length-replicate, drop-drop, take-append-drop, take-take, take_at, drop_at},
  lemmas.List.{drop_all, drop-append-le, drop-take},
  Common.{◌≡◌, ℕ, ◌+◌, ◌-◌, ◌<◌, ◌≤◌, ◌==◌, zero, suc, List, [], ◌∷◌, ◌++◌, length, take, drop, replicate},
  Common.{min, Bool, true, false, IsTrue, Option, Some, None, option_map, refl, sym, ◌∙◌, ap, arith, length-append},
  Common.{if◌then◌else◌, rules},
  Math.Seq.take-add,
}
use Rattle.std.specs.List.{onto_first}
use Rattle.seg_core.{
  specs.{
    Line.{BeginsAt, FallsShort, delimiters, ends_with, line_count, lines_of},
    inner.Lines.last_lines,
    declared.unit.Unit.{Unit as Counted, TheVariants.{Lines, Bytes}},
  },
  proofs.{
    Delimiters.delimiters-append,
    LineCounts.{ends_with-append, ends_with-some},
    LinesOf.{joined-lines_of, lines_of-append},
  },
}
use Rattle.ports_core.specs.{
  Slot.changed_at,
  Source.{Content, ShowsOf, Source, count_shown, is_readable, looks},
  Inputs.HasLooked,
}
use Rattle.ports_core.proofs.InputsLemmas.{looked_again, looked_once, looked_readable}
use Rattle.ends_core.{specs.{Ends.last_of, Shown.{SeenLast, place_of}}, proofs.AgreedLemmas.none_last}

-- Where the last lines of a text begin

count_step : (is : Bool) (byte n : ℕ) (lines : List (List ℕ)) → length lines ≡ n + 1
    → length (if is then (byte ∷ []) ∷ lines else onto_first byte lines) ≡ (if is then n + 1 else n) + 1
count_step true byte n lines is = omega arith
count_step false byte n [] is = omega arith
count_step false byte n (line ∷ lines) is = is

-- each delimiter before the last byte ends a line after which another one follows
lines_and_last : (delim : ℕ) (x : List ℕ) (last : ℕ) → line_count delim (x ++ last ∷ []) ≡ delimiters delim x + 1
lines_and_last delim [] last = search rules
lines_and_last delim (byte ∷ x) last = count_step (byte == delim) byte (delimiters delim x) (lines_of delim (x ++ last ∷ [])) (lines_and_last delim x last)

lines_and_one : (delim : ℕ) (x y : List ℕ) → length y ≡ 1 → line_count delim (x ++ y) ≡ delimiters delim x + 1
lines_and_one delim x [] one = omega arith
lines_and_one delim x (last ∷ []) one = lines_and_last delim x last
lines_and_one delim x (last ∷ next ∷ y) one = cc

-- the text without its last byte
abbrev pub but_one : List ℕ → List ℕ
but_one x = take (length x - 1) x

one_left : (x : List ℕ) → 0 < length x → length (drop (length x - 1) x) ≡ 1
one_left x some = grind (arith, common_steps)

but_one_shorter : (x : List ℕ) → 0 < length x → length (but_one x) ≡ length x - 1
but_one_shorter x some = search rules

all_lines : (delim : ℕ) (x : List ℕ) → 0 < length x → line_count delim x ≡ delimiters delim (but_one x) + 1
all_lines delim x some =
    rw take-append-drop at (lines_and_one delim (but_one x) (drop (length x - 1) x) (one_left x some))

-- a text of n lines after a complete one is the last n lines
last_are : (delim : ℕ) {n : ℕ} (front : List ℕ) {y : List ℕ} → ends_with delim front ≡ true → line_count delim y ≡ n
    → y ≡ last_lines delim n (front ++ y)
last_are delim front closed count = grind (arith, common_steps, lines_of-append, drop_at, joined-lines_of)

-- the last n lines begin after the n-th delimiter from the end, if the last byte isn't counted
pub begins_last : {delim n at : ℕ} (x : List ℕ) → 0 < length x → BeginsAt delim n (but_one x) at
    → drop at x ≡ last_lines delim n x
begins_last {delim} {n} {at} x some begins =
    let shorter = but_one_shorter x some in
    let within : at ≤ length (but_one x) = begins.within in
    let front : take at (but_one x) ≡ take at x = take-take at (length x - 1) x (omega arith) in
    let rest : drop at x ≡ drop at (but_one x) ++ drop (length x - 1) x = rw take-append-drop at
    (drop-append-le at (but_one x) (drop (length x - 1) x) within) in
    let count : line_count delim (drop at x) ≡ n = rw
    (rest, lines_and_one delim (drop at (but_one x)) (drop (length x - 1) x) (one_left x some)) begins.counted in
    last_are delim (take at x) (rw front at begins.after) count ∙ ap (last_lines delim n) (take-append-drop at x)

-- a text with fewer lines is its own last n lines
pub few_last : (delim : ℕ) {n : ℕ} (x : List ℕ) → delimiters delim (but_one x) < n → x ≡ last_lines delim n x
few_last delim [] few = grind (arith, common_steps)
few_last delim {n} (byte ∷ x) few =
    let count = all_lines delim (byte ∷ x) (omega arith) in
    let none : line_count delim (byte ∷ x) - n ≡ 0 = omega arith in
    rw none (sym (joined-lines_of delim (byte ∷ x)))

-- a block of the text is one of the text without its last byte
block_of : (x : List ℕ) (from size : ℕ) → from + size ≤ length x - 1
    → take size (drop from x) ≡ take size (drop from (but_one x))
block_of x from size within =
    let more = length x - 1 - from in
    let all : from + more ≡ length x - 1 = omega arith in
    sym (ap (λ k. take size (drop from (take k x))) (sym all) ∙ ap (take size) (drop-take from more x) ∙ take-take size more (drop from x) (omega arith))

pub block_then : (y : List ℕ) (from size : ℕ) → drop from y ≡ take size (drop from y) ++ drop (from + size) y
block_then y from size = rw (← drop-drop, take-append-drop) refl

-- where the walk from the end stands: this number of delimiters is still wanted before this place
abbrev pub IsWanted : ℕ → ℕ → ℕ → ℕ → List ℕ → Type 0
IsWanted delim count wanted end x = count ≡ wanted + delimiters delim (drop end (but_one x))

-- delimiters in the block needn't be found before it
pub wanted_before : {delim count wanted end : ℕ} (from size : ℕ) {found : ℕ} (x : List ℕ) {block : List ℕ}
    → IsWanted delim count wanted end x → from + size ≡ end → end ≤ length x - 1 → block ≡ take size (drop from x)
    → FallsShort delim wanted block found
    → IsWanted delim count (wanted - found) from x
wanted_before {delim} {end} from size x {block} is place within are short =
    let here : block ≡ take size (drop from (but_one x)) = are ∙ block_of x from size (omega arith) in
    let all : delimiters delim (drop from (but_one x)) ≡ delimiters delim block + delimiters delim (drop end (but_one x)) =
    rw (block_then (but_one x) from size, ← here, place) (delimiters-append delim block (drop end (but_one x))) in
    let counted = short.counted in let fewer = short.fewer in omega arith

-- the wanted delimiter stands in the block
pub begins_in : {delim count wanted end : ℕ} (from size : ℕ) {at : ℕ} (x : List ℕ) {block : List ℕ}
    → IsWanted delim count wanted end x → from + size ≡ end → end ≤ length x - 1 → block ≡ take size (drop from x)
    → BeginsAt delim wanted block at → BeginsAt delim count (but_one x) (from + at)
begins_in {delim} {end} from size {at} x {block} is place within are begins =
    let here : block ≡ take size (drop from (but_one x)) = are ∙ block_of x from size (omega arith) in
    let all : drop from (but_one x) ≡ block ++ drop end (but_one x) = rw (← here, place) at
    (block_then (but_one x) from size) in
    let inner : at ≤ length block = begins.within in
    let long : length block + length (drop end (but_one x)) ≡ length (but_one x) - from = rw (all, length-append) at
    (length-drop from (but_one x)) in
    let front : take (from + at) (but_one x) ≡ take from (but_one x) ++ take at block =
    rw (take-add from at (but_one x), all, take_of at block (drop end (but_one x)) inner) refl in
    let rest : drop (from + at) (but_one x) ≡ drop at block ++ drop end (but_one x) = rw (← drop-drop, all)
    (drop-append-le at block (drop end (but_one x)) inner) in
    let some : 0 < length (take at block) = ends_with-some delim (take at block) begins.after in
    let taken : length (take at block) ≡ min at (length block) = length-take at block in
    let after : delimiters delim (drop (from + at) (but_one x)) ≡ delimiters delim (drop at block) + delimiters delim
    (drop end (but_one x)) = rw rest (delimiters-append delim (drop at block) (drop end (but_one x))) in
    let counted = begins.counted in record {
      within = omega arith;
      after = rw (front, ends_with-append delim (take from (but_one x)) (take at block) some) begins.after;
      counted = omega arith;
    } where
      take_of : (at : ℕ) (block rest : List ℕ) → at ≤ length block → take at (block ++ rest) ≡ take at block
      take_of zero block rest few = refl
      take_of (suc at) [] rest few = absurd (omega arith)
      take_of (suc at) (byte ∷ block) rest few = ap (λ those. byte ∷ those) (take_of at block rest (omega arith))

-- the walk came to the front
pub all_wanted : (delim : ℕ) {count wanted : ℕ} (end : ℕ) {x : List ℕ} → IsWanted delim count wanted end x → end ≡ 0
    → 0 < wanted → x ≡ last_lines delim count x
all_wanted delim end is front some = grind (arith, common_steps, few_last)

-- Where the last lines begin in what an input shows

-- looks into the front of the buffer
pub looked_block : {most slot : ℕ} (size : ℕ) (buffer : List ℕ) {old mid new : List Source}
    → HasLooked most slot old mid → IsTrue (is_readable old slot) → length buffer ≤ most
    → new ≡ changed_at slot (looks (length (take size buffer))) mid
    → HasLooked most slot old new
looked_block {most} size buffer so_far can few is = looked_again {least = most} so_far
    (looked_once (looked_readable so_far can) (omega (arith, length-take size buffer)) is) (omega arith)

-- What is known of the text that an input shows, of which its end was looked at from a place on: this number of delimiters is still wanted
-- before it. If bytes aren't visible, the input may show any text with that end.
pub record SeenFrom (visible : Bool) (left : Content) (delim count wanted end len : ℕ) : Type 0 where
  pub text : List ℕ
  pub shown : visible ≡ true → left.shown ≡ Some text
  pub long : len ≡ length text
  pub still : IsWanted delim count wanted end text

-- before any look: a text of this length
text_shown : (visible : Bool) {len : ℕ} (shown : Option (List ℕ))
    → (visible ≡ true → Some len ≡ option_map length shown)
    → (text : List ℕ) × (visible ≡ true → shown ≡ Some text) × (len ≡ length text)
text_shown false {len} shown counted = (replicate len 0, λ never. absurd (cc), sym (length-replicate len 0))
text_shown true {len} None counted = absurd (none-some len (sym (counted refl)))
text_shown true (Some text) counted = (text, λ tells. refl, let same = counted refl in cc)

pub seen_none : (visible : Bool) {left : Content} (delim count : ℕ) {len : ℕ}
    → (visible ≡ true → Some len ≡ count_shown left)
    → SeenFrom visible left delim count count (len - 1) len
seen_none visible {left} delim count {len} counted =
    let text = text_shown visible left.shown counted in record {
      text = text.0;
      shown = text.1;
      long = text.2;
      still = omega (arith, ap (delimiters delim) (drop_all (len - 1) (but_one text.0) (omega (arith, length-take (length text.0 - 1) text.0))));
    }

-- texts that are as long and the same from a place on are so without their last byte
but_one_end : {k : ℕ} (x y : List ℕ) → k ≤ length x - 1 → drop k x ≡ drop k y → length x ≡ length y
    → drop k (but_one x) ≡ drop k (but_one y)
but_one_end {k} x y within same also =
    let more = length x - 1 - k in
    ap (λ n. drop k (take n x)) (omega arith) ∙ drop-take k more x ∙ ap (take more) same ∙ sym (drop-take k more y)
    ∙ ap (λ n. drop k (take n y)) (omega arith)

-- a look shows a block of the text
pub block_seen : (visible : Bool) {left : Content} {delim count wanted end len : ℕ} (from size : ℕ) {block : List ℕ}
    → SeenFrom visible left delim count wanted end len → from + size ≡ end → end ≤ len - 1 → length block ≡ size
    → (visible ≡ true → ShowsOf left from block)
    → (seen : SeenFrom visible left delim count wanted end len) × (block ≡ take size (drop from seen.text))
block_seen true from size seen place within long shows =
    let (text, is, there) = shows refl in
    let shown = seen.shown refl in
    let same : text ≡ seen.text = cc in
    (seen, rw (same, long) at there)
block_seen false {end = end} {len} from size {block} seen place within long shows =
    let text = take from seen.text ++ (block ++ drop end seen.text) in
    let front : length (take from seen.text) ≡ from = omega (arith, length-take from seen.text) in
    let all : length text ≡ len = omega (
      arith,
      length-append (take from seen.text) (block ++ drop end seen.text),
      length-append block (drop end seen.text),
      length-drop end seen.text,
    ) in
    let from_there : drop from text ≡ block ++ drop end seen.text = drop_at (take from seen.text) (block ++ drop end seen.text) from front in
    let rest : drop end text ≡ drop end seen.text = ap (λ k. drop k text) (sym place) ∙ sym (drop-drop size from text) ∙ ap (drop size) from_there ∙ drop_at block (drop end seen.text) size long in (
      record {
        text = text;
        shown = λ never. absurd (cc);
        long = sym all;
        still = rw (but_one_end seen.text text (omega arith) (sym rest) (omega arith)) at seen.still;
      },
      rw from_there (sym (take_at block (drop end seen.text) size long)),
    )

-- where the last n lines or bytes begin, if they are the text from here on
place_is : (delim : ℕ) (unit : Counted) (n : ℕ) {at : ℕ} (text : List ℕ) → at ≤ length text
    → drop at text ≡ last_of delim unit n text → at ≡ place_of delim unit n text
place_is delim unit n {at} text within is = omega (arith, sym (ap length is) ∙ length-drop at text)

module _ {visible : Bool} {left : Content} {delim count wanted end len : ℕ} where
  -- the wanted delimiter stands in a block
  pub found_in : (from size : ℕ) {at : ℕ} {block : List ℕ} → SeenFrom visible left delim count wanted end len
      → from + size ≡ end → 0 < end → end ≤ len - 1 → length block ≡ size → (visible ≡ true → ShowsOf left from block)
      → BeginsAt delim wanted block at
      → SeenLast visible left delim Lines count (record { place = from + at; len = len })
  found_in from size seen place some within long shows begins =
      let now = block_seen visible from size seen place within long shows in
      let text = now.0.text in
      let many = now.0.long in
      let there = begins_in from size text now.0.still place (omega arith) now.1 begins in
      let inside = there.within in record {
        text = text;
        shown = now.0.shown;
        place = place_is delim Lines count text (omega (arith, length-take (length text - 1) text)) (begins_last text (omega arith) there);
        len = many;
      }

  -- the wanted delimiter doesn't stand in a block
  pub seen_more : (from size : ℕ) {found : ℕ} {block : List ℕ} → SeenFrom visible left delim count wanted end len
      → from + size ≡ end → end ≤ len - 1 → length block ≡ size → (visible ≡ true → ShowsOf left from block)
      → FallsShort delim wanted block found → SeenFrom visible left delim count (wanted - found) from len
  seen_more from size seen place within long shows short =
      let now = block_seen visible from size seen place within long shows in
      let many = now.0.long in record {
        text = now.0.text;
        shown = now.0.shown;
        long = many;
        still = wanted_before from size now.0.text now.0.still place (omega arith) now.1 short;
      }

  -- the walk came to the front: all lines are among the last
  pub found_all : SeenFrom visible left delim count wanted end len → end ≡ 0 → 0 < wanted
      → SeenLast visible left delim Lines count (record { place = 0; len = len })
  found_all seen front some = record {
    text = seen.text;
    shown = seen.shown;
    place = place_is delim Lines count seen.text (omega arith) (all_wanted delim end seen.still front some);
    len = seen.long;
  }

-- none are wanted
pub found_none : (visible : Bool) {left : Content} (delim : ℕ) {count len : ℕ} → count ≡ 0
    → (visible ≡ true → Some len ≡ count_shown left)
    → SeenLast visible left delim Lines count (record { place = len; len = len })
found_none visible {left} delim none counted =
    let text = text_shown visible left.shown counted in record {
      text = text.0;
      shown = text.1;
      place = omega (arith, none_last delim Lines text.0, ap (λ n. length (last_of delim Lines n text.0)) none);
      len = text.2;
    }

-- bytes need no look
pub found_bytes : (visible : Bool) {left : Content} (delim count : ℕ) {len : ℕ}
    → (visible ≡ true → Some len ≡ count_shown left)
    → SeenLast visible left delim Bytes count (record { place = len - count; len = len })
found_bytes visible {left} delim count {len} counted =
    let text = text_shown visible left.shown counted in record {
      text = text.0;
      shown = text.1;
      place = omega (arith, length-drop (length text.0 - count) text.0);
      len = text.2;
    }
