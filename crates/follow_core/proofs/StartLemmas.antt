-- Lemmas on where the first look begins to write: the blocks that it reads, and the lines in them.
use Rattle.std.proofs.{
  lemmas.{Grind.common_steps, List.{length-take, drop-drop, take-take, drop-append-le}, Slice.take-put_mid},
  Common.{◌≡◌, ℕ, ◌+◌, ◌-◌, ◌<◌, ◌≤◌, List, ◌++◌, length, take, drop, Bool, true, sym, refl, ◌∙◌, ap, arith, min},
  Math.Seq.{take-add, take-append-add},
}
use borrow.Rule.Slice.PartMut.{put_mid}
use Rattle.watch_core.specs.{Snapshot.{Snapshot, latest}, Watched.{Watched, GaveFrom, open_contents, watched_at}}
use Rattle.seg_core.{
  specs.{Line.{EndsAt, FallsShort, after_lines, joined}, declared.unit.Unit.TheVariants.Lines},
  proofs.{
    LinesOf.joined-lines_of,
    FirstLines.{EndsAt-enough, EndsAt-rest},
    EndLines.{after_lines-append, after_lines-past},
  },
}
use Rattle.ends_core.{specs.laws.EndsLaws.after_of-append, proofs.FindLemmas.block_then}

-- Filling a block of a watched file, read by read.

-- an open file holds the same, if nothing changed
pub contents_same : {seen seen_old : List Snapshot} {names names_old : List Watched} (place : ℕ) → seen ≡ seen_old
    → names ≡ names_old
    → open_contents (latest seen) (watched_at names place)
    ≡ open_contents (latest seen_old) (watched_at names_old place)
contents_same {seen_old} {names} place saw same = cc

-- the first `filled` bytes of the block are what the file has from a place on
pub record Filling (visible_in : Bool) (contents : List ℕ) (from filled : ℕ) (old now : List ℕ)
    (seen_old seen_now : List Snapshot) (watched_old watched_now : List Watched) : Type 0 where
  pub are : visible_in ≡ true → take filled now ≡ take filled (drop from contents)
  pub within : filled ≤ length old
  pub seen_same : seen_now ≡ seen_old
  pub watched_same : watched_now ≡ watched_old

more_bytes : (contents : List ℕ) {read_old read_new : List ℕ} (now : List ℕ) (from : ℕ) {filled n : ℕ}
    → filled ≤ length now → length read_new ≡ length now - filled → n ≤ length read_new
    → GaveFrom contents (from + filled) read_old read_new n → take filled now ≡ take filled (drop from contents)
    → take (filled + n) (put_mid filled (length now - filled) now read_new) ≡ take (filled + n) (drop from contents)
more_bytes contents {read_new} now from {filled} {n} within long few gave are = grind
    (arith, common_steps, take-put_mid, length-take, take-take, take-append-add, drop-drop, take-add)

-- the room of the block that is still to be filled
room_of : (filled : ℕ) (now : List ℕ) → length (take (length now - filled) (drop filled now)) ≡ length now - filled
room_of filled now = grind (arith, common_steps)

pub fill_more : {visible_in : Bool} {contents now_contents : List ℕ} {from filled n : ℕ}
    {old now read_new : List ℕ} {seen_old seen_now seen_new : List Snapshot}
    {watched_old watched_now watched_new : List Watched}
    → Filling visible_in contents from filled old now seen_old seen_now watched_old watched_now
    → now_contents ≡ contents
    → filled < length now → length now ≡ length old
    → length read_new ≡ length (take (length now - filled) (drop filled now))
    → n ≤ length (take (length now - filled) (drop filled now))
    → (visible_in ≡ true
    → GaveFrom now_contents (from + filled) (take (length now - filled) (drop filled now)) read_new n)
    → seen_new ≡ seen_now → watched_new ≡ watched_now
    → Filling visible_in contents from (filled + n) old
    (put_mid filled (length now - filled) now read_new) seen_old seen_new watched_old watched_new
fill_more {contents} {from} {filled} {n} {now} {read_new} f same less long wide few gave seen watched = grind
    (arith, common_steps, room_of, more_bytes)

-- a read that gives nothing stands at the end of the file
pub fill_ends : {visible_in : Bool} {contents now_contents : List ℕ} {from filled : ℕ}
    {old now read_new : List ℕ} {seen_old seen_now : List Snapshot} {watched_old watched_now : List Watched}
    → Filling visible_in contents from filled old now seen_old seen_now watched_old watched_now
    → now_contents ≡ contents
    → filled < length now → (visible_in ≡ true
    → GaveFrom now_contents (from + filled) (take (length now - filled) (drop filled now)) read_new 0)
    → visible_in ≡ true
    → take filled (put_mid filled (length now - filled) now read_new) ≡ take (length old) (drop from contents)
fill_ends {contents} {now_contents} {from} {filled} {now} {read_new} f same less gave is = grind (arith, common_steps)

-- the place after the first lines of a block
pub passed_in : {delim left : ℕ} (at size : ℕ) {end : ℕ} (x : List ℕ) {block rest : List ℕ}
    → block ≡ take size (drop at x) → EndsAt delim left block end → rest ≡ after_lines delim left (drop at x)
    → drop (at + end) x ≡ rest
passed_in {delim} {left} at size {end} x {block} are ends is =
    let all : drop at x ≡ block ++ drop (at + size) x = block_then x at size ∙ ap (λ those. those ++ drop (at + size) x) (sym are) in
    sym (drop-drop end at x) ∙ ap (drop end) all ∙ drop-append-le end block (drop (at + size) x) ends.within
    ∙ ap (λ those. those ++ drop (at + size) x) (sym (joined-lines_of delim (drop end block)) ∙ ap joined (EndsAt-rest delim left block end ends))
    ∙ after_lines-append delim left block (drop (at + size) x) (EndsAt-enough delim left block end ends)
    ∙ ap (after_lines delim left) (sym all) ∙ sym is

-- a block that has fewer lines is passed
pub passed_by : {delim left : ℕ} (at size : ℕ) {found : ℕ} (x : List ℕ) {block rest : List ℕ}
    → block ≡ take size (drop at x) → FallsShort delim left block found → rest ≡ after_lines delim left (drop at x)
    → rest ≡ after_lines delim (left - found) (drop (at + size) x)
passed_by {delim} {left} at size x {block} are short is =
    let all : drop at x ≡ block ++ drop (at + size) x = block_then x at size ∙ ap (λ those. those ++ drop (at + size) x) (sym are) in
    let counted = short.counted in let fewer = short.fewer in
    is ∙ ap (after_lines delim left) all ∙ after_of-append delim Lines left block (drop (at + size) x)
    ∙ rw (after_lines-past delim left block (omega arith), counted) refl

-- a block was read into the front of the buffer
pub block_read : {contents now_contents : List ℕ} (buffer new : List ℕ) (from : ℕ) {size n : ℕ} (most : ℕ)
    → size ≡ min most (length buffer) → n ≤ length (take size buffer) → length new ≡ length (take size buffer)
    → now_contents ≡ contents
    → take n new ≡ take (length (take size buffer)) (drop from now_contents)
    → take n (new ++ drop size buffer) ≡ take size (drop from contents)
block_read {now_contents} buffer new from {size} {n} most is few long same are = grind (arith, common_steps)

-- the buffer keeps its room
pub room_kept : (buffer new : List ℕ) {size most : ℕ} → size ≡ min most (length buffer) → 0 < most
    → length new ≡ length (take size buffer) → 0 < length buffer → 0 < length (new ++ drop size buffer)
room_kept buffer new {size} is other long some = grind (arith, common_steps)
