-- A text in blocks.
use Rattle.std.proofs.{
  Common.{◌≡◌, ℕ, zero, suc, ◌+◌, ◌-◌, ◌^◌, ◌<◌, ◌≤◌, List, [], ◌∷◌, ◌++◌, length, take, drop, get_or, set},
  Common.{refl, sym},
  Common.{ap, ◌∙◌, arith, append-nil, append_assoc, length-append, length-drop, drop-drop, take_at, drop_at},
  lemmas.{List.Elements.{All-set, All-take, All-drop}, Grind.common_steps},
  Math.Seq.{drop-append-add, take-append-add},
}
use Rattle.seg_core.{
  specs.{
    Line.{delimiters, first_lines, but_last_lines},
    Blocks.{BlockState, text_of, HasCount, HaveCounts, IsCounted},
    inner.Blocks.{count_of, Gone},
  },
  proofs.{
    Delimiters.{delimiters-append, delimiters-take-drop},
    LineCounts.line_count-drop,
    LastLines.few_from_nothing,
    FirstLines.{first_lines-append, first_lines-short},
  },
}

pub text_of-append : (front back : List BlockState) → text_of (front ++ back) ≡ text_of front ++ text_of back
text_of-append [] back = refl
text_of-append (block ∷ front) back =
    ap (λ x. block.bytes ++ x) (text_of-append front back) ∙ sym (append_assoc block.bytes (text_of front) (text_of back))

pub count_of-append : (front back : List BlockState) → count_of (front ++ back) ≡ count_of front + count_of back
count_of-append [] back = omega arith
count_of-append (block ∷ front) back = omega (arith, count_of-append front back)

-- one more block at the end
pub text_push : (blocks : List BlockState) (block : BlockState) (rest : List ℕ)
    → text_of (blocks ++ block ∷ []) ++ rest ≡ text_of blocks ++ (block.bytes ++ rest)
text_push blocks block rest = simp (text_of-append, append-nil, append_assoc)

-- bytes appended to those of the last block
pub text_set : (blocks : List BlockState) (n : ℕ) {last : BlockState} (new : BlockState) (part : List ℕ)
    → n + 1 ≡ length blocks → last ≡ get_or blocks n last → new.bytes ≡ last.bytes ++ part
    → text_of (set blocks n new) ≡ text_of blocks ++ part
text_set (block ∷ []) zero new part is was now = grind (arith, common_steps)
text_set (block ∷ next ∷ blocks) (suc n) new part is was now =
    ap (λ x. block.bytes ++ x) (text_set (next ∷ blocks) n new part (omega arith) was now)
    ∙ sym (append_assoc block.bytes (text_of (next ∷ blocks)) part)
text_set blocks n new part is was now = absurd (omega arith)

-- from the i-th block on
pub text_from : (blocks : List BlockState) (i : ℕ) (block : BlockState) → i < length blocks
    → block ≡ get_or blocks i block → text_of (drop i blocks) ≡ block.bytes ++ text_of (drop (i + 1) blocks)
text_from blocks i block here is = grind (arith, common_steps)

-- the count of the i-th block
pub counted_at : (delim : ℕ) (blocks : List BlockState) (i : ℕ) {block : BlockState} → i < length blocks
    → block ≡ get_or blocks i block → HaveCounts delim blocks → block.count ≡ delimiters delim block.bytes
counted_at delim blocks i {block} here is each = grind (arith, common_steps)

-- the count of all blocks
pub all_counted : (delim : ℕ) (blocks : List BlockState) → HaveCounts delim blocks
    → count_of blocks ≡ delimiters delim (text_of blocks)
all_counted delim [] each = refl
all_counted delim (block ∷ blocks) each =
    let here = counted_at delim (block ∷ blocks) 0 (omega arith) refl each in
    let rest = all_counted delim blocks (All-drop (HasCount delim) 1 (block ∷ blocks) each) in
    omega (arith, delimiters-append delim block.bytes (text_of blocks))

-- the counts stay right, once bytes went at the front of the first block, and once some came to the last
pub dropped_counts : (delim n : ℕ) {gone : ℕ} (blocks : List BlockState) {first new : BlockState} → 0 < length blocks
    → first ≡ get_or blocks 0 first → new ≡ record { bytes = drop n first.bytes; count = first.count - gone }
    → gone ≡ delimiters delim (take n first.bytes) → HaveCounts delim blocks
    → HaveCounts delim (set blocks 0 new)
dropped_counts delim n {gone} blocks {first} {new} some is now of each = grind (arith, common_steps, counted_at, delimiters-take-drop, All-set)

pub grown_counts : (delim n more : ℕ) (blocks : List BlockState) {last new : BlockState} (part : List ℕ)
    → n + 1 ≡ length blocks → last ≡ get_or blocks n last
    → new ≡ record { bytes = last.bytes ++ part; count = last.count + more } → more ≡ delimiters delim part
    → HaveCounts delim blocks
    → HaveCounts delim (set blocks n new)
grown_counts delim n more blocks {last} {new} part at is now of each = grind (arith, common_steps, counted_at, delimiters-append, All-set)

-- a block stands before a text, and the lines end after the block
pub lines_pass : (delim n : ℕ) (block rest : List ℕ) → delimiters delim block < n
    → length (first_lines delim n (block ++ rest))
    ≡ length block + length (first_lines delim (n - delimiters delim block) rest)
lines_pass delim n block rest fewer = grind (arith, common_steps, first_lines-append, first_lines-short, length-append)

-- the first block goes too
pub first_goes : {n : ℕ} {blocks : List BlockState} {first : BlockState} (left : List BlockState)
    {rest : List BlockState} {bytes count : ℕ} (long more : ℕ) → 0 < length left
    → first ≡ get_or left 0 first → length first.bytes ≤ bytes → Gone n blocks left bytes count
    → rest ≡ drop 1 left → long ≡ length first.bytes → more ≡ first.count
    → Gone n blocks rest (bytes - long) (count + more)
first_goes [] long more some is fits so_far after long_is more_is = absurd (omega arith)
first_goes {first} (block ∷ left) long more some is fits so_far after long_is more_is =
    let gone = so_far.gone in
    let both = ap length (text_of-append gone (first ∷ []) ∙ ap (λ x. text_of gone ++ x) (append-nil first.bytes))
    ∙ length-append (text_of gone) first.bytes in
    let all = count_of-append gone (first ∷ []) in
    record {
      gone = gone ++ first ∷ [];
      whole = cc (so_far.whole, append_assoc gone (first ∷ []) left);
      long = omega arith;
      counted = omega arith;
    }

first_few : (blocks : List BlockState) {first : BlockState} → 0 < length blocks → first ≡ get_or blocks 0 first
    → first.count ≤ count_of blocks
first_few [] some is = absurd (omega arith)
first_few (block ∷ blocks) some is = grind (arith, common_steps)

-- the count so far and that of the first block are no more than that of all blocks
pub gone_fits : {n : ℕ} {blocks : List BlockState} {first : BlockState} {left : List BlockState} {bytes count : ℕ}
    → 0 < length left → first ≡ get_or left 0 first → Gone n blocks left bytes count
    → count + first.count ≤ count_of blocks
gone_fits {left} some is so_far = omega (arith, ap count_of so_far.whole ∙ count_of-append so_far.gone left, first_few left some is)

text_whole : {n : ℕ} {blocks left : List BlockState} {bytes count : ℕ} (so_far : Gone n blocks left bytes count)
    → text_of blocks ≡ text_of so_far.gone ++ text_of left
text_whole {left} so_far = ap text_of so_far.whole ∙ text_of-append so_far.gone left

-- what is left once the rest of the n bytes goes too
pub rest_goes : {n : ℕ} {blocks left : List BlockState} {bytes count : ℕ} → Gone n blocks left bytes count
    → drop bytes (text_of left) ≡ drop n (text_of blocks)
rest_goes {n} {left} {bytes} so_far =
    let gone = text_of so_far.gone in
    sym (ap (drop n) (text_whole so_far) ∙ ap (λ k. drop k (gone ++ text_of left)) so_far.long ∙ drop-append-add gone (text_of left) bytes)

-- the blocks that are left have their counts
pub rest_have_counts : (delim : ℕ) {n : ℕ} {blocks left : List BlockState} {bytes count : ℕ}
    → Gone n blocks left bytes count → HaveCounts delim blocks → HaveCounts delim left
rest_have_counts delim {left} so_far each =
    let gone = so_far.gone in
    rw (drop_at gone left (length gone) refl) at (All-drop (HasCount delim) (length gone) (gone ++ left) (rw so_far.whole at each))

pub rest_counted : (delim : ℕ) {n : ℕ} {blocks left : List BlockState} {bytes count : ℕ}
    → Gone n blocks left bytes count → HaveCounts delim blocks
    → count + delimiters delim (take bytes (text_of left)) ≡ delimiters delim (take n (text_of blocks))
rest_counted delim {n} {blocks} {left} {bytes} so_far each =
    let gone = so_far.gone in
    let text = text_of gone in
    let front : take n (text_of blocks) ≡ text ++ take bytes (text_of left) =
    ap (take n) (text_whole so_far) ∙ ap (λ k. take k (text ++ text_of left)) so_far.long ∙ take-append-add text (text_of left) bytes in
    let counts : HaveCounts delim gone = rw (take_at gone left (length gone) refl) at
    (All-take (HasCount delim) (length gone) (gone ++ left) (rw so_far.whole at each)) in
    omega (arith, ap (delimiters delim) front ∙ delimiters-append delim text (take bytes (text_of left)), so_far.counted ∙ all_counted delim gone counts)

-- delimiters of a part that begins at `start`, and of what follows it
pub part_counted : (delim : ℕ) (x : List ℕ) (start n : ℕ) {count part : ℕ} → count ≡ delimiters delim (drop start x)
    → part ≡ delimiters delim (take n (drop start x)) → part + delimiters delim (drop (start + n) x) ≡ count
part_counted delim x start n is of = omega (arith, delimiters-take-drop delim n (drop start x), ap (delimiters delim) (drop-drop n start x))

-- what a window knows of its blocks, once bytes go at the front
pub counted_drop : {delim most : ℕ} (n : ℕ) {blocks new : List BlockState} {len count gone : ℕ}
    → IsCounted delim most blocks len count → n ≤ length (text_of blocks) → text_of new ≡ drop n (text_of blocks)
    → gone ≡ delimiters delim (take n (text_of blocks)) → HaveCounts delim new
    → IsCounted delim most new (len - n) (count - gone)
counted_drop {delim} n {blocks} so_far within left is each = grind (arith, common_steps, line_count-drop, length-drop, delimiters-take-drop)

-- what a window knows of its blocks, once a piece is appended
pub counted_put : {delim most : ℕ} {blocks new : List BlockState} (piece : List ℕ) {len count : ℕ} (more : ℕ)
    → IsCounted delim most blocks len count → len + length piece < 2 ^ 63
    → but_last_lines delim most (text_of blocks ++ piece) ≡ [] → text_of new ≡ text_of blocks ++ piece
    → more ≡ delimiters delim piece → HaveCounts delim new
    → IsCounted delim most new (len + length piece) (count + more)
counted_put {delim} {most} {blocks} piece more so_far fits within grown is each =
    grind (arith, common_steps, few_from_nothing, length-append, delimiters-append)

-- fresh blocks after those of which the last was filled
pub extended : {old mid : List BlockState} (filled fresh : List BlockState) {new : List BlockState} (near : List ℕ)
    {far piece : List ℕ} → new ≡ filled ++ fresh → text_of filled ≡ text_of mid ++ near → text_of fresh ≡ far
    → mid ≡ old → piece ≡ near ++ far
    → text_of new ≡ text_of old ++ piece
extended {old} filled fresh near {far} all fill_is of same split = cc (text_of-append filled fresh, append_assoc (text_of old) near far)

-- the delimiters of a text in two parts
pub split_counted : (delim : ℕ) {text : List ℕ} (near far : List ℕ) {count : ℕ} → count ≡ delimiters delim text
    → text ≡ near ++ far → count ≡ delimiters delim near + delimiters delim far
split_counted delim near far is split = is ∙ ap (delimiters delim) split ∙ delimiters-append delim near far
