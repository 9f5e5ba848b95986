-- An item that stands last, written out as often as a duplication asks for.
use Rattle.std.proofs.{
  Common.{rules, ◌≡◌, ℕ, zero, suc, ◌+◌, ◌≤◌, List, ◌++◌, length, reverse, refl, sym, ap, ◌∙◌, arith, append_assoc},
  Common.{append-nil, ◌-◌, ◌<◌, [], ◌∷◌, set, length-append},
  lemmas.{List.{reverse-append, length-reverse}, Grind.common_steps},
  Math.Seq.set-append_seam,
}
use Rattle.scan_core.specs.{
  declared.node.Node.{Node, TheVariants.{Choose, Back}},
  Code.{copies, up_to, starred},
  inner.Backwards.stretch,
}

-- Stretches of nodes, and their copies.

-- one copy more
pub copies_more : (old : List Node) {now new : List Node} (from size count : ℕ)
    → now ≡ old ++ copies count (stretch from size old) → from + size ≤ length old → new ≡ now ++ stretch from size now
    → new ≡ old ++ copies (count + 1) (stretch from size old)
copies_more old from size count e h m = grind (arith, common_steps)

-- a copy may stand on either side of the others
copies_turn : (count : ℕ) (code : List Node) → code ++ copies count code ≡ copies count code ++ code
copies_turn zero code = append-nil code
copies_turn (suc count) code = sym (append_assoc code (copies count code) code) ∙ ap (λ l. l ++ code) (copies_turn count code)

reverse-copies : (count : ℕ) (code : List Node) → reverse (copies count code) ≡ copies count (reverse code)
reverse-copies zero code = refl
reverse-copies (suc count) code = reverse-append (copies count code) code ∙ ap (λ l. reverse code ++ l) (reverse-copies count code) ∙ copies_turn count (reverse code)

-- the stretch after a front
stretch_after : (before : List Node) {code : List Node} (more : List Node) {from size : ℕ} → length before ≡ from
    → length code ≡ size → stretch from size (before ++ (code ++ more)) ≡ code
stretch_after before more e f = grind (arith, common_steps)

reverse-starred : (code : List Node)
    → reverse (starred code) ≡ (Back (length code + 1) ∷ reverse code) ++ Choose (length code + 2) ∷ []
reverse-starred code = grind (arith, common_steps)

-- without a bound
pub starred_out : {nodes marked chosen new : List Node} (before code : List Node) {start size : ℕ} (low : ℕ)
    → length before ≡ start → nodes ≡ before ++ Back 0 ∷ reverse code → size ≡ length nodes - start - 1
    → marked ≡ set nodes start (Back (size + 1)) → chosen ≡ marked ++ Choose (length marked - start + 1) ∷ []
    → new ≡ chosen ++ copies low (stretch (start + 1) size chosen)
    → new ≡ before ++ reverse (copies low code ++ starred code)
starred_out {marked} {chosen} before code {start} {size} low b n s m ch e =
    rw (e, here, whole, append_assoc, reverse-append (copies low code) (starred code), reverse-copies low code)
  where
    counted : size ≡ length code
    counted = omega (arith, ap length n, length-append before (Back 0 ∷ reverse code), length-reverse code)

    set_now : marked ≡ before ++ Back (length code + 1) ∷ reverse code
    set_now = rw (m, n, ← b, counted) (set-append_seam before (Back 0) (reverse code) (Back (length code + 1)))

    skip : length marked - start + 1 ≡ length code + 2
    skip = omega (arith, ap length set_now, length-append before (Back (length code + 1) ∷ reverse code), length-reverse code)

    whole : chosen ≡ before ++ reverse (starred code)
    whole = rw (ch, skip, set_now, append_assoc) (ap (λ l. before ++ l) (sym (reverse-starred _)))

    parted : chosen ≡ (before ++ Back (length code + 1) ∷ []) ++ (reverse code ++ Choose (length code + 2) ∷ [])
    parted = whole ∙ ap (λ l. before ++ l) (reverse-starred _) ∙ sym (append_assoc before _ _)

    here : stretch (start + 1) size chosen ≡ reverse code
    here = rw parted (stretch_after (before ++ Back (length code + 1) ∷ []) (Choose (length code + 2) ∷ [])
        (omega (arith, length-append before (Back (length code + 1) ∷ []), b)) (omega (arith, length-reverse code, counted)))

-- the item at its place, after more nodes have been written
item_here : {nodes now : List Node} (more before code : List Node) {start size : ℕ} → length before ≡ start
    → nodes ≡ before ++ reverse code → size ≡ length nodes - start
    → now ≡ nodes ++ more → stretch start size now ≡ reverse code
item_here more before code b n s g = grind (arith, common_steps)

-- `count` times
pub exact_out : {nodes new : List Node} (before code : List Node) {start size low high : ℕ} → length before ≡ start
    → nodes ≡ before ++ reverse code → size ≡ length nodes - start → low ≡ high → 0 < high
    → new ≡ nodes ++ copies (low - 1) (stretch start size nodes)
    → new ≡ before ++ reverse (copies low code ++ up_to (high - low) code)
exact_out {nodes} before code {low = low} {high = high} b n s same some e =
    rw (e, item_here [] before code b n s (sym (append-nil nodes)), n, append_assoc, copies_turn, ← none, append-nil (copies low code), reverse-copies low code)
    (ap (λ k. before ++ copies k (reverse code)) one)
  where
    one : suc (low - 1) ≡ low
    one = omega arith

    none : 0 ≡ high - low
    none = omega arith

-- one more optional copy
pub optional_more : {nodes now middle new : List Node} (more before code : List Node) {start size : ℕ} (count : ℕ)
    → length before ≡ start → nodes ≡ before ++ reverse code → size ≡ length nodes - start → now ≡ nodes ++ more
    → now ≡ before ++ reverse (up_to count code) → middle ≡ now ++ stretch start size now
    → new ≡ middle ++ Choose (length middle - start + 1) ∷ [] → new ≡ before ++ reverse (up_to (count + 1) code)
optional_more more before code count b n s g w m e = grind (arith, common_steps)

-- the copies that are always there, before the optional ones
pub bounded_out : {nodes now new : List Node} (more before code : List Node) {start size : ℕ} (low high : ℕ) {count : ℕ}
    → length before ≡ start → nodes ≡ before ++ reverse code → size ≡ length nodes - start → now ≡ nodes ++ more
    → now ≡ before ++ reverse (up_to count code) → count ≡ high - low → new ≡ now ++ copies low (stretch start size now)
    → new ≡ before ++ reverse (copies low code ++ up_to (high - low) code)
bounded_out more before code low high b n s g w k e = search (rules, item_here, append_assoc, reverse-copies, reverse-append)

-- what was written stays at the front
pub grown_on : (nodes : List Node) {now middle new : List Node} (more first second : List Node) → now ≡ nodes ++ more
    → middle ≡ now ++ first → new ≡ middle ++ second → (all : List Node) × (new ≡ nodes ++ all)
grown_on nodes more first second g m e = grind (arith, common_steps)
