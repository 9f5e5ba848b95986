-- What each line with a match has, and where a text lacks it.
use Rattle.std.proofs.{
  Common.{rules, ◌≡◌, inl, inr, ℕ, zero, suc, ◌+◌, ◌-◌, ◌<◌, ◌≤◌, Bool, true, false, IsTrue, List, [], ◌∷◌, ◌++◌},
  Common.{length, slice_index, refl, ◌∙◌, arith, length-append},
  lemmas.{Bool.cases_eq, List.get_or_append_left, Grind.common_steps},
  Math.Seq.get_or-append_seam,
}
use Rattle.memchr.specs.Find.{Nowhere, Passes, OccursAt}
use Rattle.bre_core.{specs.{ByteSet.has, Pattern.Pattern, Search.contains}, proofs.Searching.contains_tells}
use Rattle.scan_core.specs.{
  declared.{
    few_bytes.FewBytes.FewBytes,
    needle.Needle.{Needle, TheVariants.{Byte, Text}},
    node.Node.{Node, TheVariants.{Take, First, Last, Choose, Back}},
  },
  Clear.IsClear,
  Code.{At, Leads, Walks, code_of, IsOrdered},
  Counted.EndsIn,
  inner.Needles.{is_among, AreBytes, IsNeedle, LacksBefore, IsPassed, TakesOnly, IsLiteral},
}
use Rattle.scan_core.proofs.{Codes.{contained, at_at}, Enterings.{at_once, at_least}}

-- Each walk to the end comes by a node beyond which no choice leads.

step_near : (code : List Node) (line : List ℕ) {number : ℕ} (node : Node) {at : ℕ} (place : ℕ) {at' : ℕ} (place' : ℕ)
    → IsPassed code number → At code at node → Leads node line at place at' place' → at < number → at' ≤ number
step_near code line (Take bytes) place place' passed here led low = omega arith
step_near code line First place place' passed here led low = omega arith
step_near code line Last place place' passed here led low = omega arith
step_near code line (Choose skip) place place' passed here led low = grind (arith, common_steps)
step_near code line (Back by) place place' passed here led low = omega arith

come_by : (code : List Node) {line : List ℕ} {number : ℕ} → IsPassed code number → (count : ℕ) {at : ℕ} (place : ℕ)
    {to stop : ℕ} → Walks code line count at place to stop → at ≤ number → number < to
    → (there : ℕ) × (rest : ℕ) × Walks code line rest number there to stop
come_by code passed zero place w low high = absurd (omega arith)
come_by code {line} {number} passed (suc count) {at} place w low high = elim (cases_eq at number) [
  | inl same ↦ (place, suc count, rw same at w)
  | inr other ↦ come_by code passed count w.1 w.3 (step_near code line w.2.0 place w.1 passed w.2.1 w.2.2 (omega arith)) high
]

-- A walk that goes on from nodes which take bytes takes one after another.

led_on : (code : List Node) {line : List ℕ} (count : ℕ) {number place : ℕ} (to stop : ℕ) (bytes : List Bool)
    → Walks code line (suc count) number place to stop → At code number (Take bytes)
    → (place < length line) × IsTrue (has bytes (slice_index line place))
    × Walks code line count (number + 1) (place + 1) to stop
led_on code count to stop bytes w here = search (rules, at_once)

abbrev AreTakes : List Node → ℕ → ℕ → Type 0
AreTakes code number last = (k : ℕ) → k ≤ last → (bytes : List Bool) × At code (number + k) (Take bytes)

taken : (code : List Node) (line : List ℕ) (k number place : ℕ) {to : ℕ} (stop count : ℕ)
    → Walks code line count number place to stop → number + k < to → AreTakes code number k
    → (place + k < length line) × ((bytes : List Bool) → At code (number + k) (Take bytes)
    → IsTrue (has bytes (slice_index line (place + k))))
taken code line k number place stop zero w high takes = absurd (omega arith)
taken code line zero number place stop (suc count) w high takes =
    let first = takes 0 (omega arith) in
    let here : number + 0 ≡ number = omega arith in
    let there : place ≡ place + 0 = omega arith in
    let led = led_on _ _ _ _ _ w (at_at _ _ here first.1) in (
      omega arith,
      λ bytes at. rw there at (led_on _ _ _ _ _ w (at_at _ _ here at)).1,
    )
taken code line (suc k) number place {to} stop (suc count) w high takes =
    let first = takes 0 (omega arith) in
    let led = led_on code count to stop first.0 w (at_at code (Take first.0) (omega arith) first.1) in
    let more = taken code line k (number + 1) (place + 1) stop count led.2 (omega arith)
    (λ j low. let next = takes (suc j) (omega arith) in (next.0, at_at code (Take next.0) (omega arith) next.1)) in
    let there : place + 1 + k ≡ place + suc k = omega arith in (
      omega arith,
      λ bytes at. rw there at (more.1 bytes (at_at code (Take bytes) (omega arith) at)),
    )

-- the walk of a line with a match, from such a node on
comes : (code : List Node) {line : List ℕ} {number : ℕ} → IsPassed code number → number < length code → EndsIn code line
    → (there : ℕ) × (rest : ℕ) × (stop : ℕ) × Walks code line rest number there (length code) stop
comes code passed within ends =
    let by = come_by _ passed _ _ ends.2.2.1 (omega arith) within in
    (by.0, by.1, ends.0, by.2)

pub is_byte_needle : (code : List Node) {number : ℕ} (bytes : List Bool) (few : FewBytes) → IsPassed code number
    → At code number (Take bytes) → ((byte : ℕ) → byte < 256 → IsTrue (has bytes byte) → is_among few byte ≡ true)
    → IsNeedle code (Byte few)
is_byte_needle code {number} bytes few passed here among line are ends =
    let walk = comes _ passed (at_least _ _ _ here) ends in
    let same : number ≡ number + 0 = omega arith in
    let first : AreTakes code number 0 = λ k low. (bytes, at_at code (Take bytes) (omega arith) here) in
    let t = taken code line 0 number walk.0 walk.2 walk.1 walk.3 (omega (arith, at_least code number (Take bytes) here)) first in
    (walk.0 + 0, t.0, among (slice_index line (walk.0 + 0)) (are (walk.0 + 0) t.0) (t.1 bytes (at_at _ _ same here)))

-- a node that takes one byte alone takes bytes
only_takes : (code : List Node) (number : ℕ) {byte : ℕ} (node : Node) → At code number node → TakesOnly node byte
    → (bytes : List Bool) × At code number (Take bytes)
    × ((other : ℕ) → other < 256 → IsTrue (has bytes other) → other ≡ byte)
only_takes code number (Take bytes) here only = (bytes, here, only)
only_takes code number First here only = absurd only
only_takes code number Last here only = absurd only
only_takes code number (Choose skip) here only = absurd only
only_takes code number (Back by) here only = absurd only

pub is_text_needle : (code : List Node) {number : ℕ} {text needle : List ℕ} → IsPassed code number
    → IsLiteral code number text → needle ≡ text → 0 < length text → IsNeedle code (Text needle)
is_text_needle code {number} {text} passed literal same some line are ends = (
  walk.0,
  rw same (record {
    fits = omega (arith, each (length text - 1) (omega arith));
    reads = λ j within. (each j within).1;
  }),
)
  where
    takes : (k : ℕ) → k < length text → (bytes : List Bool) × At code (number + k) (Take bytes)
        × ((other : ℕ) → other < 256 → IsTrue (has bytes other) → other ≡ slice_index text k)
    takes k within = let one = literal k within in only_takes code (number + k) one.0 one.1 one.2

    walk : (there : ℕ) × (rest : ℕ) × (stop : ℕ) × Walks code line rest number there (length code) stop
    walk = comes code passed (omega (arith, at_least code (number + 0) _ (takes 0 some).1)) ends

    each : (k : ℕ) → k < length text → (walk.0 + k < length line) × (slice_index line (walk.0 + k) ≡ slice_index text k)
    each k within =
        let one = takes k within in
        let t = taken _ _ k _ _ _ _ walk.3 (at_least _ _ _ one.1) (λ j low. let next = takes j (omega arith) in (next.0, next.1)) in
        (t.0, one.2 (slice_index line (walk.0 + k)) (are (walk.0 + k) t.0) (t.1 one.0 one.1))

-- Stretches of a text

part_at : (before part after : List ℕ) {k : ℕ} → k < length part
    → slice_index (before ++ part ++ after) (length before + k) ≡ slice_index part k
part_at before part after within = grind (arith, common_steps)

pub lacks_byte : (few : FewBytes) {text : List ℕ} {place : ℕ} → Nowhere (Passes (is_among few) text) 0 place
    → LacksBefore (Byte few) text place
lacks_byte few none before part after all ends has = search (rules, part_at)

pub lacks_text : {needle text : List ℕ} {place : ℕ} → Nowhere (OccursAt text needle) 0 place
    → LacksBefore (Text needle) text place
lacks_text none before part after all ends has =
    let fits = has.1.fits in
    none (length before + has.0) (omega arith) (omega arith) (rw all (record {
      fits = omega (arith, length-append before part, length-append (before ++ part) after);
      reads = λ j within.
          let there : length before + has.0 + j ≡ length before + (has.0 + j) = omega arith in
          rw there (part_at before part after (omega arith) ∙ has.1.reads j within);
    }))

-- a stretch that lacks the needle contains no match

part_bytes : (before part after : List ℕ) → AreBytes (before ++ part ++ after) → AreBytes part
part_bytes before part after are k within = search (rules, length-append, part_at)

pub clear_of : (pattern : Pattern) (needle : Needle) {text : List ℕ} {place : ℕ} → IsOrdered pattern → AreBytes text
    → IsNeedle (code_of pattern) needle → LacksBefore needle text place → IsClear pattern text place
clear_of pattern needle ordered are is lacks before line after all ends = by (contains pattern line) refl
  where
    by : (found : Bool) → contains pattern line ≡ found → found ≡ false
    by false same = refl
    by true same = absurd (lacks before line after all ends
        (is line (part_bytes _ _ _ (rw all at are)) ((contained _ ordered).0 ((contains_tells pattern line).0 same))))

-- Choosing the rarest nodes

pub other_node : (code : List Node) (number : ℕ) {node : Node} → At code number node
    → ((skip : ℕ) → node ≡ Choose skip → ⊥) → (skip : ℕ) → At code number (Choose skip) → ⊥
other_node code number here differs skip there = differs skip (at_once code number here there)

pub literal_more : (code : List Node) (from : ℕ) {at : ℕ} (byte : ℕ) (text : List ℕ) (node : Node)
    → from + length text ≡ at → IsLiteral code from text → At code at node → TakesOnly node byte
    → IsLiteral code from (text ++ byte ∷ [])
literal_more code from {at} byte text node all literal here only k within = elim (cases_eq k (length text)) [
  | inl same ↦
      let there : at ≡ from + k = omega arith in
      (node, at_at _ _ there here, rw (same, get_or-append_seam text byte [] 0) only)
  | inr other ↦
      let less : k < length text = omega (arith, length-append text (byte ∷ [])) in
      let one = literal k less in
      (one.0, one.1, rw (← get_or_append_left text (byte ∷ []) _ k less) at one.2)
]
