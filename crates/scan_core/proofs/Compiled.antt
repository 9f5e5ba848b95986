-- The code that is written is the pattern's.
use Rattle.std.proofs.{
  lemmas.{Grind.common_steps, List.{reverse-append, reverse-reverse, at_drop_more, Elements.All-pop}},
  Common.{rules, arith, ◌≡◌, ℕ, ◌≤◌, Option, Some, length, List, [], ◌∷◌, ◌++◌, reverse, None, sym, ap, ◌∙◌, subst},
  Common.{◌⊎◌, inl, inr, zero, suc, ◌+◌, ◌-◌, ◌<◌, drop, get_or, refl, append_assoc, append-nil, All},
}
use Rattle.scan_core.specs.{
  declared.{
    compile.{Compiling.Compiling, Pending.{Pending, TheVariants.{Group, Repeated}}},
    emit.Duplication.Duplication,
    node.Node.{Node},
  },
  inner.{
    Backwards.{HasBegun, Repeats, begun},
    Compiling.{AreBegun, Pops, Waits, IsNow, FinishesBy, Finishes, PopsNone, Begins, Closes},
    Compiling.{PassesLeaf, TakesIn, Takes, TakesAll},
  },
  Code.{code_of, code_of_item, IsOrdered, IsOrderedItem, copies, tail_of, up_to},
}
use Rattle.bre_core.specs.{
  Flat.{IsBounded, AreBounded},
  Match.IsAtMost,
  Pattern.{Pattern, nothing, append, Item, set, front, end, group, repeat, written, written_item},
  declared.token.Token.{Token, TheVariants.{Set, Front, End, Open, Close, Repeat}},
}

-- Items that are complete, and what waits for them.

pub begun_wider : (pending : List Pending) {size wider : ℕ} → size ≤ wider → All (Waits size) pending
    → All (Waits wider) pending
begun_wider pending h = search rules

pub popped_begun : (old new : Compiling) (d : Duplication) → Pops old (Some d) new → AreBegun old
    → HasBegun d.high d.low d.start (length new.nodes.items) × AreBegun new
popped_begun old new d p b =
    let parts = All-pop (Waits (length new.nodes.items)) old.pending.items new.pending.items (Some (Repeated d)) p.2 (rw (← p.0) at b) in
    (parts.1, parts.0)

turned : {pending : List Pending} (around : List Pending) {last : Pending} → pending ≡ around ++ last ∷ []
    → reverse pending ≡ last ∷ reverse around
turned around e = ap reverse e ∙ reverse-append around _

-- the last duplication that waits is written out
pub finish_more : {nodes written : List Node} {pending : List Pending} (around : List Pending) (d : Duplication)
    (final : Compiling) → pending ≡ around ++ Repeated d ∷ [] → Repeats d nodes written → Finishes written around final
    → Finishes nodes pending final
finish_more {written} around d final e r f = rw (turned _ e) (written, r, f)

-- no duplication waits
ends_by : (stack : List Pending) {nodes : List Node} {pending : List Pending} {final : Compiling}
    → pending ≡ reverse stack → PopsNone pending → IsNow nodes pending None final → FinishesBy stack nodes final
ends_by (Repeated d ∷ stack) s none n = absurd (none (reverse stack) d (s ∙ reverse-append (Repeated d ∷ []) stack))
ends_by [] s none n = record { nodes = n.nodes; pending = n.pending ∙ s; passing = n.passing }
ends_by (Group ∷ stack) s none n = record { nodes = n.nodes; pending = n.pending ∙ s; passing = n.passing }

pub finish_ends : {nodes : List Node} {pending : List Pending} {final : Compiling} → PopsNone pending
    → IsNow nodes pending None final → Finishes nodes pending final
finish_ends {pending} none n = ends_by _ (sym (reverse-reverse pending)) none n

-- what follows from an item that is complete
finished_group : {nodes : List Node} {pending : List Pending} (around : List Pending) {new : Compiling}
    → Finishes nodes pending new → pending ≡ around ++ Group ∷ [] → IsNow nodes pending None new
finished_group around f e = grind (arith, common_steps)

finished_all : {nodes : List Node} {pending : List Pending} {new : Compiling} → Finishes nodes pending new
    → pending ≡ [] → IsNow nodes [] None new
finished_all f e = rw e at f

parted : (one other : List Token) (old new : Compiling) → TakesAll old (one ++ other) new
    → (now : Compiling) × TakesAll old other now × TakesAll now one new
parted [] other old new s = (new, s, refl)
parted (token ∷ one) other old new s = let p = parted one other old s.0 s.1 in (p.0, p.1, (s.0, p.2, s.2))

alone : {token : Token} {old new : Compiling} → TakesAll old (token ∷ []) new → Takes old token new
alone s = rw (← s.1) at s.2

last_taken : (one : List Token) (token : Token) (old new : Compiling) → TakesAll old (one ++ token ∷ []) new
    → (now : Compiling) × Takes old token now × TakesAll now one new
last_taken one token old new s = let p = parted _ _ _ _ s in (p.0, alone p.1, p.2)

-- no duplication waits
abbrev Base : List Pending → Type 0
Base pending = (pending ≡ []) ⊎ ((around : List Pending) × (pending ≡ around ++ Group ∷ []))

finished_base : {nodes : List Node} {pending : List Pending} {new : Compiling} → Base pending
    → Finishes nodes pending new → IsNow nodes pending None new
finished_base (inl e) f = rw (← e) at (finished_all f e)
finished_base (inr e) f = finished_group _ f e.1

takes_in : {depth : Option ℕ} (old new : Compiling) (token : Token) → old.passing ≡ depth → Takes old token new
    → TakesIn depth token old new
takes_in old new token e t = subst (λ p. TakesIn p token old new) e t

-- what is passed over leaves nodes and what waits
passed_from : (depth : ℕ) (old now new : Compiling) → now.nodes.items ≡ old.nodes.items
    → now.pending.items ≡ old.pending.items → PassesLeaf depth now new → PassesLeaf depth old new
passed_from zero old now new n p f = rw (← n, ← p) f
passed_from (suc depth) old now new n p f = record { nodes = f.nodes ∙ n; pending = f.pending ∙ p; passing = f.passing }

mutual
  pass_pattern : (pattern : Pattern) {depth : ℕ} (old new : Compiling) → old.passing ≡ Some (suc depth)
      → TakesAll old (written pattern) new → IsNow old.nodes.items old.pending.items (Some (suc depth)) new
  pass_pattern nothing old new e s = rw (← s) (record { nodes = refl; pending = refl; passing = e })
  pass_pattern (append pattern item) {depth} old new e s =
      let p = parted (written pattern) (written_item item) old new s in
      let now : IsNow old.nodes.items old.pending.items (Some (suc depth)) p.0 = pass_item item old p.0 e p.1 in
      let next = pass_pattern pattern p.0 new now.passing p.2 in
      record { nodes = next.nodes ∙ now.nodes; pending = next.pending ∙ now.pending; passing = next.passing }

  pass_item : (item : Item) {depth : ℕ} (old new : Compiling) → old.passing ≡ Some depth
      → TakesAll old (written_item item) new → PassesLeaf depth old new
  pass_item (set bytes) old new e s = takes_in old new (Set bytes) e (alone s)
  pass_item front old new e s = takes_in old new Front e (alone s)
  pass_item end old new e s = takes_in old new End e (alone s)
  pass_item (group pattern) {depth} old new e s =
      let p = last_taken (written pattern) Close old s.0 s.1 in
      let opened : IsNow old.nodes.items old.pending.items (Some (suc depth)) p.0 = takes_in old p.0 Close e p.1 in
      let inner = pass_pattern pattern p.0 s.0 opened.passing p.2 in
      passed_from depth old s.0 new (inner.nodes ∙ opened.nodes) (inner.pending ∙ opened.pending) (takes_in s.0 new Open inner.passing s.2)
  pass_item (repeat item low high) {depth} old new e s =
      let p = last_taken (written_item item) (Repeat low high) old new s in
      let stays : IsNow old.nodes.items old.pending.items (Some depth) p.0 = takes_in old p.0 (Repeat low high) e p.1 in
      passed_from depth old p.0 new stays.nodes stays.pending (pass_item item p.0 new stays.passing p.2)

-- a duplication's item was written out
repeated_out : (old code : List Node) (now new : Compiling) (pending : List Pending) (d : Duplication)
    → d.start ≡ length old → now.nodes.items ++ reverse code ≡ old ++ begun d.high (reverse code)
    → now.pending.items ≡ pending ++ Repeated d ∷ [] → Finishes (now.nodes.items ++ reverse code) now.pending.items new
    → Finishes (old ++ reverse (copies d.low code ++ tail_of code d.low d.high)) pending new
repeated_out old code now new pending d s n p f = grind (arith, common_steps)

-- an item that stands no time
none_of : {nodes : List Node} (code : List Node) {low : ℕ} → low ≤ 0
    → nodes ≡ nodes ++ reverse (copies low code ++ up_to (0 - low) code)
none_of code h = search rules

mutual
  write_pattern : (pattern : Pattern) (old : Compiling) {new : Compiling} → IsOrdered pattern → old.passing ≡ None
      → Base old.pending.items → TakesAll old (written pattern) new
      → IsNow (old.nodes.items ++ reverse (code_of pattern)) old.pending.items None new
  write_pattern nothing old o e b s = rw (← s) (record { nodes = sym (append-nil _); pending = refl; passing = e })
  write_pattern (append pattern item) old {new} o e b s =
      let p = parted (written pattern) (written_item item) old new s in
      let now = finished_base b (write_item item old p.0 o.1 e p.1) in
      let next = write_pattern pattern p.0 o.0 now.passing (subst Base (sym now.pending) b) p.2 in
      record {
        nodes = next.nodes ∙ ap (λ l. l ++ reverse (code_of pattern)) now.nodes ∙ append_assoc _ (reverse (code_of_item item)) (reverse (code_of pattern))
            ∙ ap (λ l. old.nodes.items ++ l) (sym (reverse-append (code_of pattern) (code_of_item item)));
        pending = next.pending ∙ now.pending;
        passing = next.passing;
      }

  write_item : (item : Item) (old new : Compiling) → IsOrderedItem item → old.passing ≡ None
      → TakesAll old (written_item item) new
      → Finishes (old.nodes.items ++ reverse (code_of_item item)) old.pending.items new
  write_item (set bytes) old new o e s = takes_in old new (Set bytes) e (alone s)
  write_item front old new o e s = takes_in old new Front e (alone s)
  write_item end old new o e s = takes_in old new End e (alone s)
  write_item (group pattern) old new o e s =
      let p = last_taken (written pattern) Close old s.0 s.1 in
      let opened : IsNow old.nodes.items (old.pending.items ++ Group ∷ []) None p.0 = takes_in old p.0 Close e p.1 in
      let inner = write_pattern pattern p.0 o opened.passing (inr (old.pending.items, opened.pending)) p.2 in
      let closed : Closes s.0 new = takes_in s.0 new Open inner.passing s.2 in
      rw (inner.nodes ∙ ap (λ l. l ++ reverse (code_of pattern)) opened.nodes) at (closed old.pending.items (inner.pending ∙ opened.pending))
  write_item (repeat item low None) old new o e s =
      let p = last_taken (written_item item) (Repeat low None) old new s in
      let begins : Begins low None old p.0 = takes_in old p.0 (Repeat low None) e p.1 in
      let nodes = ap (λ l. l ++ reverse (code_of_item item)) begins.nodes ∙ append_assoc _ _ (reverse (code_of_item item)) in
      let d : Duplication = record { start = length old.nodes.items; low = low; high = None } in
      repeated_out old.nodes.items (code_of_item item) p.0 new old.pending.items d refl nodes begins.pending (write_item item p.0 new o.0 begins.passing p.2)
  write_item (repeat item low (Some zero)) old new o e s =
      let p = last_taken (written_item item) (Repeat low (Some zero)) old new s in
      let begins : Begins low (Some zero) old p.0 = takes_in old p.0 (Repeat low (Some zero)) e p.1 in
      rw (← (begins.nodes ∙ none_of (code_of_item item) o.1))
      (subst (λ l. Finishes p.0.nodes.items l new) begins.pending (pass_item item p.0 new begins.passing p.2))
  write_item (repeat item low (Some (suc high))) old new o e s =
      let p = last_taken (written_item item) (Repeat low (Some (suc high))) old new s in
      let begins : Begins low (Some (suc high)) old p.0 = takes_in old p.0 (Repeat low (Some (suc high))) e p.1 in
      let d : Duplication = record { start = length old.nodes.items; low = low; high = Some (suc high) } in
      repeated_out old.nodes.items (code_of_item item) p.0 new old.pending.items d refl (ap (λ l. l ++ reverse (code_of_item item)) begins.nodes) begins.pending (write_item item p.0 new o.0 begins.passing p.2)

-- the bounds of a tree's duplications are in order if those of its tokens are
bounded_parts : (one other : List Token) → AreBounded (one ++ other) → AreBounded one × AreBounded other
bounded_parts [] other b = (tt, b)
bounded_parts (token ∷ one) other b = let parts = bounded_parts one other b.1 in ((b.0, parts.0), parts.1)

bound_order : (low : ℕ) (high : Option ℕ) → IsBounded (Repeat low high) → IsAtMost high low
bound_order low None b = tt
bound_order low (Some high) b = b

mutual
  pub ordered : (pattern : Pattern) → AreBounded (written pattern) → IsOrdered pattern
  ordered nothing b = tt
  ordered (append pattern item) b = let parts = bounded_parts (written pattern) (written_item item) b in (ordered pattern parts.0, ordered_item item parts.1)

  ordered_item : (item : Item) → AreBounded (written_item item) → IsOrderedItem item
  ordered_item (set bytes) b = tt
  ordered_item front b = tt
  ordered_item end b = tt
  ordered_item (group pattern) b = ordered pattern (bounded_parts (written pattern) (Close ∷ []) b.1).0
  ordered_item (repeat item low high) b =
      let parts = bounded_parts (written_item item) (Repeat low high ∷ []) b in
      (ordered_item item parts.0, bound_order low high parts.1.0)

-- all tokens were read
pub compiled : (pattern : Pattern) {tokens : List Token} {first : Compiling} (final : Compiling)
    → tokens ≡ written pattern → AreBounded tokens → IsNow [] [] None first → TakesAll first tokens final
    → reverse final.nodes.items ≡ code_of pattern
compiled pattern {first} final e b n s =
    let now = write_pattern pattern first (ordered pattern (rw e at b)) n.passing (inl n.pending) (rw e at s) in
    ap reverse (now.nodes ∙ ap (λ l. l ++ reverse (code_of pattern)) n.nodes) ∙ reverse-reverse (code_of pattern)

-- one token more, towards the front
pub way_more : (tokens : List Token) {before place : ℕ} {token : Token} (first now new : Compiling) → place ≡ before + 1
    → before < length tokens → token ≡ get_or tokens before token → TakesAll first (drop place tokens) now
    → Takes now token new → TakesAll first (drop before tokens) new
way_more tokens {before} {token} first now new e h is s t =
    rw (at_drop_more (λ ts. ts) tokens before token h, ← is) (now, rw e at s, t)

pub bounded_at : (tokens : List Token) (place : ℕ) {token : Token} → AreBounded tokens → place < length tokens
    → token ≡ get_or tokens place token → IsBounded token
bounded_at [] place b h e = absurd (omega arith)
bounded_at (first ∷ tokens) zero b h e = rw (← e) at b.0
bounded_at (first ∷ tokens) (suc place) b h e = bounded_at tokens place b.1 (omega arith) e
