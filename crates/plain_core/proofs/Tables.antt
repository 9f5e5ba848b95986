-- What is found by tables is what the pattern's tests say.
use Rattle.std.proofs.{
  Common.{◌≡◌, ℕ, suc, zero, ◌+◌, ◌<◌, ◌≤◌, Bool, nat_le, ◌&&◌, List, [], ◌∷◌, ◌++◌, length, Option, Some, arith},
  Common.{refl, rules, ap, sym, ◌∙◌, drop, slice_index_or, subst},
  lemmas.{Grind.common_steps, List.{get_or_read_under, same_from_push}},
}
use Rattle.bre_core.{
  specs.{
    Search.{any_below, has_parts, is_at_most, matches, contains},
    Pattern.Pattern,
    Flat.{tree_of, read_on, group_closed},
    declared.token.Token.Token,
  },
  proofs.Existence.no_end,
}
use Rattle.plain_core.specs.{
  declared.plain.Plain.Plain,
  inner.{Plain.{FrameIs, Means}, Table.{at, IsTable, joined, repeats}},
}

any_same : (bound : ℕ) (one other : ℕ → Bool) → ((number : ℕ) → number < bound → one number ≡ other number)
    → any_below bound one ≡ any_below bound other
any_same zero one other h = refl
any_same (suc bound) one other h = rw (any_same bound one other (λ n k. h n (omega (arith, k))), h bound (omega arith)) refl

pub any_all : (count bound : ℕ) (test : ℕ → Bool) {found : Bool} → count ≡ bound → found ≡ any_below count test
    → found ≡ any_below bound test
any_all count bound test e h = rw (← e) h

pub joined_is : {len : ℕ} {first second : ℕ → ℕ → Bool} {one other rows : List (List Bool)} → IsTable len first one
    → IsTable len second other
    → ((from to : ℕ) → from ≤ len → to ≤ len → at rows from to ≡ joined (at one) (at other) from to)
    → IsTable len (joined first second) rows
joined_is {len} {first} {second} {one} {other} a b made = record {
  exact = λ from to h k.
      made from to h k ∙ any_same (suc to) _ _ (λ n l. let m : n ≤ len = omega (arith, l, k) in rw (a.exact from n h m, b.exact n to m k) refl);
}

-- the stretches of each number of parts below a count
pub record AreRuns (len : ℕ) (part : ℕ → ℕ → Bool) (count : ℕ) (runs : List (List (List Bool))) : Type 0 where
  pub size : length runs ≡ count
  pub each : (number : ℕ) → number < count → IsTable len (has_parts part number) (slice_index_or runs number [])

pub no_runs : {len : ℕ} {part : ℕ → ℕ → Bool} → AreRuns len part 0 []
no_runs = record { size = refl; each = λ n h. absurd (omega (arith, h)) }

pub runs_more : {len : ℕ} {part : ℕ → ℕ → Bool} {count : ℕ} {runs new : List (List (List Bool))}
    {run : List (List Bool)}
    → AreRuns len part count runs → IsTable len (has_parts part count) run → new ≡ runs ++ run ∷ []
    → AreRuns len part (count + 1) new
runs_more r is e = grind (arith, common_steps)

pub runs_longer : {len : ℕ} {part : ℕ → ℕ → Bool} (count : ℕ) {runs new : List (List (List Bool))}
    {last item run : List (List Bool)}
    → AreRuns len part (count + 1) runs → last ≡ slice_index_or runs count last → IsTable len part item
    → ((first second : ℕ → ℕ → Bool) → IsTable len first last → IsTable len second item
    → IsTable len (joined first second) run)
    → new ≡ runs ++ run ∷ [] → AreRuns len part (count + 1 + 1) new
runs_longer {len} {part} count {runs} {last} {run} are e is made added =
    let here : last ≡ slice_index_or runs count [] = get_or_read_under runs count (count + 1) last [] e (omega arith) (sym are.size) in
    let before : IsTable len (has_parts part count) last = rw here (are.each count (omega arith)) in
    let next : IsTable len (has_parts part (suc count)) run = made (has_parts part count) part before is in
    let e : suc count ≡ count + 1 = omega arith in
    runs_more are (subst (λ n. IsTable len (has_parts part n) run) e next) added

pub repeats_is : {len count : ℕ} {part : ℕ → ℕ → Bool} {items runs : List (List (List Bool))} {rows : List (List Bool)}
    (low : ℕ) (high : Option ℕ)
    → AreRuns len part count items → runs ≡ items → low + len < count
    → ((from to : ℕ) → from ≤ len → to ≤ len
    → at rows from to ≡ repeats (λ number. at (slice_index_or runs number [])) low high from to)
    → IsTable len (repeats (has_parts part) low high) rows
repeats_is {len} {part = part} {items} low high are e enough made = record {
  exact = λ from to h k.
      let one : (n : ℕ) → n < suc (low + to) → at (slice_index_or items n []) from to ≡ has_parts part n from to
      = λ n l. (are.each n (omega (arith, enough, k, l))).exact from to h k in
      made from to h k ∙ any_same (suc (low + to)) _ _ (λ n l. ap (λ b. nat_le low n && (is_at_most high n && b)) (rw e (one n l)));
}

-- the last item is appended
pub settled_is : (line : List ℕ) (current : Pattern) (before : List (List Bool)) {item new : List (List Bool)}
    {last : Option (List (List Bool))}
    → FrameIs line current before last → last ≡ Some item
    → ((first second : ℕ → ℕ → Bool) → IsTable (length line) first before → IsTable (length line) second item
    → IsTable (length line) (joined first second) new)
    → IsTable (length line) (matches current line) new
settled_is line current before frame e made = let at_last = rw e at frame in rw at_last.2 (made _ _ at_last.3 at_last.4)

-- a group is closed
pub closed_is : {line : List ℕ} (current : Pattern) (around : List Pattern) {old new : Plain}
    (below : List (List (List Bool)))
    → (outer : List (List Bool)) {inner : List (List Bool)} → Means line current around old
    → old.around.items ≡ below ++ outer ∷ []
    → IsTable (length line) (matches current line) inner
    → new.around.items ≡ below → new.before ≡ outer → new.last ≡ Some inner
    → Means line (group_closed current around) (drop 1 around) new
closed_is current [] below outer m e is a b l = absurd (no_end below outer (sym e ∙ m.outer))
closed_is current (pattern ∷ around) below outer m e is a b l = search (rules, same_from_push)

pub found_is : (line : List ℕ) (pattern : Pattern) {rows : List (List Bool)}
    → IsTable (length line) (matches pattern line) rows
    → any_below (suc (length line)) (λ to. any_below (suc to) (λ from. at rows from to)) ≡ contains pattern line
found_is line pattern is =
    any_same (suc (length line)) _ _ (λ to h. any_same (suc to) _ _ (λ from k. is.exact from to (omega (arith, h, k)) (omega (arith, h))))

-- over the first tokens
pub record GoneOver (line : List ℕ) (tokens rest : List Token) (plain : Plain) : Type 0 where
  pub current : Pattern
  pub around : List Pattern
  pub left : tree_of tokens ≡ read_on current around rest
  pub means : Means line current around plain
