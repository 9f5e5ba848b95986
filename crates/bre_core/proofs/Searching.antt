-- The truth value says what is contained.
use Rattle.std.proofs.{
  Common.{ℕ, zero, suc, ◌≤◌, List, length, arith, rules, ◌≡◌, ◌⊎◌, ◌↔◌, inl, inr, ◌+◌, ◌<◌, Bool, true, false, leb},
  Common.{◌&&◌, Option, Some, None, refl, sym, ap, ◌∙◌, subst, IsTrue},
  lemmas.Bool.{cases_eq, cases_lt, false≢true, or_cases, or_left, or_right, and_parts, and_from, eqb-true, eq-eqb},
  lemmas.Bool.{leb-true, le-leb, lt-ltb},
}
use Rattle.bre_core.specs.{
  Match.{Parts, Matches, MatchesItem, IsAtMost, Contains},
  Pattern.{Pattern, nothing, append, Item, set, front, end, group, repeat},
  Search.{any_below, has_parts, is_at_most, matches, matches_item, contains},
}
use borrow.Author.Tests.{ltb-true}

-- What a pattern matches stands on the line.

-- what matches ends on the line, and not before it begins
pub parts_stay : (Part : ℕ → ℕ → Type 0) (places : ℕ)
    → ((from to : ℕ) → from ≤ places → Part from to → (from ≤ to) × (to ≤ places)) → (count from to : ℕ) → from ≤ places
    → Parts Part count from to → (from ≤ to) × (to ≤ places)
parts_stay Part places stay zero from to h p = (omega arith, omega arith)
parts_stay Part places stay (suc count) from to h p =
    let one = parts_stay Part places stay count from p.0 h p.1 in
    let other = stay p.0 to one.1 p.2 in
    (omega arith, other.1)

mutual
  pub stays : (pattern : Pattern) (line : List ℕ) (from to : ℕ) → from ≤ length line → Matches pattern line from to
      → (from ≤ to) × (to ≤ length line)
  stays nothing line from to h m = (omega arith, omega arith)
  stays (append pattern item) line from to h m =
      let one = stays pattern line from m.0 h m.1 in
      let other = item_stays item line m.0 to one.1 m.2 in
      (omega arith, other.1)

  pub item_stays : (item : Item) (line : List ℕ) (from to : ℕ) → from ≤ length line → MatchesItem item line from to
      → (from ≤ to) × (to ≤ length line)
  item_stays (set bytes) line from to h m = (omega arith, omega arith)
  item_stays front line from to h m = (omega arith, omega arith)
  item_stays end line from to h m = (omega arith, omega arith)
  item_stays (group pattern) line from to h m = stays pattern line from to h m
  item_stays (repeat item low high) line from to h m =
      parts_stay (MatchesItem item line) (length line) (λ f t k p. item_stays item line f t k p) m.0 from to h m.3

any_found : (bound : ℕ) (test : ℕ → Bool) → any_below bound test ≡ true
    → (number : ℕ) × (number < bound) × (test number ≡ true)
any_found zero test e = absurd (false≢true e)
any_found (suc bound) test e = side (λ f. any_found bound test f) (or_cases (any_below bound test) (test bound) e)
  where
    side : (any_below bound test ≡ true → (number : ℕ) × (number < bound) × (test number ≡ true))
        → (any_below bound test ≡ true) ⊎ (test bound ≡ true)
        → (number : ℕ) × (number < suc bound) × (test number ≡ true)
    side before (inl f) = let n = before f in (n.0, omega arith, n.2)
    side before (inr f) = (bound, omega arith, f)

any_there : (bound : ℕ) (test : ℕ → Bool) (number : ℕ) → number < bound → test number ≡ true
    → any_below bound test ≡ true
any_there zero test number h e = absurd (omega arith)
any_there (suc bound) test number h e = elim (cases_eq number bound) [
  | inl same ↦ or_right (any_below bound test) (test bound) (ap test (sym same) ∙ e)
  | inr other ↦ or_left (any_below bound test) (test bound) (any_there bound test number (omega arith) e)
]

-- a truth value of two places that says what a relation says
record Tells (test : ℕ → ℕ → Bool) (Kind : ℕ → ℕ → Type 0) : Type 0 where
  yes : (from to : ℕ) → test from to ≡ true → Kind from to
  no : (from to : ℕ) → Kind from to → test from to ≡ true
  forward : (from to : ℕ) → Kind from to → from ≤ to

parts_forward : (Kind : ℕ → ℕ → Type 0) → ((from to : ℕ) → Kind from to → from ≤ to) → (count from to : ℕ)
    → Parts Kind count from to → from ≤ to
parts_forward Kind f zero from to p = omega arith
parts_forward Kind f (suc count) from to p = let one = parts_forward Kind f count from p.0 p.1 in let other = f p.0 to p.2 in omega arith

parts_tell : {test : ℕ → ℕ → Bool} (Kind : ℕ → ℕ → Type 0) → Tells test Kind → (count : ℕ)
    → Tells (has_parts test count) (Parts Kind count)
parts_tell Kind t zero = search rules
parts_tell {test} Kind t (suc count) = let before = parts_tell Kind t count in record {
  yes = λ from to e.
      let found = any_found (suc to) (λ middle. has_parts test count from middle && test middle to) e in
      let both = and_parts (has_parts test count from found.0) (test found.0 to) found.2 in
      (found.0, before.yes from found.0 both.0, t.yes found.0 to both.1);
  no = λ from to p.
      let small = t.forward p.0 to p.2 in
      any_there (suc to) (λ middle. has_parts test count from middle && test middle to) p.0 (omega arith)
      (and_from (has_parts test count from p.0) (test p.0 to) (before.no from p.0 p.1) (t.no p.0 to p.2));
  forward = λ from to p. parts_forward Kind t.forward (suc count) from to p;
}

-- among more parts than the stretch is long there is an empty one, which can go
fewer : (Kind : ℕ → ℕ → Type 0) → ((from to : ℕ) → Kind from to → from ≤ to) → (count from to : ℕ) → to ≤ from + count
    → Parts Kind (suc count) from to → Parts Kind count from to
fewer Kind f zero from to h p = let first : from ≡ p.0 = p.1 in let step = f p.0 to p.2 in let e : from ≡ to = omega arith in e
fewer Kind f (suc count) from to h p = elim (cases_eq p.0 to) [
  | inl same ↦ subst (λ m. Parts Kind (suc count) from m) same p.1
  | inr other ↦ let step = f p.0 to p.2 in (p.0, fewer Kind f count from p.0 (omega arith) p.1, p.2)
]

at_most_less : (high : Option ℕ) (count : ℕ) → IsAtMost high (suc count) → IsAtMost high count
at_most_less None count h = tt
at_most_less (Some high) count h = omega arith

few_parts : (Kind : ℕ → ℕ → Type 0) → ((from to : ℕ) → Kind from to → from ≤ to)
    → (low : ℕ) (high : Option ℕ) (count from to : ℕ) → low ≤ count → IsAtMost high count → Parts Kind count from to
    → (few : ℕ) × (few < suc (low + to)) × (low ≤ few) × IsAtMost high few × Parts Kind few from to
few_parts Kind f low high zero from to l h p = (0, omega arith, l, h, p)
few_parts Kind f low high (suc count) from to l h p = elim (cases_lt (suc count) (suc (low + to))) [
  | inl small ↦ (suc count, small, l, h, p)
  | inr large ↦ few_parts Kind f low high count from to (omega arith) (at_most_less high count h) (fewer Kind f count from to (omega arith) p)
]

at_most_tells : (high : Option ℕ) (count : ℕ) → (is_at_most high count ≡ true) ↔ IsAtMost high count
at_most_tells None count = (λ e. tt, λ h. refl)
at_most_tells (Some high) count = (leb-true count high, le-leb count high)

mutual
  tells : (pattern : Pattern) (line : List ℕ) → Tells (matches pattern line) (Matches pattern line)
  tells nothing line = search (rules, eqb-true, eq-eqb)
  tells (append pattern item) line = let one = tells pattern line in let other = item_tells item line in record {
    yes = λ from to e.
        let found = any_found (suc to) (λ middle. matches pattern line from middle && matches_item item line middle to) e in
        let both = and_parts (matches pattern line from found.0) (matches_item item line found.0 to) found.2 in
        (found.0, one.yes from found.0 both.0, other.yes found.0 to both.1);
    no = λ from to m.
        let small = other.forward m.0 to m.2 in
        any_there (suc to) (λ middle. matches pattern line from middle && matches_item item line middle to) m.0 (omega arith)
        (and_from (matches pattern line from m.0) (matches_item item line m.0 to) (one.no from m.0 m.1) (other.no m.0 to m.2));
    forward = λ from to m. let first = one.forward from m.0 m.1 in let second = other.forward m.0 to m.2 in omega arith;
  }

  item_tells : (item : Item) (line : List ℕ) → Tells (matches_item item line) (MatchesItem item line)
  item_tells (set bytes) line = search (rules, and_parts, eqb-true, ltb-true, and_from, eq-eqb, lt-ltb)
  item_tells front line = search (rules, and_parts, eqb-true, and_from, eq-eqb)
  item_tells end line = search (rules, and_parts, eqb-true, and_from, eq-eqb)
  item_tells (group pattern) line = let inner = tells pattern line in record { yes = inner.yes; no = inner.no; forward = inner.forward }
  item_tells (repeat item low high) line = let one = item_tells item line in record {
    yes = λ from to e.
        let found = any_found (suc (low + to)) (λ count. leb low count && (is_at_most high count && has_parts (matches_item item line) count from to)) e in
        let a = and_parts (leb low found.0) _ found.2 in
        let b = and_parts (is_at_most high found.0) _ a.1 in
        (found.0, leb-true low found.0 a.0, (at_most_tells high found.0).0 b.0, (parts_tell (MatchesItem item line) one found.0).yes from to b.1);
    no = λ from to m.
        let few = few_parts (MatchesItem item line) one.forward low high m.0 from to m.1 m.2 m.3 in
        any_there (suc (low + to)) (λ count. leb low count && (is_at_most high count && has_parts (matches_item item line) count from to)) few.0 few.1
        (and_from _ _ (le-leb low few.0 few.2) (and_from _ _ ((at_most_tells high few.0).1 few.3) ((parts_tell (MatchesItem item line) one few.0).no from to few.4)));
    forward = λ from to m. parts_forward (MatchesItem item line) one.forward m.0 from to m.3;
  }

pub contains_tells : (pattern : Pattern) (line : List ℕ) → IsTrue (contains pattern line) ↔ Contains pattern line
contains_tells pattern line = let t = tells pattern line in (
  λ e.
      let to = any_found (suc (length line)) (λ to. any_below (suc to) (λ from. matches pattern line from to)) e in
      let from = any_found (suc to.0) (λ from. matches pattern line from to.0) to.2 in
      (from.0, to.0, omega arith, omega arith, t.yes from.0 to.0 from.2),
  λ c. any_there (suc (length line)) (λ to. any_below (suc to) (λ from. matches pattern line from to)) c.1 (omega arith)
      (any_there (suc c.1) (λ from. matches pattern line from c.1) c.0 (omega arith) (t.no c.0 c.1 c.4)),
)

-- two truth values of one fact are the same
pub one_truth : (a b : Bool) (Fact : Type 0) → IsTrue a ↔ Fact → IsTrue b ↔ Fact → a ≡ b
one_truth true false Fact f g = sym (g.1 (f.0 refl))
one_truth false true Fact f g = f.1 (g.0 refl)
one_truth a b Fact f g = search rules
