-- Walks over the nodes of a pattern.
use Rattle.std.proofs.{
  Common.{rules, ◌≡◌, ◌⊎◌, inl, inr, ℕ, zero, suc, ◌+◌, ◌-◌, ◌≤◌, List, [], ◌∷◌, ◌++◌, length, refl, ap, subst},
  Common.arith,
  Common.{sym, ◌∙◌, ◌↔◌, Option, Some, None, ◌*◌, ◌<◌, Bool, IsTrue, length-append, suc-mul, add-mul},
  lemmas.{Bool.cases_eq, Grind.common_steps},
}
use Rattle.scan_core.{
  specs.declared.node.Node.{Node, TheVariants.{Take, First, Last, Choose, Back}},
  specs.Code.{At, Leads, Walks, Path, maybe, starred, up_to, copies, tail_of, code_of, code_of_item, Entered},
  specs.Code.{IsOrdered, IsOrderedItem, weight},
  specs.inner.Sets.{FitsIn, IsCode},
  specs.Counted.EndsIn,
  proofs.Enterings.at_least,
}
use Rattle.bre_core.{
  specs.Match.{Parts, IsAtMost, Matches, MatchesItem, Contains},
  specs.Pattern.{Pattern, nothing, append, Item, set, front, end, group, repeat, repeated, positions_in},
  specs.Pattern.{positions_in_item, positions_of},
  specs.Search.contains,
  proofs.Searching.{stays, contains_tells, one_truth},
}

at-left : (a b : List Node) (n : ℕ) (node : Node) → At a n node → At (a ++ b) n node
at-left [] b n node h = absurd h
at-left (x ∷ a) b zero node h = h
at-left (x ∷ a) b (suc n) node h = at-left a b n _ h

pub at_at : (code : List Node) {n m : ℕ} (node : Node) → n ≡ m → At code n node → At code m node
at_at code node e h = rw e at h

at-right : (a b : List Node) (n : ℕ) (node : Node) → At b n node → At (a ++ b) (length a + n) node
at-right [] b n node h = at_at b _ (omega arith) h
at-right (x ∷ a) b n node h =
    let e : suc (length a + n) ≡ suc (length a) + n = omega arith in
    at_at (x ∷ (a ++ b)) node e (at-right a b n node h)

-- a node of two parts is one of the first's or of the second's
at-split : (a b : List Node) (n : ℕ) (node : Node) → At (a ++ b) n node
    → (At a n node) ⊎ ((k : ℕ) × (n ≡ length a + k) × At b k node)
at-split [] b n node h = inr (n, omega arith, h)
at-split (x ∷ a) b zero node h = inl h
at-split (x ∷ a) b (suc n) node h = elim (at-split a b n _ h) [ inl g ↦ inl g | inr g ↦ inr (g.0, omega arith, g.2) ]

-- a step further on in a longer code
leads_shift : (node : Node) (line : List ℕ) (base at place at' place' : ℕ) {there there' : ℕ} → there ≡ base + at
    → there' ≡ base + at' → Leads node line at place at' place' → Leads node line there place there' place'
leads_shift (Take bytes) line base at place at' place' d e h = (omega arith, h.1, h.2, h.3)
leads_shift First line base at place at' place' d e h = (omega arith, h.1, h.2)
leads_shift Last line base at place at' place' d e h = (omega arith, h.1, h.2)
leads_shift (Choose skip) line base at place at' place' d e h = search rules
leads_shift (Back by) line base at place at' place' d e h = (omega arith, h.1)

-- a walk over a code that stands in a longer one
walk_in : (a code : List Node) (line : List ℕ) (base : ℕ)
    → ((n : ℕ) (node : Node) → At a n node → At code (base + n) node) → (count at place to stop : ℕ) {there last : ℕ}
    → there ≡ base + at → last ≡ base + to → Walks a line count at place to stop
    → Walks code line count there place last stop
walk_in a code line base moves zero at place to stop d e w = (omega arith, w.1)
walk_in a code line base moves (suc count) at place to stop d e w = (
  base + w.0,
  w.1,
  (w.2.0, at_at code _ (sym d) (moves at w.2.0 w.2.1), leads_shift w.2.0 line base at place w.0 w.1 d refl w.2.2),
  walk_in a code line base moves count w.0 w.1 to stop refl e w.3,
)

walk_on : (code : List Node) {line : List ℕ} (first second : ℕ) {at place : ℕ} (at' place' : ℕ) {to stop : ℕ}
    → Walks code line first at place at' place' → Walks code line second at' place' to stop
    → Path code line at place to stop
walk_on code zero second at' place' v w = search rules
walk_on code (suc first) second at' place' v w =
    let rest = walk_on code first second at' place' v.3 w in
    (suc rest.0, (v.0, v.1, v.2, rest.1))

pub path_on : (code : List Node) {line : List ℕ} {at place at' place' to stop : ℕ} → Path code line at place at' place'
    → Path code line at' place' to stop → Path code line at place to stop
path_on code p q = walk_on _ _ _ _ _ p.1 q.1

-- a node that fits also fits further on in a longer code, and leads to one of the code or to its end
fits_moved : (node : Node) (base size number : ℕ) {more moved : ℕ} → FitsIn size number node → base + size ≤ more
    → moved ≡ base + number → FitsIn more moved node
fits_moved (Take bytes) base size number f l e = tt
fits_moved First base size number f l e = tt
fits_moved Last base size number f l e = tt
fits_moved (Choose skip) base size number f l e = omega arith
fits_moved (Back by) base size number f l e = omega arith

fits_led : (node : Node) (line : List ℕ) (size at place : ℕ) {at' : ℕ} (place' : ℕ) → at < size → FitsIn size at node
    → Leads node line at place at' place' → at' ≤ size
fits_led (Take bytes) line size at place place' l f h = omega arith
fits_led First line size at place place' l f h = omega arith
fits_led Last line size at place place' l f h = omega arith
fits_led (Choose skip) line size at place place' l f h = omega arith
fits_led (Back by) line size at place place' l f h = omega arith

-- a code's walks from its front to its end are those of a kind
pub record Exact (code : List Node) (line : List ℕ) (Kind : ℕ → ℕ → Type 0) : Type 0 where
  pub fits : IsCode code
  pub sound : (from to : ℕ) → Path code line 0 from (length code) to → Kind from to
  pub complete : (from to : ℕ) → Kind from to → Path code line 0 from (length code) to

leads_unshift : (node : Node) (line : List ℕ) (base size at place : ℕ) {there at' : ℕ} (place' : ℕ) → there ≡ base + at
    → FitsIn size at node → Leads node line there place at' place'
    → (k : ℕ) × (at' ≡ base + k) × Leads node line at place k place'
leads_unshift (Take bytes) line base size at place place' e b h = (at + 1, omega arith, (refl, h.1, h.2, h.3))
leads_unshift First line base size at place place' e b h = (at + 1, omega arith, (refl, h.1, h.2))
leads_unshift Last line base size at place place' e b h = (at + 1, omega arith, (refl, h.1, h.2))
leads_unshift (Choose skip) line base size at place place' e b h =
    elim h.0 [ inl f ↦ (at + 1, omega arith, (inl refl, h.1)) | inr f ↦ (at + skip, omega arith, (inr refl, h.1)) ]
leads_unshift (Back by) line base size at place place' e b h = (at - by, omega arith, (omega arith, h.1))

-- a walk that begins in the second of two parts stays there
in_second : (a : List Node) {b : List Node} (line : List ℕ) → IsCode b → (count : ℕ) {at : ℕ} (k place stop : ℕ)
    → at ≡ length a + k → Walks (a ++ b) line count at place (length (a ++ b)) stop
    → Walks b line count k place (length b) stop
in_second a {b} line f zero k place stop e w = (omega (arith, length-append a b), w.1)
in_second a {b} line f (suc count) k place stop e w = elim (at-split a b _ _ w.2.1) [
  | inl h ↦ absurd (omega (arith, at_least a _ _ h))
  | inr h ↦
      let here : At b k w.2.0 = at_at b _ (omega arith) h.2 in
      let moved = leads_unshift _ line _ _ k _ _ e (f.fits k w.2.0 here) w.2.2 in
      (moved.0, w.1, (w.2.0, here, moved.2), in_second a line f count moved.0 w.1 stop moved.1 w.3)
]

-- a walk through two parts goes through the first and then through the second
through : {a b : List Node} {line : List ℕ} → IsCode a → IsCode b → (count : ℕ) {at place stop : ℕ} → at ≤ length a
    → Walks (a ++ b) line count at place (length (a ++ b)) stop
    → (middle : ℕ) × Path a line at place (length a) middle × Path b line 0 middle (length b) stop
through {a} {b} f g zero {place} h w =
    let l = length-append a b in
    (place, (zero, (omega arith, refl)), (zero, (omega arith, w.1)))
through {a} {b} {line} f g (suc count) {at} {place} {stop} h w = elim (cases_eq at (length a)) [
  | inl same ↦ (place, (zero, (same, refl)), (suc count, in_second a line g (suc count) 0 place stop (omega arith) w))
  | inr other ↦ elim (at-split a b _ _ w.2.1) [
    | inl here ↦
        let led = fits_led w.2.0 line _ at place w.1 (omega arith) (f.fits at w.2.0 here) w.2.2 in
        let rest = through f g count led w.3 in
        (rest.0, (suc rest.1.0, (w.0, w.1, (w.2.0, here, w.2.2), rest.1.1)), rest.2)
    | inr far ↦ absurd (other (omega arith))
  ]
]

ended : (code : List Node) (line : List ℕ) (count : ℕ) {at place : ℕ} (to : ℕ) {stop : ℕ} → at ≡ length code
    → Walks code line count at place to stop → place ≡ stop
ended code line zero to e w = w.1
ended code line (suc count) {at} to e w = absurd (omega (arith, at_least code at w.2.0 w.2.1))

-- The walks of a pattern's code are what it matches: each way of putting codes together.

exact_by : {code : List Node} {line : List ℕ} {Kind Other : ℕ → ℕ → Type 0} → Exact code line Kind
    → ((from to : ℕ) → Kind from to → Other from to) → ((from to : ℕ) → Other from to → Kind from to)
    → Exact code line Other
exact_by e there here = search rules

exact_none : {line : List ℕ} → Exact [] line (λ from to. from ≡ to)
exact_none = search rules

-- a code of one node that leads to its end
exact_one : {node : Node} {line : List ℕ} {Kind : ℕ → ℕ → Type 0}
    → ((at place at' place' : ℕ) → Leads node line at place at' place' → (at' ≡ at + 1) × Kind place place')
    → ((place place' : ℕ) → Kind place place' → Leads node line 0 place 1 place') → FitsIn 1 0 node
    → Exact (node ∷ []) line Kind
exact_one {node} {line} {Kind} out there here = record {
  fits = record { fits = fits };
  sound = λ from to p. sound from to p.0 p.1;
  complete = λ from to k. (1, (1, to, (node, refl, there from to k), (refl, refl)));
}
  where
    fits : (n : ℕ) (other : Node) → At (node ∷ []) n other → FitsIn 1 n other
    fits zero other h = rw (← h) at here
    fits (suc n) other h = absurd h

    sound : (from to count : ℕ) → Walks (node ∷ []) line count 0 from 1 to → Kind from to
    sound from to zero w = absurd (omega arith)
    sound from to (suc count) w =
        let o = out 0 from w.0 w.1 (rw w.2.1 at w.2.2) in
        rw (ended (node ∷ []) line count 1 (omega arith) w.3) at o.1

-- one code after another
exact_both : {a b : List Node} {line : List ℕ} {Kind Other : ℕ → ℕ → Type 0} → Exact a line Kind
    → Exact b line Other → Exact (a ++ b) line (λ from to. (middle : ℕ) × Kind from middle × Other middle to)
exact_both {a} {b} e f = let size = length-append a b in record {
  fits = record {
    fits = λ n node h. elim (at-split a b n _ h) [
      | inl k ↦ fits_moved _ 0 _ _ (e.fits.fits n node k) (omega arith) (omega arith)
      | inr k ↦ fits_moved _ _ _ _ (f.fits.fits k.0 node k.2) (omega arith) k.1
    ];
  };
  sound = λ from to p. let t = through e.fits f.fits _ (omega arith) p.1 in (t.0, e.sound from t.0 t.1, f.sound t.0 to t.2);
  complete = λ from to k.
      let p = e.complete from k.0 k.1 in
      let q = f.complete k.0 to k.2 in
      let first = walk_in a (a ++ b) _ 0 (λ n node h. at_at (a ++ b) node (omega arith) (at-left a b n node h))
      p.0 0 from (length a) k.0 (omega arith) (omega arith) p.1 in
      walk_on (a ++ b) _ _ (length a) k.0 first (walk_in b (a ++ b) _ (length a) (at-right a b) q.0 0 k.0 (length b) to (omega arith) size q.1);
}

-- a code that may be passed by
exact_maybe : {code : List Node} {line : List ℕ} {Kind : ℕ → ℕ → Type 0} → Exact code line Kind
    → Exact (maybe code) line (λ from to. (from ≡ to) ⊎ Kind from to)
exact_maybe {code} {line} {Kind} e = record {
  fits = record { fits = fits };
  sound = λ from to p. sound from to p.0 p.1;
  complete = complete;
}
  where
    fits : (n : ℕ) (node : Node) → At (maybe code) n node → FitsIn (suc (length code)) n node
    fits zero node h = rw h (omega arith)
    fits (suc n) node h = search rules

    sound : (from to count : ℕ) → Walks (maybe code) line count 0 from (suc (length code)) to
        → (from ≡ to) ⊎ Kind from to
    sound from to zero w = absurd (omega arith)
    sound from to (suc count) w =
        let led : Leads (Choose (length code + 1)) line 0 from w.0 w.1 = rw w.2.1 at w.2.2 in
        elim led.0 [
          | inl q ↦
              let inside = in_second (Choose (length code + 1) ∷ []) line e.fits count 0 w.1 to (omega arith) w.3 in
              inr (e.sound from to (count, rw led.1 at inside))
          | inr q ↦ inl (sym led.1 ∙ ended (maybe code) line count (suc (length code)) (omega arith) w.3)
        ]

    complete : (from to : ℕ) → (from ≡ to) ⊎ Kind from to → Path (maybe code) line 0 from (suc (length code)) to
    complete from to (inl q) = (1, (suc (length code), from, (Choose (length code + 1), refl, (inr (omega arith), refl)), (refl, q)))
    complete from to (inr k) =
        let p = e.complete from to k in
        let inside = walk_in code (maybe code) line 1 (at-right (Choose (length code + 1) ∷ []) code) p.0 0 from (length code) to refl (omega arith) p.1 in
        (suc p.0, (1, from, (Choose (length code + 1), refl, (inl refl, refl)), inside))

parts_first : (Kind : ℕ → ℕ → Type 0) (count : ℕ) {from middle to : ℕ} → Kind from middle
    → Parts Kind count middle to → Parts Kind (suc count) from to
parts_first Kind zero {from} k p = (from, refl, rw p at k)
parts_first Kind (suc count) k p = (p.0, parts_first Kind count k p.1, p.2)

parts_next : (Kind : ℕ → ℕ → Type 0) (count : ℕ) {from to : ℕ} → Parts Kind (suc count) from to
    → (middle : ℕ) × Kind from middle × Parts Kind count middle to
parts_next Kind zero {to} p = (to, rw (← p.1) at p.2, refl)
parts_next Kind (suc count) p = let q = parts_next Kind count p.1 in (q.0, q.1, (p.0, q.2, p.2))

-- any number of times
abbrev Often : (ℕ → ℕ → Type 0) → ℕ → ℕ → Type 0
Often Kind from to = (count : ℕ) × Parts Kind count from to

module _ {code : List Node} {line : List ℕ} {Kind : ℕ → ℕ → Type 0} (e : Exact code line Kind) where
  -- what walks of a given number of steps are, from the front of the code and from within it
  record StarHolds (count : ℕ) : Type 0 where
    whole : (place stop : ℕ) → Walks (starred code) line count 0 place (length code + 2) stop → Often Kind place stop
    within : (at k place stop : ℕ) → at ≡ suc k → k ≤ length code
        → Walks (starred code) line count at place (length code + 2) stop
        → (middle : ℕ) × Path code line k place (length code) middle × Often Kind middle stop

  star_begun : {count at' place' place stop : ℕ} → StarHolds count
      → Leads (Choose (length code + 2)) line 0 place at' place'
      → Walks (starred code) line count at' place' (length code + 2) stop → Often Kind place stop
  star_begun {count} {at'} {place'} {place} {stop} ih (inl q, same) w =
      let inside = ih.within at' 0 place' stop (omega arith) (omega arith) w in
      let rest : Often Kind inside.0 stop = inside.2 in
      (suc rest.0, parts_first _ _ (e.sound place inside.0 (rw (← same) inside.1)) rest.1)
  star_begun {count} ih (inr q, same) w =
      let l = length-append code (Back (length code + 1) ∷ []) in
      (0, sym same ∙ ended (starred code) line count (length code + 2) (omega arith) w)

  star_at : {count k place stop : ℕ} → StarHolds count → k ≤ length code → (at' place' : ℕ) {node : Node}
      → (At code k node) ⊎ ((j : ℕ) × (k ≡ length code + j) × At (Back (length code + 1) ∷ []) j node)
      → Leads node line (suc k) place at' place' → Walks (starred code) line count at' place' (length code + 2) stop
      → (middle : ℕ) × Path code line k place (length code) middle × Often Kind middle stop
  star_at {k = k} {stop = stop} ih h at' place' {node} (inl here) led w =
      let fits = e.fits.fits k node here in
      let moved = leads_unshift _ line 1 _ k _ _ (omega arith) fits led in
      let inside = fits_led _ line _ k _ _ (at_least code k node here) fits moved.2 in
      let rest = ih.within at' moved.0 place' stop (omega arith) inside w in
      (rest.0, (suc rest.1.0, (moved.0, place', (node, here, moved.2), rest.1.1)), rest.2)
  star_at {k = k} {place = place} {stop = stop} ih h at' place' (inr (zero, far, last)) led w =
      let back : Leads (Back (length code + 1)) line (suc k) place at' place' = rw last at led in
      let at0 : at' ≡ 0 = omega arith in
      (place', (zero, (omega arith, sym back.1)), ih.whole place' stop (rw at0 at w))
  star_at ih h at' place' (inr (suc j, far, last)) led w = absurd last

  star_holds : (count : ℕ) → StarHolds count
  star_holds zero = grind (arith, common_steps)
  star_holds (suc count) = let ih = star_holds count in record {
    whole = λ place stop w. star_begun ih (rw w.2.1 at w.2.2) w.3;
    within = λ at k place stop q h w.
        star_at ih h w.0 w.1 (at-split code (Back (length code + 1) ∷ []) k w.2.0 (at_at (starred code) w.2.0 q w.2.1)) (rw q at w.2.2) w.3;
  }

  -- a code any number of times
  exact_starred : Exact (starred code) line (Often Kind)
  exact_starred = record {
    fits = record { fits = fits };
    sound = λ from to p. (star_holds p.0).whole from to (rw (← size) at p.1);
    complete = λ from to k. complete k.0 from to k.1;
  }
    where
      size : length code + 2 ≡ length (starred code)
      size = omega (arith, length-append code (Back (length code + 1) ∷ []))

      fits : (n : ℕ) (node : Node) → At (starred code) n node → FitsIn (length (starred code)) n node
      fits zero node h = rw h (omega (arith, size))
      fits (suc n) node h = there (at-split code (Back (length code + 1) ∷ []) n node h)
        where
          there : (At code n node) ⊎ ((j : ℕ) × (n ≡ length code + j) × At (Back (length code + 1) ∷ []) j node)
              → FitsIn (length (starred code)) (suc n) node
          there (inl k) = fits_moved node 1 _ _ (e.fits.fits n node k) (omega (arith, size)) (omega arith)
          there (inr (zero, far, last)) = rw last (omega arith)
          there (inr (suc j, far, last)) = absurd last

      around : (from to : ℕ) → Kind from to → Path (starred code) line 0 from 0 to
      around from to k =
          let p = e.complete from to k in
          let inside = walk_in code (starred code) line 1 (λ n node h. at-right (Choose (length code + 2) ∷ []) (code ++ Back (length code + 1) ∷ []) n node
          (at-left code (Back (length code + 1) ∷ []) n node h)) p.0 0 from (length code) to refl refl p.1 in
          let last = at_at (starred code) (Back (length code + 1)) (omega arith)
          (at-right (Choose (length code + 2) ∷ code) (Back (length code + 1) ∷ []) 0 _ refl) in
          path_on (starred code) (1, (1, from, (Choose (length code + 2), refl, (inl refl, refl)), (refl, refl)))
          (path_on (starred code) (p.0, inside) (1, (0, to, (Back (length code + 1), last, (omega arith, refl)), (refl, refl))))

      loops : (count from to : ℕ) → Parts Kind count from to → Path (starred code) line 0 from 0 to
      loops zero from to q = (0, (refl, q))
      loops (suc count) from to q = path_on (starred code) (loops count from q.0 q.1) (around q.0 to q.2)

      complete : (count from to : ℕ) → Parts Kind count from to
          → Path (starred code) line 0 from (length (starred code)) to
      complete count from to q =
          path_on (starred code) (loops count from to q)
          (1, (length (starred code), to, (Choose (length code + 2), refl, (inr (omega (arith, size)), refl)), (refl, refl)))

-- The code of a pattern: it is walked through exactly if the pattern matches.

abbrev pub AtMost : (ℕ → ℕ → Type 0) → ℕ → ℕ → ℕ → Type 0
AtMost Kind most from to = (count : ℕ) × (count ≤ most) × Parts Kind count from to

pub parts_join : (Kind : ℕ → ℕ → Type 0) (first second from middle to : ℕ) → Parts Kind first from middle
    → Parts Kind second middle to → Parts Kind (first + second) from to
parts_join Kind first zero from middle to r s = grind (arith, common_steps)
parts_join Kind first (suc second) from middle to r s =
    let e : first + suc second ≡ suc (first + second) = omega arith in
    rw e (s.0, parts_join Kind first second from middle s.0 r s.1, s.2)

parts_split : (Kind : ℕ → ℕ → Type 0) (first second from to : ℕ) → Parts Kind (first + second) from to
    → (middle : ℕ) × Parts Kind first from middle × Parts Kind second middle to
parts_split Kind first zero from to r = let e : first + zero ≡ first = omega arith in (to, rw e at r, refl)
parts_split Kind first (suc second) from to r =
    let e : first + suc second ≡ suc (first + second) = omega arith in
    let last : Parts Kind (suc (first + second)) from to = rw e at r in
    let split = parts_split Kind first second from last.0 last.1 in
    (split.0, split.1, (last.0, split.2, last.2))

-- an item from low to high times
abbrev Between : (ℕ → ℕ → Type 0) → ℕ → Option ℕ → ℕ → ℕ → Type 0
Between Kind low high from to = (count : ℕ) × (low ≤ count) × IsAtMost high count × Parts Kind count from to

module _ {code : List Node} {line : List ℕ} {Kind : ℕ → ℕ → Type 0} (e : Exact code line Kind) where
  exact_copies : (count : ℕ) → Exact (copies count code) line (Parts Kind count)
  exact_copies zero = exact_none
  exact_copies (suc count) = exact_both (exact_copies count) e

  exact_up_to : (most : ℕ) → Exact (up_to most code) line (AtMost Kind most)
  exact_up_to zero = exact_by exact_none (λ from to q. (0, omega arith, q))
      (λ from to k. let e : k.0 ≡ 0 = omega arith in rw e at k.2)
  exact_up_to (suc most) =
      exact_by (exact_maybe (exact_both e (exact_up_to most))) there (λ from to k. here k.0 from to k.1 k.2)
    where
      there : (from to : ℕ) → (from ≡ to) ⊎ ((middle : ℕ) × Kind from middle × AtMost Kind most middle to)
          → AtMost Kind (suc most) from to
      there from to (inl q) = (0, omega arith, q)
      there from to (inr (middle, k, (count, h, p))) = (suc count, omega arith, parts_first Kind count k p)

      here : (count from to : ℕ) → count ≤ suc most → Parts Kind count from to
          → (from ≡ to) ⊎ ((middle : ℕ) × Kind from middle × AtMost Kind most middle to)
      here zero from to h p = inl p
      here (suc count) from to h p = let q = parts_next Kind count p in inr (q.0, q.1, (count, omega arith, q.2))

  exact_repeated : {low : ℕ} (high : Option ℕ) → IsAtMost high low
      → Exact (copies low code ++ tail_of code low high) line (Between Kind low high)
  exact_repeated {low} None b = exact_by (exact_both (exact_copies low) (exact_starred e))
      (λ from to k. let often : Often Kind k.0 to = k.2 in (low + often.0, omega arith, tt, parts_join _ _ _ _ _ _ k.1 often.1))
      (λ from to k.
      let q : k.0 ≡ low + (k.0 - low) = omega arith in
      let split = parts_split _ _ _ _ _ (rw q at k.3) in
      (split.0, split.1, (k.0 - low, split.2)))
  exact_repeated {low} (Some high) b = exact_by (exact_both (exact_copies low) (exact_up_to (high - low)))
      (λ from to k. let most : AtMost Kind (high - low) k.0 to = k.2 in (low + most.0, omega arith, omega arith, parts_join _ _ _ _ _ _ k.1 most.2))
      (λ from to k.
      let q : k.0 ≡ low + (k.0 - low) = omega arith in
      let split = parts_split _ _ _ _ _ (rw q at k.3) in
      (split.0, split.1, (k.0 - low, omega arith, split.2)))

mutual
  code_exact : (pattern : Pattern) (line : List ℕ) → IsOrdered pattern
      → Exact (code_of pattern) line (Matches pattern line)
  code_exact nothing line o = exact_none
  code_exact (append pattern item) line o = exact_both (code_exact pattern line o.0) (item_exact item line o.1)

  item_exact : (item : Item) (line : List ℕ) → IsOrderedItem item
      → Exact (code_of_item item) line (MatchesItem item line)
  item_exact (set bytes) line o = exact_one {node = Take bytes} (λ at place at' place' h. (h.0, (h.1, h.2, h.3)))
      (λ place place' h. (omega arith, h.0, h.1, h.2)) tt
  item_exact front line o = exact_one {node = First} (λ at place at' place' h. (h.0, (h.2, h.1 ∙ h.2)))
      (λ place place' h. (omega arith, h.1 ∙ sym h.0, h.0)) tt
  item_exact end line o = exact_one {node = Last} (λ at place at' place' h. (h.0, (h.2, h.1 ∙ h.2)))
      (λ place place' h. (omega arith, h.1 ∙ sym h.0, h.0)) tt
  item_exact (group pattern) line o = code_exact pattern line o
  item_exact (repeat item low high) line o = exact_repeated (item_exact item line o.0) high o.1

-- the line contains a match exactly if the end is entered at one of its places
pub contained : (pattern : Pattern) {line : List ℕ} → IsOrdered pattern
    → Contains pattern line ↔ ((place : ℕ) × (place ≤ length line)
    × Entered (code_of pattern) line (length (code_of pattern)) place)
contained pattern {line} o = (
  λ c. let s = (code_exact _ _ o).complete c.0 c.1 c.4 in (c.1, c.3, (c.0, omega arith, s)),
  λ c.
      let m = (code_exact _ _ o).sound c.2.0 c.0 c.2.2 in
      let within = stays pattern line c.2.0 c.0 c.2.1 m in
      (c.2.0, c.0, within.0, within.1, m),
)

-- A pattern's code has its positions.

-- a code has at most two nodes for each of its positions: each step back has its choice
pub record Weighs (code : List Node) (positions : ℕ) : Type 0 where
  pub exact : weight code ≡ positions
  pub most : length code ≤ 2 * positions

weight-append : (a b : List Node) → weight (a ++ b) ≡ weight a + weight b
weight-append [] b = omega arith
weight-append (node ∷ a) b = omega (arith, weight-append a b)

weighs_both : {a b : List Node} {m n : ℕ} → Weighs a m → Weighs b n → Weighs (a ++ b) (m + n)
weighs_both {a} {b} v w = let e = weight-append a b in let l = length-append a b in record { exact = omega arith; most = omega arith }

module _ {code : List Node} {n : ℕ} (w : Weighs code n) where
  weighs_copies : (count : ℕ) → Weighs (copies count code) (count * n)
  weighs_copies zero = record { exact = grind arith; most = omega arith }
  weighs_copies (suc count) = subst (Weighs _) (omega (arith, suc-mul count n)) (weighs_both (weighs_copies count) w)

  weighs_up_to : (count : ℕ) → Weighs (up_to count code) (count * n + count)
  weighs_up_to zero = record { exact = grind arith; most = omega arith }
  weighs_up_to (suc count) =
      let b = weighs_both w (weighs_up_to count) in
      let t = suc-mul count n in
      record { exact = omega arith; most = omega arith }

  weighs_starred : Weighs (starred code) (n + 1)
  weighs_starred = search (rules, weight-append, length-append)

  weighs_repeated : (low : ℕ) (high : Option ℕ) → IsAtMost high low
      → Weighs (copies low code ++ tail_of code low high) (repeated n low high)
  weighs_repeated low None o = subst (Weighs _) (omega (arith, suc-mul low n)) (weighs_both (weighs_copies low) weighs_starred)
  weighs_repeated low (Some high) o =
      let e : low + (high - low) ≡ high = omega arith in
      subst (Weighs _) (omega (arith, add-mul low (high - low) n, ap (λ k. k * n) e)) (weighs_both (weighs_copies low) (weighs_up_to (high - low)))

mutual
  pub weighs : (pattern : Pattern) → IsOrdered pattern → Weighs (code_of pattern) (positions_in pattern)
  weighs nothing o = record { exact = refl; most = omega arith }
  weighs (append pattern item) o = weighs_both (weighs pattern o.0) (weighs_item item o.1)

  weighs_item : (item : Item) → IsOrderedItem item → Weighs (code_of_item item) (positions_in_item item)
  weighs_item (set bytes) o = record { exact = refl; most = omega arith }
  weighs_item front o = record { exact = refl; most = omega arith }
  weighs_item end o = record { exact = refl; most = omega arith }
  weighs_item (group pattern) o = weighs pattern o
  weighs_item (repeat item low high) o = weighs_repeated (weighs_item item o.0) low high o.1

-- The code of a pattern and the search for its end, together.

pub is_code : (pattern : Pattern) → IsOrdered pattern → IsCode (code_of pattern)
is_code pattern o = (code_exact pattern [] o).fits

-- what the search finds is what the line contains
pub found_contains : (pattern : Pattern) {line : List ℕ} {found : Bool} → IsOrdered pattern
    → (IsTrue found ↔ EndsIn (code_of pattern) line) → found ≡ contains pattern line
found_contains pattern {line} {found} o f =
    one_truth found (contains pattern line) (Contains pattern line)
    ((λ t. (contained _ o).1 (f.0 t), λ c. f.1 ((contained _ o).0 c))) (contains_tells pattern line)

-- twice the positions are room enough
pub enough_room : (pattern : Pattern) → IsOrdered pattern → length (code_of pattern) < 2 * positions_of pattern
enough_room pattern o = omega (arith, weighs _ o)

pub bound_of : (pattern : Pattern) (places : ℕ) {steps : ℕ} → IsOrdered pattern
    → steps ≤ places * (weight (code_of pattern) + 1) → steps ≤ places * positions_of pattern
bound_of pattern places o h = rw (weighs _ o).exact at h
