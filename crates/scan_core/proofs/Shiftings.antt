-- A table of few states as words.
use Rattle.std.proofs.{
  Common.{rules, ◌≡◌, ◌⊎◌, ◌↔◌, inl, inr, ℕ, zero, suc, ◌+◌, ◌*◌, ◌<◌, ◌≤◌, Bool, true, false, IsTrue, List},
  Common.{[], ◌∷◌},
  Common.{◌++◌, length, slice_index, refl, sym, subst, arith, length-append, ◌-◌, get_or, ap, ◌∙◌, ◌/◌, ◌%◌, ◌^◌, ◌==◌},
  lemmas.{
    Bool.{cases_eq, ne_eqb, cases_lt},
    List.{get_or_push, get_or_append_left, get_or_default},
    Nat.{pow-add, shr-shr, shr_high},
  },
  Math.Nat.{mul-le-mul, mul-suc, pow-le-pow_right},
}
use Rattle.bre_core.specs.{ByteSet.has, Match.Parts}
use Rattle.scan_core.specs.{
  declared.{
    node.Node.{Node, TheVariants.{Take, First, Last, Choose, Back}},
    table.{Table.Table, State.State},
    shift_table.ShiftTable.ShiftTable,
  },
  Sets.{positions_among, IsMarked},
  Counted.{positions_in_all, AreSteps, set_at, HasStepsBefore},
  Code.{Leads, Goes, Walks, Entered, weight},
  Table.IsOutcome,
  inner.Table.{IsCounted, Next, Inner, InSets, entry, IsState, no_state, IsTableOf, Walked, IsTable},
  inner.Sets.{LeadsOn, Flows, StepsBy, Came, Reaches, FlowsOn},
  inner.Shifts.{AreLight, IsAt, IsComplete, IsOffset, IsShiftTable, IsShifted, IsStateAt, IsWeight, IsWord, six_bits},
  inner.{Each.AreEach, Needles.AreBytes},
}
use Rattle.scan_core.proofs.{Enterings.{positions_most, weight_length, parts_anywhere}, Codes.{path_on, parts_join}}

-- The sets of entered nodes along a line, place by place.

-- the flags say whether a place is the line's first and its last
pub record IsPlace (line : List ℕ) (place : ℕ) (at_first at_last : Bool) : Type 0 where
  pub within : place ≤ length line
  pub first : IsTrue at_first ↔ (place ≡ 0)
  pub last : IsTrue at_last ↔ (place ≡ length line)

flow_goes : (node : Node) {line : List ℕ} {place : ℕ} {at_first at_last : Bool} (from to : ℕ)
    → IsPlace line place at_first at_last → LeadsOn node at_first at_last from to ↔ Leads node line from place to place
flow_goes (Take bytes) from to p = (λ h. absurd h, λ h. absurd (omega arith))
flow_goes First from to p = omega arith
flow_goes Last from to p = omega arith
flow_goes (Choose skip) from to p = (λ h. (h, refl), λ h. h.0)
flow_goes (Back by) from to p = omega arith

-- a step stays at its place or goes on by one
leads_place : (node : Node) (line : List ℕ) (from : ℕ) {place to place' : ℕ} → Leads node line from place to place'
    → (place' ≡ place)
    ⊎ ((place' ≡ place + 1) × (bytes : List Bool) × (node ≡ Take bytes) × (place < length line)
    × IsTrue (has bytes (slice_index line place)) × (to ≡ from + 1))
leads_place (Take bytes) line from h = inr (h.1, bytes, refl, h.2, h.3, h.0)
leads_place First line from h = inl h.1
leads_place Last line from h = inl h.1
leads_place (Choose skip) line from h = inl h.1
leads_place (Back by) line from h = inl h.1

walk_forward : (code : List Node) (line : List ℕ) (count at : ℕ) {place : ℕ} (to : ℕ) {stop : ℕ}
    → Walks code line count at place to stop → place ≤ stop
walk_forward code line zero at to w = omega arith
walk_forward code line (suc count) at to w =
    let h = walk_forward code line count w.0 to w.3 in
    elim (leads_place w.2.0 line at w.2.2) [ inl e ↦ omega arith | inr e ↦ omega arith ]

entered_on : (code : List Node) {line : List ℕ} {at place to stop : ℕ} → Entered code line at place
    → Goes code line at place to stop → Entered code line to stop
entered_on code {to} {stop} e g = (e.0, e.1, path_on _ e.2 (1, (to, stop, g, (refl, refl))))

pub reaches_exact : (code : List Node) {line : List ℕ} {place : ℕ} {at_first at_last : Bool}
    → IsPlace line place at_first at_last → (number : ℕ)
    → Reaches code line place at_first at_last number ↔ Entered code line number place
reaches_exact code {line} {place} {at_first} {at_last} p number = (there number, here number)
  where
    flows : (count from to : ℕ) → Entered code line from place → Parts (Flows code at_first at_last) count from to
        → Entered code line to place
    flows zero from to e q = rw q at e
    flows (suc count) from to e q = entered_on _ (flows count from q.0 e q.1) (q.2.0, q.2.1, (flow_goes _ _ _ p).0 q.2.2)

    there : (number : ℕ) → Reaches code line place at_first at_last number → Entered code line number place
    there number f = flows f.2.0 f.0 number (elim f.1 [ inl c ↦ entered_on _ c.3 c.4 | inr e ↦ (place, p.within, (0, (sym e, refl))) ]) f.2.1

    step : (at from at' from' : ℕ) → from ≤ place → Entered code line at from
        → (from ≡ place → Reaches code line place at_first at_last at) → Goes code line at from at' from'
        → from' ≡ place → Reaches code line place at_first at_last at'
    step at from at' from' l e h g q = elim (leads_place _ _ _ g.2) [
      | inl same ↦
          let here : from ≡ place = omega arith in
          let was = h here in
          let led = subst (λ n. Leads g.0 line at n at' place) here (rw q at g.2) in
          (was.0, was.1, (suc was.2.0, (at, was.2.1, (g.0, g.1, (flow_goes _ _ _ p).1 led))))
      | inr more ↦ (at', inl (from, omega arith, at, e, rw q at g), (0, refl))
    ]

    arrive : (count at from number : ℕ) → from ≤ place → Walks code line count at from number place
        → Entered code line at from → (from ≡ place → Reaches code line place at_first at_last at)
        → Reaches code line place at_first at_last number
    arrive zero at from number l w e h = subst (Reaches code line place at_first at_last) w.0 (h w.1)
    arrive (suc count) at from number l w e h =
        arrive count w.0 w.1 number (walk_forward _ _ _ _ _ w.3) w.3 (entered_on _ e w.2) (step at from w.0 w.1 l e h w.2)

    here : (number : ℕ) → Entered code line number place → Reaches code line place at_first at_last number
    here number e =
        let l = walk_forward _ _ _ 0 _ e.2.1 in
        arrive e.2.0 0 e.0 number l e.2.1 (e.0, e.1, (0, (refl, refl))) (λ q. (0, inr refl, (0, refl)))

pub inner : {line : List ℕ} {place : ℕ} {at_first : Bool} → place < length line → at_first ≡ (place == 0)
    → IsPlace line place at_first false
inner h f = search rules

pub final : {line : List ℕ} {place : ℕ} {at_first : Bool} → place ≡ length line → at_first ≡ (length line == 0)
    → IsPlace line place at_first true
final h f = search rules

-- a set is what is entered at a place
abbrev pub AreEntered : List Node → List ℕ → ℕ → (ℕ → Type 0) → Type 0
AreEntered code line place Now = (number : ℕ) → Now number ↔ Entered code line number place

-- what a byte leads to from all that was entered at a place
pub came_exact : (code : List Node) {line : List ℕ} {place byte : ℕ} {Now : ℕ → Type 0}
    → AreEntered code line place Now → place < length line → byte ≡ slice_index line place
    → (number : ℕ) → ((from : ℕ) × Now from × StepsBy code byte from number) ↔ Came code line (suc place) number
came_exact code a h e number = search rules

-- one place more
pub steps_more : (place : ℕ) {steps count size : ℕ} → steps ≤ place * size → count ≤ size
    → steps + count ≤ (place + 1) * size
steps_more place h k = omega arith

pub steps_wider : {place most steps : ℕ} (size : ℕ) → steps ≤ place * size → place ≤ most → steps ≤ most * size
steps_wider size h k = search rules

-- the end is entered at a place
pub counted_found : {code : List Node} {line : List ℕ} {place steps all : ℕ} → IsCounted code line place steps
    → place ≤ length line → Entered code line (length code) place → steps ≤ all
    → all ≤ (length line + 1) * (weight code + 1) → IsOutcome code line (record { found = true; steps = all })
counted_found s within ends least most = search rules

-- one place more is counted
more_positions : (code : List Node) (sets : List (List Bool)) (set : List Bool)
    → positions_in_all code (sets ++ set ∷ []) ≡ positions_in_all code sets + positions_among code set
more_positions code [] set = omega arith
more_positions code (other ∷ sets) set = omega (arith, more_positions code sets set)

module _ {code : List Node} {line : List ℕ} {place steps : ℕ} (set : List Bool) (s : IsCounted code line place steps)
    (here : AreEntered code line place (IsMarked set)) where
  one_counted : AreSteps code line (place + 1) (steps + positions_among code set)
  one_counted = let a = s.counted in record {
    sets = a.sets ++ set ∷ [];
    all = omega (arith, length-append a.sets (set ∷ []), a.all);
    exact = λ p number h. elim (cases_eq p place) [
      | inl same ↦ rw (← get_or_push a.sets set [] p (omega arith)) at (rw (← same) at (here number))
      | inr other ↦ let l : p < place = omega arith in rw (← get_or_append_left a.sets (set ∷ []) [] p (omega arith)) at (a.exact p number l)
    ];
    total = omega (arith, more_positions code a.sets set, a.total);
  }

  all_counted : steps + positions_among code set ≤ (place + 1) * (weight code + 1)
  all_counted = steps_more place s.bound (positions_most code set)

  pub counted_more : (IsMarked set (length code) → ⊥)
      → IsCounted code line (place + 1) (steps + positions_among code set)
  counted_more never = record {
    none = λ before l k. elim (cases_eq before place) [
      | inl same ↦ never ((here _).1 (rw same at k))
      | inr other ↦ s.none before (omega arith) k
    ];
    counted = one_counted;
    bound = all_counted;
  }

  -- the line's end
  pub counted_ends : {found : Bool} → place ≡ length line → (IsTrue found ↔ IsMarked set (length code))
      → IsOutcome code line (record { found = found; steps = steps + positions_among code set })
  counted_ends e test = record {
    exact = (
      λ t. (place, omega arith, (here _).0 (test.0 t)),
      λ k. elim (cases_eq k.0 place) [
        | inl same ↦ test.1 ((here _).1 (rw same at k.2))
        | inr other ↦ absurd (s.none k.0 (omega arith) k.2)
      ],
    );
    counted = λ absent. rw e at one_counted;
    least = λ t. (counted_found s (omega arith) ((here _).0 (test.0 t)) (omega arith) (rw e at all_counted)).least refl;
    bound = rw e at all_counted;
  }

-- The sets of the places along a line, and a table of them.

-- at every place but the last
inner_entered : (code : List Node) {line : List ℕ} (place : ℕ) → place < length line → {number : ℕ}
    → Inner code line place number ↔ Entered code line number place
inner_entered code zero h = reaches_exact _ (inner h refl) _
inner_entered code (suc place) h = reaches_exact _ (inner h (sym (ne_eqb (suc place) 0 (λ e. omega arith)))) _

-- at the last place, after a byte
last_entered : (code : List Node) {line : List ℕ} (place : ℕ) → place ≡ length line → 0 < place → {number : ℕ}
    → Entered code line number place ↔ ((from : ℕ) × Inner code line place from × FlowsOn code false true from number)
last_entered code zero h some = absurd (omega arith)
last_entered code {line} (suc place) h some = let exact = reaches_exact _ (final h (sym (ne_eqb (length line) 0 (λ e. omega arith)))) _ in (
  λ e. let f = exact.1 e in (f.0, (f.0, f.1, (0, refl)), f.2),
  λ k.
      let before = parts_anywhere _ _ _ _ _ _ k.1.2.1 in
      exact.0 (k.1.0, k.1.1, (k.1.2.0 + k.2.0, parts_join _ _ _ _ _ _ before k.2.1)),
)

walked_starts : {code : List Node} {sets : List (List Bool)} {table : Table} {line : List ℕ}
    → IsTableOf code sets table → Walked code sets line 0 0 0
walked_starts t = search rules

module _ {code : List Node} {sets : List (List Bool)} {line : List ℕ} {place state steps : ℕ}
    (w : Walked code sets line place state steps) (h : place < length line) where
  -- what is entered at the place of the state's set, and before
  walked_here : AreEntered code line place (InSets sets state)
  walked_here number = search (rules, inner_entered)

  -- what a byte leads to from the state's set
  next_inner : {number : ℕ}
      → Next code (slice_index line place) (InSets sets state) number ↔ Inner code line (suc place) number
  next_inner = let came = came_exact _ walked_here h refl in (
    λ n. (n.0, elim n.1 [ inl led ↦ inl ((came n.0).0 led) | inr e ↦ inr e ], n.2),
    λ f. (f.0, elim f.1 [ inl c ↦ inl ((came f.0).1 c) | inr e ↦ inr e ], f.2),
  )

  -- one byte more
  walked_more : {table : Table} {next steps' : ℕ} → IsTableOf code sets table → slice_index line place < 256
      → next ≡ entry table.rows.items state (slice_index line place) → next < 65534
      → steps' ≡ steps + positions_among code (set_at sets state) → Walked code sets line (suc place) next steps'
  walked_more t b e k p = let step = (t.told state (slice_index line place) w.known b).next (omega arith) in record {
    within = omega arith;
    known = omega (arith, e, step.0);
    exact = λ number. rw e (λ i. next_inner.0 ((step.1 number).0 i), λ i. (step.1 number).1 (next_inner.1 i));
    so_far =
        let one : place + 1 ≡ suc place = omega arith in
        rw (← one, p) (counted_more _ w.so_far walked_here (t.none state w.known));
  }

walked_stay : {code : List Node} {sets : List (List Bool)} {table : Table} {line : List ℕ} (more : ℕ)
    {place state steps : ℕ} → IsTableOf code sets table → Walked code sets line place state steps
    → place + more ≤ length line → AreBytes line
    → ((k : ℕ) → place ≤ k → k < place + more → entry table.rows.items state (slice_index line k) ≡ state)
    → Walked code sets line (place + more) state (steps + positions_among code (set_at sets state) * more)
walked_stay zero t w h b s = search rules
walked_stay {code} {sets} (suc more) {place} {state} t w h b s =
    let before = walked_stay more t w (omega (arith, h)) b (λ k l u. s k l (omega (arith, u))) in
    let e : place + suc more ≡ suc (place + more) = omega arith in
    rw e (walked_more before (omega arith) t (b (place + more) (omega arith))
    (sym (s (place + more) (omega arith) (omega arith))) (omega (arith, w.known, t.most))
    (omega (arith, mul-suc (positions_among code (set_at sets state)) more)))

-- what is entered after a byte is entered also if the line ends there
entered_there : (code : List Node) {line : List ℕ} {place number : ℕ} → place < length line
    → Inner code line (suc place) number → Entered code line number (suc place)
entered_there code {line} {place} {number} h i = elim (cases_eq (suc place) (length line)) [
  | inl same ↦ (last_entered code (suc place) same (omega arith)).1 (number, i, (0, refl))
  | inr other ↦ (inner_entered _ _ (omega arith)).0 i
]

entry_read : {table : Table} {code : List Node} {sets : List (List Bool)} {state byte read : ℕ} (d : ℕ)
    → IsTableOf code sets table → state < length sets → byte < 256
    → read ≡ get_or table.rows.items (state * 256 + byte) d → read ≡ entry table.rows.items state byte
entry_read {table} {state = state} {byte = byte} d t h b e = e ∙ get_or_default table.rows.items (state * 256 + byte) d 0 (omega (arith, t.rows))

noted_read : {table : Table} {code : List Node} {sets : List (List Bool)} {state : ℕ} {read : State} (d : State)
    → IsTableOf code sets table → state < length sets → read ≡ get_or table.states.items state d
    → IsState code sets table.rows.items state read
noted_read {state} d t h e = rw (← (e ∙ get_or_default _ state d no_state (omega (arith, t.states)))) at (t.noted state h)

-- along a line, by some table's sets
abbrev pub WalkedOf : List Node → Table → List ℕ → ℕ → ℕ → ℕ → Type 0
WalkedOf code table line place state steps = (sets : List (List Bool)) × IsTableOf code sets table × Walked code sets line place state steps

module _ {code : List Node} {table : Table} {line : List ℕ} {place state steps : ℕ} {noted : State} (d : State)
    (w : WalkedOf code table line place state steps) (is : noted ≡ get_or table.states.items state d) where
  noted_is : IsState code w.0 table.rows.items state noted
  noted_is = noted_read d w.1 w.2.known is

  -- a stretch in which the state stays
  pub walk_run : {to added : ℕ} → place ≤ to → to ≤ length line → AreBytes line
      → ((k : ℕ) → place ≤ k → k < to → entry table.rows.items state (slice_index line k) ≡ state)
      → added ≡ noted.positions * (to - place) → WalkedOf code table line to state (steps + added)
  walk_run {to} l h b s a =
      let there : place + (to - place) ≡ to = omega arith in
      let stays = walked_stay (to - place) w.1 w.2 (omega (arith, l, h)) b (λ k m u. s k m (omega (arith, u, l))) in
      (w.0, w.1, rw (a, noted_is.positions) (rw there at stays))

  pub walk_next : {next : ℕ} (d' : ℕ) → place < length line → slice_index line place < 256
      → next ≡ get_or table.rows.items (state * 256 + slice_index line place) d' → next < 65534
      → WalkedOf code table line (place + 1) next (steps + noted.positions)
  walk_next d' h b e k =
      let one : place + 1 ≡ suc place = omega arith in
      (w.0, w.1, rw one (walked_more w.2 h w.1 b (entry_read _ w.1 w.2.known b e) k (ap (λ p. steps + p) noted_is.positions)))

  -- one place more
  pub walk_one : steps + noted.positions ≤ (place + 1) * (weight code + 1)
  walk_one = steps_more place w.2.so_far.bound (omega (arith, positions_most code (set_at w.0 state), noted_is.positions))

  -- a byte leads to the end
  pub walk_stops : {next : ℕ} (d' : ℕ) → place < length line → slice_index line place < 256
      → next ≡ get_or table.rows.items (state * 256 + slice_index line place) d' → next ≡ 65535
      → IsOutcome code line (record { found = true; steps = steps + noted.positions })
  walk_stops d' h b e k =
      let next = (next_inner w.2 h).0 ((w.1.told state (slice_index line place) w.2.known b).stop (sym (entry_read _ w.1 w.2.known b e) ∙ k)) in
      let one : place + 1 ≡ suc place = omega arith in
      let counted = counted_more _ w.2.so_far (walked_here w.2 h) (w.1.none state w.2.known) in
      counted_found (rw (← noted_is.positions) at counted) (omega arith) (rw one (entered_there _ h next)) (omega arith)
      (steps_wider _ walk_one (omega arith))

  -- the line's end
  pub walk_ends : place ≡ length line → 0 < length line
      → IsOutcome code line (record { found = noted.ends; steps = steps + noted.last_positions })
  walk_ends h some = rw noted_is.last_positions (counted_ends _ w.2.so_far last h noted_is.ends)
    where
      last : AreEntered code line place (IsMarked noted_is.last)
      last number = let l = last_entered code place h (omega arith) in (
        λ m. let k = (noted_is.last_exact number).0 m in l.1 (k.0, (w.2.exact k.0).0 k.1, k.2),
        λ f. let k = l.0 f in (noted_is.last_exact number).1 (k.0, (w.2.exact k.0).1 k.1, k.2),
      )

pub bound_fits : (code : List Node) {places steps : ℕ} → length code ≤ 65536 → steps ≤ places * (weight code + 1)
    → places ≤ 18446744073709551617 → steps < 340282366920938463463374607431768211456
bound_fits code few h p = search (rules, weight_length, mul-le-mul)

pub walk_fits : {code : List Node} {table : Table} {line : List ℕ} {place state steps : ℕ}
    → WalkedOf code table line place state steps → place ≤ 18446744073709551616
    → steps < 340282366920938463463374607431768211456
walk_fits w p = bound_fits _ w.1.few w.2.so_far.bound (omega arith)

-- a state that no byte changes
pub fixed_stays : {code : List Node} {table : Table} (line : List ℕ) {state : ℕ} {noted : State} (d : State)
    → ((sets : List (List Bool)) × IsTableOf code sets table) → state < length table.states.items
    → noted ≡ get_or table.states.items state d → noted.is_fixed ≡ true
    → (place : ℕ) → slice_index line place < 256 → entry table.rows.items state (slice_index line place) ≡ state
fixed_stays line d t h e f place b =
    (noted_read d t.1 (omega (arith, t.1.states)) e).is_fixed f (slice_index line place) b

-- a word's six bits after one state more was put before them
six_more : (word offset state : ℕ) → offset < 64 → six_bits (word * 64 + offset) (suc state) ≡ six_bits word state
six_more word offset state h =
    let e : 6 * suc state ≡ 6 + 6 * state = omega arith in
    rw (e, ← shr-shr (word * 64 + offset) 6 (6 * state), shr_high word 6 offset h)

six_first : (word : ℕ) {offset : ℕ} → offset < 64 → six_bits (word * 64 + offset) 0 ≡ offset
six_first word h = omega arith

-- the last states of a word are there
pub record HasLastStates (rows : List ℕ) (count byte done word : ℕ) : Type 0 where
  pub small : word < 2 ^ (6 * done)
  pub told : (state place : ℕ) → state ≤ count → state + done ≡ count + 1 + place
      → IsOffset rows count state byte (six_bits word place)

pub word_more : {rows : List ℕ} {count byte done word offset : ℕ} → HasLastStates rows count byte done word
    → done ≤ count → offset < 64 → IsOffset rows count (count - done) byte offset
    → HasLastStates rows count byte (done + 1) (word * 64 + offset)
word_more {rows} {count} {byte} {done} {word} {offset} b h o i = record {
  small =
      let e : 6 * (done + 1) ≡ 6 + 6 * done = omega arith in
      let p : 2 ^ (6 * (done + 1)) ≡ 2 ^ 6 * 2 ^ (6 * done) = ap (λ k. 2 ^ k) e ∙ pow-add 2 6 _ in
      let s = b.small in
      omega arith;
  told = told;
}
  where
    told : (state place : ℕ) → state ≤ count → state + (done + 1) ≡ count + 1 + place
        → IsOffset rows count state byte (six_bits (word * 64 + offset) place)
    told state zero l e =
        let same : count - done ≡ state = omega arith in
        rw (← six_first word o) at (subst (λ s. IsOffset rows count s byte offset) same i)
    told state (suc place) l e = rw (← six_more _ _ _ o) at (b.told state place l (omega arith))

pub word_fits : {rows : List ℕ} {count byte done word : ℕ} → HasLastStates rows count byte done word → done ≤ 9
    → word < 18014398509481984
word_fits {done} b h =
    let two : 0 < 2 = omega arith in
    let most : 6 * done ≤ 54 = omega arith in
    let p : 2 ^ (6 * done) ≤ 2 ^ 54 = pow-le-pow_right two most in
    let s = b.small in
    omega arith

pub states_are_light : {code : List Node} {table : Table} → IsTable code table → AreLight table.states.items
states_are_light t state h = search (rules, positions_most, weight_length)

-- what was made of the table's rows and states
pub shifted_is : {table : Table} {shifts : ShiftTable} {rows : List ℕ} {noted : List State} → rows ≡ table.rows.items
    → noted ≡ table.states.items → length noted ≤ 9 → IsComplete rows
    → AreEach 0 (IsWord rows (length noted)) 256 shifts.words.items
    → AreEach 0 (λ low. IsWeight noted (low % 64)) 256 shifts.weights.items → shifts.states.items ≡ noted
    → shifts.stop ≡ 6 * length noted → IsShifted table shifts
shifted_is er en few complete words weights states stop = search rules

pub at_starts : {code : List Node} {shifts : ShiftTable} {line : List ℕ} → IsShiftTable code shifts
    → IsAt code shifts line 0 0 0
at_starts {code} {line} t =
    let starts : IsStateAt code t.0 line 0 0 0 = record {
      within = omega arith;
      known = omega arith;
      going = λ h. (t.1.0, t.1.1, walked_starts t.1.1);
      over = λ e. absurd (omega (arith, t.1.1.states, t.1.1.some));
      bound = omega arith;
    } in
    (t.0, t.1, t.2, (0, refl, starts))

-- the positions of a state, as the words have them
weight_read : {table : Table} {shifts : ShiftTable} (word : ℕ) {added : ℕ} (e : ℕ) → IsShifted table shifts
    → added ≡ get_or shifts.weights.items (word % 256) e → IsWeight table.states.items (word % 64) added
weight_read word e i g = search (rules, get_or_default)

weight_small : {code : List Node} {table : Table} {state low added : ℕ} → IsTable code table
    → IsWeight table.states.items low added → low ≡ 6 * state → state < length table.states.items
    → added ≤ weight code + 1
weight_small {code} {state} t w l h =
    let p = t.1.noted state (omega (arith, t.1.states)) in
    omega (arith, w.exact state h l, p.positions, positions_most code (set_at t.0 state))

module _ {code : List Node} {table : Table} {line : List ℕ} {place state steps added : ℕ} (t : IsTable code table)
    (a : IsStateAt code table line place state steps) (h : place < length line) where
  state_over : HasStepsBefore code line (steps + added) → added ≤ weight code + 1
      → IsStateAt code table line (place + 1) (length table.states.items) (steps + added)
  state_over e w = search rules

  state_going : slice_index line place < 256 → state < length table.states.items
      → entry table.rows.items state (slice_index line place) < length table.states.items
      → added ≡ (get_or table.states.items state no_state).positions → added ≤ weight code + 1
      → IsStateAt code table line (place + 1) (entry table.rows.items state (slice_index line place)) (steps + added)
  state_going b k n e w = record {
    within = omega arith;
    known = omega arith;
    going = λ l. let g = a.going k in rw e (walk_next no_state g refl 0 h b refl (omega (arith, n, g.1.most, g.1.states)));
    over = λ q. absurd (omega arith);
    bound = steps_more _ a.bound w;
  }

  state_ends : added ≡ (get_or table.states.items state no_state).positions → IsComplete table.rows.items
      → slice_index line place < 256 → state < length table.states.items
      → length table.states.items ≤ entry table.rows.items state (slice_index line place)
      → HasStepsBefore code line (steps + added)
  state_ends same c b k n =
      let g = a.going k in
      let next = entry table.rows.items state (slice_index line place) in
      let high : 65534 ≤ next = elim (cases_lt next 65534) [
        | inl less ↦ absurd (omega (arith, ((g.1.told state (slice_index line place) g.2.known b).next less).0, g.1.states))
        | inr more ↦ more
      ] in
      rw same ((walk_stops no_state g refl 0 h b refl (c (state * 256 + slice_index line place) (omega (arith, g.1.rows, g.1.states)) high)).least refl)

  state_more : {six : ℕ} → IsComplete table.rows.items → slice_index line place < 256
      → IsWeight table.states.items (6 * state) added
      → IsOffset table.rows.items (length table.states.items) state (slice_index line place) six
      → (n : ℕ) × (six ≡ 6 * n) × IsStateAt code table line (place + 1) n (steps + added)
  state_more c b w o = elim (cases_lt state (length table.states.items)) [
    | inr over ↦
        let same : state ≡ length table.states.items = omega (arith, a.known) in (
          length table.states.items,
          o.stop (λ l. absurd (omega arith)),
          state_over (let over = a.over same in search rules) (omega (arith, w.stop (ap (λ n. 6 * n) same))),
        )
    | inl below ↦ let light = weight_small t w refl below in elim
        (cases_lt (entry table.rows.items state (slice_index line place)) (length table.states.items)) [
          | inl less ↦ (
            entry table.rows.items state (slice_index line place),
            o.next below less,
            state_going b below less (w.exact state below refl) light,
          )
          | inr more ↦ (length table.states.items, o.stop (λ l. more), state_over (state_ends (w.exact state below refl) c b below more) light)
        ]
  ]

pub at_moved : {code : List Node} {shifts : ShiftTable} {line : List ℕ} {place place' : ℕ} (word : ℕ) {steps steps' : ℕ}
    → place ≡ place' → steps ≡ steps' → IsAt code shifts line place word steps
    → IsAt code shifts line place' word steps'
at_moved word p s a = rw (← p, ← s) a

module _ {code : List Node} {shifts : ShiftTable} {line : List ℕ} {place : ℕ} (word : ℕ) {steps : ℕ}
    (a : IsAt code shifts line place word steps) where
  -- one byte more
  pub at_more : {word' read : ℕ} (d : ℕ) {added : ℕ} (e : ℕ) → place < length line → slice_index line place < 256
      → read ≡ get_or shifts.words.items (slice_index line place) d → word' ≡ read / 2 ^ (word % 64)
      → added ≡ get_or shifts.weights.items (word % 256) e → IsAt code shifts line (place + 1) word' (steps + added)
  at_more d e h b r w g =
      let o = rw (get_or_default shifts.words.items (slice_index line place) 0 d (omega (arith, a.2.words.size)), ← r) at
      (a.2.words.each (slice_index line place) b a.3.0 a.3.2.known) in
      let i = rw a.3.1 at (weight_read _ e a.2 g) in
      let m = state_more a.1 a.3.2 h a.2.complete b i o in
      (a.0, a.1, a.2, (m.0, rw (w, a.3.1) m.1, m.2))

  pub at_stop : word % 64 ≡ shifts.stop → IsOutcome code line (record { found = true; steps = steps })
  at_stop e = search rules

  pub at_fits : place ≤ 18446744073709551616 → steps < 340282366920938463463374607431768211456
  at_fits p = bound_fits _ a.1.1.few a.3.2.bound (omega arith)

  -- what is noted of the state
  noted_here : {noted : State} (d : State) → noted ≡ get_or shifts.states.items (word % 64 / 6) d
      → noted ≡ get_or a.0.states.items a.3.0 d
  noted_here d e = search rules

  -- the end wasn't entered
  module _ (n : word % 64 ≡ shifts.stop → ⊥) where
    state_here : a.3.0 < length a.0.states.items
    state_here = search rules

    pub at_known : word % 64 / 6 < length shifts.states.items
    at_known = search rules

    pub at_end : {noted : State} (d : State) → place ≡ length line → 0 < length line
        → noted ≡ get_or shifts.states.items (word % 64 / 6) d
        → IsOutcome code line (record { found = noted.ends; steps = steps + noted.last_positions })
    at_end d h some e = walk_ends d (a.3.2.going state_here) (noted_here d e) h some

    -- no byte can change the state
    pub at_fixed : {rest : ℕ} {noted : State} (d : State) → 0 < length line → AreBytes line
        → noted ≡ get_or shifts.states.items (word % 64 / 6) d → noted.is_fixed ≡ true
        → rest ≡ noted.positions * (length line - place)
        → IsOutcome code line (record { found = noted.ends; steps = steps + rest + noted.last_positions })
    at_fixed d some b e f r =
        let q = noted_here d e in
        let w = walk_run d (a.3.2.going state_here) q a.3.2.within (omega arith) b (λ at l h. fixed_stays line d a.1 state_here q f at (b at h)) r in
        walk_ends d w q refl some

pub outcome_fits : {code : List Node} {shifts : ShiftTable} {line : List ℕ} {found : Bool} {steps : ℕ}
    → IsShiftTable code shifts → IsOutcome code line (record { found = found; steps = steps })
    → length line ≤ 18446744073709551615 → steps < 340282366920938463463374607431768211456
outcome_fits t o p = bound_fits _ t.1.1.few o.bound (omega arith)
