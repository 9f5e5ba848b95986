-- A search by sets of words, place by place.
use Rattle.std.proofs.{
  Common.{◌≡◌, ◌⊎◌, ◌↔◌, inl, inr, ℕ, suc, ◌+◌, ◌*◌, ◌<◌, ◌≤◌, Bool, true, false, IsTrue, List, length},
  Common.slice_index,
  Common.{refl, sym, ◌∙◌, arith, rules, ◌/◌, ◌%◌, [], ◌∷◌, ◌++◌, length-append, get_or, ap, mul-le-mul},
  lemmas.{Bool.{false≢true, cases_eq}, List.{get_or_append_left, get_or_default}},
}
use Rattle.scan_core.specs.{
  declared.{node.Node.{Node, TheVariants.Take}, build.Building.Building, table.{State.State, Table.Table}},
  inner.Closures.IsBase,
  inner.Sets.{FlowsOn, Came},
  inner.Table.{IsCounted, Next, InSets, entry, Tells, IsState, no_state, IsTable},
  inner.Words.{IsIn, width, flags_of, SpreadsOut},
  inner.Built.{AreAlike, Built, IsBuilding, IsOpen, LeadsTo, Led},
  inner.Each.AreEach,
  Code.{weight, At},
  Sets.{IsMarked, positions_among},
  Table.IsOutcome,
  Counted.set_at,
}
use Rattle.scan_core.proofs.{
  Shiftings.{AreEntered, IsPlace, reaches_exact, came_exact, counted_more, counted_found, counted_ends, steps_more},
  Shiftings.steps_wider,
  Countings.{LedOrBase, flags_are, flags_length},
  Enterings.{positions_most, parts_anywhere, weight_length, each_more, each_to, each_by, at_index, at_once, at_least},
  Insides.flows_join,
}
use Rattle.bre_core.specs.ByteSet.{has}

-- the line was searched up to a place, and no match has ended
pub record Searched (code : List Node) (line : List ℕ) (place : ℕ) (words : List ℕ) (steps : ℕ) : Type 0 where
  pub size : length words ≡ width code
  pub came : (number : ℕ) → IsIn words number ↔ (Came code line place number ⊎ FlowsOn code false false 0 number)
  pub so_far : IsCounted code line place steps

-- what is entered at a place
pub entered_here : {code : List Node} {line : List ℕ} {place steps : ℕ} {at_first at_last : Bool} {old new : List ℕ}
    → Searched code line place old steps → IsPlace line place at_first at_last
    → SpreadsOut code at_first at_last old new → AreEntered code line place (IsIn new)
entered_here s p o number = let r = reaches_exact _ p _ in (
  λ h. let f = (o.exact number).0 h in r.0 (elim ((s.came f.0).0 f.1) [
    | inl came ↦ (f.0, inl came, f.2)
    | inr on ↦ (0, inr refl, flows_join _ _ (on.0, parts_anywhere _ _ _ _ 0 _ on.1) f.2.1)
  ]),
  λ e. let f = r.1 e in (o.exact number).1 (f.0, (s.came f.0).1 (elim f.1 [ inl came ↦ inl came | inr e ↦ inr (0, sym e) ]), f.2),
)

module _ {code : List Node} {line : List ℕ} {place steps positions : ℕ} {old : List ℕ} (now : List ℕ)
    (s : Searched code line place old steps) (p : positions ≡ positions_among code (flags_of now)) where
  -- the set of a place has no more positions than the code
  few : positions ≤ weight code + 1
  few = omega (arith, p, positions_most code (flags_of now))

  -- the steps so far and those of one place more fit 128 bits
  pub search_fits : length code < 9223372036854775808 → place ≤ 18446744073709551616
      → steps + positions < 340282366920938463463374607431768211456
  search_fits short far =
      let size : weight code + 1 ≤ 9223372036854775808 = omega (arith, weight_length code) in
      let most : place * (weight code + 1) ≤ 18446744073709551616 * 9223372036854775808 = mul-le-mul far size in
      omega (arith, few, s.so_far.bound)

  module _ (here : AreEntered code line place (IsIn now)) where
    marked_here : AreEntered code line place (IsMarked (flags_of now))
    marked_here number = (λ h. (here number).0 ((flags_are _ _).0 h), λ e. (flags_are _ _).1 ((here number).1 e))

    -- one byte more
    pub search_more : {base new : List ℕ} {byte : ℕ} {found : Bool} → IsBase code base → place < length line
        → byte ≡ slice_index line place → found ≡ false → (IsTrue found ↔ IsIn now (length code))
        → length new ≡ width code → ((number : ℕ) → IsIn new number ↔ LedOrBase code byte base now number)
        → Searched code line (place + 1) new (steps + positions)
    search_more b h e absent test size passed = record {
      size = size;
      came = λ number.
          let one : place + 1 ≡ suc place = omega arith in
          let c = came_exact _ here h e _ in
          rw one (
            λ k. elim ((passed number).0 k) [ inl led ↦ inl (c.0 led) | inr based ↦ inr ((b.exact number).0 based) ],
            λ k. (passed number).1 (elim k [ inl came ↦ inl (c.1 came) | inr flows ↦ inr ((b.exact number).1 flows) ]),
          );
      so_far = rw p (counted_more _ s.so_far marked_here (λ m. false≢true (sym absent ∙ test.1 ((flags_are _ _).0 m))));
    }

    -- the end is entered
    pub search_found : place < length line → IsIn now (length code)
        → IsOutcome code line (record { found = true; steps = steps + positions })
    search_found h is = counted_found s.so_far (omega arith) ((here (length code)).0 is) (omega arith)
        (steps_wider _ (steps_more _ s.so_far.bound few) (omega arith))

    -- the line's end
    pub search_ends : {found : Bool} → place ≡ length line → (IsTrue found ↔ IsIn now (length code))
        → IsOutcome code line (record { found = found; steps = steps + positions })
    search_ends e test =
        let f = flags_are _ _ in
        rw p (counted_ends _ s.so_far marked_here e (λ t. f.1 (test.0 t), λ m. test.1 (f.0 m)))

-- A table that is built set by set and entry by entry.

tells_more : {code : List Node} {sets : List (List Bool)} (set : List Bool) {state byte read : ℕ} → state < length sets
    → Tells code sets state byte read → Tells code (sets ++ set ∷ []) state byte read
tells_more set h t = search (rules, length-append, get_or_append_left)

-- one more set; no entries of it are there yet
built_set : {code : List Node} {entries : ℕ} {sets : List (List Bool)} {rows : List ℕ} {set : List Bool}
    → Built code entries sets rows → entries ≤ length sets * 256
    → IsOpen code set → Built code entries (sets ++ set ∷ []) rows
built_set {sets} {set} b small o = let l = length-append sets (set ∷ []) in record {
  some = omega arith;
  front = λ number. rw (← get_or_append_left sets (set ∷ []) [] 0 b.some) at (b.front number);
  going = each_to (each_more b.going o refl) (omega arith);
  told = each_by b.told (λ place read h t. tells_more _ (omega arith) t);
}

-- the entry of a state and a byte by its place
tells_at : {code : List Node} {sets : List (List Bool)} {place state byte read : ℕ} → place ≡ state * 256 + byte
    → byte < 256 → Tells code sets state byte read ≡ Tells code sets (place / 256) (place % 256) read
tells_at e h = search rules

next_by : (code : List Node) {byte : ℕ} {One Other : ℕ → Type 0} → ((n : ℕ) → One n → Other n) → {number : ℕ}
    → Next code byte One number → Next code byte Other number
next_by code there h = search rules

-- two bytes that every node treats alike lead alike
next_alike : (code : List Node) {one other : ℕ} {Set : ℕ → Type 0} {number : ℕ} → AreAlike code one other
    → Next code one Set number → Next code other Set number
next_alike code a n = search rules

-- the entry of a byte's twin is the byte's
pub twin_entry : {code : List Node} {most place twin read : ℕ} (d : ℕ) {building : Building}
    → IsBuilding code most place building → AreAlike code (place % 256) twin → twin < place % 256
    → read ≡ get_or building.rows.items (place / 256 * 256 + twin) d
    → Tells code building.sets.items (place / 256) (place % 256) read
twin_entry {code} {place} {twin} {read} d {building} f a less e = record {
  next = λ s. let n = t.next s in (n.0, λ number. (λ i. there number ((n.1 number).0 i), λ i. (n.1 number).1 (next_alike _ a i)));
  stop = λ s. there _ (t.stop s);
}
  where
    there : (number : ℕ) → Next code twin (InSets building.sets.items (place / 256)) number
        → Next code (place % 256) (InSets building.sets.items (place / 256)) number
    there number n = next_alike _ (λ number bytes h. sym (a number bytes h)) n

    t : Tells code building.sets.items (place / 256) twin read
    t =
        let here = f.built.told.each (place / 256 * 256 + twin) (omega arith) in
        let l : twin < 256 = omega arith in
        rw (e ∙ get_or_default building.rows.items (place / 256 * 256 + twin) d 0 (omega arith), tells_at refl l) here

-- the sets stay, or one is added
record Grown (code : List Node) (place : ℕ) (sets sets' : List (List Bool)) (rows : List ℕ) : Type 0 where
  built : Built code place sets' rows
  order : place ≤ length sets' * 256
  known : place / 256 < length sets'
  same : set_at sets' (place / 256) ≡ set_at sets (place / 256)

grown : {code : List Node} {place : ℕ} {sets sets' : List (List Bool)} {rows : List ℕ} {set : List Bool}
    → Built code place sets rows → place ≤ length sets * 256 → place / 256 < length sets
    → (sets' ≡ sets) ⊎ ((sets' ≡ sets ++ set ∷ []) × IsOpen code set) → Grown code place sets sets' rows
grown b r k (inl e) = rw e (record { built = b; order = r; known = k; same = refl })
grown {sets} {set} b r k (inr e) = let l = length-append sets (set ∷ []) in rw e.0 (record {
  built = built_set b r e.1;
  order = omega arith;
  known = omega arith;
  same = get_or_append_left sets _ [] _ k;
})

-- a set has as many words as the code asks for
pub set_size : {code : List Node} {sets : List (List Bool)} {state : ℕ} (words : List ℕ)
    → AreEach [] (λ _. IsOpen code) (length sets) sets → state < length sets
    → flags_of words ≡ set_at sets state → length words ≡ width code
set_size words are h e = omega (arith, flags_length words, ap length e, (are.each _ h).size)

pub led_on : {code : List Node} {most place read : ℕ} {old new : Building} (before : List ℕ) {words : List ℕ}
    → IsBuilding code most place old → place / 256 < length old.sets.items
    → flags_of before ≡ set_at old.sets.items (place / 256) → length words ≡ width code
    → ((number : ℕ) → IsIn words number ↔ Next code (place % 256) (IsIn before) number)
    → LeadsTo (length code) most words old.sets.items new.sets.items read → new.rows ≡ old.rows
    → new.words.items ≡ words → Led code most place new read
led_on {code} {place} {old} {new} before {words} f k is size advanced l er ew = record {
  so_far = record { built = rw (← er) at g.built; room = l.room; size = ap length ew ∙ size; order = g.order };
  known = g.known;
  tells = record {
    next = λ s. let k = l.next s in (k.0, λ number. rw (← k.1) at (exact number));
    stop = λ e. (exact _).0 ((flags_are _ _).1 (l.stop e));
  };
}
  where
    set : (new.sets.items ≡ old.sets.items)
        ⊎ ((new.sets.items ≡ old.sets.items ++ flags_of words ∷ []) × IsOpen code (flags_of words))
    set = elim l.sets [ inl e ↦ inl e | inr e ↦ inr (e.0, record { size = flags_length _ ∙ ap (λ n. 64 * n) size; going = λ m. e.1 ((flags_are _ _).0 m) }) ]

    g : Grown code place old.sets.items new.sets.items old.rows.items
    g = grown f.built f.order k set

    exact : (number : ℕ)
        → IsMarked (flags_of words) number ↔ Next code (place % 256) (InSets new.sets.items (place / 256)) number
    exact number = rw (← (is ∙ sym g.same)) (
      λ m. next_by _ (λ n. (flags_are _ n).1) ((advanced _).0 ((flags_are _ _).0 m)),
      λ n. (flags_are _ _).1 ((advanced _).1 (next_by _ (λ n. (flags_are _ n).0) n)),
    )

-- one entry more
pub building_more : {code : List Node} {most place read : ℕ} {old new : Building} → Led code most place old read
    → new.sets ≡ old.sets → new.words ≡ old.words → new.rows.items ≡ old.rows.items ++ read ∷ []
    → IsBuilding code most (place + 1) new
building_more {code} {place} {old} {new} l es ew er =
    let b = l.so_far.built in
    rw es (record {
      built = record {
        some = b.some;
        front = b.front;
        going = b.going;
        told = each_more b.told
            l.tells er;
      };
      room = l.so_far.room;
      size = ap (λ w. length w.items) ew ∙ l.so_far.size;
      order = omega arith;
    })

-- a set that a line's front has
pub front_built : {code : List Node} (words : List ℕ) {sets : List (List Bool)} → length words ≡ width code
    → ((number : ℕ) → IsIn words number ↔ FlowsOn code true false 0 number)
    → (IsIn words (length code) → ⊥) → sets ≡ flags_of words ∷ [] → Built code 0 sets []
front_built words size exact none e = search (rules, flags_are, each_more, flags_length)

-- what a byte leads to from a set, with all that follows
pub advanced : {code : List Node} {byte : ℕ} {base : List ℕ} (old : List ℕ) {middle new : List ℕ} → IsBase code base
    → ((number : ℕ) → IsIn middle number ↔ LedOrBase code byte base old number)
    → SpreadsOut code false false middle new → (number : ℕ) → IsIn new number ↔ Next code byte (IsIn old) number
advanced old b passed s number = (
  λ h. let f = (s.exact number).0 h in elim ((passed f.0).0 f.1) [
    | inl led ↦ (f.0, inl led, f.2)
    | inr based ↦ (0, inr refl, flows_join _ _ ((b.exact f.0).0 based) f.2.1)
  ],
  λ n. (s.exact number).1 (n.0, (passed n.0).1 (elim n.1 [ inl led ↦ inl led | inr e ↦ inr ((b.exact n.0).1 (0, sym e)) ]), n.2),
)

-- the first nodes don't tell two bytes apart
pub alike_below : (code : List Node) (n one other : ℕ) {node : Node}
    → ((m : ℕ) (bytes : List Bool) → m < n → At code m (Take bytes) → has bytes one ≡ has bytes other)
    → node ≡ get_or code n node → n < length code
    → ((bytes : List Bool) → node ≡ Take bytes → has bytes one ≡ has bytes other) → (m : ℕ) (bytes : List Bool)
    → m < n + 1 → At code m (Take bytes) → has bytes one ≡ has bytes other
alike_below code n one other {node} before is h here m bytes l at = elim (cases_eq m n) [
  | inl same ↦ here bytes (at_once code n (rw (← is) at (at_index code n node h)) (rw same at at))
  | inr differs ↦ before m bytes (omega arith) at
]

pub alike_all : (code : List Node) {n one other : ℕ} → length code ≤ n
    → ((m : ℕ) (bytes : List Bool) → m < n → At code m (Take bytes) → has bytes one ≡ has bytes other)
    → AreAlike code one other
alike_all code h before number bytes at = before number bytes (omega (arith, at_least code number (Take bytes) at)) at

-- what was seen of a set is so
pub state_is : {code : List Node} {sets : List (List Bool)} {rows : List ℕ} {number : ℕ} {now last : List ℕ}
    {state : State} → flags_of now ≡ set_at sets number
    → SpreadsOut code false true now last → state.positions ≡ positions_among code (flags_of now)
    → (IsTrue state.is_fixed → (byte : ℕ) → byte < 256 → entry rows number byte ≡ number)
    → state.last_positions ≡ positions_among code (flags_of last) → (IsTrue state.ends ↔ IsIn last (length code))
    → IsState code sets rows number state
state_is e s p f q x = search (rules, flags_are)

-- a table that was built, with what is noted of each state
pub table_is : {code : List Node} {sets : List (List Bool)} {table : Table}
    → Built code (length sets * 256) sets table.rows.items → length code ≤ 65536 → length sets < 65534
    → AreEach no_state (IsState code sets table.rows.items) (length sets) table.states.items → IsTable code table
table_is b few small noted = search rules
