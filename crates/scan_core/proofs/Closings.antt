-- Entering all that follows without a byte, by words that are closed and by hops.
use Rattle.std.proofs.{
  Common.{rules, ◌≡◌, ℕ, ◌+◌, ◌*◌, ◌/◌, ◌%◌, ◌^◌, ◌<◌, List, length, get_or, set, sym, ap, ◌∙◌, subst, arith},
  Common.{w64, ◌⊎◌},
  Common.{inl, inr, zero, suc, ◌≤◌, Bool, false, [], ◌∷◌, refl, ◌↔◌, true, IsTrue, ◌++◌, length-append, eqb, not},
  Common.{bit_and, bit_or, Result, Ok, Err, OnOk},
}
use Rattle.std.proofs.lemmas.{
  Nat.{
    and_le_l,
    le_or_l,
    le_or_r,
    or_lt,
    Bits.{bit_at-trailing_zeros, bit_at_and, bit_at_or, bit_at-lt, bit_at-zero, same_from_bits_below},
  },
  Bool.{cases_eq, eqb-false, not-true, ne_eqb, cases_lt},
  List.{get_or-set_same, length-set, set-get_or},
  Grind.common_steps,
}
use Rattle.std.specs.Int.{bit_at, trailing_zeros, bit_not, Bits.{or_zero_l, or_zero_r}}
use mir.Val.{bool_byte}
use Rattle.scan_core.specs.{
  Code.At,
  declared.{closures.Closures.Closures, hops.Hop.Hop, node.Node.Node, branch.Branch.Branch},
  inner.Closing.{Follows, FollowsFirst, IsApart, IsFollowed, LandsFirst},
  inner.Closures.{AreClosures, Closes, IsPlain, Stays},
  inner.Hops.{AreHops, AreLandings, HopsTo, IsHop, IsLanding, Meets, PartsTo, end_of, no_hop},
  inner.Sets.{Flows, FlowsOn, LeadsOn},
  inner.Branches.IsBranch,
  inner.Words.{Adds, IsIn, SpreadsOut, unset, width},
}
use Rattle.scan_core.proofs.{
  Countings.set_elsewhere,
  Enterings.{at_index, each_more, each_to, flows_of, led_by, parts_anywhere},
  Insides.{adds_both, entered_one, flows_join, fresh_bit, in_word, is_in_word, lowest_in, spreads_out, unset-set},
}

-- some of a word's numbers are those of a hop, or none
pub one_of : {word : ℕ} (from : ℕ) → word < 2 ^ 64 → (bit_and word from ≡ 0 → ⊥)
    → (bit : ℕ) × (bit < 64) × (bit_at word bit ≡ 1) × (bit_at from bit ≡ 1)
one_of {word} from fits some =
    let lowest = lowest_in word from fits some in
    let bit : ℕ = trailing_zeros w64 (bit_and word from) in
    let e = bit_at_and word from bit in
    (bit, lowest.0, omega (arith, e, lowest.1, bit_at-lt word bit), omega (arith, e, lowest.1, bit_at-lt from bit))

pub none_of : (word from bit : ℕ) → bit_and word from ≡ 0 → bit_at word bit ≡ 1 → bit_at from bit ≡ 1 → ⊥
none_of word from bit none here there =
    omega (arith, bit_at_and word from bit, ap (λ w. bit_at w bit) none ∙ bit_at-zero bit)

-- Hops are added.

adding_one : {code : List Node} {old new : List Hop} {hop : Hop} → AreHops code old → IsHop code hop
    → new ≡ old ++ hop ∷ [] → AreHops code new
adding_one {old} {hop} are is e = let l = ap length e in let m = length-append old (hop ∷ []) in each_to (each_more are is e) (omega arith)

hops_added : (old more : List Hop) {new : List Hop} {at to : ℕ} → new ≡ old ++ more → HopsTo old at to
    → HopsTo new at to
hops_added old more e h = grind (arith, common_steps)

-- what is met stays so when hops are added
meets_kept : (base : List ℕ) (old : List Hop) {new : List Hop} {at to : ℕ} → (more : List Hop) × (new ≡ old ++ more)
    → Meets base old at to → Meets base new at to
meets_kept base old grown (inl near) = inl near
meets_kept base old grown (inr (inl based)) = inr (inl based)
meets_kept base old grown (inr (inr hop)) = inr (inr (hops_added _ _ grown.1 hop))

-- what a node leads to is met once both are
pub both_met : {code : List Node} (base : List ℕ) (old new : List Hop) {number : ℕ} {branch : Branch} {T E : Type 0}
    (result : Result T E) → IsBranch code number branch → Meets base old (number / 64) branch.one
    → OnOk result ((more : List Hop) × (new ≡ old ++ more)) → OnOk result (Meets base new (number / 64) branch.other)
    → OnOk result ((to : ℕ) → Flows code false false number to → Meets base new (number / 64) to)
both_met base old new {number} (Ok done) w one grown other = λ to f. led_by (Meets base new (number / 64)) w (meets_kept base old grown one) other f
both_met base old new (Err fault) w one grown other = tt

-- what the first numbers lead to is met
pub all_met : (code : List Node) (base : List ℕ) (old new : List Hop) {count : ℕ}
    → ((number to : ℕ) → number < count → Flows code false false number to → Meets base old (number / 64) to)
    → (more : List Hop) × (new ≡ old ++ more)
    → ((to : ℕ) → Flows code false false count to → Meets base new (count / 64) to) → (number to : ℕ)
    → number < count + 1 → Flows code false false number to → Meets base new (number / 64) to
all_met code base old new {count} before grown here number to h f = elim (cases_eq number count) [
  | inl same ↦ rw (← same) at (here to (subst (λ n. Flows code false false n to) same f))
  | inr other ↦ meets_kept _ _ grown (before number to (omega arith) f)
]

-- the first hops are in two parts
pub record Parting (code : List Node) (base : List ℕ) (all onward landings : List Hop) (count : ℕ) : Type 0 where
  pub first : AreHops code onward
  pub last : AreLandings code base landings
  pub parted : (place : ℕ) → place < count
      → PartsTo onward landings (get_or all place no_hop).at (end_of (get_or all place no_hop))

hops_to_last : (old : List Hop) (hop : Hop) {new : List Hop} → new ≡ old ++ hop ∷ [] → HopsTo new hop.at (end_of hop)
hops_to_last old hop e = grind (arith, common_steps)

pub part_onward : {code : List Node} {base : List ℕ} {all onward landings new : List Hop} {count : ℕ} {hop : Hop}
    → Parting code base all onward landings count → IsHop code hop → hop ≡ get_or all count no_hop
    → new ≡ onward ++ hop ∷ [] → Parting code base all new landings (count + 1)
part_onward {all} {count} p is eh en = record {
  first = adding_one p.first is en;
  last = p.last;
  parted = λ place l. elim (cases_eq place count) [
    | inl same ↦ rw (same, ← eh) (inl (hops_to_last _ _ en))
    | inr other ↦ elim (p.parted place (omega arith)) [
      | inl on ↦ inl (hops_added _ _ en on)
      | inr land ↦ inr land
    ]
  ];
}

pub part_landing : {code : List Node} {base : List ℕ} {all onward landings new : List Hop} {count : ℕ} {hop : Hop}
    → Parting code base all onward landings count → IsLanding code base hop → hop ≡ get_or all count no_hop
    → new ≡ landings ++ hop ∷ [] → Parting code base all onward new (count + 1)
part_landing {all} {landings} {count} {hop} p is eh en = record {
  first = p.first;
  last = let l = ap length en in let m = length-append landings (hop ∷ []) in each_to (each_more p.last is en) (omega arith);
  parted = λ place l. elim (cases_eq place count) [
    | inl same ↦ rw (same, ← eh) (inr (hops_to_last _ _ en))
    | inr other ↦ elim (p.parted place (omega arith)) [
      | inl on ↦ inl on
      | inr land ↦ inr (hops_added _ _ en land)
    ]
  ];
}

pub parting_ends : {code : List Node} {base : List ℕ} {all onward landings : List Hop} {count : ℕ}
    → Parting code base all onward landings count → length all ≤ count
    → ((number to : ℕ) → Flows code false false number to → Meets base all (number / 64) to)
    → (number to : ℕ) → Flows code false false number to
    → (to / 64 ≡ number / 64) ⊎ (IsIn base to ⊎ PartsTo onward landings (number / 64) to)
parting_ends {all} {onward} {landings} p h met number to f = elim (met number to f) [
  | inl near ↦ inl near
  | inr other ↦ inr (elim other [
    | inl based ↦ inl based
    | inr hop ↦ inr (rw hop.3 at (subst (λ at. PartsTo onward landings at (end_of (get_or all hop.0 no_hop))) hop.2
        (p.parted hop.0 (omega (arith, hop.1)))))
  ])
]

-- Closing a word.

-- what a word's numbers lead to has the word's own
kept_or : {code : List Node} {at word all : ℕ} → Closes code at word all → word < 2 ^ 64 → all < 2 ^ 64
    → bit_or word all ≡ all
kept_or {word} {all} c fits small = same_from_bits_below 64 (bit_or word all) all (or_lt 64 word all fits small) small (λ bit h.
    let e = bit_at_or word all bit in
    let l = bit_at-lt word bit in
    elim (cases_eq (bit_at word bit) 1) [ inl one ↦ let k = c.kept bit h one in omega arith | inr other ↦ omega arith ])

unset_fuller : (words : List ℕ) (at word : ℕ) → get_or words at 0 ≤ word → unset (set words at word) ≤ unset words
unset_fuller [] at word l = omega arith
unset_fuller (x ∷ words) zero word l = omega arith
unset_fuller (x ∷ words) (suc at) word l = omega (arith, unset_fuller words at word l)

-- a word was closed
pub record Closed (code : List Node) (at : ℕ) (old now : List ℕ) : Type 0 where
  pub adds : Adds code false false old now
  pub elsewhere : (number : ℕ) → (number / 64 ≡ at → ⊥) → IsIn now number → IsIn old number
  pub fuller : unset now ≤ unset old
  pub closed : (start to : ℕ) → start / 64 ≡ at → IsIn now start → Stays code start to → IsIn now to

close_word : {code : List Node} {at word all : ℕ} {old now : List ℕ} → at < length old → word ≡ get_or old at 0
    → Closes code at word all → word < 2 ^ 64 → all < 2 ^ 64 → now ≡ set old at all → Closed code at old now
close_word {code} {at} {word} {all} {old} {now} h ew c fits small en = record {
  adds = record {
    size = ap length en ∙ length-set old at _;
    kept = λ number k. elim (cases_eq (number / 64) at) [
      | inl same ↦ (now_is _ same).0 (c.kept _ (omega arith) (old_bit _ same k))
      | inr other ↦ rw (← en) at ((set_elsewhere old all number other).1 k)
    ];
    from = λ number k. elim (cases_eq (number / 64) at) [
      | inl same ↦
          let e : number ≡ at * 64 + number % 64 = omega arith in
          let b = c.from_chosen _ (omega arith) ((now_is _ same).1 k) in (
            at * 64 + b.0,
            (is_in_word _ _ _ b.1).0 (ap (λ w. bit_at w b.0) (sym ew) ∙ b.2),
            subst (λ n. FlowsOn code false false (at * 64 + b.0) n) (sym e) b.3,
          )
      | inr other ↦ (number, (set_elsewhere _ _ _ other).0 (rw en at k), (0, refl))
    ];
  };
  elsewhere = λ number other k. (set_elsewhere _ _ _ other).0 (rw en at k);
  fuller = rw (← en) at (unset_fuller old at all (omega (arith, le_or_l word all, kept_or c fits small)));
  closed = λ start to here k s.
      let there : to / 64 ≡ at = omega (arith, s.1) in
      let e : start ≡ at * 64 + start % 64 = omega arith in
      let f : to ≡ at * 64 + to % 64 = omega arith in
      let flow = subst (λ n. Flows code false false n (at * 64 + to % 64)) e (rw f at s.0) in
      (now_is _ there).0 (c.closed _ _ (omega arith) (omega arith) ((now_is _ here).1 k) flow);
}
  where
    read : get_or now at 0 ≡ all
    read = ap (λ w. get_or w at 0) en ∙ get_or-set_same old at _ 0 h

    now_is : (number : ℕ) → number / 64 ≡ at → (bit_at all (number % 64) ≡ 1) ↔ IsIn now number
    now_is number same = rw read at (in_word now number same)

    old_bit : (number : ℕ) → number / 64 ≡ at → IsIn old number → bit_at word (number % 64) ≡ 1
    old_bit number same k = rw (← ew) at ((in_word old number same).1 k)

-- all that is in a set is in another
abbrev pub Within : List ℕ → List ℕ → Type 0
Within base words = (number : ℕ) → IsIn base number → IsIn words number

-- a number of a word of which none leads out of the base leads to numbers of it
based_of : {code : List Node} {closures : Closures} {at : ℕ} (words : List ℕ) {start to : ℕ} → AreClosures code closures
    → at < width code → bit_and (get_or words at 0) (get_or closures.leads.items at 0) ≡ 0 → start / 64 ≡ at
    → IsIn words start → Flows code false false start to → IsIn closures.base.items to
based_of {at} words {start} {to} c inside e here h f =
    let same : start ≡ at * 64 + start % 64 = omega arith in
    let one = (in_word words start here).1 h in
    elim (c.leads.each at inside (start % 64) to (omega arith) (rw same at f)) [
      | inl two ↦ absurd (none_of _ _ _ e one two)
      | inr based ↦ based
    ]

-- a number of a word that was closed leads to numbers of the set, or by a hop
closed_meets : {code : List Node} {closures : Closures} {at : ℕ} {old now : List ℕ} → AreClosures code closures
    → Closed code at old now → Within closures.base.items old
    → {start to : ℕ} → start / 64 ≡ at → IsIn now start → Flows code false false start to
    → IsIn now to ⊎ PartsTo closures.hops.onward.items closures.hops.landings.items (start / 64) to
closed_meets c w begun {start} {to} here k f = elim (c.hops.met start to f) [
  | inl near ↦ inl (w.closed start to here k (f, near))
  | inr other ↦ elim other [ inl based ↦ inl (w.adds.kept to (begun to based)) | inr hop ↦ inr hop ]
]

-- the first words were closed
pub record Apart (code : List Node) (closures : Closures) (old now : List ℕ) (count : ℕ) : Type 0 where
  pub adds : Adds code false false old now
  pub done : (start to : ℕ) → start < 64 * count → IsIn now start → Flows code false false start to
      → IsIn now to ⊎ PartsTo closures.hops.onward.items closures.hops.landings.items (start / 64) to

pub apart_skip : {code : List Node} {closures : Closures} {old now : List ℕ} {count : ℕ}
    → Apart code closures old now count → AreClosures code closures
    → Within closures.base.items old → count < width code
    → bit_and (get_or now count 0) (get_or closures.leads.items count 0) ≡ 0 → Apart code closures old now (count + 1)
apart_skip {count} s c begun inside e = record {
  adds = s.adds;
  done = λ start to h k flow. elim (cases_lt start (64 * count)) [
    | inl before ↦ s.done start to before k flow
    | inr here ↦ inl (s.adds.kept to (begun to (based_of _ c inside e (omega arith) k flow)))
  ];
}

pub apart_more : {code : List Node} {closures : Closures} {old now new : List ℕ} {count all : ℕ}
    → Apart code closures old now count → AreClosures code closures
    → Within closures.base.items old → count < width code → length old ≡ width code
    → Closes code count (get_or now count 0) all → get_or now count 0 < 2 ^ 64 → all < 2 ^ 64 → new ≡ set now count all
    → Apart code closures old new (count + 1)
apart_more {code} {now} {new} {count} s c begun inside size closes fits small en = record {
  adds = adds_both s.adds w.adds;
  done = λ start to h k flow. elim (cases_eq (start / 64) count) [
    | inl here ↦ closed_meets c w (λ number based. s.adds.kept number (begun number based)) here k flow
    | inr other ↦ elim (s.done start to (omega arith) (w.elsewhere start other k) flow) [ inl was ↦ inl (w.adds.kept to was) | inr hop ↦ inr hop ]
  ];
}
  where
    w : Closed code count now new
    w = close_word (omega arith) refl closes fits small en

-- Following a hop.

-- a number of a word is entered if something holds
entered_if : (words : List ℕ) {new : List ℕ} {at bit : ℕ} (holds : Bool) → at < length words → bit < 64
    → new ≡ set words at (bit_or (get_or words at 0) (bool_byte holds * 2 ^ bit % 2 ^ 64))
    → (other : ℕ) → IsIn new other ↔ (IsIn words other ⊎ (IsTrue holds × (other ≡ at * 64 + bit)))
entered_if words {at} {bit} true h small en other =
    let here : (at * 64 + bit) / 64 ≡ at = omega arith in
    let there : (at * 64 + bit) % 64 ≡ bit = omega arith in
    let e = entered_one _ (omega arith) refl (rw (here, there) en) _ in
    (λ k. elim (e.0 k) [ inl was ↦ inl was | inr same ↦ inr (refl, same) ], λ k. e.1 (elim k [ inl was ↦ inl was | inr q ↦ inr q.1 ]))
entered_if words false h small en other = search (rules, or_zero_r, set-get_or)

-- what a hop leads to was entered, if it leads from the set
pub record Led (code : List Node) (hop : Hop) (old mid : List ℕ) (all : ℕ) : Type 0 where
  pub adds : Adds code false false old mid
  pub new : (number : ℕ) → IsIn mid number → IsIn old number ⊎ (number ≡ end_of hop)
  pub followed : IsFollowed old mid hop
  pub set : mid ≡ set old hop.word all
  pub larger : get_or old hop.word 0 ≤ all
  pub fits : all < 2 ^ 64

pub led_is : {code : List Node} {hop : Hop} {old mid : List ℕ} {holds : Bool} → IsHop code hop → length old ≡ width code
    → get_or old hop.at 0 < 2 ^ 64 → get_or old hop.word 0 < 2 ^ 64
    → holds ≡ not (eqb (bit_and (get_or old hop.at 0) hop.from) 0)
    → mid ≡ set old hop.word (bit_or (get_or old hop.word 0) (bool_byte holds * 2 ^ hop.bit % 2 ^ 64))
    → Led code hop old mid (bit_or (get_or old hop.word 0) (bool_byte holds * 2 ^ hop.bit % 2 ^ 64))
led_is {code} {hop} {old} {mid} {holds} is size fits high test em = record {
  adds = record {
    size = ap length em ∙ length-set old _ _;
    kept = λ n k. (exact n).1 (inl k);
    from = λ n k. elim ((exact n).0 k) [ inl was ↦ (n, was, (0, refl)) | inr led ↦ entered n led.0 led.1 ];
  };
  new = λ n k. elim ((exact n).0 k) [ inl was ↦ inl was | inr led ↦ inr led.1 ];
  followed = λ bit small one k.
      let here = (is_in_word _ _ _ small).1 k in
      (exact _).1 (inr (test ∙ ap not (ne_eqb _ 0 (λ none. none_of _ _ _ none here one)), refl));
  set = em;
  larger = le_or_l _ (bool_byte holds * 2 ^ hop.bit % 2 ^ 64);
  fits = or_lt 64 _ (bool_byte holds * 2 ^ hop.bit % 2 ^ 64) high (omega arith);
}
  where
    exact : (other : ℕ) → IsIn mid other ↔ (IsIn old other ⊎ (IsTrue holds × (other ≡ end_of hop)))
    exact = entered_if _ _ (omega arith) is.bit em

    entered : (number : ℕ) → IsTrue holds → number ≡ end_of hop
        → (start : ℕ) × IsIn old start × FlowsOn code false false start number
    entered number t e =
        let one = one_of _ fits (eqb-false _ 0 (not-true _ (sym test ∙ t))) in
        let start : ℕ = hop.at * 64 + one.0 in
        (start, (is_in_word _ _ _ one.1).0 one.2, (1, (start, refl, rw (← e) at ((is.exact one.0 one.1).0 one.3))))

read_led : {code : List Node} {hop : Hop} {old mid : List ℕ} {all : ℕ} → IsHop code hop → length old ≡ width code
    → Led code hop old mid all → get_or mid hop.word 0 ≡ all
read_led {hop = hop} {old = old} {all = all} is size led =
    ap (λ w. get_or w hop.word 0) led.set ∙ get_or-set_same old hop.word all 0 (omega (arith, is.word))

module _ {code : List Node} {closures : Closures} {hop : Hop} {old mid : List ℕ} {all over : ℕ} (is : IsHop code hop)
    (size : length old ≡ width code) (high : get_or old hop.word 0 < 2 ^ 64) (apart : IsApart code closures.hops old)
    (led : Led code hop old mid all) (eo : over ≡ bit_and all (bit_not w64 (get_or old hop.word 0))) where
  -- no number is new
  pub follows_none : over ≡ 0 → Follows code closures hop old mid over
  follows_none z = record {
    closer = record {
      adds = led.adds;
      apart = λ from to k flow. elim (apart from to (settled from k) flow) [ inl there ↦ inl (led.adds.kept to there) | inr hop ↦ inr hop ];
      fuller = rw (← led.set) at (unset_fuller old hop.word all led.larger);
      less = λ some. absurd (some z);
    };
    followed = led.followed;
    settled = λ none. settled;
  }
    where
      -- the bit of the hop's end was there
      was_in : IsIn mid (end_of hop) → IsIn old (end_of hop)
      was_in k =
          let now = sym (ap (λ w. bit_at w hop.bit) (read_led is size led)) ∙ (is_in_word mid hop.word hop.bit is.bit).1 k in
          let none = ap (λ w. bit_at w hop.bit) (sym eo ∙ z) ∙ bit_at-zero hop.bit in
          (is_in_word old hop.word hop.bit is.bit).0 (omega (arith, now, none, fresh_bit all high is.bit, bit_at-lt (get_or old hop.word 0) hop.bit))

      settled : (number : ℕ) → IsIn mid number → IsIn old number
      settled number k = elim (led.new number k) [ inl was ↦ was | inr e ↦ rw (← e) at (was_in (subst (IsIn mid) e k)) ]

  -- a number is new, and its word was closed
  pub follows_more : {new : List ℕ} {inside : ℕ} → AreClosures code closures → Within closures.base.items old
      → (over ≡ 0 → ⊥) → Closes code hop.word all inside → inside < 2 ^ 64 → new ≡ set mid hop.word inside
      → Follows code closures hop old new over
  follows_more {new} c begun some closes small en = record {
    closer = record {
      adds = adds_both led.adds w.adds;
      apart = λ from to k flow. elim (cases_eq (from / 64) hop.word) [
        | inl here ↦ closed_meets c w (λ number based. led.adds.kept number (begun number based)) here k flow
        | inr other ↦ elim (led.new from (w.elsewhere from other k)) [
          | inl was ↦ elim (apart from to was flow) [ inl there ↦ inl (w.adds.kept to (led.adds.kept to there)) | inr hop ↦ inr hop ]
          | inr e ↦ absurd (other (omega (arith, is.bit)))
        ]
      ];
      fuller = omega (arith, w.fuller, less);
      less = λ some. omega (arith, w.fuller, less);
    };
    followed = λ bit small one k. w.adds.kept (end_of hop) (led.followed bit small one k);
    settled = λ none. absurd (some none);
  }
    where
      inside_old : hop.word < length old
      inside_old = omega (arith, is.word)

      w : Closed code hop.word mid new
      w = close_word (omega (arith, led.adds.size)) (sym (read_led is size led)) closes led.fits small en

      differs : get_or old hop.word 0 ≡ all → ⊥
      differs e =
          let one = bit_at-trailing_zeros w64 over (omega arith) (omega (arith, led.fits, and_le_l all (bit_not w64 (get_or old hop.word 0)))) in
          let bit : ℕ = trailing_zeros w64 over in
          omega (arith, fresh_bit all high one.0, sym (ap (λ w. bit_at w bit) eo) ∙ one.1, ap (λ w. bit_at w bit) e)

      less : unset mid < unset old
      less = rw (← led.set) at (unset-set old hop.word all inside_old (omega (arith, led.larger, differs)) (omega (arith, led.fits)))

-- Following all hops.

pub following_more : {code : List Node} {closures : Closures} {hop : Hop} {old now new : List ℕ} {count over led : ℕ}
    → FollowsFirst code closures old now count over → Follows code closures hop now new led
    → hop ≡ get_or closures.hops.onward.items count no_hop
    → FollowsFirst code closures old new (count + 1) (bit_or over led)
following_more {closures} {hop} {now} {count} {over} {led} s f eh = record {
  closer = record {
    adds = adds_both s.closer.adds f.closer.adds;
    apart = f.closer.apart;
    fuller = omega arith;
    less = λ some. elim (cases_eq over 0) [
      | inl z ↦ let l = f.closer.less (λ y. some (ap (λ n. bit_or n led) z ∙ or_zero_l led ∙ y)) in let m = s.closer.fuller in omega arith
      | inr more ↦ let l = s.closer.less more in let m = f.closer.fuller in omega arith
    ];
  };
  done = λ z place l.
      let was = f.settled (omega (arith, le_or_r over led)) in
      elim (cases_eq place count) [
        | inl same ↦ rw (same, ← eh) (λ bit small one k. f.followed bit small one (was _ k))
        | inr other ↦ λ bit small one k. f.closer.adds.kept _ (s.done (omega (arith, le_or_l over led)) place (omega arith) bit small one (was _ k))
      ];
}

-- Following the landings.

pub landing_more : {code : List Node} {base : List ℕ} {landings : List Hop} {hop : Hop} {old now new : List ℕ}
    {count all : ℕ} → LandsFirst code base landings old now count → IsLanding code base hop → Led code hop now new all
    → hop ≡ get_or landings count no_hop → LandsFirst code base landings old new (count + 1)
landing_more {landings} {hop} {old} {count} s is led eh = record {
  adds = adds_both s.adds led.adds;
  over = λ n k. elim (led.new n k) [ inl was ↦ s.over n was | inr e ↦ inr (rw (← e) at is.ends) ];
  led = λ place l. elim (cases_eq place count) [
    | inl same ↦ rw (same, ← eh) (λ bit small one k. led.followed bit small one (s.adds.kept (hop.at * 64 + bit) k))
    | inr other ↦ λ bit small one k. led.adds.kept _ (s.led place (omega arith) bit small one k)
  ];
}

-- Until nothing is missing.

pub record Spreads (code : List Node) (closures : Closures) (old now : List ℕ) (over : ℕ) : Type 0 where
  pub adds : Adds code false false old now
  pub apart : IsApart code closures.hops now
  pub done : over ≡ 0 → (place : ℕ) → place < length closures.hops.onward.items
      → IsFollowed now now (get_or closures.hops.onward.items place no_hop)

-- what some hops lead to from a set is in another, if all were followed
hop_led : {code : List Node} (hops : List Hop) (old new : List ℕ) {from to : ℕ}
    → ((place : ℕ) → place < length hops → IsHop code (get_or hops place no_hop))
    → ((place : ℕ) → place < length hops → IsFollowed old new (get_or hops place no_hop))
    → IsIn old from → Flows code false false from to → HopsTo hops (from / 64) to → IsIn new to
hop_led hops old new {from = from} are followed k flow hop =
    let same : from ≡ (get_or hops hop.0 no_hop).at * 64 + from % 64 = omega (arith, hop.2) in
    let one = ((are hop.0 hop.1).exact (from % 64) (omega arith)).1 (rw (hop.3, ← same) flow) in
    rw hop.3 at (followed hop.0 hop.1 (from % 64) (omega arith) one (subst (IsIn old) same k))

pub spreads_end : {code : List Node} {closures : Closures} {base : List ℕ} {landings : List Hop} {old now new : List ℕ}
    {over : ℕ} → Spreads code closures old now over → over ≡ 0 → AreClosures code closures
    → LandsFirst code base landings now new (length landings) → base ≡ closures.base.items
    → landings ≡ closures.hops.landings.items → Within closures.base.items old → SpreadsOut code false false old new
spreads_end {code} {closures} {new = new} s z c l eb el begun = spreads_out (adds_both s.adds l.adds) closed
  where
    closed : (from to : ℕ) → IsIn new from → Flows code false false from to → IsIn new to
    closed from to k flow = elim (l.over from k) [
      | inl was ↦ elim (s.apart from to was flow) [
        | inl there ↦ l.adds.kept to there
        | inr parts ↦ elim parts [
          | inl hop ↦ l.adds.kept to (hop_led closures.hops.onward.items _ _ c.hops.onward.each (s.done z) was flow hop)
          | inr landing ↦ hop_led closures.hops.landings.items _ _ (λ place h. (c.hops.landings.each place h).leads) (rw el at l.led) was flow landing
        ]
      ]
      | inr ends ↦ l.adds.kept to (s.adds.kept to (begun to (rw eb at (ends to flow))))
    ]

-- At a line's front and end.

-- the first numbers lead to no more there
pub plain_more : (code : List Node) {count : ℕ} {read : Node} → read ≡ get_or code count read → count < length code
    → ((at_first at_last : Bool) (from to : ℕ) → LeadsOn read at_first at_last from to
    → LeadsOn read false false from to)
    → ((number : ℕ) → number < count → IsPlain code number) → (number : ℕ) → number < count + 1 → IsPlain code number
plain_more code {count} {read} e inside plain before number h at_first at_last to f = elim (cases_eq number count) [
  | inl same ↦
      let here = subst (At code number) (sym e) (rw same (at_index code count read inside)) in
      (read, here, plain at_first at_last number to (flows_of code read here f))
  | inr other ↦ before number (omega arith) at_first at_last to f
]

pub spreads_plainly : {code : List Node} {at_first at_last : Bool} {old new : List ℕ}
    → SpreadsOut code false false old new → ((number : ℕ) → IsPlain code number)
    → SpreadsOut code at_first at_last old new
spreads_plainly s plain = spreads_out (record {
  size = s.size;
  kept = λ number k. (s.exact number).1 (number, k, (0, refl));
  from = λ number k. let f = (s.exact number).0 k in (f.0, f.1, (f.2.0, parts_anywhere _ _ _ _ _ _ f.2.1));
}) (λ from to k f.
    let was = (s.exact from).0 k in
    (s.exact to).1 (was.0, was.1, flows_join _ 1 was.2 (from, refl, plain from _ _ to f)))

pub spreads_again : {code : List Node} {at_first at_last : Bool} {old now new : List ℕ}
    → SpreadsOut code false false old now → SpreadsOut code at_first at_last now new
    → SpreadsOut code at_first at_last old new
spreads_again s t = record {
  size = t.size ∙ s.size;
  exact = λ number. (
    λ k.
        let last = (t.exact number).0 k in
        let first = (s.exact last.0).0 last.1 in
        (first.0, first.1, flows_join _ _ (first.2.0, parts_anywhere _ _ _ _ _ _ first.2.1) last.2.1),
    λ k. (t.exact number).1 (k.0, (s.exact k.0).1 (k.0, k.1, (0, refl)), k.2),
  );
}
