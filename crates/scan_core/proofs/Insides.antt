-- Bits of words, and sets that grow by a number.
use Rattle.std.proofs.{
  Common.{rules, ◌≡◌, ◌⊎◌, ◌↔◌, inl, inr, ℕ, zero, suc, ◌*◌, ◌/◌, ◌%◌, ◌^◌, ◌<◌, ◌≤◌, true, false},
  Common.{IsTrue, not, List},
  Common.{[], ◌∷◌, length, get_or, set, eqb, refl, sym, ap, ◌∙◌, subst, arith, eq-eqb, eqb-true, w64, min, ◌+◌, Bool},
  Common.{◌-◌, max, bit_and, bit_or},
}
use Rattle.std.proofs.lemmas.{
  Bool.{cases_eq, cases_lt},
  List.{get_or-set_other, length-set, set-get_or},
  Nat.{le_or_l, or_lt, and_le_l, mod-pow-add, pow_pos},
  Nat.Bits.{bit_at-trailing_zeros, shr_and_one, bit_at_set_same, bit_at_set_other, and_high, bit_at_and, bit_at_or},
  Nat.Bits.{bit_at_not, bit_at-lt},
  Nat.Bits.{bit_at-zero, bit_at_ones, bit_at_above, bit_at_cat_low, bit_at_cat_high},
  Grind.common_steps,
}
use Rattle.std.proofs.Math.Nat.{mod-lt}
use Rattle.std.specs.Int.{bit_at, bit_not, trailing_zeros, Bits.{or_zero_r, or_zero_l}}
use mir.Val.{bool_byte}
use Rattle.scan_core.{
  specs.inner.{
    Sets.{Flows, FlowsOn},
    Words.{IsIn, unset, Grows, Adds, SpreadsOut, width},
    Branches.{IsBranch, Opens},
    Each.AreEach,
    Closures.{Closes, IsInside, chosen_at},
  },
  specs.declared.{node.Node.Node, branch.Branch.Branch},
  proofs.Enterings.at_least,
}
use Rattle.bre_core.specs.Match.{Parts}

pub has_tests : (words : List ℕ) (number : ℕ)
    → (eqb (bit_and (get_or words (number / 64) 0 / 2 ^ (number % 64)) 1) 1 ≡ true) ↔ IsIn words number
unfolding IsIn
has_tests words number = rw shr_and_one (eqb-true _ 1, eq-eqb _ 1)

pub unset-set : (words : List ℕ) (at word : ℕ) → at < length words → get_or words at 0 < word → word ≤ 2 ^ 64
    → unset (set words at word) < unset words
unset-set [] at word h l m = absurd (omega arith)
unset-set (x ∷ words) zero word h l m = omega arith
unset-set (x ∷ words) (suc at) word h l m = let r = unset-set words at word (omega arith) l m in omega arith

-- the first bits of a word are as they should be, and no others are set
pub record AreBits (Is : ℕ → ℕ → Type 0) (count word : ℕ) : Type 0 where
  pub past : (bit : ℕ) → bit < count → Is bit (bit_at word bit)
  pub rest : (bit : ℕ) → count ≤ bit → bit_at word bit ≡ 0

pub bits_more : {Is : ℕ → ℕ → Type 0} {count word : ℕ} (flag : Bool) → AreBits Is count word → count < 64
    → Is count (bool_byte flag) → AreBits Is (count + 1) (bit_or word (bool_byte flag * 2 ^ count % 2 ^ 64))
bits_more {Is} {count} {word} true a h is = record {
  past = λ bit l. elim (cases_eq bit count) [
    | inl same ↦ rw same (subst (Is count) (sym (bit_at_set_same w64 word count h)) is)
    | inr other ↦ rw (← bit_at_set_other w64 word count h bit other) at (a.past bit (omega arith))
  ];
  rest = λ bit l. bit_at_set_other w64 word count h bit (λ q. omega arith) ∙ a.rest bit (omega arith);
}
bits_more false a h is = search (rules, or_zero_r, cases_eq)

pub flag_one : (flag : Bool) → (bool_byte flag ≡ 1) ↔ IsTrue flag
flag_one true = (λ e. refl, λ t. refl)
flag_one false = search rules

pub not_one : (flag : Bool) → IsTrue flag ⊎ (bool_byte (not flag) ≡ 1)
not_one true = inl refl
not_one false = inr refl

-- a number's bit is set
pub entered_one : (old : List ℕ) {new : List ℕ} {number word : ℕ} → number < 64 * length old
    → word ≡ get_or old (number / 64) 0 → new ≡ set old (number / 64) (bit_or word (1 * 2 ^ (number % 64) % 2 ^ 64))
    → (other : ℕ) → IsIn new other ↔ (IsIn old other ⊎ (other ≡ number))
unfolding IsIn
entered_one old {new} {number} {word} h ew en other = elim (cases_eq other number) [
  | inl same ↦ (λ k. inr same, λ k. rw (same, read) (bit_at_set_same w64 word (number % 64) (omega arith)))
  | inr differs ↦ (λ k. inl (sym (elsewhere differs) ∙ k), λ k. elim k [ inl was ↦ elsewhere differs ∙ was | inr same ↦ absurd (differs same) ])
]
  where
    read : get_or new (number / 64) 0 ≡ bit_or word (1 * 2 ^ (number % 64) % 2 ^ 64)
    read = search rules

    elsewhere : (other ≡ number → ⊥)
        → bit_at (get_or new (other / 64) 0) (other % 64) ≡ bit_at (get_or old (other / 64) 0) (other % 64)
    elsewhere differs = elim (cases_eq (other / 64) (number / 64)) [
      | inl same ↦ rw (same, read, ← ew) (bit_at_set_other w64 word (number % 64) (omega arith) (other % 64) (λ e. differs (omega arith)))
      | inr apart ↦ rw en (ap (λ x. bit_at x (other % 64)) (get_or-set_other old _ _ _ 0 apart))
    ]

-- one number more
pub grows_one : {old new : List ℕ} {number word before on : ℕ} → number < 64 * length old → (IsIn old number → ⊥)
    → word ≡ get_or old (number / 64) 0 → word < 2 ^ 64
    → new ≡ set old (number / 64) (bit_or word (1 * 2 ^ (number % 64) % 2 ^ 64)) → on ≡ min before number
    → Grows (λ other. other ≡ number) old new before on
grows_one {old} {new} {number} {word} h none ew fits en eo = record {
  size = ap length en ∙ length-set old _ more;
  exact = is;
  goes = record {
    low = omega arith;
    under = λ other l k. elim ((is other).0 k) [ inl was ↦ was | inr same ↦ absurd (omega arith) ];
    fuller = omega (arith, fuller);
    less = λ l. fuller;
  };
}
  where
    more : ℕ
    more = bit_or word (1 * 2 ^ (number % 64) % 2 ^ 64)

    is : (other : ℕ) → IsIn new other ↔ (IsIn old other ⊎ (other ≡ number))
    is = entered_one _ h ew en

    larger : get_or old (number / 64) 0 < bit_or word (1 * 2 ^ (number % 64) % 2 ^ 64)
    larger = elim (cases_eq word (bit_or word (1 * 2 ^ (number % 64) % 2 ^ 64))) [
      | inl same ↦
          let unchanged = en ∙ ap (set old (number / 64)) (sym same ∙ ew) ∙ set-get_or old _ 0 in
          absurd (none (rw unchanged at ((is number).1 (inr refl))))
      | inr differs ↦ let l = le_or_l word (1 * 2 ^ (number % 64) % 2 ^ 64) in omega arith
    ]

    fuller : unset new < unset old
    fuller = rw (← en) at (unset-set old (number / 64) (bit_or word (1 * 2 ^ (number % 64) % 2 ^ 64)) (omega arith) larger
        (let m = or_lt 64 word (1 * 2 ^ (number % 64) % 2 ^ 64) fits (omega arith) in omega arith))

pub grows_none : {Added : ℕ → Type 0} {words : List ℕ} {on : ℕ} → ((number : ℕ) → Added number → IsIn words number)
    → Grows Added words words on on
grows_none within = search rules

-- Sets of numbers as words that grow by what a node leads to.

pub grows_by : {Added Other : ℕ → Type 0} {old new : List ℕ} {before on : ℕ} → Grows Added old new before on
    → ((n : ℕ) → Added n → Other n) → ((n : ℕ) → Other n → Added n) → Grows Other old new before on
grows_by g there here = search rules

grows_both : {Added Other : ℕ → Type 0} {old middle new : List ℕ} {before between on : ℕ}
    → Grows Added old middle before between → Grows Other middle new between on
    → Grows (λ n. Added n ⊎ Other n) old new before on
grows_both f g = search rules

-- a node that leads to two numbers
pub grows_way : {code : List Node} {number : ℕ} {branch : Branch} {at_first at_last : Bool} {old middle new : List ℕ}
    {before between on : ℕ} → IsBranch code number branch → Opens branch.when at_first at_last
    → Grows (λ n. n ≡ branch.one) old middle before between → Grows (λ n. n ≡ branch.other) middle new between on
    → Grows (Flows code at_first at_last number) old new before on
grows_way {at_first} {at_last} w o f g =
    grows_by (grows_both f g)
    (λ to e. (w.exact at_first at_last to).1 (o, e)) (λ to k. ((w.exact at_first at_last to).0 k).1)

-- Entering all that a set of words leads to, number by number.

pub is_in_word : (words : List ℕ) (at bit : ℕ) → bit < 64
    → (bit_at (get_or words at 0) bit ≡ 1) ↔ IsIn words (at * 64 + bit)
unfolding IsIn
is_in_word words at bit h = search rules

pub in_word : (words : List ℕ) (number : ℕ) {at : ℕ} → number / 64 ≡ at
    → (bit_at (get_or words at 0) (number % 64) ≡ 1) ↔ IsIn words number
unfolding IsIn
in_word words number same = rw (← same) (λ k. k, λ k. k)

pub is_within : (words : List ℕ) {number : ℕ} → IsIn words number → number < 64 * length words
unfolding IsIn
is_within words h = grind (arith, common_steps)

pub flows_join : (code : List Node) {at_first at_last : Bool} (count : ℕ) {start middle number : ℕ}
    → FlowsOn code at_first at_last start middle → Parts (Flows code at_first at_last) count middle number
    → FlowsOn code at_first at_last start number
flows_join code zero f p = rw p at f
flows_join code (suc count) f p = let r = flows_join code count f p.1 in (suc r.0, (p.0, r.1, p.2))

pub adds_both : {code : List Node} {at_first at_last : Bool} {old middle new : List ℕ}
    → Adds code at_first at_last old middle → Adds code at_first at_last middle new → Adds code at_first at_last old new
adds_both f g = record {
  size = cc;
  kept = λ number h. g.kept number (f.kept number h);
  from = λ number h. let one = g.from number h in let two = f.from one.0 one.1 in (two.0, two.1, flows_join _ _ two.2 one.2.1);
}

-- what a set leads to is in it
pub spreads_out : {code : List Node} {at_first at_last : Bool} {old now : List ℕ} → Adds code at_first at_last old now
    → ((start to : ℕ) → IsIn now start → Flows code at_first at_last start to → IsIn now to)
    → SpreadsOut code at_first at_last old now
spreads_out {code} {at_first} {at_last} {old} {now} adds closed = record {
  size = adds.size;
  exact = λ number. (adds.from number, λ f. follow f.2.0 f.0 number f.1 f.2.1);
}
  where
    follow : (count start number : ℕ) → IsIn old start → Parts (Flows code at_first at_last) count start number
        → IsIn now number
    follow zero start number k p = rw p at (adds.kept start k)
    follow (suc count) start number k p = closed p.0 number (follow count start p.0 k p.1) p.2

-- what the first numbers lead to was entered
pub record Spreading (code : List Node) (at_first at_last : Bool) (old now : List ℕ) (number : ℕ) : Type 0 where
  pub adds : Adds code at_first at_last old now
  pub closed : (start to : ℕ) → start < number → IsIn now start → Flows code at_first at_last start to → IsIn now to

pub spreading_more : {code : List Node} {at_first at_last : Bool} {old now new : List ℕ} {number on : ℕ}
    → Spreading code at_first at_last old now number
    → Grows (λ to. IsIn now number × Flows code at_first at_last number to) now new (number + 1) on
    → Spreading code at_first at_last old new on
spreading_more {number} s g = record {
  adds = adds_both s.adds (record {
    size = g.size;
    kept = λ n k. (g.exact n).1 (inl k);
    from = λ n k. elim ((g.exact n).0 k) [ inl was ↦ (n, was, (0, refl)) | inr led ↦ (number, led.0, (1, (number, refl, led.1))) ];
  });
  closed = λ start to h k flow. let was = g.goes.under start h k in elim (cases_lt start number) [
    | inl before ↦ (g.exact to).1 (inl (s.closed start to before was flow))
    | inr here ↦
        let w = g.goes.low in
        let e : start ≡ number = omega arith in
        (g.exact to).1 (inr (rw e at was, rw e at flow))
  ];
}

pub spreading_ends : {code : List Node} {at_first at_last : Bool} {old now : List ℕ} {number : ℕ}
    → Spreading code at_first at_last old now number → length code ≤ number → SpreadsOut code at_first at_last old now
spreading_ends {code} s h = spreads_out s.adds (λ start to k flow. s.closed start to (omega (arith, at_least code start flow.0 flow.1)) k flow)

pub visits_smaller : {Added : ℕ → Type 0} {old new : List ℕ} {number on most : ℕ} → Grows Added old new (number + 1) on
    → number < most → unset new * (most + 1) + (most - on) < unset old * (most + 1) + (most - number)
visits_smaller g h = grind (arith, common_steps)

-- What numbers lead to without a byte, ready to be looked up.

pub either_bit : (a b bit : ℕ) → bit_at (bit_or a b) bit ≡ 1 → (bit_at a bit ≡ 1) ⊎ (bit_at b bit ≡ 1)
either_bit a b bit h = search (rules, cases_eq, bit_at_or, bit_at-lt)

pub left_bit : (a b bit : ℕ) → bit_at a bit ≡ 1 → bit_at (bit_or a b) bit ≡ 1
left_bit a b bit h = omega (arith, bit_at_or a b bit, bit_at-lt b bit)

pub right_bit : (a b bit : ℕ) → bit_at b bit ≡ 1 → bit_at (bit_or a b) bit ≡ 1
right_bit a b bit h = omega (arith, bit_at_or a b bit, bit_at-lt a bit)

-- a bit that stands for a number of a word
pub bit_is : {at : ℕ} (number bit : ℕ) → number / 64 ≡ at → bit < 64
    → (bit_at (1 * 2 ^ (number % 64) % 2 ^ 64) bit ≡ 1) ↔ (number ≡ at * 64 + bit)
bit_is number bit here h =
    let zero_or : (n : ℕ) → bit_or 0 n ≡ n = λ n. or_zero_l n in
    let same = bit_at_set_same w64 0 (number % 64) (omega arith) in
    let word : bit_or 0 (1 * 2 ^ (number % 64) % 2 ^ 64) ≡ 1 * 2 ^ (number % 64) % 2 ^ 64 = zero_or (1 * 2 ^ (number % 64) % 2 ^ 64) in (
      λ k. elim (cases_eq bit (number % 64)) [
        | inl e ↦ omega arith
        | inr other ↦
            absurd (omega (arith, bit_at_set_other w64 0 (number % 64) (omega arith) bit other, bit_at-zero bit, ap (λ x. bit_at x bit) word))
      ],
      λ e. let q : bit ≡ number % 64 = omega arith in
          ap (bit_at (1 * 2 ^ (number % 64) % 2 ^ 64)) q ∙ ap (λ x. bit_at x (number % 64)) (sym word) ∙ same,
    )

-- what a number of a word leads to in it
pub both_led : {code : List Node} {number to : ℕ} {branch : Branch} (one other bit : ℕ) → IsBranch code number branch
    → Opens branch.when false false → ((bit_at one bit ≡ 1) ↔ (branch.one ≡ to))
    → ((bit_at other bit ≡ 1) ↔ (branch.other ≡ to))
    → (bit_at (bit_or one other) bit ≡ 1) ↔ Flows code false false number to
both_led {to} one other bit w o a b = (
  λ k. (w.exact false false to).1 (o, elim (either_bit _ _ _ k) [ inl first ↦ inl (sym (a.0 first)) | inr second ↦ inr (sym (b.0 second)) ]),
  λ f. elim ((w.exact false false to).0 f).1 [ inl e ↦ left_bit _ _ _ (a.1 (sym e)) | inr e ↦ right_bit _ _ _ (b.1 (sym e)) ],
)

pub none_led : (code : List Node) {number to : ℕ} (bit : ℕ) → (Flows code false false number to → ⊥)
    → (bit_at 0 bit ≡ 1) ↔ Flows code false false number to
none_led code bit never = search rules

-- what some of the numbers lead to is there
pub record Insiding (code : List Node) (at word all done : ℕ) : Type 0 where
  pub kept : (bit : ℕ) → bit < 64 → bit_at word bit ≡ 1 → bit_at all bit ≡ 1
  pub from_word : (number : ℕ) → number < 64 → bit_at all number ≡ 1
      → (bit : ℕ) × (bit < 64) × (bit_at word bit ≡ 1) × FlowsOn code false false (at * 64 + bit) (at * 64 + number)
  pub looked : (bit to : ℕ) → bit < 64 → to < 64 → bit_at done bit ≡ 1
      → Flows code false false (at * 64 + bit) (at * 64 + to) → bit_at all to ≡ 1

-- the lowest bit that is in two words
pub lowest_in : (word other : ℕ) → word < 2 ^ 64 → (bit_and word other ≡ 0 → ⊥)
    → (trailing_zeros w64 (bit_and word other) < 64)
    × (bit_at (bit_and word other) (trailing_zeros w64 (bit_and word other)) ≡ 1)
lowest_in word other fits some =
    let l = bit_at-trailing_zeros w64 (bit_and word other) (omega arith) (omega (arith, and_le_l word other)) in
    (l.0, l.1)

-- what isn't in a word yet
pub fresh_bit : (found : ℕ) {all bit : ℕ} → all < 2 ^ 64 → bit < 64
    → bit_at (bit_and found (bit_not w64 all)) bit ≡ min (bit_at found bit) (1 - bit_at all bit)
fresh_bit found {all} {bit} m l = bit_at_and found (bit_not w64 all) bit ∙ ap (min (bit_at found bit)) (bit_at_not w64 all bit m l)

pub inside_more : {code : List Node} {at word all done : ℕ} (found : ℕ) {bit : ℕ} → Insiding code at word all done
    → bit < 64 → done < 2 ^ 64 → bit_at (bit_and all (bit_not w64 done)) bit ≡ 1
    → ((to : ℕ) → to < 64 → (bit_at found to ≡ 1) ↔ Flows code false false (at * 64 + bit) (at * 64 + to))
    → Insiding code at word (bit_or all found) (bit_or done (1 * 2 ^ bit % 2 ^ 64))
inside_more {at} {all} {done} found {bit} i small fits here is = record {
  kept = λ b h k. left_bit all found b (i.kept b h k);
  from_word = λ n h k. elim (either_bit all found n k) [
    | inl old ↦ i.from_word n h old
    | inr new ↦
        let e = fresh_bit all fits small in
        let was = i.from_word bit small (omega (arith, bit_at-lt all bit)) in
        (was.0, was.1, was.2, (suc was.3.0, (at * 64 + bit, was.3.1, (is n h).0 new)))
  ];
  looked = λ b to h l k f. elim (cases_eq b bit) [
    | inl same ↦ right_bit all found to ((is to l).1 (rw same at f))
    | inr other ↦ left_bit all found to (i.looked b to h l (sym (bit_at_set_other w64 done bit small b other) ∙ k) f)
  ];
}

pub inside_ends : {code : List Node} {at word all done : ℕ} → Insiding code at word all done → done < 2 ^ 64
    → bit_and all (bit_not w64 done) ≡ 0 → Closes code at word all
inside_ends {all} {done} i fits none = record {
  kept = i.kept;
  from_chosen = i.from_word;
  closed = λ n to h l k f. i.looked n to h l
      (let e = fresh_bit all fits h in let z = ap (λ w. bit_at w n) none ∙ bit_at-zero n in let b = bit_at-lt done n
      in omega arith) f;
}

-- one more was looked at
pub inside_smaller : (all : ℕ) {done bit : ℕ} → bit < 64 → done < 2 ^ 64
    → bit_at (bit_and all (bit_not w64 done)) bit ≡ 1 → 2 ^ 64 - bit_or done (1 * 2 ^ bit % 2 ^ 64) < 2 ^ 64 - done
inside_smaller all {done} {bit} small fits here = elim (cases_eq (bit_or done (1 * 2 ^ bit % 2 ^ 64)) done) [
  | inl same ↦
      absurd (omega (arith, fresh_bit all fits small, sym (bit_at_set_same w64 done bit small) ∙ ap (λ w. bit_at w bit) same))
  | inr grown ↦ let l = le_or_l done (1 * 2 ^ bit % 2 ^ 64) in let m = or_lt 64 done (1 * 2 ^ bit % 2 ^ 64) fits (omega arith) in omega arith
]

-- an entry by its word, its eight and its choice
entry_at : {code : List Node} (place : ℕ) {at eight chosen entry : ℕ} → place / 2048 ≡ at → place / 256 % 8 ≡ eight
    → place % 256 ≡ chosen
    → Closes code (place / 2048) (chosen_at place) entry → Closes code at (chosen * 2 ^ (eight * 8) % 2 ^ 64) entry
entry_at place word which low c = search rules

-- the bits of a number in its place in a word
fitted : (n i : ℕ) → i < 64 → bit_at (n % 2 ^ 64) i ≡ bit_at n i
fitted n i h =
    let e = and_high n 64 0 in
    let b = bit_at_and n (2 ^ 64 - 2 ^ 0) i in
    let o = bit_at_ones 64 i h in
    let l = bit_at-lt n i in
    let q : n % 2 ^ 64 ≡ bit_and n (2 ^ (64 + 0) - 2 ^ 0) = omega arith in
    ap (λ x. bit_at x i) q ∙ b ∙ omega arith

placed_below : (n : ℕ) {s i : ℕ} → i < 64 → i < s → bit_at (n * 2 ^ s % 2 ^ 64) i ≡ 0
placed_below n {s} {i} h l = fitted _ i h ∙ ap (λ x. bit_at x i) (omega arith) ∙ bit_at_cat_low n s 0 i l ∙ bit_at-zero i

placed : (n : ℕ) {s i : ℕ} → i < 64 → s ≤ i → bit_at (n * 2 ^ s % 2 ^ 64) i ≡ bit_at n (i - s)
placed n {s} {i} h l = fitted _ i h ∙ ap (λ x. bit_at x i) (omega arith) ∙ bit_at_cat_high n s 0 i (search rules) l

-- the bits of a number are those of its lower and of its higher part
halves : (high low k i : ℕ) → low < 2 ^ k → bit_at (high * 2 ^ k + low) i ≡ max (bit_at (high * 2 ^ k) i) (bit_at low i)
halves high low k i h =
    let none : bit_at (high * 2 ^ k + 0) i ≡ bit_at (high * 2 ^ k) i = ap (λ x. bit_at x i) (omega arith) in
    elim (cases_lt i k) [
      | inl l ↦ omega (arith, bit_at_cat_low high k low i l, bit_at_cat_low high k 0 i l, bit_at-zero i, none)
      | inr l ↦ omega (arith, bit_at_cat_high high k low i h l, bit_at_cat_high high k 0 i (omega arith) l, bit_at_above low k i h l, none)
    ]

halved_placed : (high low s i : ℕ) → low < 16 → i < 64
    → bit_at ((high * 16 + low) * 2 ^ s % 2 ^ 64) i
    ≡ max (bit_at (high * 16 * 2 ^ s % 2 ^ 64) i) (bit_at (low * 2 ^ s % 2 ^ 64) i)
halved_placed high low s i h small = elim (cases_lt i s) [
  | inl l ↦
      omega (arith, placed_below (high * 16 + low) small l, placed_below (high * 16) small l, placed_below low small l)
  | inr l ↦
      omega (arith, placed (high * 16 + low) small l, placed (high * 16) small l, placed low small l, halves high low 4 (i - s) h)
]

-- what two choices lead to is what both together lead to
closes_both : {code : List Node} {at : ℕ} (one other : ℕ) {chosen : ℕ} (all more : ℕ) → Closes code at one all
    → Closes code at other more → ((bit : ℕ) → bit < 64 → bit_at chosen bit ≡ max (bit_at one bit) (bit_at other bit))
    → Closes code at chosen (bit_or all more)
closes_both one other all more c d e = record {
  kept = λ bit h is. elim (cases_eq (bit_at one bit) 1) [
    | inl first ↦ left_bit _ _ _ (c.kept bit h first)
    | inr differs ↦ right_bit _ _ _ (d.kept bit h (omega (arith, e bit h, bit_at-lt one bit, bit_at-lt other bit)))
  ];
  from_chosen = λ number h is. elim (either_bit _ _ _ is) [
    | inl old ↦ let k = c.from_chosen number h old in (k.0, k.1, (omega (arith, e k.0 k.1, k.2, bit_at-lt other k.0)), k.3)
    | inr new ↦ let k = d.from_chosen number h new in (k.0, k.1, (omega (arith, e k.0 k.1, k.2, bit_at-lt one k.0)), k.3)
  ];
  closed = λ number to h l is f. elim (either_bit _ _ _ is) [
    | inl old ↦ left_bit _ _ _ (c.closed number to h l old f)
    | inr new ↦ right_bit _ _ _ (d.closed number to h l new f)
  ];
}

-- nothing leads nowhere
pub closes_none : (code : List Node) (at : ℕ) → Closes code at 0 0
closes_none code at = search rules

-- the entry of the next eight numbers of a word is joined to what those before them lead to
pub join_more : {code : List Node} {inside : List ℕ} {at eight all entry : ℕ} (word : ℕ)
    → Closes code at (word % 2 ^ (eight * 8)) all → AreEach 0 (IsInside code) (width code * 2048) inside
    → at < width code → eight < 8
    → entry ≡ get_or inside (at * 2048 + (eight * 256 + word / 2 ^ (eight * 8) % 256)) 0
    → Closes code at (word % 2 ^ ((eight + 1) * 8)) (bit_or all entry)
join_more {code} {inside} {at} {eight} {all} {entry} word j i within h e = closes_both _ _ _ _ j here bits
  where
    here : Closes code at (word / 2 ^ (eight * 8) % 256 * 2 ^ (eight * 8) % 2 ^ 64) entry
    here =
        let place : ℕ = at * 2048 + (eight * 256 + word / 2 ^ (eight * 8) % 256) in
        rw e (entry_at place (omega arith) (omega arith) (omega arith) (i.each place (omega arith)))

    bits : (bit : ℕ) → bit < 64 → bit_at (word % 2 ^ ((eight + 1) * 8)) bit
        ≡ max (bit_at (word % 2 ^ (eight * 8)) bit)
        (bit_at (word / 2 ^ (eight * 8) % 256 * 2 ^ (eight * 8) % 2 ^ 64) bit)
    bits bit l =
        let next : (eight + 1) * 8 ≡ 8 + eight * 8 = omega arith in
        let low : word % 2 ^ (eight * 8) < 2 ^ (eight * 8) = mod-lt word (pow_pos (eight * 8)) in
        rw (next, mod-pow-add word 8 (eight * 8)) (omega (
          arith,
          halves (word / 2 ^ (eight * 8) % 256) _ _ bit low,
          fitted (word / 2 ^ (eight * 8) % 256 * 2 ^ (eight * 8)) bit l,
        ))

-- the entry of a choice with both lower and higher numbers
pub entry_of_halves : {code : List Node} {inside : List ℕ} {place : ℕ} → AreEach 0 (IsInside code) place inside
    → 0 < place % 16 → 0 < place / 16 % 16 * 16
    → Closes code (place / 2048) (chosen_at place)
    (bit_or (get_or inside (place - place % 16) 0) (get_or inside (place - place / 16 % 16 * 16) 0))
entry_of_halves {code} {inside} {place} i low high = closes_both _ _ _ _ one other bits
  where
    chosen : place % 256 ≡ place / 16 % 16 * 16 + place % 16
    chosen = omega arith

    one : Closes code (place / 2048) (place / 16 % 16 * 16 * 2 ^ (place / 256 % 8 * 8) % 2 ^ 64)
        (get_or inside (place - place % 16) 0)
    one =
        let before : ℕ = place - place % 16 in
        entry_at _ (omega arith) (omega arith) (omega arith) (i.each before (omega arith))

    other : Closes code (place / 2048) (place % 16 * 2 ^ (place / 256 % 8 * 8) % 2 ^ 64)
        (get_or inside (place - place / 16 % 16 * 16) 0)
    other =
        let before : ℕ = place - place / 16 % 16 * 16 in
        entry_at _ (omega arith) (omega arith) (omega arith) (i.each before (omega arith))

    bits : (bit : ℕ) → bit < 64
        → bit_at (chosen_at place) bit ≡ max (bit_at (place / 16 % 16 * 16 * 2 ^ (place / 256 % 8 * 8) % 2 ^ 64) bit)
        (bit_at (place % 16 * 2 ^ (place / 256 % 8 * 8) % 2 ^ 64) bit)
    bits bit h = ap (λ n. bit_at (n * 2 ^ (place / 256 % 8 * 8) % 2 ^ 64) bit) chosen ∙ halved_placed _ _ _ _ (omega arith) h
