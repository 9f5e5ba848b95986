-- The positions of a set of words are its bits that are positions.
use Rattle.std.proofs.{
  Common.{◌≡◌, ◌↔◌, ℕ, zero, suc, ◌+◌, ◌*◌, ◌/◌, ◌<◌, ◌≤◌, List, [], ◌∷◌, length, get_or, refl, sym, ap},
  Common.{subst, arith, replicate},
  Common.{rules, ◌⊎◌, inl, inr, ◌%◌, ◌^◌, set, ◌∙◌, ◌-◌, Bool, true, false, ◌++◌, length-append, eqb-true, eq-eqb},
  Common.{get_or-set_same, get_or-set_other, length-set, bit_and, bit_or, ◌==◌, count_ones},
  lemmas.Nat.{
    div-mul-add,
    mod-mul-add,
    mul-add-lt,
    and_shr,
    Bits.{bit_at_and, bit_at_or, bit_at_lowest, bit_at-suc, bit_at-zero, bit_at_above, bit_at_cat_low, bit_at-lt},
  },
  lemmas.{Bool.cases_lt, List.{get_or-replicate, length-replicate}},
  lemmas.Grind.common_steps,
}
use Rattle.std.specs.Int.{bit_at, Count.ones_step}
use Rattle.scan_core.{
  specs.declared.{masks.Kind.TheVariants.{Takes, Counts}, node.Node.Node},
  specs.Code.{At, weight_of},
  specs.inner.{Words.{AreTakes, IsMask, counted_at, width, IsIn, bits, flags_of}, Sets.StepsBy, Each.AreEach},
  specs.Sets.{IsMarked, weight_if, positions_among},
  proofs.{Enterings.{pass_least, weight_most}, Insides.{left_bit, right_bit, either_bit, is_in_word, is_within}},
}

-- The words of the numbers of a kind.

-- the word of a byte
pub takes_word : (code : List Node) {takes : List ℕ} {size byte at : ℕ} → AreTakes code takes → size ≡ width code
    → byte < 256 → at < width code → IsMask code (Takes byte) at (get_or takes (byte * size + at) 0)
takes_word code {takes} {byte} {at} t e small within =
    let place : ℕ = byte * width code + at in
    rw (← e) at (subst (λ b. IsMask code (Takes b) at (get_or takes place 0)) (div-mul-add byte (width code) at within)
    (subst (λ n. IsMask code (Takes (place / width code)) n (get_or takes place 0)) (mod-mul-add byte (width code) at within)
    (t.each place (omega (arith, mul-add-lt byte (width code) at 256 small within)))))

pub counted_in : (code : List Node) (number : ℕ) (node : Node) → At code number node
    → weight_of node ≡ counted_at code number
counted_in [] number node here = absurd here
counted_in (head ∷ code) zero node here = ap weight_of here
counted_in (head ∷ code) (suc number) node here = counted_in code number node here

pub counted_out : (code : List Node) (number : ℕ) → length code ≤ number
    → (number ≡ length code) ↔ (counted_at code number ≡ 1)
counted_out [] zero h = (λ e. refl, λ e. refl)
counted_out [] (suc number) h = (λ e. absurd (omega arith), λ e. absurd (omega arith))
counted_out (node ∷ code) zero h = absurd (omega arith)
counted_out (node ∷ code) (suc number) h = let r = counted_out code number (omega arith) in (λ e. r.0 (omega arith), λ e. let q = r.1 e in omega arith)

-- A step of a set of words over a byte, word by word.

-- what a byte leads to from a set
abbrev pub Led : List Node → ℕ → List ℕ → ℕ → Type 0
Led code byte words number = (before : ℕ) × IsIn words before × StepsBy code byte before number

-- what a byte leads to from a set, and what is in each set
abbrev pub LedOrBase : List Node → ℕ → List ℕ → List ℕ → ℕ → Type 0
LedOrBase code byte base words number = Led code byte words number ⊎ IsIn base number

-- the bits of a word that is shifted up by one, and of what comes in below
shifted_low : (kept : ℕ) {carry : ℕ} → carry < 2 → bit_at (bit_or (kept * 2 ^ 1 % 2 ^ 64) carry) 0 ≡ carry
shifted_low kept {carry} h =
    omega (arith, bit_at_or (kept * 2 ^ 1 % 2 ^ 64) carry 0, bit_at_lowest (kept * 2 ^ 1 % 2 ^ 64), bit_at_lowest carry)

shifted_high : (kept carry bit : ℕ) → carry < 2 → bit + 1 < 64
    → bit_at (bit_or (kept * 2 ^ 1 % 2 ^ 64) carry) (suc bit) ≡ bit_at kept bit
shifted_high kept carry bit h small =
    let e = bit_at_or (kept * 2 ^ 1 % 2 ^ 64) carry (suc bit) in
    let none = bit_at_above carry 1 (suc bit) h (omega arith) in
    let half : kept * 2 ^ 1 % 2 ^ 64 / 2 ≡ kept % 2 ^ 63 = omega arith in
    let a = bit_at-suc (kept * 2 ^ 1 % 2 ^ 64) bit ∙ ap (λ x. bit_at x bit) half in
    let whole : kept / 2 ^ 63 * 2 ^ 63 + kept % 2 ^ 63 ≡ kept = omega arith in
    omega (arith, bit_at_cat_low (kept / 2 ^ 63) 63 (kept % 2 ^ 63) bit (omega arith), ap (λ x. bit_at x bit) whole)

-- a bit of a word that the byte is taken from
kept_bit : (code : List Node) (words : List ℕ) {byte : ℕ} (at bit takes : ℕ) → IsMask code (Takes byte) at takes
    → bit < 64 → (bit_at (bit_and (get_or words at 0) takes) bit ≡ 1) ↔ Led code byte words (at * 64 + bit + 1)
kept_bit code words at bit takes m small = search (rules, is_in_word, bit_at_and)

pub set_elsewhere : (words : List ℕ) {at : ℕ} (word number : ℕ) → (number / 64 ≡ at → ⊥)
    → IsIn (set words at word) number ↔ IsIn words number
unfolding IsIn
set_elsewhere words word number differs = search rules

-- the first words hold what the byte leads to
pub record Passing (code : List Node) (byte : ℕ) (base old now : List ℕ) (at carry : ℕ) : Type 0 where
  pub size : length now ≡ length old
  pub past : (number : ℕ) → number < 64 * at → IsIn now number ↔ LedOrBase code byte base old number
  pub rest : (n : ℕ) → at ≤ n → get_or now n 0 ≡ get_or old n 0
  pub bit : carry < 2
  pub over : (carry ≡ 1) ↔ Led code byte old (at * 64)

pub passing_more : {code : List Node} {byte : ℕ} {base old now new : List ℕ} {at carry kept : ℕ} (takes : ℕ)
    → Passing code byte base old now at carry → IsMask code (Takes byte) at takes → at < length old
    → kept ≡ bit_and (get_or now at 0) takes → kept < 2 ^ 64
    → new ≡ set now at (bit_or (bit_or (kept * 2 ^ 1 % 2 ^ 64) carry) (get_or base at 0))
    → Passing code byte base old new (at + 1) (kept / 2 ^ 63)
passing_more {code} {byte} {base} {old} {now} {new} {at} {carry} {kept} takes p m h ek fits en = record {
  size = ap length en ∙ length-set now at _ ∙ p.size;
  past = λ number l. elim (cases_lt number (64 * at)) [
    | inl before ↦ rw (← en) at (earlier number before (p.past number before))
    | inr here ↦
        let same : number ≡ at * 64 + number % 64 = omega arith in
        rw (← same) at (joined (number % 64) (omega arith) (inside (number % 64) (omega arith)))
  ];
  rest = λ n l. ap (λ w. get_or w n 0) en ∙ get_or-set_other now at n _ 0 (λ e. omega arith) ∙ p.rest n (omega arith);
  bit = omega arith;
  over =
      let k = kept_is 63 (omega arith) in
      let e : at * 64 + 63 + 1 ≡ (at + 1) * 64 = omega arith in
      let top : bit_at kept 63 ≡ kept / 2 ^ 63 = omega arith in (
        λ c. rw e at (k.0 (top ∙ c)),
        λ led. sym top ∙ k.1 (rw (← e) at led),
      );
}
  where
    kept_is : (bit : ℕ) → bit < 64 → (bit_at kept bit ≡ 1) ↔ Led code byte old (at * 64 + bit + 1)
    kept_is bit small =
        let e : kept ≡ bit_and (get_or old at 0) takes = ek ∙ ap (λ w. bit_and w takes) (p.rest at (omega arith)) in
        rw (← e) at (kept_bit code old at bit takes m small)

    read : get_or new at 0 ≡ bit_or (bit_or (kept * 2 ^ 1 % 2 ^ 64) carry) (get_or base at 0)
    read = let s = p.size in ap (λ w. get_or w at 0) en ∙ get_or-set_same now at _ 0 (omega arith)

    earlier : (number : ℕ) → number < 64 * at → IsIn now number ↔ LedOrBase code byte base old number
        → IsIn
        (set now at (bit_or (bit_or (kept * 2 ^ 1 % 2 ^ 64) carry) (get_or base at 0))) number ↔ LedOrBase code byte
        base old number
    earlier number l i =
        let e = set_elsewhere _ _ _ (λ q. omega (arith, q, l)) in
        (λ k. i.0 (e.0 k), λ k. e.1 (i.1 k))

    joined : (bit : ℕ) → bit < 64
        → ((bit_at (bit_or (kept * 2 ^ 1 % 2 ^ 64) carry) bit ≡ 1) ↔ Led code byte old (at * 64 + bit))
        → IsIn new (at * 64 + bit) ↔ LedOrBase code byte base old (at * 64 + bit)
    joined bit small i =
        let w = is_in_word _ _ _ small in
        let b = is_in_word _ _ _ small in
        let e = ap (λ x. bit_at x bit) read in (
          λ k. elim (either_bit _ _ _ (sym e ∙ w.1 k)) [ inl led ↦ inl (i.0 led) | inr front ↦ inr (b.0 front) ],
          λ l. elim l [
            | inl led ↦ w.0 (e ∙ left_bit _ _ _ (i.1 led))
            | inr front ↦ w.0 (e ∙ right_bit _ _ _ (b.1 front))
          ],
        )

    inside : (bit : ℕ) → bit < 64
        → (bit_at (bit_or (kept * 2 ^ 1 % 2 ^ 64) carry) bit ≡ 1) ↔ Led code byte old (at * 64 + bit)
    inside zero small =
        let e = shifted_low _ p.bit in
        let z : at * 64 + 0 ≡ at * 64 = omega arith in (
          λ k. rw (← z) at (p.over.0 (sym e ∙ k)),
          λ k. e ∙ p.over.1 (rw z at k),
        )
    inside (suc bit) small =
        let e = shifted_high _ _ _ p.bit (omega arith) in
        let k = kept_is bit (omega arith) in
        let z : at * 64 + bit + 1 ≡ at * 64 + suc bit = omega arith in (
          λ i. rw z at (k.0 (sym e ∙ i)),
          λ led. e ∙ k.1 (rw (← z) at led),
        )

pub passing_ends : {code : List Node} {byte : ℕ} {base old now : List ℕ} {at carry : ℕ}
    → Passing code byte base old now at carry → length old ≤ at → length old ≡ width code → length base ≡ width code
    → (number : ℕ) → IsIn now number ↔ LedOrBase code byte base old number
passing_ends {code} {byte} {base} {old} {now} {at} p h size same number = (
  λ k. let l = is_within now k in let s = p.size in (p.past number (omega arith)).0 k,
  λ k. (p.past number (within k)).1 k,
)
  where
    within : LedOrBase code byte base old number → number < 64 * at
    within (inl k) =
        omega (arith, pass_least code k.2, k.2.3)
    within (inr front) = omega (arith, is_within base front)

-- no bit of words that are 0
pub none_in : (words : List ℕ) (count : ℕ) → words ≡ replicate count 0 → (number : ℕ) → IsIn words number → ⊥
none_in words count e number k =
    let l = is_within _ k in
    let same : number ≡ number / 64 * 64 + number % 64 = omega arith in
    let zero = ap (λ w. get_or w (number / 64) 0) e ∙ get_or-replicate count (number / 64) 0 0 (omega (arith, ap length e, length-replicate {A = ℕ} count 0)) in
    omega (
      arith,
      (is_in_word words (number / 64) (number % 64) (omega arith)).1 (rw same at k),
      ap (λ x. bit_at x (number % 64)) zero ∙ bit_at-zero (number % 64),
    )

-- the weights of the marked numbers
abbrev sum_of : (ℕ → ℕ) → List Bool → ℕ
sum_of weight [] = 0
sum_of weight (mark ∷ marks) = weight_if mark (weight 0) + sum_of (λ n. weight (suc n)) marks

sum_same : (one other : ℕ → ℕ) → ((n : ℕ) → one n ≡ other n) → (marks : List Bool)
    → sum_of one marks ≡ sum_of other marks
sum_same one other e [] = refl
sum_same one other e (mark ∷ marks) = grind (arith, common_steps)

sum_none : (marks : List Bool) → sum_of (λ n. 0) marks ≡ 0
sum_none [] = refl
sum_none (true ∷ marks) = let r = sum_none marks in omega arith
sum_none (false ∷ marks) = omega (arith, sum_none marks)

among_sum : (code : List Node) (marks : List Bool) → positions_among code marks ≡ sum_of (counted_at code) marks
among_sum code [] = refl
among_sum [] (mark ∷ marks) = omega (arith, sum_none marks)
among_sum (node ∷ code) (mark ∷ marks) = omega (arith, among_sum code marks)

weight_bit : {weight : ℕ} (word counts : ℕ) → bit_at counts 0 ≡ weight
    → weight_if (word % 2 == 1) weight ≡ bit_and word counts % 2
weight_bit word counts e =
    let both = bit_at_and word counts 0 in
    let a = bit_at_lowest (bit_and word counts) in
    let b = bit_at_lowest word in
    let l = bit_at-lt counts 0 in
    let least = bit_at-lt word 0 in
    grind (arith, both, a, b, e, l, least)

sum_bits : (count : ℕ) {weight : ℕ → ℕ} {word : ℕ} (counts : ℕ) (rest : List Bool) → word < 2 ^ count
    → ((bit : ℕ) → bit < count → bit_at counts bit ≡ weight bit)
    → sum_of weight (bits count word ++ rest) ≡ count_ones (bit_and word counts) + sum_of (λ n. weight (count + n)) rest
unfolding bits
sum_bits zero counts rest small exact = grind (arith, common_steps)
sum_bits (suc count) {weight} {word} counts rest small exact =
    let half : word / 2 < 2 ^ count = halved count word small in
    let r = sum_bits count (counts / 2) rest half (λ bit l. sym (bit_at-suc counts bit) ∙ exact (suc bit) (omega arith)) in
    let step = ones_step (bit_and word counts) in
    let shr : bit_and word counts / 2 ≡ bit_and (word / 2) (counts / 2) = and_shr word counts 1 in
    omega (
      arith,
      ap count_ones shr,
      weight_bit word counts (exact 0 (omega arith)),
      sum_same
          (λ n. weight (suc (count + n))) (λ n. weight (suc count + n)) (λ n. ap weight (omega arith)) rest,
    )
  where
    halved : (k n : ℕ) → n < 2 ^ suc k → n / 2 < 2 ^ k
    halved k n h = omega arith

-- the set bits of the first words that are positions
abbrev pub ones_below : List ℕ → List ℕ → ℕ → ℕ
ones_below words counts zero = 0
ones_below words counts (suc n) = ones_below words counts n + count_ones (bit_and (get_or words n 0) (get_or counts n 0))

ones_front : (word other : ℕ) (words counts : List ℕ) (n : ℕ)
    → ones_below (word ∷ words) (other ∷ counts) (suc n) ≡ count_ones (bit_and word other) + ones_below words counts n
ones_front word other words counts zero = omega arith
ones_front word other words counts (suc n) = omega (arith, ones_front word other words counts n)

ones_sum : (weight : ℕ → ℕ) (words counts : List ℕ) → length counts ≡ length words
    → ((n : ℕ) → n < length words → get_or words n 0 < 2 ^ 64)
    → ((n bit : ℕ) → n < length words → bit < 64 → bit_at (get_or counts n 0) bit ≡ weight (64 * n + bit))
    → ones_below words counts (length words) ≡ sum_of weight (flags_of words)
ones_sum weight [] counts size fits exact = refl
ones_sum weight (word ∷ words) [] size fits exact = omega arith
ones_sum weight (word ∷ words) (other ∷ counts) size fits exact =
    let z : (bit : ℕ) → bit < 64 → bit_at other bit ≡ weight bit = λ bit l. exact 0 bit (omega arith) l ∙ ap weight (omega arith) in
    let b = sum_bits 64 other (flags_of words) (fits 0 (omega arith)) z in
    let r = ones_sum (λ n. weight (64 + n)) words counts (omega arith) (λ n h. fits (suc n) (omega arith))
    (λ n bit h l. exact (suc n) bit (omega arith) l ∙ ap weight (omega arith)) in
    omega (arith, ones_front word other words counts (length words))

counted_most : (code : List Node) (n : ℕ) → counted_at code n ≤ 1
counted_most [] zero = omega arith
counted_most [] (suc n) = omega arith
counted_most (node ∷ code) zero = weight_most _
counted_most (node ∷ code) (suc n) = counted_most code n

pub positions_are : (code : List Node) (words : List ℕ) {counts : List ℕ} → length words ≡ width code
    → AreEach 0 (IsMask code Counts) (width code) counts → ((n : ℕ) → n < length words → get_or words n 0 < 2 ^ 64)
    → ones_below words counts (length words) ≡ positions_among code (flags_of words)
positions_are code words size m fits = search (rules, ones_sum, among_sum, bit_at-lt, counted_most)

bits_front : (count word n : ℕ) (rest : List Bool) → n < count
    → get_or (bits count word ++ rest) n false ≡ (bit_at word n == 1)
unfolding bits
bits_front zero word n rest h = absurd (omega arith)
bits_front (suc count) word zero rest h = ap (λ x. x == 1) (sym (bit_at_lowest word))
bits_front (suc count) word (suc n) rest h = bits_front count (word / 2) n rest (omega arith) ∙ ap (λ x. x == 1) (sym (bit_at-suc word n))

bits_beyond : (count word n : ℕ) (rest : List Bool)
    → get_or (bits count word ++ rest) (count + n) false ≡ get_or rest n false
unfolding bits
bits_beyond zero word n rest = ap (λ k. get_or rest k false) (omega arith)
bits_beyond (suc count) word n rest =
    let e : suc count + n ≡ suc (count + n) = omega arith in
    ap (λ k. get_or (bits (suc count) word ++ rest) k false) e ∙ bits_beyond count (word / 2) n rest

bits_length : (count word : ℕ) → length (bits count word) ≡ count
unfolding bits
bits_length zero word = refl
bits_length (suc count) word = omega (arith, bits_length count (word / 2))

pub flags_length : (words : List ℕ) → length (flags_of words) ≡ 64 * length words
flags_length [] = refl
flags_length (word ∷ words) =
    omega (arith, length-append (bits 64 word) (flags_of words), bits_length 64 word, flags_length words)

flag_is : (words : List ℕ) (n : ℕ) → get_or (flags_of words) n false ≡ (bit_at (get_or words (n / 64) 0) (n % 64) == 1)
flag_is [] n = sym (ap (λ x. x == 1) (bit_at-zero _))
flag_is (word ∷ words) n = elim (cases_lt n 64) [
  | inl first ↦
      let low : n / 64 ≡ 0 = omega arith in
      let place : n % 64 ≡ n = omega arith in
      bits_front _ _ n _ first ∙ sym (ap (λ k. bit_at (get_or (word ∷ words) k 0) (n % 64) == 1) low ∙ ap (λ k. bit_at word k == 1) place)
  | inr later ↦
      let e : n ≡ 64 + (n - 64) = omega arith in
      let high : n / 64 ≡ suc ((n - 64) / 64) = omega arith in
      let place : n % 64 ≡ (n - 64) % 64 = omega arith in
      ap (λ k. get_or (bits 64 word ++ flags_of words) k false) e ∙ bits_beyond 64 word (n - 64) (flags_of words) ∙ flag_is words (n - 64)
      ∙ sym (ap (λ k. bit_at (get_or (word ∷ words) k 0) (n % 64) == 1) high ∙ ap (λ k. bit_at (get_or words ((n - 64) / 64) 0) k == 1) place)
]

-- the flags are those of the numbers of the set
pub flags_are : (words : List ℕ) (n : ℕ) → IsMarked (flags_of words) n ↔ IsIn words n
unfolding IsIn
flags_are words n = search (rules, eqb-true, flag_is, eq-eqb)
