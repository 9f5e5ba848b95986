-- Lemmas on what all continuations agree on.
use Rattle.std.proofs.{
  lemmas.{Grind.common_steps, List.{append-nil, length-map}, Bool.{cases_lt, cond_both}},
  Common.{◌≡◌, ◌≢◌, ℕ, ◌+◌, ◌-◌, ◌<◌, ◌≤◌, zero, suc, List, [], ◌∷◌, ◌++◌, length, get_or, replicate, inl},
  Common.{inr, sym, ◌∙◌, ap, arith, length-append, lit<, map, take, drop, refl, rules, subst, nat_lt, ◌⊎◌, ◌↔◌},
  Math.Seq.{drop-append_seam, get_or-append_right, take-append_seam},
}
use Rattle.engine_core.specs.{
  Written.{IsBeginning, Begins, Written, FilesBegin},
  Work.{Work, IsLawful},
  Agreed.{AgreeOn, AreWaiting, CanCome, DifferOn, GoesApart, GoesBy, GoesTo, files_there, outputs_of, output_at},
  Agreed.{IsAgreed, Spot, spot, spots_from, ArePlaced},
}
use Rattle.ports_core.specs.Slot.{Slot, has_file}
use Rattle.engine_core.proofs.WrittenLemmas.{kept_there, part_trans, no_fewer}

-- Some continuations

pub none_comes : CanCome []
none_comes = search rules

pub one_comes : (byte : ℕ) (bytes : List ℕ) → byte < 256 → CanCome bytes → CanCome (byte ∷ bytes)
one_comes byte bytes less can = search rules

pub copies_come : (count byte : ℕ) → byte < 256 → CanCome (replicate count byte)
copies_come count byte less = grind (arith, common_steps)

-- a byte that isn't the delimiter
abbrev pub other : ℕ → ℕ
other zero = 1
other (suc delim) = 0

pub other_differs : (delim : ℕ) → delim ≢ other delim
other_differs zero is = search rules
other_differs (suc delim) is = search rules

pub other_comes : (delim : ℕ) → other delim < 256
other_comes zero = lit< tt
other_comes (suc delim) = lit< tt

-- What shows that a part is agreed

-- no beginning is longer than the whole
pub beginning_short : {A : Type 0} (front whole : List A) → IsBeginning front whole → length front ≤ length whole
beginning_short front whole (rest, is) = grind (arith, common_steps)

-- Two continuations show that outputs are agreed: one has no further output, and one has no more in any of the outputs.
pub agreed_as : {A W : Type 0} {comes : List A → Type 0} {begins : W → W → Type 0} {outputs : W → List (List A)}
    {whole : List A → W} {x : List A} {agreed : W} (few y : List A)
    → ((z : List A) → comes z → begins agreed (whole (x ++ z))) → comes few → comes y
    → length (outputs (whole (x ++ few))) ≡ length (outputs agreed)
    → ((place : ℕ) → place < length (outputs agreed)
    → length (get_or (outputs (whole (x ++ y))) place []) ≤ length (get_or (outputs agreed) place []))
    → AgreeOn comes begins outputs whole x agreed
agreed_as few y begin few_come come no_more short =
    grind (arith, common_steps, beginning_short)

-- Nothing waits if what follows decides nothing of what came in.
pub nothing_waits : {A P : Type 0} {comes : List A → Type 0} {Goes : List A → ℕ → P → Type 0} {x : List A}
    → ((i : ℕ) → i < length x → (y z : List A) (at : P) → Goes (x ++ y) i at → Goes (x ++ z) i at)
    → DifferOn comes Goes x []
nothing_waits {x = x} same = record {
  before = x;
  are_last = sym (append-nil x);
  differ = λ i past less. absurd (omega arith);
  decided = λ i less y z at can also goes. same i less y z at goes;
}

-- what is settled is a beginning of the whole of every continuation
pub common : (work : Work) → IsLawful work → (x y : List ℕ) → Begins (work.settled x) (work.whole (x ++ y))
common work lawful x y = part_trans _ _ _ (lawful.grows x y) (lawful.ends (x ++ y))

-- Two continuations show that what is settled is agreed. One has no further outputs. The other has exactly what is
-- settled, and perhaps further outputs.
pub agreed_by : (work : Work) (x few y : List ℕ) (more : List (List ℕ))
    → ((z : List ℕ) → Begins (work.settled x) (work.whole (x ++ z))) → CanCome few → CanCome y
    → length (outputs_of (work.whole (x ++ few))) ≡ length (outputs_of (work.settled x))
    → outputs_of (work.whole (x ++ y)) ≡ outputs_of (work.settled x) ++ more → IsAgreed work x (work.settled x)
agreed_by work x few y more begin few_bytes bytes no_more same = agreed_as _ y (λ z can. begin z) few_bytes bytes no_more
    (λ place less. (let here : output_at (work.whole (x ++ y)) place ≡ output_at (work.settled x) place =
    grind (arith, common_steps) in
    omega (arith, ap length here)))

-- the end of the input shows that what is settled is agreed, if all that came in is settled
pub agreed_now : (work : Work) (x : List ℕ) → ((z : List ℕ) → Begins (work.settled x) (work.whole (x ++ z)))
    → outputs_of (work.whole x) ≡ outputs_of (work.settled x) → IsAgreed work x (work.settled x)
agreed_now work x begin same =
    let here : outputs_of (work.whole (x ++ [])) ≡ outputs_of (work.settled x) =
    grind (arith, common_steps, append-nil) in
    agreed_by work x [] [] [] begin none_comes none_comes (ap length here) (here ∙ sym (append-nil (outputs_of (work.settled x))))

-- Spots

pub spot_in : (place i : ℕ) (bytes : List ℕ) (outputs : List (List ℕ)) → i < length bytes
    → spots_from place (bytes ∷ outputs) i ≡ spot place i ∷ []
spot_in place i bytes outputs less = search rules

pub spot_past : (place i : ℕ) (bytes : List ℕ) (outputs : List (List ℕ)) → length bytes ≤ i
    → spots_from place (bytes ∷ outputs) i ≡ spots_from (place + 1) outputs (i - length bytes)
spot_past place i bytes outputs past = grind arith

pub only_spot : {at one : Spot} → GoesTo at (one ∷ []) → at ≡ one
only_spot (inl is) = is
only_spot (inr none) = absurd none

pub some_spot : (one : Spot) (spots : List Spot) → one ∷ spots ≡ [] → ⊥
some_spot one spots is = cc

-- what follows decides nothing if the spots of each byte stay
pub same_spots : {comes : List ℕ → Type 0} (spots_of : List ℕ → ℕ → List Spot) {x : List ℕ}
    → ((i : ℕ) → i < length x → (y z : List ℕ) → spots_of (x ++ y) i ≡ spots_of (x ++ z) i)
    → DifferOn comes (GoesBy spots_of) x []
same_spots spots_of same = nothing_waits (λ i less y z at. subst (GoesTo at) (same i less y z))

-- a byte goes to one spot at most
abbrev pub AtMostOne : List Spot → Type 0
AtMostOne [] = Unit {0}
AtMostOne (at ∷ []) = Unit {0}
AtMostOne (at ∷ other ∷ spots) = ⊥

pub spots_few : (place : ℕ) (outputs : List (List ℕ)) (i : ℕ) → AtMostOne (spots_from place outputs i)
spots_few place [] i = tt
spots_few place (bytes ∷ outputs) i = cond_both (nat_lt i (length bytes)) _ _ AtMostOne (λ less. tt)
    (λ past. spots_few (place + 1) outputs (i - length bytes))

-- if two lists of at most one spot differ, a byte goes to a spot by one list and not by the other
one_alone : (one other : List Spot) → AtMostOne one → AtMostOne other → one ≢ other
    → ((at : Spot) × GoesTo at one × (GoesTo at other → ⊥)) ⊎ ((at : Spot) × GoesTo at other × (GoesTo at one → ⊥))
one_alone [] [] few also apart = absurd (apart refl)
one_alone [] (at ∷ []) few also apart = inr (at, inl refl, λ none. none)
one_alone (at ∷ []) [] few also apart = inl (at, inl refl, λ none. none)
one_alone (at ∷ []) (there ∷ []) few also apart =
    inl (at, inl refl, λ goes. apart (ap (λ one. one ∷ []) (only_spot goes)))
one_alone (at ∷ next ∷ one) other few also apart = absurd few
one_alone one (at ∷ next ∷ other) few also apart = absurd also

-- Spots that differ, or stay, show which bytes wait.
pub spots_differ : {comes : List ℕ → Type 0} (spots_of : List ℕ → ℕ → List Spot) {x waiting : List ℕ}
    (before : List ℕ) → ((x : List ℕ) (i : ℕ) → AtMostOne (spots_of x i)) → x ≡ before ++ waiting
    → ((i : ℕ) → length before ≤ i → i < length x
    → (y : List ℕ) × (z : List ℕ) × comes y × comes z × (spots_of (x ++ y) i ≢ spots_of (x ++ z) i))
    → ((i : ℕ) → i < length before → (y z : List ℕ) → comes y → comes z
    → spots_of (x ++ y) i ≡ spots_of (x ++ z) i)
    → DifferOn comes (GoesBy spots_of) x waiting
spots_differ {comes} spots_of {x} before few are_last differ decided = record {
  before = before;
  are_last = are_last;
  differ = λ i past less. let (y, z, can, also, apart) = differ i past less in
      elim (one_alone _ _ (few (x ++ y) i) (few (x ++ z) i) apart) as (λ _. GoesApart comes (GoesBy spots_of) x i) [
        | inl (at, goes, none) ↦ (y, z, at, can, also, goes, none)
        | inr (at, goes, none) ↦ (z, y, at, also, can, goes, none)
      ];
  decided = λ i less y z at can also. subst (GoesTo at) (decided i less y z can also);
}

-- no byte of outputs from a place on goes to an output before it
pub none_before : (from i place offset : ℕ) (outputs : List (List ℕ)) → place < from
    → spots_from from outputs i ≡ spot place offset ∷ [] → ⊥
none_before from i place offset [] before is = grind arith
none_before from i place offset (bytes ∷ outputs) before is = elim (cases_lt i (length bytes)) [
  | inl within ↦ (omega (arith, ap (λ those. (get_or those 0 (spot from i)).place) (sym (spot_in _ i _ _ within) ∙ is)))
  | inr past ↦ none_before (from + 1) _ _ _ outputs (omega arith) (sym (spot_past _ i _ _ past) ∙ is)
]

-- Outputs that are a stretch of their input, one after another: their spots are right.

-- the outputs are the beginning of a text, one after another
abbrev pub AreFront : List (List ℕ) → List ℕ → Type 0
AreFront [] text = Unit {0}
AreFront (bytes ∷ outputs) text = (rest : List ℕ) × (text ≡ bytes ++ rest) × AreFront outputs rest

-- how many bytes the first outputs have
abbrev bytes_of : ℕ → List (List ℕ) → ℕ
bytes_of zero outputs = 0
bytes_of (suc k) [] = 0
bytes_of (suc k) (bytes ∷ outputs) = length bytes + bytes_of k outputs

-- a byte of an output stands in the text
in_text : (outputs : List (List ℕ)) (text : List ℕ) (k offset : ℕ) → AreFront outputs text
    → offset < length (get_or outputs k []) → bytes_of k outputs + offset < length text
in_text [] text k offset are less = search rules
in_text (bytes ∷ outputs) text zero offset (rest, is, are) less = grind (arith, common_steps)
in_text (bytes ∷ outputs) text (suc k) offset (rest, is, are) less =
    omega (arith, in_text outputs _ k _ are less, ap length is ∙ length-append bytes rest)

byte_at : (outputs : List (List ℕ)) (text : List ℕ) (k offset : ℕ) → AreFront outputs text
    → offset < length (get_or outputs k [])
    → get_or (get_or outputs k []) offset 0 ≡ get_or text (bytes_of k outputs + offset) 0
byte_at [] text k offset are less = search rules
byte_at (bytes ∷ outputs) text zero offset (rest, is, are) less = grind (arith, common_steps)
byte_at (bytes ∷ outputs) text (suc k) offset (rest, is, are) less =
    grind (arith, get_or-append_right, byte_at outputs _ k _ are less)

-- a byte has its spot where it stands in an output
spot_at : (place : ℕ) (outputs : List (List ℕ)) (k offset : ℕ) → offset < length (get_or outputs k [])
    → spots_from place outputs (bytes_of k outputs + offset) ≡ spot (place + k) offset ∷ []
spot_at place [] k offset less = search rules
spot_at place (bytes ∷ outputs) zero offset less = grind arith
spot_at place (bytes ∷ outputs) (suc k) offset less =
    grind (arith, spot_past, spot_at (place + 1) _ k _ less)

-- a byte that goes to a spot is a byte of an output
record IsIn (place : ℕ) (outputs : List (List ℕ)) (i : ℕ) (at : Spot) : Type 0 where
  k : ℕ
  there : at.place ≡ place + k
  within : at.offset < length (get_or outputs k [])
  is : i ≡ bytes_of k outputs + at.offset

goes_in : (place : ℕ) (outputs : List (List ℕ)) (i : ℕ) {at : Spot} → GoesTo at (spots_from place outputs i)
    → IsIn place outputs i at
goes_in place [] i goes = absurd goes
goes_in place (bytes ∷ outputs) i {at} goes = elim (cases_lt i (length bytes)) [
  | inl less ↦ (let is = only_spot (subst (GoesTo at) (spot_in _ i _ _ less) goes) in
      rw is (record { k = 0; there = omega arith; within = less; is = omega arith }))
  | inr past ↦ (let rest = goes_in (place + 1) outputs _ (subst (GoesTo at) (spot_past _ i _ _ past) goes) in
      record { k = suc rest.k; there = omega arith; within = rest.within; is = omega arith })
]

-- the outputs from a place on are a stretch of the input, and those before it are empty
pub record IsStretch (whole : List ℕ → Written) (spots_of : List ℕ → ℕ → List Spot) (place : ℕ)
    (outputs : List ℕ → List (List ℕ)) : Type 0 where
  pub before : List ℕ → List ℕ
  pub rest : List ℕ → List ℕ
  pub parts : (x : List ℕ) → x ≡ before x ++ rest x
  pub front : (x : List ℕ) → AreFront (outputs x) (rest x)
  pub are : (x : List ℕ) → outputs_of (whole x) ≡ replicate place [] ++ outputs x
  pub nowhere : (x : List ℕ) (i : ℕ) → i < length (before x) → spots_of x i ≡ []
  pub there : (x : List ℕ) (i : ℕ) → length (before x) ≤ i
      → spots_of x i ≡ spots_from place (outputs x) (i - length (before x))

-- the outputs after those that are empty
past_empty : (place k : ℕ) (outputs : List (List ℕ))
    → get_or (replicate place [] ++ outputs) (place + k) [] ≡ get_or outputs k []
past_empty place k outputs = grind (arith, common_steps)

empty_before : (place n : ℕ) (outputs : List (List ℕ)) → n < place → get_or (replicate place [] ++ outputs) n [] ≡ []
empty_before place n outputs less = grind (arith, common_steps)

module _ (work : Work) {spots_of : List ℕ → ℕ → List Spot} (place : ℕ) {outputs : List ℕ → List (List ℕ)}
    (stretch : IsStretch work.whole spots_of place outputs) where
  stretched : (x : List ℕ) (i : ℕ) {at : Spot} → GoesTo at (spots_of x i)
      → (length (stretch.before x) ≤ i) × IsIn place (outputs x) (i - length (stretch.before x)) at
  stretched x i goes = grind (arith, cases_lt, goes_in)

  output_is : (x : List ℕ) {n : ℕ} (k : ℕ) → n ≡ place + k → output_at (work.whole x) n ≡ get_or (outputs x) k []
  output_is x k there = grind (arith, past_empty)

  filled : (x : List ℕ) (at : Spot) → at.offset < length (output_at (work.whole x) at.place)
      → (i : ℕ) × (i < length x) × GoesTo at (spots_of x i)
  filled x at less = elim (cases_lt at.place place) [
    | inl before ↦ absurd (omega (
      arith,
      ap length (ap (λ those. get_or those at.place []) (stretch.are x) ∙ empty_before _ _ _ before),
    ))
    | inr past ↦ (
        let k = at.place - place in
        let there : at.place ≡ place + k = omega arith in
        let within : at.offset < length (get_or (outputs x) k []) = omega (arith, ap length (output_is x k there)) in
        let i = length (stretch.before x) + (bytes_of k (outputs x) + at.offset) in
        let after : i - length (stretch.before x) ≡ bytes_of k (outputs x) + at.offset = omega arith in (
          i,
          omega (
            arith,
            in_text _ _ k _ (stretch.front x) within,
            ap length (stretch.parts x)
                ∙ length-append (stretch.before x) (stretch.rest x),
          ),
          subst (GoesTo at) (sym (stretch.there x i (omega arith) ∙ ap (spots_from place (outputs x)) after
              ∙ spot_at _ _ k _ within)) (inl (ap (λ n. spot n at.offset) there)),
        ))
  ]

  pub stretch_placed : ArePlaced work spots_of
  stretch_placed = record {
    stands = λ x i at less goes. (let one = stretched x i goes in let has = output_is x _ one.1.there in (
      omega (arith, ap length has),
      ap (λ those. get_or those at.offset 0) has ∙ byte_at _ _ _ _ (stretch.front x) one.1.within
          ∙ sym (ap (λ those. get_or those i 0) (stretch.parts x) ∙ get_or-append_right (stretch.before x) (stretch.rest x) i 0 one.0
          ∙ ap (λ n. get_or (stretch.rest x) n 0) one.1.is),
    ));
    filled = filled;
    order = grind (arith, stretched);
  }

-- Beginnings of one text that are as long as each other are the same. By this there is one list of outputs that all
-- continuations agree on, and one stretch of bytes that is undecided.
beginnings_same : {A : Type 0} (one other whole : List A) → IsBeginning one whole → IsBeginning other whole
    → length one ≡ length other → one ≡ other
beginnings_same one other whole (rest, is) (more, are) same =
    sym (ap (take (length one)) is ∙ take-append_seam one rest) ∙ ap (λ n. take n whole) same
    ∙ ap (take (length other)) are ∙ take-append_seam other more

lists_same : {A : Type 0} (one other : List (List A)) → length one ≡ length other
    → ((place : ℕ) → place < length one → get_or one place [] ≡ get_or other place []) → one ≡ other
lists_same [] [] count same = refl
lists_same (bytes ∷ one) (those ∷ other) count same =
    ap (λ first. first ∷ one) (same zero (omega arith)) ∙ ap (λ rest. those ∷ rest)
    (lists_same _ _ (omega arith) (λ place less. same (suc place) (omega arith)))
lists_same one other count same = cc

files_at : (low high : List Slot) (place : ℕ) → FilesBegin low high
    → place < length (map (λ (file : Slot). file.written) low)
    → IsBeginning (get_or (map (λ (file : Slot). file.written) low) place [])
    (get_or (map (λ (file : Slot). file.written) high) place [])
files_at [] high place begins less = search rules
files_at (file ∷ low) [] place begins less = absurd begins
files_at (file ∷ low) (whole ∷ high) zero begins less = begins.4
files_at (file ∷ low) (whole ∷ high) (suc place) begins less = files_at low _ _ begins.5 (omega arith)

begins_at : {low high : Written} (place : ℕ) → Begins low high → place < length (outputs_of low)
    → IsBeginning (output_at low place) (output_at high place)
begins_at zero begins less = begins.out
begins_at (suc place) begins less = files_at _ _ _ begins.files (omega arith)

-- neither of two agreed lists of outputs has more outputs than the other
no_more : (work : Work) {x : List ℕ} (one other : Written) → IsAgreed work x one → IsAgreed work x other
    → length (outputs_of one) ≤ length (outputs_of other)
no_more work one other agreed also = grind (arith, common_steps, no_fewer, length-map, common)

-- no output has more bytes in one of two agreed lists than in the other
no_longer : (work : Work) {x : List ℕ} (one other : Written) (place : ℕ) → IsAgreed work x one → IsAgreed work x other
    → place < length (outputs_of one) → place < length (outputs_of other)
    → length (output_at one place) ≤ length (output_at other place)
no_longer work one other place agreed also less within =
    let two = also.longest place within in
    two.4 (output_at one place) (begins_at _ (agreed.common two.0 two.2) less) (begins_at _ (agreed.common two.1 two.3) less)

pub one_is_agreed : (work : Work) (x : List ℕ) (one other : Written) → IsAgreed work x one → IsAgreed work x other
    → outputs_of one ≡ outputs_of other
one_is_agreed work x one other agreed also =
    let count : length (outputs_of one) ≡ length (outputs_of other) =
    (let few = no_more work _ _ agreed also in omega (arith, no_more work _ _ also agreed)) in
    lists_same _ _ count (λ place less.
    let within : place < length (outputs_of other) = rw count at less in
    beginnings_same _ _ _
    (begins_at _ (agreed.common [] none_comes) less) (begins_at _ (also.common [] none_comes) within)
    (let short = no_longer work one other place agreed also less within in omega (arith, no_longer work other one place also agreed within less)))

there_begin : (low high : List Slot) → FilesBegin low high → map (λ (file : Slot). has_file file.state) low
    ≡ take (length low) (map (λ (file : Slot). has_file file.state) high)
there_begin [] high begins = refl
there_begin (file ∷ low) [] begins = absurd begins
there_begin (file ∷ low) (whole ∷ high) begins = cc (kept_there (λ (file : Slot). file.state) begins.3, there_begin low high begins.5)

-- a file is there in one of two agreed lists just if it is there in the other
pub same_there : (work : Work) (x : List ℕ) (one other : Written) → IsAgreed work x one → IsAgreed work x other
    → files_there one ≡ files_there other
same_there work x one other agreed also = cc (
  there_begin _ _ (agreed.common [] none_comes).files,
  there_begin _ _ (also.common [] none_comes).files,
  ap length (one_is_agreed work x one other agreed also),
  length-map one.files (λ (file : Slot). file.written),
  length-map other.files (λ (file : Slot). file.written),
)

-- the waiting elements are the same if their places are said in another way
pub alike_differ : {A P : Type 0} {comes : List A → Type 0} (Goes Other : List A → ℕ → P → Type 0) {x waiting : List A}
    → ((x : List A) (i : ℕ) (at : P) → Goes x i at ↔ Other x i at) → DifferOn comes Goes x waiting
    → DifferOn comes Other x waiting
alike_differ Goes Other {x} alike waits = record {
  before = waits.before;
  are_last = waits.are_last;
  differ = λ i past less. let (y, z, at, can, also, goes, none) = waits.differ i past less in
      (y, z, at, can, also, (alike (x ++ y) i at).0 goes, λ there. none ((alike (x ++ z) i at).1 there));
  decided = λ i less y z at can also goes.
      (alike (x ++ z) i at).0 (waits.decided i less y z at can also ((alike (x ++ y) i at).1 goes));
}

-- ends of one text are the same if what stands before them is as long
ends_same : {A : Type 0} {x one other : List A} (front before : List A) → x ≡ front ++ one → x ≡ before ++ other
    → length front ≡ length before → one ≡ other
ends_same {x} {one} {other} front before here there same =
    sym (ap (drop (length front)) here ∙ drop-append_seam front one) ∙ ap (λ n. drop n x) same
    ∙ ap (drop (length before)) there ∙ drop-append_seam before other

module _ {A P : Type 0} {comes : List A → Type 0} (Goes : List A → ℕ → P → Type 0) (x : List A) where
  begins_no_later : (one other : List A) (here : DifferOn comes Goes x one) (there : DifferOn comes Goes x other)
      → length here.before ≤ length there.before
  begins_no_later one other here there = elim (cases_lt (length there.before) (length here.before)) [
    | inl less ↦ (let apart = there.differ (length there.before) (omega arith)
        (omega (arith, ap length here.are_last ∙ length-append here.before one)) in
        absurd (apart.6 (here.decided _ less apart.0 apart.1 apart.2 apart.3 apart.4 apart.5)))
    | inr past ↦ past
  ]

  pub one_is_undecided : (one other : List A) → DifferOn comes Goes x one → DifferOn comes Goes x other → one ≡ other
  one_is_undecided one other here there =
      let low = begins_no_later _ _ here there in let high = begins_no_later _ _ there here in
      ends_same here.before there.before here.are_last there.are_last (omega arith)

pub one_waits : (work : Work) (x one other : List ℕ) → AreWaiting work x one → AreWaiting work x other → one ≡ other
one_waits work x one other here there =
    let low = here.least there.spots_of other there.placed there.undecided in
    let high = there.least here.spots_of one here.placed here.undecided in
    let before = ap length here.undecided.are_last ∙ length-append here.undecided.before one in
    let also = ap length there.undecided.are_last ∙ length-append there.undecided.before other in
    ends_same here.undecided.before there.undecided.before here.undecided.are_last there.undecided.are_last (omega arith)
