-- Where the bytes of parts that follow one another go, and which of them continuations put into different files.
use Rattle.std.proofs.{
  Common.{zero-add, take, ◌≡◌, ℕ, ◌+◌, ◌-◌, ◌<◌, zero, suc, List, [], ◌∷◌, ◌++◌, length, get_or, inl, inr, refl, sym},
  Common.{◌∙◌, ap, arith, length-append, ◌≢◌, ◌≤◌, map, Bool, true, false, rules, ◌%◌, drop, cond, eqb},
  lemmas.Bool.{cond_both, cases_lt, eq-eqb},
  lemmas.List.{
    append-nil,
    append_assoc,
    take_all,
    drop_all,
    take-take,
    take-append-drop,
    get_or_past,
    length-take-le,
    FromFn.{get_or-map-range_with_len, length-map-range_with_len},
  },
  lemmas.Grind.common_steps,
  Math.Seq.{drop-cons, get_or-append_seam, take-suc},
}
use Rattle.seg_core.{
  specs.{Line.{joined, delimiters, lines_of}, declared.cut.{Limit.{Limit}, Cut.Cut}, Cut.{most, IsPositive}},
  proofs.FirstLines.joined-append,
}
use Rattle.ports_core.specs.{Name.{Naming, has_name}, Slot.Slot, declared.slot.State.TheVariants.{Open, Closed}}
use Rattle.engine_core.specs.{
  Work.{IsLawful, Work},
  Agreed.{spot, spots_from, output_at, GoesTo, file_bytes, ArePlaced, CanCome, IsUndecided, NoFewerWait},
  Written.FilesBegin,
}
use Rattle.engine_core.proofs.{
  AgreedLemmas.{none_comes, common, none_before, same_spots, spots_differ, spots_few, AreFront, stretch_placed},
  LeastLemmas.{early_enough, least_by, none_is_least},
}
use Rattle.split_core.specs.{
  Parts.{parts, cut_up, unless_empty, settled_rest, dealt},
  inner.{CutLaws.named, Dealt.share_of},
  Split.{Filing, share, are_named, is_short, split_work, dealt_files, whole_by},
  PartsState.parts_work,
  Place.{beside_output, dealt_spots, split_spots, dealt_to},
  Round.round_plan,
  laws.{WorkLaws.parts_lawful, DealLaws.{dealt_append, dealt_first, dealt_files_are}},
}
use Rattle.split_core.proofs.{
  SectionLemmas.{joined_parts, settled_list},
  AgreedLemmas.{named_bytes, came_in, settled_bytes_in, settled_in, shared_bytes, waiting_is, named_more, each_named},
  AgreedLemmas.{list_count, one_of, plan_by},
  CutLaws.{cut_all},
  RoundLemmas.{dealt_all, none_yet},
}
use Rattle.seg_core.specs.declared.cut.Cut.TheVariants as cut
use Rattle.split_core.specs.laws.LimitLaws.{part_ends, settled_some, settled_then_waiting}
use Rattle.split_core.proofs.AgreedLemmas.{decides_later}
use Rattle.std.proofs.lemmas.List.{nil_from_length}
use Rattle.split_core.specs.laws.CutLaws.{rest_short}
use Rattle.split_core.specs.Parts.{waiting_rest, settled_rest}

-- Parts that follow one another, as far as there are names

named_front : (names : Naming) (place : ℕ) (those : List (List ℕ)) (rest : List ℕ)
    → AreFront (named_bytes names place those) (joined those ++ rest)
named_front names place [] rest = tt
named_front names place (one ∷ those) rest = cond_both (has_name names place) _ _
    (λ files. AreFront files ((one ++ joined those) ++ rest))
    (λ is. (joined those ++ rest, append_assoc one (joined those) rest, named_front names (place + 1) those rest))
    (λ is. tt)

pub files_placed : (work : Work) (names : Naming) (pieces : List ℕ → List (List ℕ)) (rest : List ℕ → List ℕ)
    → ((x : List ℕ) → file_bytes (work.whole x) ≡ named_bytes names 0 (pieces x))
    → ((x : List ℕ) → joined (pieces x) ++ rest x ≡ x)
    → ArePlaced (beside_output work) (λ x i. spots_from 1 (file_bytes (work.whole x)) i)
files_placed work names pieces rest files all = stretch_placed (beside_output work) 1 (record {
  before = λ x. [];
  rest = λ x. x;
  parts = λ x. refl;
  front = λ x. rw (files x) (rw (all x) at (named_front names 0 (pieces x) (rest x)));
  are = λ x. refl;
  nowhere = λ x i less. absurd (omega arith);
  there = λ x i past. grind arith;
})

-- Spots in parts that follow one another

-- a byte that a longer file has, and a shorter one at its place hasn't, goes to different places
pub spots_apart : (place i : ℕ) (front : List (List ℕ)) (one two : List ℕ) (more others : List (List ℕ))
    → length (joined front) + length one ≤ i → i < length (joined front) + length two
    → spots_from place (front ++ one ∷ more) i ≢ spots_from place (front ++ two ∷ others) i
spots_apart place i [] one two more others past less = grind (arith, none_before)
spots_apart place i (bytes ∷ front) one two more others past less =
    grind (arith, length-append, spots_apart (place + 1) (i - length bytes) front one two more others)

-- only the last file may be open
abbrev OnlyLastOpen : List Slot → Type 0
OnlyLastOpen [] = Unit {0}
OnlyLastOpen (file ∷ files) = (file.state ≡ Open → files ≡ []) × OnlyLastOpen files

pub last_open : (filing : Filing) (place : ℕ) (full : List (List ℕ)) (rest : List ℕ)
    → OnlyLastOpen (named filing place (map (share Closed) full ++ map (share Open) (unless_empty rest)))
last_open filing place [] rest = grind arith
last_open filing place (part ∷ full) rest = grind (arith, last_open filing (place + 1) full rest)

abbrev bytes_of : List Slot → List (List ℕ)
bytes_of files = map (λ (file : Slot). file.written) files

-- bytes that files have stay where they are
spots_stay : (place i : ℕ) (low high : List Slot) → FilesBegin low high → OnlyLastOpen low
    → i < length (joined (bytes_of low)) → spots_from place (bytes_of high) i ≡ spots_from place (bytes_of low) i
spots_stay place i [] high begins last less = search rules
spots_stay place i (file ∷ low) [] begins last less = absurd begins
spots_stay place i (file ∷ low) (whole ∷ high) begins last less =
    grind (arith, length-append, spots_stay (place + 1) (i - length file.written) low high begins.5 last.1)

pub settled_stay : (work : Work) → IsLawful work → (x : List ℕ) → OnlyLastOpen (work.settled x).files → (i : ℕ)
    → i < length (joined (file_bytes (work.settled x))) → (y z : List ℕ)
    → spots_from 1 (file_bytes (work.whole (x ++ y))) i ≡ spots_from 1 (file_bytes (work.whole (x ++ z))) i
settled_stay work lawful x last i less y z =
    let stay = λ (y : List ℕ). spots_stay 1 i (work.settled x).files (work.whole (x ++ y)).files
    (common work lawful x y).files last less in stay y ∙ sym (stay z)

-- A continuation that ends the open part before what waits. If the input ends, this part has what waits, too.
record EndsPart (limit : Limit) (filing : Filing) (x : List ℕ) : Type 0 where
  y : List ℕ
  comes : CanCome y
  more : List (List ℕ)
  full : List (List ℕ)
  begun : List ℕ
  rest : List ℕ
  here : file_bytes ((parts_work limit filing).whole x) ≡ full ++ rest ∷ []
  there : file_bytes ((parts_work limit filing).whole (x ++ y)) ≡ full ++ begun ∷ more
  settled : length (settled_in limit filing x) ≡ length (joined full) + length begun
  all : length x ≡ length (joined full) + length rest

ends_part : (limit : Limit) (filing : Filing) (x : List ℕ) → 0 < most limit
    → are_named filing.names (length (parts limit x)) ≡ true → length (settled_in limit filing x) < length x
    → EndsPart limit filing x
ends_part limit filing x some are less =
    let full = (cut_up limit x).full in
    let rest = (cut_up limit x).rest in
    let begun = settled_rest limit rest in
    let waiting = waiting_rest limit rest in
    let waits : 0 < length waiting = omega (
      arith,
      ap length (came_in limit filing are),
      length-append (settled_in limit filing x) waiting,
    ) in
    let has : 0 < length rest = omega (arith, length-append begun waiting, ap length (settled_then_waiting limit rest)) in
    let begins = settled_some limit rest has in
    let filled = decides_later {limit = limit} {x = x} (part_ends limit rest some (rest_short limit x) waits) begins in
    let further = named_more filing.names 0 (settled_list limit x) filled.more in
    let one : settled_list limit x ≡ full ++ begun ∷ [] = ap (λ those. full ++ those) (one_of begun begins) in record {
      y = filled.y;
      comes = filled.comes;
      more = further.0;
      full = full;
      begun = begun;
      rest = rest;
      here = cc (shared_bytes filing Closed (parts limit x), each_named filing.names (parts limit x) are, one_of rest has);
      there = cc (
        shared_bytes filing Closed (parts limit (x ++ filled.y)),
        filled.are,
        further.1,
        each_named filing.names (settled_list limit x) (ap (are_named filing.names) (list_count limit x) ∙ are),
        one,
        append_assoc full (begun ∷ []) further.0,
      );
      settled = grind (arith, common_steps, settled_bytes_in limit filing x are, one, joined-append full (begun ∷ []));
      all = omega (arith, ap length (cut_all limit {x = x}), length-append (joined full) rest);
    }

-- Two continuations put a byte that waits to different spots: the end puts it into the part of what is settled, and bytes that end
-- this part put it into a later one, or nowhere.
parts_differ : (limit : Limit) (filing : Filing) (x : List ℕ) (i : ℕ) → 0 < most limit
    → are_named filing.names (length (parts limit x)) ≡ true → length (settled_in limit filing x) ≤ i
    → i < length x → (y : List ℕ) × (z : List ℕ) × CanCome y × CanCome z
    × (spots_from 1 (file_bytes ((parts_work limit filing).whole (x ++ y))) i
    ≢ spots_from 1 (file_bytes ((parts_work limit filing).whole (x ++ z))) i)
parts_differ limit filing x i some are past within =
    let ends = ends_part limit filing x some are (omega arith) in (
      ends.y,
      [],
      ends.comes,
      none_comes,
      rw (append-nil x, ends.there, ends.here) (spots_apart 1 i ends.full ends.begun ends.rest ends.more []
          (omega (arith, ends.settled)) (omega (arith, ends.all))),
    )

-- By no right spots are the first byte that waits and all before it decided: at the end one of them stands in the open
-- part after what is settled, and this part can end there.
parts_least : (limit : Limit) (filing : Filing) (x : List ℕ) → 0 < most limit
    → are_named filing.names (length (parts limit x)) ≡ true
    → NoFewerWait CanCome (beside_output (parts_work limit filing)) x (waiting_rest limit (cut_up limit x).rest)
parts_least limit filing x some are = least_by work (settled_in limit filing x) _ none_comes
    (sym (came_in limit filing are)) (λ spots_of placed decided less.
    let ends = ends_part limit filing x some are less in
    let place = suc (length ends.full) in
    let at = spot place (length ends.begun) in
    let long : output_at (work.whole x) place ≡ ends.rest =
    ap (λ files. get_or files (length ends.full) []) ends.here ∙ get_or-append_seam ends.full ends.rest [] [] in
    let short : output_at (work.whole (x ++ ends.y)) place ≡ ends.begun =
    ap (λ files. get_or files (length ends.full) []) ends.there ∙ get_or-append_seam ends.full ends.begun ends.more [] in
    let has : at.offset < length (output_at (work.whole x) place) = omega (arith, ends.settled, ends.all, ap length long) in
    let (i, here, to) = placed.filled x at has in
    let early = early_enough work placed x place at.offset i has to in
    let stays = (decided i (omega (arith, ends.settled, ends.all, ap length long)) ends.y at ends.comes).0 to in
    omega (arith, (placed.stands (x ++ ends.y) i at (omega (arith, length-append x ends.y)) stays).0, ap length short)) where
      work : Work
      work = beside_output (parts_work limit filing)

-- Lines that are dealt: none waits

dealt_decided : (delim n : ℕ) (names : Naming) (x y : List ℕ) (i : ℕ) → i < length x
    → dealt_spots delim n names (x ++ y) i ≡ dealt_spots delim n names x i
dealt_decided delim n names x y i less = grind (arith, common_steps)

-- All ways to cut

pub undecided_at : (cut : Cut) (elide : Bool) (filing : Filing) → IsPositive cut → {x : List ℕ}
    → is_short (plan_by cut elide filing) x ≡ false
    → IsUndecided (split_spots (plan_by cut elide filing)) x ((split_work (plan_by cut elide filing)).waiting x)
undecided_at (cut.Parts limit) elide filing some {x} enough =
    let are : are_named filing.names (length (parts limit x)) ≡ true = grind (arith, common_steps) in
    spots_differ (split_spots (plan_by (cut.Parts limit) elide filing)) (settled_in limit filing x)
    (λ x i. spots_few 1 (file_bytes ((parts_work limit filing).whole x)) i)
    (cc (came_in limit filing are, waiting_is limit filing x are))
    (λ i past within. parts_differ limit filing x i some are past within)
    (λ i less y z can also. settled_stay (parts_work limit filing) (parts_lawful limit filing) x
    (last_open filing 0 (cut_up limit x).full (settled_rest limit (cut_up limit x).rest)) i less y z)
undecided_at (cut.Round n delim) elide filing some {x} enough = grind (arith, common_steps, common_steps, dealt_all, drop_all, same_spots, dealt_decided)

pub least_at : (cut : Cut) (elide : Bool) (filing : Filing) → IsPositive cut → (x : List ℕ)
    → is_short (plan_by cut elide filing) x ≡ false
    → NoFewerWait CanCome (beside_output (split_work (plan_by cut elide filing))) x
    ((split_work (plan_by cut elide filing)).waiting x)
least_at (cut.Parts limit) elide filing some x enough =
    let are : are_named filing.names (length (parts limit x)) ≡ true = grind (arith, common_steps) in
    rw (waiting_is limit filing x are) (parts_least limit filing x some are)
least_at (cut.Round n delim) elide filing some x enough =
    grind (arith, common_steps, common_steps, dealt_all, drop_all, none_is_least)

-- Lines that are dealt: what a file has, byte by byte

module _ (delim n : ℕ) where
  abbrev to : List ℕ → ℕ → ℕ
  to = dealt_to delim n

  abbrev got : List ℕ → ℕ → List ℕ
  got = share_of delim n

  -- how many bytes a file has of those before byte i
  abbrev had : ℕ → List ℕ → ℕ → ℕ
  had file x i = length (got (take i x) file)

  -- a byte goes after what its file has of those before it
  follows : (x : List ℕ) (i : ℕ) → i < length x
      → (rest : List ℕ) × (got x (to x i) ≡ got (take i x) (to x i) ++ get_or x i 0 ∷ rest)
  follows x i less = let place = delimiters delim (take i x) in (
    dealt n (place % n) (cond (eqb (get_or x i 0) delim) (place + 1) place) (lines_of delim (drop (suc i) x)),
    cc (
      take-append-drop i x,
      drop-cons x i 0 less,
      dealt_append delim n (place % n) 0 (take i x) (drop i x),
      zero-add place,
      dealt_first (eqb (get_or x i 0) delim) n (place % n) place (get_or x i 0) (lines_of delim (drop (suc i) x)),
      eq-eqb (place % n) (place % n) refl,
    ),
  )

  had_less : (x : List ℕ) (i : ℕ) → i < length x → had (to x i) x i < length (got x (to x i))
  had_less x i less = let (rest, is) = follows x i less in grind (arith, common_steps)

  -- the later of two bytes of a file stands later in the file
  had_grows : (x : List ℕ) (i j : ℕ) → i < j → j < length x → to x i ≡ to x j → had (to x i) x i < had (to x j) x j
  had_grows x i j less within same = grind (arith, had_less (take j x) i, take-take, length-take-le)

  had_next : (file : ℕ) (x : List ℕ) (i : ℕ) → i < length x
      → had file x (suc i) ≡ had file x i + cond (eqb (to x i) file) 1 0
  had_next file x i less = let byte = get_or x i 0 in
      rw (take-suc x i 0 less) (grind (arith, length-append, dealt_append delim n file 0 (take i x) (byte ∷ [])))

  -- for each place in a file a byte is found that goes there
  find : (file : ℕ) (x : List ℕ) {k : ℕ} (i : ℕ) → i ≤ length x → k < had file x i
      → (at : ℕ) × (at < length x) × (to x at ≡ file) × (had file x at ≡ k)
  find file x zero within less = absurd (omega arith)
  find file x {k} (suc i) within less =
      let next = had_next file x i (omega arith) in elim (cases_lt k (had file x i)) [
        | inl before ↦ find file x i (omega arith) before
        | inr past ↦ (i, omega arith, grind arith, grind arith)
      ]

-- The files

named_at : (names : Naming) (place : ℕ) (those : List (List ℕ)) (k : ℕ)
    → get_or (named_bytes names place those) k [] ≡ cond (has_name names (place + k)) (get_or those k []) []
named_at names place [] k = grind arith
named_at names place (one ∷ those) zero = grind arith
named_at names place (one ∷ those) (suc k) = grind (arith, named_at names (place + 1) those k)

-- Spots

module _ (delim n : ℕ) (elide : Bool) (filing : Filing) (x : List ℕ) where
  abbrev those : List (List ℕ)
  those = dealt_files delim elide n x

  abbrev files : List (List ℕ)
  files = file_bytes (whole_by (round_plan delim n elide filing) x)

  file_is : (file : ℕ) → file < n → get_or those file [] ≡ share_of delim n x file
  file_is file within =
      search (rules, dealt_files_are, get_or-map-range_with_len, get_or_past, length-map-range_with_len, none_yet)

  -- a file that has a byte has a name
  file_at : (file : ℕ) → get_or files file [] ≡ cond (has_name filing.names file) (get_or those file []) []
  file_at file = grind (arith, shared_bytes filing Closed those, named_at)

  filled : (place offset : ℕ) → offset < length (get_or ([] ∷ files) place [])
      → (i : ℕ) × (i < length x) × GoesTo (spot place offset) (dealt_spots delim n filing.names x i)
  filled zero offset less = absurd (omega arith)
  filled (suc file) offset less =
      let named : has_name filing.names file ≡ true = grind (arith, file_at) in
      let has : offset < length (get_or those file []) = grind (arith, file_at) in
      let within : file < n = grind (arith, get_or_past, dealt_files_are, length-map-range_with_len) in
      let (i, here, to, at) = find delim n file x (length x) (omega arith)
      (rw (file_is file within, ← take_all (length x) x (omega arith)) at has) in (i, here, grind arith)

pub placed_at : (cut : Cut) (elide : Bool) (filing : Filing) → IsPositive cut
    → ArePlaced (beside_output (split_work (plan_by cut elide filing))) (split_spots (plan_by cut elide filing))
placed_at (cut.Parts limit) elide filing some = files_placed (parts_work limit filing) filing.names (parts limit)
    (λ x. []) (λ x. shared_bytes filing Closed (parts limit x)) (λ x. append-nil _ ∙ joined_parts limit x)
placed_at (cut.Round n delim) elide filing some = record {
  stands = λ x i at less goes. let (rest, is) = follows delim n x i less in
      grind (arith, length-append, file_at, file_is delim n elide filing x, get_or-append_seam);
  filled = λ x at less. filled delim n elide filing x at.place at.offset less;
  order = λ x i j one other same goes also. grind (arith, had_grows);
}

-- if standard output gets no lines, all bytes are placed
pub placed_quiet : (cut : Cut) (elide : Bool) (filing : Filing) → IsPositive cut → filing.verbose ≡ false
    → ArePlaced (split_work (plan_by cut elide filing)) (split_spots (plan_by cut elide filing))
placed_quiet cut elide filing some is = rw is (rw is at (placed_at cut elide filing some))
