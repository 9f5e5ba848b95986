-- The parts of a text in other words: runs of lines or bytes, whole lines within a number of bytes, and where each line is dealt to.
use Rattle.std.proofs.{
  lemmas.Grind.common_steps,
  lemmas.List.{
    append-nil,
    take_all,
    drop_all,
    drop-drop,
    length-map,
    length-take-le,
    map-append,
    FromFn.{length-map-range_with_len, get_or-map-range_with_len, take-map-range_with_len},
  },
  lemmas.Bool.{cases_lt, eq-eqb, ne_eqb},
  Common.{◌≡◌, ℕ, ◌+◌, ◌-◌, ◌*◌, ◌<◌, ◌≤◌, zero, suc, List, [], ◌∷◌, ◌++◌, length, take, drop, map, get_or},
  Common.{false, refl, sym, ◌∙◌, ap, arith, length-append, length-drop, ◌%◌, min, true, cond, eqb, if◌then◌else◌},
  Common.{◌==◌, inl, inr, nat_le, nat_lt, ◌&&◌},
  Math.{ListN.get_or-map, Nat.{mod-eq_of_lt, add-mod_right}},
}
use Rattle.std.specs.List.{All, range_with_len}
use Rattle.seg_core.{
  specs.{
    Line.{joined, lines_of, line_count, AreLines},
    declared.cut.Limit.{Limit, TheVariants.{Lines, Bytes, LineBytes}},
    Cut.most,
  },
  proofs.FirstLines.{joined-append, lines_of-first_lines, lines_of-after, lines_of-after_lines},
  proofs.LineCounts.{line_count-some, line_count_near},
  proofs.LinesOf.{joined-lines_of, lines_of-joined, AreLines-lines_of},
}
use Rattle.split_core.specs.{
  Parts.{cut_up, unless_empty, parts, settled_rest, waiting_rest, dealt, round_robin},
  Sections.{runs_within, runs_of, line_parts, byte_parts, AreLineByteParts, none, one, more},
  Split.{Share, settled_parts, dealt_files},
  laws.{CutLaws.{cut_none}, CutLaws.{rest_short, cuts_up}, DealLaws.dealt_files_are, ShareLaws.cut_first},
  inner.{CutLaws.{Cuts, stops, goes}, Dealt.share_of},
}
use Rattle.split_core.proofs.CutLaws.{bytes_of_shares, cut_all}
use Rattle.split_core.specs.laws.{
  LimitLaws.{full_from, full_some, settled_then_waiting, short_from, short_some, whole_some, whole_within},
}
use Rattle.split_core.specs.laws.LimitLaws.{waits_few}
use Rattle.split_core.specs.laws.CutLaws.{rest_short}

-- Runs of any list

-- more room for runs changes nothing
runs_bound : {X : Type 0} (low high n : ℕ) (xs : List X) → 0 < n → length xs ≤ low → length xs ≤ high
    → runs_within low n xs ≡ runs_within high n xs
runs_bound zero (suc high) n (x ∷ xs) some few little = absurd (omega arith)
runs_bound (suc low) zero n (x ∷ xs) some few little = absurd (omega arith)
runs_bound (suc low) (suc high) n (x ∷ xs) some few little =
    grind (arith, length-drop, runs_bound low high n (drop n (x ∷ xs)) some)
runs_bound low high n xs some few little = refl

-- a run, and then the runs of what stands after it
pub runs_next : {X : Type 0} (n : ℕ) (xs : List X) → 0 < n → 0 < length xs
    → runs_of n xs ≡ take n xs ∷ runs_of n (drop n xs)
runs_next n [] some has = absurd (omega arith)
runs_next n (x ∷ xs) some has = grind (arith, common_steps, runs_bound)

-- n members or fewer are one run
pub runs_last : {X : Type 0} (n : ℕ) (xs : List X) → 0 < length xs → length xs ≤ n → runs_of n xs ≡ xs ∷ []
runs_last n xs has few = cc (runs_next n xs (omega arith) has, take_all n xs few, drop_all n xs few)

-- the run at a place has the members from i * n to less than (i + 1) * n
pub run_at : {X : Type 0} (n i : ℕ) (xs : List X) → 0 < n → get_or (runs_of n xs) i [] ≡ take n (drop (i * n) xs)
run_at n i [] some = grind (arith, common_steps)
run_at n zero (x ∷ xs) some = grind arith
run_at n (suc i) (x ∷ xs) some = let next : suc i * n ≡ n + i * n = omega arith in
    cc (runs_next n (x ∷ xs) some (omega arith), run_at n i (drop n (x ∷ xs)) some, drop-drop (i * n) n (x ∷ xs), next)

-- this many runs of n hold all members, and one run less doesn't
abbrev AreFewest : ℕ → ℕ → ℕ → Type 0
AreFewest runs n all = (all ≤ runs * n) × (runs * n < all + n)

count_within : {X : Type 0} (bound n : ℕ) (xs : List X) → 0 < n → length xs ≤ bound
    → AreFewest (length (runs_within bound n xs)) n (length xs)
count_within zero n (x ∷ xs) some few = absurd (omega arith)
count_within (suc bound) n (x ∷ xs) some few =
    grind (arith, common_steps, count_within bound n (drop n (x ∷ xs)) some)
count_within bound n xs some few = grind arith

-- there are as few runs as can hold all members
pub runs_count : {X : Type 0} (n : ℕ) (xs : List X) → 0 < n → AreFewest (length (runs_of n xs)) n (length xs)
runs_count n xs some = count_within _ n _ some (omega arith)

-- Parts of n lines, and of n bytes

lines_cut : (delim n : ℕ) {x : List ℕ} {full : List (List ℕ)} {rest : List ℕ} → 0 < n → Cuts (Lines n delim) x full rest
    → full ++ unless_empty rest ≡ line_parts delim n x
lines_cut delim n some (stops [] short) = refl
lines_cut delim n some (stops (byte ∷ x) short) = let all = byte ∷ x in
    cc (
      runs_last n (lines_of delim all) (line_count-some delim all (omega arith))
          (omega (arith, (line_count_near delim all).1, short_some (Lines n delim) all short some)),
      joined-lines_of delim all,
    )
lines_cut delim n {x} some (goes _ full _ is past) =
    grind (arith, common_steps, full_some, lines_of-after, runs_next, line_count_near, lines_cut _ n some past)

pub lines_are_runs : (delim n : ℕ) (x : List ℕ) → 0 < n → parts (Lines n delim) x ≡ line_parts delim n x
lines_are_runs delim n x some = lines_cut _ n some cuts_up

bytes_cut : (n : ℕ) {x : List ℕ} {full : List (List ℕ)} {rest : List ℕ} → 0 < n → Cuts (Bytes n) x full rest
    → full ++ unless_empty rest ≡ byte_parts n x
bytes_cut n some (stops [] short) = refl
bytes_cut n some (stops (byte ∷ x) short) = sym (runs_last n _ (omega arith) (omega (arith, short_some (Bytes n) (byte ∷ x) short some)))
bytes_cut n {x} some (goes _ full _ is past) =
    grind (arith, common_steps, runs_next, bytes_cut n some past)

pub bytes_are_runs : (n : ℕ) (x : List ℕ) → 0 < n → parts (Bytes n) x ≡ byte_parts n x
bytes_are_runs n x some = bytes_cut n some cuts_up

-- the lines of the part at a place
pub part_lines : (delim n i : ℕ) (x : List ℕ) → 0 < n
    → lines_of delim (get_or (parts (Lines n delim) x) i []) ≡ take n (drop (i * n) (lines_of delim x))
part_lines delim n i x some = rw (
  lines_are_runs delim n x some,
  get_or-map joined (runs_of n (lines_of delim x)) i [],
  run_at n i (lines_of delim x) some,
  ← lines_of-after_lines,
  lines_of-first_lines,
)

pub part_bytes : (n i : ℕ) (x : List ℕ) → 0 < n → get_or (parts (Bytes n) x) i [] ≡ take n (drop (i * n) x)
part_bytes n i x some = grind (arith, bytes_are_runs, run_at)

pub lines_count : (delim n : ℕ) (x : List ℕ) → 0 < n
    → AreFewest (length (parts (Lines n delim) x)) n (line_count delim x)
lines_count delim n x some = grind (arith, lines_are_runs, length-map, runs_count)

pub bytes_count : (n : ℕ) (x : List ℕ) → 0 < n → AreFewest (length (parts (Bytes n) x)) n (length x)
bytes_count n x some = grind (arith, bytes_are_runs, runs_count)

-- Parts of whole lines within n bytes

line_bytes_cut : {delim n : ℕ} {x : List ℕ} {full : List (List ℕ)} {rest : List ℕ} → 0 < n
    → Cuts (LineBytes n delim) x full rest → AreLineByteParts delim n x (full ++ unless_empty rest)
line_bytes_cut some (stops [] short) = none
line_bytes_cut {delim} {n} some (stops (byte ∷ x) short) = one (byte ∷ x) (omega arith) (short_some (LineBytes n delim) (byte ∷ x) short some)
line_bytes_cut {delim} {n} {x} {rest} some (goes _ full _ is past) =
    more x _ (full_some (LineBytes n delim) x is).1 (line_bytes_cut some past)

pub line_bytes_are_parts : (delim n : ℕ) (x : List ℕ) → 0 < n → AreLineByteParts delim n x (parts (LineBytes n delim) x)
line_bytes_are_parts delim n x some = line_bytes_cut some cuts_up

are_cut : {delim n : ℕ} {x : List ℕ} {those : List (List ℕ)} → 0 < n → AreLineByteParts delim n x those
    → parts (LineBytes n delim) x ≡ those
are_cut some none = refl
are_cut some (one [] has short) = absurd (omega arith)
are_cut {delim} {n} some (one (byte ∷ x) has short) = grind (arith, common_steps, cut_none, short_from)
are_cut {delim} {n} some (more x _ enough past) =
    rw (cut_first (LineBytes n delim) x (full_from (LineBytes n delim) x some enough), are_cut some past)

-- no other list of parts is right
pub line_bytes_once : {delim n : ℕ} {x : List ℕ} {these those : List (List ℕ)} → 0 < n
    → AreLineByteParts delim n x these → AreLineByteParts delim n x those → these ≡ those
line_bytes_once some these those = sym (are_cut some these) ∙ are_cut some those

-- none is empty, and none has more than n bytes
pub line_bytes_within : (delim n : ℕ) (x : List ℕ) (those : List (List ℕ)) → 0 < n → AreLineByteParts delim n x those
    → All (λ part. (0 < length part) × (length part ≤ n)) those
line_bytes_within delim n _ _ some none = grind arith
line_bytes_within delim n _ _ some (one x has short) = grind arith
line_bytes_within delim n _ _ some (more x those enough past) =
    grind (arith, whole_some, whole_within, length-take-le, line_bytes_within _ n _ _ some past)

-- Texts that go on

pub joined_one : (rest : List ℕ) → joined (unless_empty rest) ≡ rest
joined_one [] = refl
joined_one (byte ∷ rest) = append-nil (byte ∷ rest)

pub joined_parts : (limit : Limit) (x : List ℕ) → joined (parts limit x) ≡ x
joined_parts limit x = grind (arith, joined-append, joined_one, cut_all)

-- what waits is shorter than a part
pub waiting_few : (limit : Limit) (x : List ℕ) → 0 < most limit
    → length (waiting_rest limit (cut_up limit x).rest) < most limit
waiting_few limit x some = waits_few limit (cut_up limit x).rest some (rest_short limit x)

-- what files have once a text came in
abbrev pub settled_list : Limit → List ℕ → List (List ℕ)
settled_list limit x = (cut_up limit x).full ++ unless_empty (settled_rest limit (cut_up limit x).rest)

pub settled_bytes : (limit : Limit) (x : List ℕ)
    → map (λ (file : Share). file.bytes) (settled_parts limit x) ≡ settled_list limit x
settled_bytes limit x = grind (arith, map-append, bytes_of_shares)

pub list_all : (limit : Limit) (x : List ℕ)
    → joined (settled_list limit x) ++ waiting_rest limit (cut_up limit x).rest ≡ x
list_all limit x = grind (arith, common_steps, joined-append, settled_then_waiting, cut_all)

-- what is written and what waits are together what came in
pub settled_all : (limit : Limit) (x : List ℕ)
    → joined (map (λ (file : Share). file.bytes) (settled_parts limit x)) ++ waiting_rest limit (cut_up limit x).rest
    ≡ x
settled_all limit x = grind (arith, settled_bytes, list_all)

-- the lines that one of n files gets, if the first of these lines is number `place` of all
abbrev pub lines_dealt : ℕ → ℕ → ℕ → List (List ℕ) → List (List ℕ)
lines_dealt n file place [] = []
lines_dealt n file place (line ∷ lines) = if place % n == file then line ∷ lines_dealt n file (place + 1) lines
    else lines_dealt n file (place + 1) lines

dealt_are : (n file place : ℕ) (lines : List (List ℕ))
    → dealt n file place lines ≡ joined (lines_dealt n file place lines)
dealt_are n file place [] = refl
dealt_are n file place (line ∷ lines) = grind (arith, dealt_are n file (place + 1) lines)

-- what the file gets still consists of lines

are_dealt : (delim n file place : ℕ) (lines : List (List ℕ)) → AreLines delim lines
    → AreLines delim (lines_dealt n file place lines)
are_dealt delim n file place [] each = tt
are_dealt delim n file place (line ∷ []) each = grind arith
are_dealt delim n file place (line ∷ next ∷ lines) each =
    grind (arith, common_steps, are_dealt delim n file (place + 1) (next ∷ lines) each.1)

-- the places of a file's lines are n apart

nothing_between : (n place : ℕ) {left : ℕ} → left < n → (place + left) % n ≡ place % n → left ≡ 0
nothing_between n place {left} few same = grind arith

nth_dealt : (n : ℕ) {file : ℕ} (place : ℕ) (lines : List (List ℕ)) (left k : ℕ) → left < n → (place + left) % n ≡ file
    → get_or (lines_dealt n file place lines) k [] ≡ get_or lines (left + k * n) []
nth_dealt n place [] left k few at = refl
nth_dealt n {file} place (line ∷ lines) zero zero few at = grind arith
nth_dealt n {file} place (line ∷ lines) zero (suc k) few at =
    let here : place % n ≡ file = grind arith in
    let there : 0 + suc k * n ≡ suc (n - 1 + k * n) = omega arith in
    let around : place + 1 + (n - 1) ≡ place + n = omega arith in
    cc (
      eq-eqb (place % n) file here,
      nth_dealt n {file = file} (place + 1) lines (n - 1) k (omega arith)
          (ap (λ at. at % n) around ∙ add-mod_right place n ∙ here),
    )
nth_dealt n {file} place (line ∷ lines) (suc left) k few at =
    let there : suc left + k * n ≡ suc (left + k * n) = omega arith in
    let other : eqb (place % n) file ≡ false = ne_eqb (place % n) file
    (λ is. let none : suc left ≡ 0 = nothing_between n place few (at ∙ sym is) in omega (arith, none)) in
    cc (other, there, nth_dealt n {file = file} (place + 1) lines left k (omega arith) (grind arith))

-- line k of the file at a place is the line of the text at that place plus k times n
pub line_at : (delim n file k : ℕ) (x : List ℕ) → file < n
    → get_or (lines_of delim (get_or (round_robin delim n x) file [])) k []
    ≡ get_or (lines_of delim x) (file + k * n) []
line_at delim n file k x within =
    grind (arith, get_or-map-range_with_len, dealt_are, lines_of-joined, are_dealt, AreLines-lines_of, nth_dealt, mod-eq_of_lt)

-- each line goes to one file

one_gets : (had : ℕ → List ℕ) (line : List ℕ) (place start count : ℕ)
    → length (joined (map (λ file. cond (eqb place file) (line ++ had file) (had file)) (range_with_len start count)))
    ≡ cond (nat_le start place && nat_lt place (start + count)) (length line) 0 + length
    (joined (map had (range_with_len start count)))
one_gets had line place start zero = grind arith
one_gets had line place start (suc count) = grind (arith, length-append, one_gets had line place (start + 1) count)

all_from : (n place : ℕ) (lines : List (List ℕ)) → 0 < n
    → length (joined (map (λ file. dealt n file place lines) (range_with_len 0 n))) ≡ length (joined lines)
all_from n place [] some = none 0 n where
  none : (start count : ℕ) → length (joined (map (λ (file : ℕ). []) (range_with_len start count))) ≡ 0
  none start zero = refl
  none start (suc count) = none (start + 1) count
all_from n place (line ∷ lines) some = grind (
  arith,
  length-append,
  one_gets (λ file. dealt n file (place + 1) lines) line (place % n) 0 n,
  all_from n (place + 1) lines some,
)

-- all bytes are dealt
pub all_dealt : (delim n : ℕ) (x : List ℕ) → 0 < n → length (joined (round_robin delim n x)) ≡ length x
all_dealt delim n x some = all_from n 0 _ some ∙ ap length (joined-lines_of _ x)

-- the files that have a line are the first ones
pub first_files : (delim n : ℕ) (x : List ℕ)
    → dealt_files delim true n x ≡ take (line_count delim x) (round_robin delim n x)
first_files delim n x = dealt_files_are delim true n x ∙ elim (cases_lt (line_count delim x) n) [
  | inl fewer ↦ let here : min n (line_count delim x) ≡ line_count delim x = omega arith in
      cc (take-map-range_with_len (share_of delim n x) 0 n (line_count delim x) (omega arith))
  | inr many ↦ let here : min n (line_count delim x) ≡ n = omega arith in
      cc (take_all (line_count delim x) (round_robin delim n x) (omega (arith, length-map-range_with_len)))
]
