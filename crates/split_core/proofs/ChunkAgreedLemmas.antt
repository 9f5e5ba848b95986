-- What is settled of chunks is what all continuations agree on.
use Rattle.std.proofs.Common.{rules}
use Rattle.std.proofs.lemmas.Grind.{common_steps}
use Rattle.std.proofs.{
  Common.{◌≡◌, ℕ, ◌+◌, ◌-◌, ◌*◌, ◌<◌, ◌≤◌, max, zero, suc, Bool, true, false, List, [], ◌∷◌, ◌++◌, length},
  Common.{take, drop, map, get_or, replicate, Option, Some, None, inl, inr, refl, sym, ◌∙◌, ap, subst, arith},
  lemmas.{
    Bool.{cases_lt, eq-eqb, eqb-true, ltb-false},
    List.{
      append-nil,
      append_assoc,
      append_cancel_left,
      drop-append-le,
      length-append,
      length-replicate,
      map-append,
      take_all,
      Elements.{All-drop, All-replicate},
    },
  },
  Math.{Seq.drop-append_seam},
}
use Rattle.std.specs.List.{All, range_with_len}
use Rattle.seg_core.{
  specs.{Line.joined, declared.{cut.Chunks.Chunks, unit.Unit.{Unit as Which, TheVariants.{Bytes, Lines}}}},
  proofs.FirstLines.joined-append,
}
use Rattle.engine_core.{
  specs.{Agreed.file_bytes, Written.IsBeginning},
  proofs.AgreedLemmas.{common, copies_come, none_comes, beginning_short},
}
use Rattle.split_core.specs.{
  Parts.{CutUp, uncut, unless_empty},
  Place.beside_output,
  Split.are_named,
  Chunks.{before_chunk, begun_before, chunk_at, chunk_start, chunks_of, decided, ended, in_the_end, is_longer},
  Chunks.pieces_in,
  ChunkAgreed.{AgreeAt, CanFollow, HasNoMore},
  ChunkWork.{ChunksPlan, chunk_work, chunks_settled, chunks_whole, chunks_work, files_by, kept},
  inner.Chunks.HaveEnded,
  laws.ChunkWorkLaws.{chunk_lawful, chunks_lawful, length-kept},
  laws.BegunLaws.{begun_first, begun_on, begun_some, begun_within, open_within},
  laws.ChunkLaws.{all_joined, before_stays, chunks_are, cut_all, ended_is, full_stays, map_parts, passed_open},
}
use Rattle.split_core.proofs.{
  AgreedLemmas.{bytes_named, each_named},
  CutLaws.bytes_of_shares,
  ChunkLemmas.{bytes_filed, few_files, same_pieces},
  RoundLemmas.{named_fewer, joined_some},
  UnsaidLemmas.start_some,
}

-- All the files

pub joined-kept : (elide : Bool) (pieces : List (List ℕ)) → joined (kept elide pieces) ≡ joined pieces
joined-kept elide pieces = grind (arith, joined_some)

-- the files have all that the pieces have
pub joined_files : (elide : Bool) (cut : CutUp) → joined (files_by elide cut) ≡ joined (pieces_in cut)
joined_files elide cut = grind (arith, joined-append, joined-kept)

pub none_kept : (elide : Bool) → kept elide [] ≡ []
none_kept elide = grind arith

-- once enough came in, all that came before it stands in the first chunk
pub far : (n size : ℕ) → 0 < n → size < chunk_start n (size + suc size * n) (0 + 1)
far n size some = grind arith

pub none_before_first : (chunks : Chunks) (size : ℕ) (x : List ℕ) → before_chunk chunks size 0 x ≡ []
none_before_first chunks size x = grind arith

-- A text that goes on with one byte alone

-- in this continuation the chunks are those that have ended, then one that goes on with the byte, and later ones
pub record GoesOnWith (chunks : Chunks) (said : Option ℕ) (x r : List ℕ) (byte : ℕ) : Type 0 where
  pub y : List ℕ
  pub comes : CanFollow said x y
  pub more : List ℕ
  pub later : List (List ℕ)
  pub cut : in_the_end chunks said (x ++ y)
      ≡ record { full = (decided chunks 1 said x).full ++ (r ++ byte ∷ more) ∷ later; rest = [] }
  pub alone : All (λ one. one ≡ byte) (joined ((byte ∷ more) ∷ later))
  pub run : All (λ one. one ≡ byte) y

-- such a continuation there is with each byte
abbrev pub Grows : Chunks → Option ℕ → List ℕ → List ℕ → Type 0
Grows chunks said x r = (byte : ℕ) → byte < 256 → GoesOnWith chunks said x r byte

front_of : (unit : Which) (delim byte : ℕ) (y : List ℕ) {place : ℕ} → 0 < place
    → (more : List ℕ) × (begun_before unit delim place (byte ∷ y) ≡ byte ∷ more)
front_of Bytes delim byte y {place = suc place} some = (take place y, refl)
front_of Lines delim byte y some = (_, begun_first _ _ _ y some)
front_of unit delim byte y {place = zero} some = absurd (omega arith)

-- if the input showed its size, the chunk that was begun gets the next byte
pub said_grows : (chunks : Chunks) {size : ℕ} (x : List ℕ) → 0 < chunks.count → length x < size
    → Grows chunks (Some size) x (chunks_of chunks size x).rest
said_grows chunks {size} x some short byte small =
    let k = size - length x - 1 in
    let y = replicate k byte in
    let w = x ++ byte ∷ y in
    let long : length w ≡ size = omega (arith, length-append x (byte ∷ y), length-replicate k byte) in
    let cut = chunks_of chunks size x in
    let p = ended chunks size x in
    let here = ended_is chunks size x in
    let less : p < chunks.count = grind (arith, open_within) in
    let f = chunk_at chunks size w in
    let skip = max (chunk_start chunks.count size (0 + p + 1) - length x) 1 in
    let more = front_of chunks.unit chunks.delim byte y {place = skip} (omega arith) in
    let later = map f (range_with_len (0 + p + 1) (chunks.count - p - 1)) in
    let first : f (0 + p) ≡ drop (length (before_chunk chunks size p x)) x ++ byte ∷ more.0 =
    grind (arith, before_stays, begun_on, begun_within, drop-append-le) in
    let whole : chunks_of chunks size w ≡ record { full = cut.full ++ (cut.rest ++ byte ∷ more.0) ∷ later; rest = [] } =
    grind (arith, cut_all, map_parts f 0 p (suc (chunks.count - p - 1)), full_stays, chunks_are, first) in
    let all = ap (λ cut. joined (pieces_in cut)) (sym whole) ∙ all_joined chunks size w some in
    let rest : joined ((byte ∷ more.0) ∷ later) ≡ byte ∷ y = append_cancel_left x _ _
    (grind (arith, joined-append, append-nil, append_assoc, take_all, all_joined chunks size x some)) in record {
      y = byte ∷ y;
      comes = (copies_come (suc k) byte small, eq-eqb _ _ long);
      more = more.0;
      later = later;
      cut = whole;
      alone = subst (All (λ one. one ≡ byte)) (sym rest) (All-replicate (λ one. one ≡ byte) (suc k) byte refl);
      run = All-replicate (λ one. one ≡ byte) (suc k) byte refl;
    }

-- if it showed none, the first chunk gets the next byte, if enough bytes come
pub none_grows : (chunks : Chunks) (x : List ℕ) → 0 < chunks.count → Grows chunks None x x
none_grows chunks x some byte small =
    let size = length x + suc (length x) * chunks.count in
    let short : length x < size = omega arith in
    let here : HaveEnded chunks size x 0 = omega (arith, passed_open, open_within, far) in
    let cut : chunks_of chunks size x ≡ uncut x = chunks_are chunks size x some (omega arith) here
    ∙ ap (λ begun. uncut (drop (length begun) x)) (none_before_first chunks size x) in
    let on = said_grows chunks x some short byte small in record {
      y = on.y;
      comes = (on.comes.0, refl);
      more = on.more;
      later = on.later;
      cut = rw (eqb-true _ _ on.comes.1) (on.cut
          ∙ ap (λ (cut : CutUp). record { full = cut.full ++ (cut.rest ++ byte ∷ on.more) ∷ on.later; rest = [] }) cut);
      alone = on.alone;
      run = on.run;
    }

-- all bytes of these pieces are this byte
record IsAlone (byte : ℕ) (pieces : List (List ℕ)) : Type 0 where
  all : All (λ one. one ≡ byte) (joined pieces)

-- their files
cut_files : (elide : Bool) {cut : CutUp} (front : List (List ℕ)) (piece : List ℕ) (later : List (List ℕ))
    → cut ≡ record { full = front ++ piece ∷ later; rest = [] } → 0 < length piece
    → files_by elide cut ≡ kept elide front ++ piece ∷ kept elide later
cut_files elide front piece later is some = grind (arith, common_steps)

module _ (elide : Bool) {chunks : Chunks} {said : Option ℕ} {x r : List ℕ} {byte : ℕ}
    (on : GoesOnWith chunks said x r byte) where
  pub files_on : files_by elide (in_the_end chunks said (x ++ on.y))
      ≡ kept elide (decided chunks 1 said x).full ++ (r ++ byte ∷ on.more) ∷ kept elide on.later
  files_on = cut_files elide _ _ _ on.cut (omega (arith, length-append r (byte ∷ on.more)))

  alone_on : IsAlone byte ((byte ∷ on.more) ∷ kept elide on.later)
  alone_on = grind (arith, common_steps, joined-kept)

-- What two continuations have in common

-- if all bytes are the same, each file begins with this byte
first_alone : {c : ℕ} (byte : ℕ) (bytes : List ℕ) {pieces : List (List ℕ)} (place : ℕ) → IsAlone c pieces
    → IsBeginning (byte ∷ bytes) (get_or pieces place []) → byte ≡ c
first_alone byte bytes {pieces = []} place run begins = absurd (omega (arith, beginning_short (byte ∷ bytes) [] begins))
first_alone byte bytes {pieces = piece ∷ pieces} zero run (rest, is) = (rw is at run.all) 0 0 (omega arith)
first_alone {c} byte bytes {pieces = piece ∷ pieces} (suc place) run begins =
    first_alone byte bytes {pieces = pieces} place (record {
      all = rw (drop-append_seam piece (joined pieces)) at (All-drop (λ one. one ≡ c) (length piece) _ run.all);
    }) begins

pub first_made : (r : List ℕ) → get_or (unless_empty r) 0 [] ≡ r
first_made r = grind arith

-- two continuations have no more in common than what is there
apart : {more other : List ℕ} {later others : List (List ℕ)} (front : List (List ℕ)) (r : List ℕ) (place : ℕ)
    (bytes : List ℕ) → IsAlone 0 ((0 ∷ more) ∷ later) → IsAlone 1 ((1 ∷ other) ∷ others)
    → IsBeginning bytes (get_or (front ++ (r ++ 0 ∷ more) ∷ later) place [])
    → IsBeginning bytes (get_or (front ++ (r ++ 1 ∷ other) ∷ others) place [])
    → length bytes ≤ length (get_or (front ++ unless_empty r) place [])
apart (piece ∷ front) r zero bytes run also first second = beginning_short _ _ first
apart (piece ∷ front) r (suc place) bytes run also first second = apart front r place bytes run also first second
apart [] r place [] run also first second = omega arith
apart [] (byte ∷ r) zero (next ∷ bytes) run also (rest, is) (left, are) = omega (
  arith,
  ap length (first_made r),
  apart [] r zero bytes run also (rest, ap (drop 1) is) (left, ap (drop 1) are),
)
apart [] r place (byte ∷ bytes) run also first second =
    absurd (omega (arith, first_alone byte bytes place run first, first_alone byte bytes place also second))

-- the first file has all that begins before the second chunk
pub first_file : (elide : Bool) (chunks : Chunks) (x : List ℕ) → 0 < chunks.count → 0 < length x
    → (more : List (List ℕ))
    × (files_by elide (chunks_of chunks (length x) x) ≡ before_chunk chunks (length x) 1 x ∷ more)
first_file elide chunks x some has =
    let r = before_chunk chunks (length x) 1 x in
    let f = chunk_at chunks (length x) x in
    let later = map f (range_with_len (0 + 0 + 1) (chunks.count - 1)) in
    let cut : chunks_of chunks (length x) x ≡ record { full = r ∷ later; rest = [] } =
    grind (arith, cut_all, take_all, none_before_first) in (
      kept elide later,
      rw (
        cut_files elide [] r later cut
            (begun_some chunks.unit chunks.delim _ x (start_some chunks.count (length x) some has) has),
        none_kept elide,
      ),
    )

-- two continuations that have no more in common in any file than what is decided
abbrev AreFiles : Bool → Chunks → Option ℕ → List ℕ → ℕ → Type 0
AreFiles elide chunks said x place = (y : List ℕ) × (z : List ℕ) × CanFollow said x y × CanFollow said x z
    × ((front : List ℕ) → IsBeginning front (get_or (files_by elide (in_the_end chunks said (x ++ y))) place [])
    → IsBeginning front (get_or (files_by elide (in_the_end chunks said (x ++ z))) place [])
    → length front ≤ length (get_or (files_by elide (decided chunks 1 said x)) place []))

file_grows : (elide : Bool) {chunks : Chunks} {said : Option ℕ} {x r : List ℕ} (place : ℕ) → Grows chunks said x r
    → length (get_or (kept elide (decided chunks 1 said x).full ++ unless_empty r) place [])
    ≤ length (get_or (files_by elide (decided chunks 1 said x)) place []) → AreFiles elide chunks said x place
file_grows elide {chunks} {said} {x} {r} place on enough = let one = on 0 (omega arith) in let two = on 1 (omega arith) in (
  one.y,
  two.y,
  one.comes,
  two.comes,
  λ bytes first second. omega (
    arith,
    apart (kept elide (decided chunks 1 said x).full) r place bytes (alone_on elide one) (alone_on elide two)
        (rw (files_on elide one) at first) (rw (files_on elide two) at second),
  ),
)

files_longest : (elide : Bool) (chunks : Chunks) (said : Option ℕ) (x : List ℕ) (place : ℕ) → 0 < chunks.count
    → is_longer said x ≡ false → AreFiles elide chunks said x place
files_longest elide chunks None [] place some fits =
    file_grows elide place (none_grows chunks [] some) (rw (none_kept elide) (omega arith))
files_longest elide chunks None (byte ∷ x) (suc place) some fits =
    file_grows elide (suc place) (none_grows chunks (byte ∷ x) some) (rw (none_kept elide) (omega arith))
files_longest elide chunks None (byte ∷ x) zero some fits =
    let file = first_file elide chunks (byte ∷ x) some (omega arith) in
    let r = before_chunk chunks (length (byte ∷ x)) 1 (byte ∷ x) in (
      [],
      [],
      (none_comes, refl),
      (none_comes, refl),
      rw (append-nil x, file.1, none_kept elide, first_made r) (λ front first second. beginning_short front r first),
    )
files_longest elide chunks (Some size) x place some fits = elim (cases_lt (length x) size) [
  | inl short ↦ file_grows elide place (said_grows chunks x some short) (omega arith)
  | inr full ↦ (
      let comes : CanFollow (Some size) x [] =
      (none_comes, eq-eqb _ _ (omega (arith, ltb-false, length-append x []))) in
      ([], [], comes, comes, rw (append-nil x) (λ front first second. beginning_short _ _ first)))
]

-- The outputs

few_kept : (elide : Bool) (cut : CutUp) (count : ℕ) → length (files_by false cut) ≤ count
    → length (files_by elide cut) ≤ count
few_kept elide cut count few = grind (arith, length-kept, length-append)

pub few_decided : (elide : Bool) (chunks : Chunks) (said : Option ℕ) (x : List ℕ) → 0 < chunks.count
    → length (files_by elide (decided chunks 1 said x)) ≤ chunks.count
few_decided elide chunks None x some = grind arith
few_decided elide chunks (Some size) x some = few_kept _ _ _ (few_files _ _ x some)

pub settled_files : (plan : ChunksPlan) (said : Option ℕ) (x : List ℕ) → 0 < plan.chunks.count
    → are_named plan.filing.names plan.chunks.count ≡ true
    → file_bytes (chunks_settled plan said x) ≡ files_by plan.elide (decided plan.chunks 1 said x)
settled_files plan said x some named = search (rules, bytes_named, map-append, bytes_of_shares, each_named, named_fewer, few_decided)

pub whole_files : (plan : ChunksPlan) (said : Option ℕ) (x : List ℕ) → 0 < plan.chunks.count
    → are_named plan.filing.names plan.chunks.count ≡ true
    → file_bytes (chunks_whole plan said x) ≡ files_by plan.elide (in_the_end plan.chunks said x)
whole_files plan said x some named = search (rules, bytes_filed, few_kept, few_files)

module _ (plan : ChunksPlan) (said : Option ℕ) (x : List ℕ) (some : 0 < plan.chunks.count)
    (named : are_named plan.filing.names plan.chunks.count ≡ true) (fits : is_longer said x ≡ false) where
  pub files_agreed : AgreeAt (CanFollow said x) (beside_output (chunks_work plan said)) x
      (record ((chunks_work plan said).settled x) { out = [] })
  files_agreed = record {
    common = λ y comes. record {
      out = ([], refl);
      files = (common (chunks_work plan said) (chunks_lawful plan said some) x y).files;
    };
    longest = longest;
  } where
    longest : (place : ℕ) → HasNoMore (CanFollow said x) (beside_output (chunks_work plan said)) x
        (record ((chunks_work plan said).settled x) { out = [] }) place
    longest zero = let (y, z, comes, also, those) = files_longest plan.elide plan.chunks said x 0 some fits in
        (y, z, comes, also, λ front first second. beginning_short _ _ first)
    longest (suc place) = let whole = λ (w : List ℕ). whole_files plan said w some named in
        simp (whole, settled_files plan said x some named) (files_longest plan.elide plan.chunks said x place some fits)

  -- if standard output gets no lines, the files are all that is agreed on
  pub chunks_agreed : plan.filing.verbose ≡ false
      → AgreeAt (CanFollow said x) (chunks_work plan said) x ((chunks_work plan said).settled x)
  chunks_agreed quiet = rw quiet (rw quiet at files_agreed)

piece_made : (place : ℕ) (chunks : Chunks) (said : Option ℕ) (x : List ℕ)
    → length (get_or (files_by false (decided chunks 1 said x)) place [])
    ≤ length (get_or (pieces_in (decided chunks (max place 1) said x)) place [])
piece_made zero chunks None x = grind arith
piece_made (suc place) chunks None x = grind arith
piece_made place chunks (Some size) x = grind (arith, same_pieces)

pub chunk_agreed : (place : ℕ) (chunks : Chunks) (said : Option ℕ) (x : List ℕ) → place < chunks.count
    → is_longer said x ≡ false
    → AgreeAt (CanFollow said x) (chunk_work place chunks said) x ((chunk_work place chunks said).settled x)
chunk_agreed place chunks said x within fits = record {
  common = λ y comes. common _ (chunk_lawful _ _ _ within) x y;
  longest = longest;
} where
  those : AreFiles false chunks said x place
  those = files_longest false chunks said x place (omega arith) fits

  longest : (at : ℕ)
      → HasNoMore (CanFollow said x) (chunk_work place chunks said) x ((chunk_work place chunks said).settled x) at
  longest zero = let (y, z, comes, also, longest) = those in
      let same = λ (w : List ℕ). let cut = in_the_end chunks said w in same_pieces cut.full cut.rest place in (
        y,
        z,
        comes,
        also,
        λ front first second. omega (arith, longest front (rw (same (x ++ y)) at first) (rw (same (x ++ z)) at second), piece_made),
      )
  longest (suc at) = let (y, z, comes, also, longest) = those in
      (y, z, comes, also, λ front first second. beginning_short _ _ first)
