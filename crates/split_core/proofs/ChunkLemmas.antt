-- Chunks of a whole text, and one of them alone.
use Rattle.std.{
  proofs.{
    lemmas.{
      Grind.common_steps,
      List.{drop-take, length-append, length-drop, length-take, take_all, take-append-drop},
      List.FromFn.{get_or-map-range_with_len, length-map-range_with_len, take-map-range_with_len},
    },
    Common.{◌≡◌, ℕ, ◌+◌, ◌-◌, ◌<◌, ◌≤◌, zero, suc, true, false, List, [], ◌∷◌, ◌++◌, length, take, drop, map},
    Common.{get_or, Option, refl, ◌∙◌, arith},
  },
  specs.List.{flat_map, range_with_len},
}
use Rattle.seg_core.{
  specs.Line.{joined, lines_of, line_count, first_lines, after_lines, delimiters},
  specs.declared.{cut.{Chunks.Chunks, Cut.TheVariants.Round}, unit.Unit.TheVariants.{Bytes, Lines}},
  proofs.{
    FirstLines.{after_lines-is_drop, delimiters-first_lines, first_lines-full, first_lines-short},
    FirstLines.{first_lines_then_rest, lines_of-after_lines, lines_of-first_lines},
    LineCounts.line_count-le-length,
  },
}
use Rattle.engine_core.specs.{Agreed.file_bytes, Draft.part_of}
use Rattle.ports_core.specs.declared.slot.State.TheVariants.{Closed}
use Rattle.split_core.{
  specs.{
    Chunks.{before_chunk, begun_before, chunk_at, chunk_start, chunks_in, chunks_of},
    Chunks.{in_the_end, is_as_said, open_from, pieces_in, size_by},
    ChunkEnds.{IfNamed, WritesFile},
    ChunkWork.{ChunksPlan, chunk_work, files_by},
    Split.{Filing, are_named, manner_of, share},
    Parts.unless_empty,
    laws.BegunLaws.{begun_lines, begun_long, begun_some, begun_stays, begun_within},
    laws.ChunkLaws.{map_chunks, cut_all, ended_is, joined_chunks, rest_none},
  },
  proofs.{AgreedLemmas.{each_named, shared_bytes}, RoundLemmas.named_fewer},
}
use Rattle.seg_core.specs.declared.cut.Way.TheVariants as way
use Rattle.split_core.specs.Chunks.{AreEven, BeginInChunks, KeepLines}
use Rattle.std.proofs.lemmas.Bool.Decides.{nat_tests}

-- Of bytes

drop_take : (k n : ℕ) (x : List ℕ) → k ≤ n → k ≤ length x
    → drop (length (take k x)) (take n x) ≡ take (n - k) (drop k x)
drop_take k n x within fits = grind (arith, common_steps, drop-take k (n - k) x)

-- Of lines

-- a text's lines are those that begin before a place, and those that begin after it
lines_between : (delim : ℕ) (x : List ℕ) (place other : ℕ) → place ≤ other
    → let front = begun_before Lines delim place x in let whole = begun_before Lines delim other x in
    lines_of delim front ++ lines_of delim (drop (length front) whole) ≡ lines_of delim whole
lines_between delim x place other within = let whole = begun_before Lines delim other x in
    let (n, some, is) = begun_lines delim place other x within in
    rw (is, ← after_lines-is_drop delim n whole, lines_of-first_lines delim n whole, lines_of-after_lines delim n whole)
    (take-append-drop n (lines_of delim whole))

begins_within : (delim : ℕ) (x : List ℕ) (i : ℕ) → i < line_count delim x → length (first_lines delim i x) < length x
begins_within delim x i within = grind (
  arith,
  length-append,
  line_count-le-length delim (after_lines delim i x),
  lines_of-after_lines,
  length-drop,
  first_lines_then_rest delim i x,
)

-- a line that begins before a place stands in what begins before it, and no other
line_before : (delim : ℕ) (x : List ℕ) (place i : ℕ) → i < line_count delim x → length (first_lines delim i x) < place
    → length (first_lines delim i x) < length (begun_before Lines delim place x)
line_before delim x zero i within before = absurd (omega arith)
line_before delim x (suc q) i within before = grind (
  arith,
  length-append,
  length-take,
  length-drop,
  begins_within,
  begun_some Lines delim 1 (drop q x) (omega arith),
)

line_after : (delim : ℕ) (x : List ℕ) (place i : ℕ) → place ≤ length (first_lines delim i x)
    → length (begun_before Lines delim place x) ≤ length (first_lines delim i x)
line_after delim x place i past = let first = first_lines delim i x in let rest = after_lines delim i x in
    let whole : i ≤ delimiters delim x → open_from Lines delim first ≡ length first =
    λ few. grind (
      arith,
      common_steps,
      delimiters-first_lines,
      first_lines-full delim i first rest,
      first_lines_then_rest delim i x,
    ) in
    grind (
      arith,
      first_lines-short,
      begun_within Lines delim place,
      whole,
      begun_stays Lines delim place first rest,
      first_lines_then_rest delim i x,
    )

-- Chunks of a whole text

module _ (chunks : Chunks) (x : List ℕ) where
  abbrev start : ℕ → ℕ
  start = chunk_start chunks.count (length x)

  chunks_in_are : 0 < chunks.count
      → chunks_in chunks x ≡ map (chunk_at chunks (length x) x) (range_with_len 0 chunks.count)
  chunks_in_are some = grind (arith, cut_all, take_all)

  pub count_chunks : 0 < chunks.count → length (chunks_in chunks x) ≡ chunks.count
  count_chunks some = grind (arith, common_steps, chunks_in_are, length-map-range_with_len)

  pub join_first : (place : ℕ) → 0 < chunks.count → place ≤ chunks.count
      → joined (take place (chunks_in chunks x)) ≡ before_chunk chunks (length x) place x
  join_first place some within = grind (arith, chunks_in_are, take-map-range_with_len, joined_chunks)

  pub join_chunks : 0 < chunks.count → joined (chunks_in chunks x) ≡ x
  join_chunks some = grind (arith, common_steps, chunks_in_are, joined_chunks, begun_long)

  -- chunks of bytes
  pub bytes_in_chunk : (place : ℕ) → place < chunks.count → chunks.unit ≡ Bytes
      → get_or (chunks_in chunks x) place [] ≡ take (start (place + 1) - start place) (drop (start place) x)
  bytes_in_chunk place within is = grind (arith, common_steps, chunks_in_are, get_or-map-range_with_len, drop_take)

  chunk_length : (place : ℕ) → place < chunks.count → chunks.unit ≡ Bytes
      → length (get_or (chunks_in chunks x) place []) ≡ start (place + 1) - start place
  chunk_length place within is = grind (arith, common_steps, bytes_in_chunk)

  pub even_chunks : chunks.unit ≡ Bytes → AreEven chunks.count x (chunks_in chunks x)
  even_chunks is place within = grind (arith, nat_tests, chunk_length)

  -- chunks of lines cut no line
  pub lines_in_chunks : 0 < chunks.count → chunks.unit ≡ Lines → KeepLines chunks.delim x (chunks_in chunks x)
  lines_in_chunks some is = grind (arith, common_steps, chunks_in_are, begun_long, map_chunks, lines_between)

  -- a line goes with the chunk in which its first byte is
  pub begin_in_chunks : chunks.unit ≡ Lines → BeginInChunks chunks.delim chunks.count x (chunks_in chunks x)
  begin_in_chunks is place i within less (from, to) = grind (arith, join_first, line_after, line_before)

-- One chunk alone

pub few_files : (chunks : Chunks) (size : ℕ) (x : List ℕ) → 0 < chunks.count
    → length (files_by false (chunks_of chunks size x)) ≤ chunks.count
few_files chunks size x some = grind (arith, common_steps, ended_is, length-map-range_with_len)

-- if all files have names, they have these bytes
pub bytes_filed : (filing : Filing) (count : ℕ) (those : List (List ℕ)) → are_named filing.names count ≡ true
    → length those ≤ count → file_bytes (part_of (manner_of filing) (map (share Closed) those)) ≡ those
bytes_filed filing count those named few = shared_bytes filing Closed those
    ∙ each_named filing.names those (named_fewer filing.names (length those) count named few)

pub same_pieces : (front : List (List ℕ)) (last : List ℕ) (place : ℕ)
    → get_or (front ++ last ∷ []) place [] ≡ get_or (front ++ unless_empty last) place []
same_pieces [] [] place = grind (arith, common_steps)
same_pieces [] (byte ∷ last) place = refl
same_pieces (piece ∷ front) last zero = refl
same_pieces (piece ∷ front) last (suc place) = same_pieces front last place

pub chunk_alone : (plan : ChunksPlan) (place : ℕ)
    → IfNamed plan (WritesFile place plan.filing (way.Chunk place plan.chunks) (way.Chunks plan.chunks))
chunk_alone plan place some named said x = grind (arith, same_pieces, bytes_filed, few_files)

pub turn_alone : (count delim : ℕ) (filing : Filing) (place : ℕ) → place < count → are_named filing.names count ≡ true
    → WritesFile place filing (way.Turn place count delim) (way.Cut (Round count delim))
turn_alone count delim filing place within named said x =
    grind (arith, get_or-map-range_with_len, bytes_filed, length-map-range_with_len)

pub all_pieces : (pieces : List (List ℕ)) (done : ℕ) (all : List (List ℕ))
    → ((i : ℕ) → get_or all (done + i) [] ≡ get_or pieces i [])
    → flat_map (λ place. get_or all place []) (range_with_len done (length pieces)) ≡ joined pieces
all_pieces [] done all same = refl
all_pieces (piece ∷ pieces) done all same =
    grind (arith, same 0, all_pieces pieces (done + 1) all (λ i. grind (arith, same (suc i))))

pub said_size : (said : Option ℕ) (x : List ℕ) → is_as_said said x ≡ true → size_by said x ≡ length x
said_size said x is = grind (arith, common_steps)

pub chunks_together : (chunks : Chunks) (said : Option ℕ) (x : List ℕ) → 0 < chunks.count → is_as_said said x ≡ true
    → flat_map (λ place. ((chunk_work place chunks said).whole x).out) (range_with_len 0 chunks.count) ≡ x
chunks_together chunks said x some is =
    grind (arith, count_chunks, all_pieces _ 0 (pieces_in (in_the_end chunks said x)) same, join_chunks) where
      same : (i : ℕ) → get_or (pieces_in (in_the_end chunks said x)) (0 + i) [] ≡ get_or (chunks_in chunks x) i []
      same i = grind (arith, common_steps, rest_none)
