-- Lemmas on what `split` leaves of its input, whether or not it has the length that it showed; and on the order of
-- names.
use Rattle.std.proofs.{
  lemmas.Grind.common_steps,
  lemmas.Bool.{cases_lt, cond_both},
  lemmas.List.{get_or_append_left, length-map, length-take, length-take-le, length-drop, get_or-take, get_or_past},
  lemmas.List.{take-append-drop, take-append-le, take_all},
  lemmas.List.FromFn.{get_or-map-range_with_len, length-map-range_with_len},
  lemmas.List.Elements.All-map,
  lemmas.Nat.mod_below,
  Common.{◌≡◌, ℕ, ◌+◌, ◌-◌, ◌/◌, ◌%◌, ◌<◌, ◌≤◌, zero, suc, List, [], ◌∷◌, ◌++◌, length, inl, inr, refl},
  Common.{sym, ◌∙◌, ap, arith, append_assoc, length-append, Less, nat_cmp, append-nil, div-add-mod', rules, ◌*◌, min},
  Common.{Bool, true, false, IsTrue, not, cond, map, take, drop, subst, filter, get_or, Some, None, All, suc-mul},
  Common.is_some,
  Math.Seq.{drop-append_seam, take-append-add},
}
use Rattle.std.specs.{Cmp.Lexicographic.slice_cmp, List.{flat_map, range_with_len}, Prelude.{Option}}
use Rattle.ports_core.specs.{
  Name.{IsWide, keeps_order, name_at},
  declared.verdict.Verdict.{Verdict, TheVariants.{Changed, Suffixes}},
  Source.Content,
  declared.slot.{Mode.TheVariants.Fresh, State.TheVariants.Closed},
  declared.calling.Calling.TheVariants.Cutters,
  Slot.Slot,
}
use Rattle.engine_core.specs.{
  Work.Work,
  Draft.{Manner, file_at, files_from, part_of, told_of_files},
  Written.{Written, only_out},
}
use Rattle.ports_core.proofs.OrderLemmas.{in_order}
use Rattle.promises_core.{
  specs.Promises.{AreInOrder, Splits, makes_files, text_at, Does, HasInput, AreListed, ArePieces, AreLinePieces},
  specs.Promises.{AreUncut, AreDealt, EndsLine, IsFilled, IsSound, contents_of, SplitsOther, IsChunkAsShown},
  specs.Promises.{IsCutAsShown, TellsMet, files_of, lines_telling, output_of, removes_files},
  proofs.{
    BeginLemmas.all_have_names,
    LeftLemmas.{Fits, IsLeft, LeftBy, completes_left, each_made, left_says, makes_task, slots_of},
    PromiseLemmas.{DidOne, IsMade, did_one, one_made},
  },
}
use Rattle.tools_core.{
  specs.Tasks.{filing_of, names_of, naming_of, speaker_of, split_task},
  proofs.RunLemmas.by_words,
}
use Rattle.seg_core.specs.{
  Line.{joined, lines_of, line_count, delimiters, ends_with, first_lines, after_lines},
  declared.{cut.{Chunks.Chunks, Way.Way}, unit.Unit.TheVariants.{Lines}},
}
use Rattle.seg_core.proofs.{
  Delimiters.{delimiters-append, delimiters-le-length},
  LastLines.first_lines-whole,
  LinesOf.joined-lines_of,
  FirstLines.{delimiters-first_lines, first_lines-append, first_lines-full, first_lines-more, first_lines-short},
  FirstLines.{length-first_lines-le, lines_of-first_lines, lines_of-after_lines},
  LineCounts.{line_count-open, line_count_near},
}
use Rattle.run_core.specs.{
  Input.{Input, inputs_at},
  Task.{Outcome, Task, after_part, joined as both_made, made_by, no_outcome, of_content, verdict_messages},
}
use Rattle.split_core.specs.{
  Chunks.{chunks_in, has_ended, in_the_end, size_by},
  ChunkWork.{ChunksPlan, HasAllNames, chunk_work, chunks_work, files_by, kept, piece_at, way_work},
  laws.{ChunkLaws.{rest_none}, DealLaws.share_none, ChunkWorkLaws.length-kept},
  Parts.{parts, round_robin, whole_lines},
  Sections.AreLineByteParts,
  inner.{CutLaws.named, Dealt.share_of},
  Split.{Filing, manner_of, output_by, Share, share, are_named, has_bytes, dealt_files, pieces_of},
}
use Rattle.split_core.proofs.{
  ChunkLemmas.{count_chunks, lines_in_chunks},
  CutLaws.{first_then_after, bytes_of_shares},
  AgreedLemmas.{bytes_named, each_named},
  RoundLemmas.{joined_files, named_fewer, named_at},
  SectionLemmas.{line_at, all_dealt, first_files, joined_parts, part_lines, part_bytes, lines_count, bytes_count},
  SectionLemmas.{line_bytes_are_parts, line_bytes_once, line_bytes_within},
  ChunkAgreedLemmas.{whole_files},
  ChunkMadeLemmas.{changed_all, changed_alone, changed_told},
}
use Rattle.words_core.specs.{
  declared.settings.Settings.TheVariants.Split,
  SplitWords.{SplitAsked, AreNamed as HasNumbers, CanSplit, IsInLimits},
}
use Rattle.seg_core.specs.declared.cut.Way.TheVariants as way
use Rattle.seg_core.specs.declared.cut.Limit.TheVariants as limit
use Rattle.split_core.specs.Sections as piece
use Rattle.split_core.specs.laws.LimitLaws.{whole_of_lines, whole_of_none}
use Rattle.split_core.specs.Chunks.{KeepLines}
use Rattle.tools_core.specs.Run.{Run}

by_places : (names : List (List ℕ))
    → ((k : ℕ) → k + 1 < length names → slice_cmp nat_cmp (text_at names k) (text_at names (suc k)) ≡ Less)
    → AreInOrder names
by_places (name ∷ next ∷ names) each = (each 0 (omega arith), by_places (next ∷ names) (λ k within. each (suc k) (omega (arith, within))))
by_places names each = tt

-- files that are named by their places are in order, if these names are
pub order_by : (name : ℕ → List ℕ) (files : List Slot)
    → ((place : ℕ) → place < length files → text_at (map (λ (file : Slot). file.name) files) place ≡ name place)
    → ((k : ℕ) → suc k < length files → slice_cmp nat_cmp (name k) (name (suc k)) ≡ Less)
    → AreInOrder (map (λ (file : Slot). file.name) files)
order_by name files named less = grind (arith, common_steps, by_places, length-map)

-- The pieces, and their files.

-- if no verdict says that names ran out, there are enough names
pub not_short : (has : Bool) → cond (not has) (Some Suffixes) None ≡ None → has ≡ true
not_short true well = refl
not_short false well = absurd (cc)

all_named : (filing : Filing) {pieces : List (List ℕ)}
    → are_named filing.names (length (map (share Closed) pieces)) ≡ true
    → map (λ (file : Slot). file.written) (named filing 0 (map (share Closed) pieces)) ≡ pieces
all_named filing {pieces} are = rw (
  bytes_named filing 0 (map (share Closed) pieces),
  bytes_of_shares Closed pieces,
  each_named filing.names pieces (ap (are_named filing.names) (sym (length-map pieces (share Closed))) ∙ are),
)

-- The names of the files.

-- the files have the names of the numbers from `start` on
abbrev pub AreNamed : (ℕ → List ℕ) → ℕ → List Slot → Type 0
AreNamed name start files = (k : ℕ) → k < length files
    → text_at (map (λ (file : Slot). file.name) files) k ≡ name (start + k)

named_step : (name : ℕ → List ℕ) (start : ℕ) (file : Slot) (made : List Slot) → file.name ≡ name start
    → AreNamed name (start + 1) made → AreNamed name start (file ∷ made)
named_step name start file made is are zero within = search rules
named_step name start file made is are (suc k) within = are k (omega (arith, within)) ∙ ap name (omega arith)

named_from : (manner : Manner) (start : ℕ) (shares : List Share)
    → AreNamed manner.name start (files_from manner start shares)
named_from manner start [] k within = absurd (omega (arith, within))
named_from manner start (one ∷ shares) k within = cond_both (manner.has_name start) _ _ (AreNamed manner.name start)
    (λ has. named_step manner.name start (file_at manner start one) (files_from manner (start + 1) shares) refl
    (named_from manner (start + 1) shares))
    (λ lacks k within. absurd (omega (arith, within))) k within

-- the files are named by their places, and are sound
pub record AreMade (manner : Manner) (files : List Slot) : Type 0 where
  pub named : (place : ℕ) → place < length files
      → text_at (map (λ (file : Slot). file.name) files) place ≡ manner.name place
  pub sound : All (IsSound Fresh) files

pub are_made : (manner : Manner) (shares : List Share) → All (λ (one : Share). one.state ≡ Closed) shares
    → AreMade manner (files_from manner 0 shares)
are_made manner shares ended = record {
  named = λ place within. named_from manner 0 shares place within ∙ ap manner.name (omega arith);
  sound = each_made (IsSound Fresh) manner 0 shares (λ k one within place. (refl, ended k one within, refl));
}

-- The lines about files on standard output.

told_lines : (verbose : Bool) (files : List Slot)
    → told_of_files (output_by verbose) files ≡ cond verbose (lines_telling files) []
told_lines false files = refl
told_lines true [] = refl
told_lines true (file ∷ files) = rw (told_lines true files)

-- What a run leaves.

-- what each file has
abbrev pub pieces_by : Way → Bool → List ℕ → List (List ℕ)
pieces_by (way.Cut cut) elide x = pieces_of cut elide x
pieces_by (way.Chunks chunks) elide x = kept elide (chunks_in chunks x)
pieces_by way elide x = []

-- what standard output has if it gets what one file would have
abbrev pub alone_by : Way → List ℕ → List ℕ
alone_by (way.Chunk place chunks) x = get_or (chunks_in chunks x) place []
alone_by (way.Turn place n delim) x = share_of delim n x place
alone_by way x = []

-- at the end a text is cut up into its chunks, and nothing is left
ends_cut : (chunks : Chunks) (said : Option ℕ) (x : List ℕ) → 0 < chunks.count → size_by said x ≡ length x
    → in_the_end chunks said x ≡ record { full = chunks_in chunks x; rest = [] }
ends_cut chunks said x some long = rw (long, rest_none chunks (length x) x some (omega arith))

-- what the work makes of the whole text
module _ (asked : SplitAsked) (x : List ℕ) where
  whole_is : (way : Way) → IsInLimits way → makes_files way ≡ true
      → (way_work way asked.elide (filing_of asked) None).whole x
      ≡ part_of (manner_of (filing_of asked)) (map (share Closed) (pieces_by way asked.elide x))
  whole_is (way.Cut cut) limits makes = refl
  whole_is (way.Chunks chunks) limits makes =
      ap (λ cut. part_of (manner_of (filing_of asked)) (map (share Closed) (files_by asked.elide cut)))
      (ends_cut chunks None x limits.0 refl) ∙ rw append-nil
  whole_is way limits makes = absurd (cc)

  alone_is : (way : Way) → IsInLimits way → makes_files way ≡ false
      → (way_work way asked.elide (filing_of asked) None).whole x ≡ only_out (alone_by way x)
  alone_is (way.Chunk place chunks) limits makes =
      ap (piece_at place) (ends_cut chunks None x limits.0.0 refl)
      ∙ ap only_out (get_or_append_left (chunks_in chunks x) ([] ∷ []) [] place (omega (arith, limits.1, count_chunks chunks x limits.0.0)))
  alone_is (way.Turn place n delim) limits makes = refl
  alone_is way limits makes = absurd (cc)

  -- each piece has a name
  named_all : (way : Way) → IsInLimits way → HasNumbers way asked.alphabet asked.from asked.width
      → ((way_work way asked.elide (filing_of asked) None).verdict x ≡ None)
      → are_named (naming_of asked) (length (map (share Closed) (pieces_by way asked.elide x))) ≡ true
  named_all (way.Cut cut) limits named none = not_short _ none
  named_all (way.Chunks chunks) limits named none =
      named_fewer (naming_of asked) _ chunks.count (all_have_names (record asked { way = way.Chunks chunks }) named)
      (omega (
        arith,
        length-map (kept asked.elide (chunks_in chunks x)) (share Closed),
        length-kept asked.elide
            (chunks_in chunks x),
        count_chunks chunks x limits.0,
      ))
  named_all way limits named none = refl

pub record IsSplit (run : Run) (asked : SplitAsked) (input : List ℕ) : Type 0 where
  pub can : CanSplit asked
  pub listed : AreListed asked (files_of run)
  pub contents : contents_of run ≡ pieces_by asked.way asked.elide input
  pub told : makes_files asked.way ≡ true → output_of run ≡ cond asked.verbose (lines_telling (files_of run)) []
  pub none : makes_files asked.way ≡ false → files_of run ≡ []
  pub alone : makes_files asked.way ≡ false → output_of run ≡ alone_by asked.way input

none_listed : (asked : SplitAsked) → AreListed asked []
none_listed asked = grind (arith, common_steps, in_order)

no_pieces : (way : Way) (elide : Bool) (x : List ℕ) → makes_files way ≡ false → pieces_by way elide x ≡ []
no_pieces (way.Chunk place chunks) elide x makes = refl
no_pieces (way.Turn place n delim) elide x makes = refl
no_pieces way elide x makes = absurd (cc)

pub is_split : {run : Run} {asked : SplitAsked} {input : List ℕ} → Does run (Split asked) → HasInput run input
    → IsSplit run asked input
is_split {run} {asked} {input} does has = by (makes_files asked.way) refl where
  one : DidOne run (Split asked) input
  one = did_one does has

  made : IsMade (split_task Cutters asked) one.input.name input run.outputs
  made = one_made one (split_task Cutters asked) refl

  can : CanSplit asked
  can = (by_words run.calling run.words does.ran.read).1

  by : (makes : Bool) → makes_files asked.way ≡ makes → IsSplit run asked input
  by true makes =
      let filing = filing_of asked in
      let pieces = pieces_by asked.way asked.elide input in
      let shares = map (share Closed) pieces in
      let left : run.outputs ≡ slots_of (after_part (only_out []) (part_of (manner_of filing) shares)) = made.slots
      ∙ rw (whole_is asked input asked.way can.way makes) in
      let are = named_all asked input asked.way can.way can.named made.unjudged in
      let files : files_of run ≡ named filing 0 shares = ap (drop 2) left in
      let slots = named filing 0 shares in
      let count : length slots ≡ length shares = sym (length-map slots (λ (file : Slot). file.written)) ∙ ap length
      (all_named filing are) ∙ sym (length-map pieces (share Closed)) in
      let ended = are_made (manner_of filing) shares (All-map (λ (one : Share). one.state ≡ Closed) (share Closed) pieces (λ k bytes within. refl)) in
      record {
        can = can;
        listed = rw files (record {
          named = ended.named;
          in_order = order_by (name_at (naming_of asked)) slots ended.named (λ k next.
              in_order (naming_of asked) k (suc k) (cond_both asked.auto _ _ IsWide (λ is. can.width.0) (λ is. tt)) (omega arith)
              (named_at (naming_of asked) _ (suc k) are (omega (arith, count, next)))
              (cond_both asked.auto _ _ (λ numbering. IsTrue (keeps_order numbering (suc k))) (λ is. refl) (λ is. refl)));
          sound = ended.sound;
        });
        contents = rw (files, all_named filing are);
        told = λ is. rw left (told_lines asked.verbose (named filing 0 shares));
        none = λ is. absurd (cc);
        alone = λ is. absurd (cc);
      }
  by false makes =
      let left = made.slots ∙ ap (λ whole. slots_of (after_part (only_out []) whole)) (alone_is asked input asked.way can.way makes) in
      let files : files_of run ≡ [] = ap (drop 2) left in
      record {
        can = can;
        listed = rw files (none_listed asked);
        contents = rw (files, no_pieces asked.way asked.elide input makes);
        told = λ is. absurd (cc);
        none = λ is. files;
        alone = λ is. rw left;
      }

-- Pieces of n lines or bytes.

up_to : (i count n : ℕ) → i < count → i * n + n ≤ count * n
up_to i count n less = grind (arith, common_steps)

-- this many runs of n members have all members, and one run less doesn't
abbrev AreFew : ℕ → ℕ → ℕ → Type 0
AreFew count n all = (all ≤ count * n) × (count * n < all + n)

run_size : {X : Type 0} (n i : ℕ) (xs : List X) → length (take n (drop (i * n) xs)) ≡ min n (length xs - i * n)
run_size n i xs = grind (arith, common_steps)

run_pieces : (size : List ℕ → ℕ) {n all : ℕ} {x : List ℕ} {pieces : List (List ℕ)} → 0 < n → joined pieces ≡ x
    → AreFew (length pieces) n all → ((i : ℕ) → size (text_at pieces i) ≡ min n (all - i * n))
    → ArePieces size n x pieces
run_pieces size {n} {pieces} some are few each = record {
  all = are;
  some = λ i within. grind (arith, common_steps, up_to);
  most = grind (arith, common_steps);
  full = λ i next. let there = up_to (suc i) (length pieces) n (omega (arith, next)) in let step : suc i * n
      ≡ i * n + n = suc-mul i n in let one = each i in omega (arith, one, there, step, few.1);
}

pub line_pieces : (delim : ℕ) {n : ℕ} {x : List ℕ} → 0 < n
    → ArePieces (line_count delim) n x (parts (limit.Lines n delim) x)
line_pieces delim {n} {x} some =
    run_pieces (line_count delim) some (joined_parts (limit.Lines n delim) x) (lines_count delim n x some)
    (λ i. rw (part_lines delim n i x some) (run_size n i (lines_of delim x)))

-- the first k lines of a text with k delimiters or more end with the delimiter
lines_end : (delim : ℕ) {k : ℕ} (bytes : List ℕ) (ends : Bool) → 0 < k → k ≤ delimiters delim bytes
    → ends_with delim (first_lines delim k bytes) ≡ ends → ends ≡ true
lines_end delim bytes true some enough is = refl
lines_end delim {k} bytes false some enough is =
    let all : delimiters delim (first_lines delim k bytes) ≡ k = delimiters-first_lines delim k bytes enough in
    let count : line_count delim (first_lines delim k bytes) ≡ min k (line_count delim bytes) =
    rw (lines_of-first_lines delim k bytes) (length-take k (lines_of delim bytes)) in
    let long : delimiters delim (first_lines delim k bytes) ≤ length (first_lines delim k bytes) =
    delimiters-le-length delim (first_lines delim k bytes) in
    let one_more : line_count delim (first_lines delim k bytes) ≡ delimiters delim (first_lines delim k bytes) + 1 =
    line_count-open delim (first_lines delim k bytes) (omega (arith, all, long, some)) is in
    absurd (omega (arith, all, count, one_more))

-- at the beginning of a run that isn't the last, more than n members are left
more_lines : {n : ℕ} (i : ℕ) {count : ℕ} (all : ℕ) → count * n < all + n → i + 1 < count → n < all - i * n
more_lines {n} i {count} all few next = grind (arith, common_steps)

line_part : (delim : ℕ) {n : ℕ} (i : ℕ) (x : List ℕ) → 0 < n
    → text_at (parts (limit.Lines n delim) x) i ≡ first_lines delim n (after_lines delim (i * n) x)
line_part delim {n} i x some = cc
    (joined-lines_of delim (text_at (parts (limit.Lines n delim) x) i), part_lines delim n i x some, lines_of-after_lines delim (i * n) x)

pub line_ends : (delim : ℕ) {n : ℕ} (x : List ℕ) → 0 < n → AreUncut delim (parts (limit.Lines n delim) x)
line_ends delim {n} x some i next =
    let rest = after_lines delim (i * n) x in
    let left : line_count delim rest ≡ line_count delim x - i * n =
    rw (lines_of-after_lines delim (i * n) x) (length-drop (i * n) (lines_of delim x)) in
    let near : line_count delim rest ≤ delimiters delim rest + 1 = (line_count_near delim rest).1 in
    let more = more_lines i (line_count delim x) (lines_count delim n x some).1 next in
    rw (line_part delim i x some) (lines_end delim rest _ some (omega (arith, left, near, more)) refl)

pub byte_pieces : {n : ℕ} {x : List ℕ} → 0 < n → ArePieces length n x (parts (limit.Bytes n) x)
byte_pieces {n} {x} some =
    run_pieces length some (joined_parts (limit.Bytes n) x) (bytes_count n x some)
    (λ i. rw (part_bytes n i x some) (run_size n i x))

-- Pieces of whole lines within n bytes.

ends_line : (delim : ℕ) {n : ℕ} (bytes : List ℕ) → length bytes ≡ n → EndsLine delim n (whole_lines delim bytes)
ends_line delim bytes long = grind (arith, common_steps, cases_lt, whole_of_lines, lines_end, whole_of_none)

uncut : (delim n : ℕ) (x : List ℕ) (pieces : List (List ℕ)) → AreLineByteParts delim n x pieces → (place : ℕ)
    → place + 1 < length pieces → EndsLine delim n (text_at pieces place)
uncut delim n _ _ (piece.more x pieces enough past) zero next = ends_line delim (take n x) (length-take-le n x enough)
uncut delim n _ _ (piece.more x pieces enough past) (suc place) next = uncut delim n _ pieces past place (omega (arith, next))
uncut delim n x pieces are place next = search rules

-- Each piece has as many lines as fit.

some_line : (delim : ℕ) (text : List ℕ) → 0 < length text → 0 < length (first_lines delim 1 text)
some_line delim [] some = search rules
some_line delim (byte ∷ text) some = grind (arith, common_steps)

-- the line after the complete lines of a front, with a delimiter after the rest
line_after : (delim : ℕ) (front rest : List ℕ) {k : ℕ} → k ≡ delimiters delim front
    → length (first_lines delim (k + 1) ((front ++ rest) ++ delim ∷ []))
    ≡ length front + length (first_lines delim 1 (rest ++ delim ∷ []))
line_after delim front rest {k} count =
    let one : k + 1 - delimiters delim front ≡ 1 = omega (arith, count) in
    rw (
      append_assoc front rest (delim ∷ []),
      first_lines-append delim (k + 1) front (rest ++ delim ∷ []),
      one,
      first_lines-short delim (k + 1) front (omega (arith, count)),
    )
    (length-append front (first_lines delim 1 (rest ++ delim ∷ [])))

line_past : (delim : ℕ) {n : ℕ} {x : List ℕ} (part rest : List ℕ) → n ≤ length x → x ≡ part ++ rest
    → delimiters delim part ≡ delimiters delim (take n x) → IsFilled delim n part rest
line_past delim {n} {x} part rest enough is same =
    let k = delimiters delim (take n x) in
    let both : length part + length (first_lines delim 1 (rest ++ delim ∷ [])) ≡ length (take n x) + length
    (first_lines delim 1 (drop n x ++ delim ∷ [])) =
    sym (line_after delim part rest (sym same)) ∙ rw
    (← is, ← line_after delim (take n x) (drop n x) refl, take-append-drop n x) in
    let long : length (take n x) ≡ n = length-take-le n x enough in
    let more : length (drop n x ++ delim ∷ []) ≡ length (drop n x) + 1 = length-append (drop n x) (delim ∷ []) in
    let some = some_line delim (drop n x ++ delim ∷ []) (omega (arith, more)) in
    omega (arith, both, long, some)

whole_count : (delim : ℕ) (text : List ℕ) → delimiters delim (whole_lines delim text) ≡ delimiters delim text
whole_count delim text = grind (arith, common_steps, cases_lt, whole_of_lines, delimiters-first_lines, whole_of_none)

same_line : (delim : ℕ) (next rest : List ℕ) → 0 < delimiters delim next
    → first_lines delim 1 ((next ++ rest) ++ delim ∷ []) ≡ first_lines delim 1 (next ++ delim ∷ [])
same_line delim next rest some = rw (
  append_assoc next rest (delim ∷ []),
  first_lines-full delim 1 next (rest ++ delim ∷ []) (omega (arith, some)),
  first_lines-full delim 1 next (delim ∷ []) (omega (arith, some)),
)

-- a part that has no room for the next line of the rest has no room for the first line of the next piece
filled_by : (delim : ℕ) {n : ℕ} (part rest : List ℕ) → n ≤ length rest → IsFilled delim n part rest
    → IsFilled delim n part (whole_lines delim (take n rest))
filled_by delim {n} part rest enough filled =
    let next = whole_lines delim (take n rest) in
    let count : delimiters delim next ≡ delimiters delim (take n rest) = whole_count delim (take n rest) in
    let whole : next ++ drop (length next) rest ≡ rest = first_then_after (limit.LineBytes n delim) rest in
    elim (cases_lt 0 (delimiters delim (take n rest))) [
      | inl lines ↦ grind (arith, common_steps, same_line)
      | inr few ↦
          let none : delimiters delim (take n rest) ≡ 0 = omega (arith, few) in
          let long : length next ≡ n = grind (arith, common_steps, whole_of_none) in
          let line : length (first_lines delim 1 (next ++ delim ∷ [])) ≡ length next + 1 =
          rw (first_lines-more delim 1 next delim (omega (arith, none, count))) (length-append next (delim ∷ [])) in
          omega (arith, line, long)
    ]

first_filled : {delim n : ℕ} (part : List ℕ) {rest : List ℕ} {pieces : List (List ℕ)}
    → AreLineByteParts delim n rest pieces → 0 < length pieces → IsFilled delim n part rest
    → IsFilled delim n part (text_at pieces 0)
first_filled part piece.none some filled = search rules
first_filled part (piece.one rest has short) some filled = filled
first_filled {delim} part (piece.more rest pieces enough past) some filled = filled_by delim part rest enough filled

each_filled : {delim n : ℕ} {x : List ℕ} {pieces : List (List ℕ)} → AreLineByteParts delim n x pieces → (place : ℕ)
    → place + 1 < length pieces → IsFilled delim n (text_at pieces place) (text_at pieces (suc place))
each_filled {delim} {n} (piece.more x pieces enough past) zero next =
    let first = whole_lines delim (take n x) in
    first_filled first past (omega (arith, next))
    (line_past delim first (drop (length first) x) enough (sym (first_then_after (limit.LineBytes n delim) x)) (whole_count delim (take n x)))
each_filled (piece.more x pieces enough past) (suc place) next = each_filled past place (omega (arith, next))
each_filled are place next = search rules

-- a piece that has complete lines and ends with an open line has room for the delimiter of this line
rooms : (delim n : ℕ) {x : List ℕ} {pieces : List (List ℕ)} → AreLineByteParts delim n x pieces → (place : ℕ)
    → place < length pieces → 0 < delimiters delim (text_at pieces place)
    → ends_with delim (text_at pieces place) ≡ false → length (text_at pieces place) < n
rooms delim n (piece.one x has short) zero within lines cut = short
rooms delim n (piece.more x pieces enough past) zero within lines cut = grind (arith, common_steps, ends_line)
rooms delim n (piece.more x pieces enough past) (suc place) within lines cut = rooms delim n past place (omega (arith, within)) lines cut
rooms delim n are place within lines cut = absurd (omega (arith, within))

pub line_byte_pieces : {delim n : ℕ} {x : List ℕ} → 0 < n → AreLinePieces delim n x (parts (limit.LineBytes n delim) x)
line_byte_pieces {delim} {n} {x} some =
    let are = line_bytes_are_parts delim n x some in
    let within = line_bytes_within delim n x (parts (limit.LineBytes n delim) x) some are in record {
      all = joined_parts (limit.LineBytes n delim) x;
      some = λ place less. (within place [] less).0;
      most = λ place less. (within place [] less).1;
      uncut = grind (arith, common_steps, uncut);
      filled = each_filled are;
      room = rooms delim n are;
    }

-- There is exactly one list of such pieces.

-- no delimiter stands before the end of the first line
before_end : (delim m : ℕ) (text : List ℕ) → m < length (first_lines delim 1 (text ++ delim ∷ []))
    → delimiters delim (take m text) ≡ 0
before_end delim m text less = elim (cases_lt 0 (delimiters delim (take m text))) [
  | inr none ↦ omega (arith, none)
  | inl some ↦
      let same = rw (← append_assoc (take m text) (drop m text) (delim ∷ []), take-append-drop m text) at
      (first_lines-full delim 1 (take m text) (drop m text ++ delim ∷ []) some) in
      let short : length (first_lines delim 1 (take m text)) ≤ length (take m text) = length-first_lines-le delim 1 (take m text) in
      absurd (omega (arith, less, ap length same, short, length-take m text))
]

-- a piece that is the whole lines of the first n bytes can stand before the pieces of the rest
piece_before : {delim n : ℕ} (one rest : List ℕ) {pieces : List (List ℕ)} → n ≤ length (one ++ rest)
    → whole_lines delim (take n (one ++ rest)) ≡ one → AreLineByteParts delim n rest pieces
    → AreLineByteParts delim n (one ++ rest) (one ∷ pieces)
piece_before {delim} {n} one rest {pieces} enough whole past = subst (λ part. AreLineByteParts delim n (one ++ rest) (part ∷ pieces)) whole
    (piece.more (one ++ rest) pieces enough (rw (whole, drop-append_seam one rest) past))

closed_some : (delim : ℕ) (text : List ℕ) → ends_with delim text ≡ true → 0 < delimiters delim text
closed_some delim [] ends = absurd (cc)
closed_some delim (byte ∷ []) ends = grind (arith, common_steps)
closed_some delim (byte ∷ next ∷ text) ends = grind (arith, common_steps, (closed_some delim (next ∷ text) ends))

whole_closed : (delim : ℕ) (text rest : List ℕ) → ends_with delim text ≡ true → delimiters delim rest ≡ 0
    → whole_lines delim (text ++ rest) ≡ text
whole_closed delim text rest ends none =
    let count : delimiters delim (text ++ rest) ≡ delimiters delim text =
    omega (arith, delimiters-append delim text rest, none) in
    whole_of_lines delim (text ++ rest) (omega (arith, count, closed_some delim text ends))
    ∙ first_lines-whole delim text rest (delimiters delim (text ++ rest)) ends count

last_piece : (delim n : ℕ) (one : List ℕ) → 0 < length one → length one ≤ n
    → (0 < delimiters delim one → ends_with delim one ≡ false → length one < n)
    → AreLineByteParts delim n (one ++ []) (one ∷ [])
last_piece delim n one some most room = elim (cases_lt (length one) n) [
  | inl short ↦ rw append-nil (piece.one one some short)
  | inr full ↦ piece_before one [] (omega (arith, full, length-append one []))
      (rw (take_all n (one ++ []) (omega (arith, most, length-append one [])), append-nil one)
      (whole (ends_with delim one) refl full)) piece.none
] where
  whole : (closed : Bool) → ends_with delim one ≡ closed → n ≤ length one → whole_lines delim one ≡ one
  whole true ends full = rw append-nil at (whole_closed delim one [] ends refl)
  whole false cut full = elim (cases_lt 0 (delimiters delim one)) [
    | inl lines ↦ absurd (omega (arith, room lines cut, full))
    | inr none ↦ whole_of_none delim one (omega (arith, none))
  ]

front_piece : (delim n : ℕ) (one next more : List ℕ) → length one ≤ n → EndsLine delim n one → IsFilled delim n one next
    → (n ≤ length (one ++ (next ++ more))) × (whole_lines delim (take n (one ++ (next ++ more))) ≡ one)
front_piece delim n one next more most (inr (long, none)) filled = grind (arith, common_steps, whole_of_none)
front_piece delim n one next more most (inl ends) filled =
    let m = n - length one in
    let long : length (first_lines delim 1 (next ++ delim ∷ [])) ≤ length next + 1 =
    (let all : length (next ++ delim ∷ []) ≡ length next + 1 = length-append next (delim ∷ []) in omega
    (arith, all, length-first_lines-le delim 1 (next ++ delim ∷ []))) in
    let few : m ≤ length next = omega (arith, filled, long) in
    let front : take n (one ++ (next ++ more)) ≡ one ++ take m next =
    ap (λ k. take k (one ++ (next ++ more))) (let e : n ≡ length one + m = omega (arith, most) in e)
    ∙ take-append-add one (next ++ more) m ∙ ap (λ those. one ++ those) (take-append-le m next more few) in (
      omega (arith, few, most, length-append one (next ++ more), length-append next more),
      grind (arith, common_steps, whole_closed, before_end),
    )

later_pieces : {delim n : ℕ} {x one : List ℕ} {pieces : List (List ℕ)} → AreLinePieces delim n x (one ∷ pieces)
    → AreLinePieces delim n (joined pieces) pieces
later_pieces are = record {
  all = refl;
  some = λ place within. are.some (suc place) (omega (arith, within));
  most = λ place within. are.most (suc place) (omega (arith, within));
  uncut = λ place within. are.uncut (suc place) (omega (arith, within));
  filled = grind (arith, common_steps);
  room = λ place within. are.room (suc place) (omega (arith, within));
}

pieces_are_parts : (delim n : ℕ) (pieces : List (List ℕ)) {x : List ℕ} → AreLinePieces delim n x pieces
    → AreLineByteParts delim n (joined pieces) pieces
pieces_are_parts delim n [] are = piece.none
pieces_are_parts delim n (one ∷ []) are = last_piece delim n one (are.some 0 (omega arith)) (are.most 0 (omega arith)) (are.room 0 (omega arith))
pieces_are_parts delim n (one ∷ next ∷ pieces) are =
    let front = front_piece delim n one next (joined pieces) (are.most 0 (omega arith)) (are.uncut 0 (omega arith)) (are.filled 0 (omega arith)) in
    piece_before one (next ++ joined pieces) front.0 front.1 (pieces_are_parts delim n (next ∷ pieces) (later_pieces are))

pub one_line_list : (delim n : ℕ) (input : List ℕ) (some other : List (List ℕ)) → 0 < n
    → AreLinePieces delim n input some → AreLinePieces delim n input other → some ≡ other
one_line_list delim n input some other positive these those =
    line_bytes_once positive (rw these.all at (pieces_are_parts delim n some these))
    (rw those.all at (pieces_are_parts delim n other those))

-- Lines dealt in turn.

-- a file that is left out has no line
dealt_at : (delim : ℕ) {n : ℕ} (elide : Bool) (x : List ℕ) {file : ℕ} → file < n
    → text_at (dealt_files delim elide n x) file ≡ text_at (round_robin delim n x) file
dealt_at delim false x within = refl
dealt_at delim {n} true x {file} within = grind
    (arith, common_steps, first_files, cases_lt, get_or-take, length-take, get_or_past, get_or-map-range_with_len, share_none)

all_some : (files : List (List ℕ)) → All (λ bytes. 0 < length bytes) (filter has_bytes files)
all_some [] = search rules
all_some ([] ∷ files) = all_some files
all_some ((byte ∷ bytes) ∷ files) = grind (arith, common_steps, (all_some files))

pub dealt_lines : {delim n : ℕ} {elide : Bool} {x : List ℕ} → 0 < n
    → AreDealt delim n elide x (dealt_files delim elide n x)
dealt_lines {delim} {n} {elide} {x} some = record {
  lines = λ i. let place : i % n + i / n * n ≡ i = omega (arith, div-add-mod' i n) in
      rw (dealt_at delim elide x (mod_below i n some), line_at delim n (i % n) (i / n) x (mod_below i n some), place);
  all = rw (joined_files delim elide n x) (all_dealt delim n x some);
  count = λ is. rw is (length-map-range_with_len (share_of delim n x) 0 n);
  left_out = λ is. rw is (all_some (round_robin delim n x));
}

-- Chunks.

-- empty files have no lines
pub whole_line_files : (chunks : Chunks) (elide : Bool) (x : List ℕ) → 0 < chunks.count → chunks.unit ≡ Lines
    → KeepLines chunks.delim x (kept elide (chunks_in chunks x))
whole_line_files chunks elide x some unit = lines_kept elide (chunks_in chunks x) ∙ lines_in_chunks chunks x some unit where
  lines_kept : (elide : Bool) (pieces : List (List ℕ))
      → flat_map (lines_of chunks.delim) (kept elide pieces) ≡ flat_map (lines_of chunks.delim) pieces
  lines_kept false pieces = refl
  lines_kept true [] = refl
  lines_kept true ([] ∷ pieces) = lines_kept true pieces
  lines_kept true ((byte ∷ bytes) ∷ pieces) = rw (lines_kept true pieces)

-- Files by the way to split.

-- what is true of the pieces of a way within its limits is true of the files
pub by_way : {run : Run} {asked : SplitAsked} {way : Way} {input : List ℕ} (P : List (List ℕ) → Type 0)
    → (IsInLimits way → P (pieces_by way asked.elide input)) → Does run (Split asked) → HasInput run input
    → asked.way ≡ way → P (contents_of run)
by_way {asked} {way} {input} P holds does has is =
    let split = is_split does has in
    rw (split.contents, is) (holds (rw is at split.can.way))

-- what a run wrote that writes to standard output alone
pub wrote_alone : {run : Run} {asked : SplitAsked} {way : Way} {input : List ℕ} → Splits run asked way input
    → makes_files way ≡ false → output_of run ≡ alone_by way input
wrote_alone {input = input} splits makes =
    rw splits.is at ((is_split splits.does splits.has).alone (rw splits.is makes))

-- One file alone.

module _ {one : Run} {asked : SplitAsked} {place n delim : ℕ} {input : List ℕ}
    (splits : Splits one asked (way.Turn place n delim) input) where
  can_turn : IsInLimits (way.Turn place n delim)
  can_turn = rw splits.is at (is_split splits.does splits.has).can.way

  -- what one file would have is what it has if all files are written
  pub turn_is : output_of one ≡ text_at (round_robin delim n input) place
  turn_is = wrote_alone splits refl
      ∙ sym (get_or-map-range_with_len (share_of delim n input) 0 n place place [] can_turn.1 (omega arith))

  pub turn_lines : (k : ℕ) → text_at (lines_of delim (output_of one)) k ≡ text_at (lines_of delim input) (place + k * n)
  turn_lines k = rw turn_is (line_at delim n place k input can_turn.1)

pub flat_alike : (f g : ℕ → List ℕ) (start n : ℕ) → ((place : ℕ) → place < start + n → f place ≡ g place)
    → flat_map f (range_with_len start n) ≡ flat_map g (range_with_len start n)
flat_alike f g start zero same = refl
flat_alike f g start (suc n) same =
    rw (same start (omega arith), flat_alike f g (start + 1) n (λ place within. same place (omega (arith, within))))

-- An input that gives fewer or more bytes than it showed.

-- what is made of an input that ends, if its work has this whole and this verdict
abbrev made_at : Task → List ℕ → Written → Option Verdict → Outcome
made_at task name whole verdict = record {
  part = whole;
  messages = verdict_messages task name verdict;
  failed = is_some verdict;
  sweeps = false;
}

-- one input without a header makes this outcome, if files stay
judged_made : (task : Task) (work : Work) (name : List ℕ) (content : Content) (verdict : Option Verdict)
    → content.breaks_off ≡ false → work.verdict content.bytes ≡ verdict → work.clears ≡ false → task.with_header ≡ false
    → both_made (of_content task work true name (Some content)) no_outcome
    ≡ made_at task name (work.whole content.bytes) verdict
judged_made task work name content None ends judged stay bare = grind (arith, common_steps)
judged_made task work name content (Some verdict) ends judged stay bare = grind (arith, common_steps)

module _ {split : Run} {asked : SplitAsked} {how : Way} {input : Input} {shown bytes : List ℕ}
    (splits : SplitsOther split asked how input shown bytes) where
  abbrev task : Task
  task = split_task Cutters asked

  -- the run left this outcome, and each of its lines reports what it met
  abbrev LeftSo : Outcome → Type 0
  LeftSo made = Fits (TellsMet split (Split asked)) (removes_files (Split asked)) made
      × IsLeft (speaker_of split.calling (Split asked)) made split.outputs split.status

  -- the run left what its work makes of the bytes that came
  left_so : (work : Work) (verdict : Option Verdict)
      → way_work asked.way asked.elide (filing_of asked) (Some (length shown)) ≡ work → work.clears ≡ false
      → work.verdict bytes ≡ verdict → LeftSo (made_at task input.name (work.whole bytes) verdict)
  left_so work verdict is stay judged = subst LeftSo made (all.fits, all.left) where
    all : LeftBy split (Split asked)
    all = completes_left splits.whole

    content : Content
    content = record { bytes = bytes; breaks_off = false; shown = Some shown }

    only : inputs_at split.world (names_of (Split asked)) ≡ input ∷ []
    only = rw splits.whole.read at splits.only

    made : all.made ≡ made_at task input.name (work.whole bytes) verdict
    made = makes_task (Split asked) task (inputs_at split.world (names_of (Split asked))) refl all.of ∙ ap
        (made_by task) only ∙ rw (splits.showed, splits.gave, is)
        (judged_made task work input.name content verdict refl judged stay refl)

  -- the work is that of the way that was asked for
  way_is : {way : Way} → asked.way ≡ way → way_work asked.way asked.elide (filing_of asked) (Some (length shown))
      ≡ way_work way asked.elide (filing_of asked) (Some (length shown))
  way_is is = rw is

  pub cut_as_shown : {chunks : Chunks} → asked.way ≡ way.Chunks chunks
      → IsCutAsShown split asked chunks input.name shown bytes
  cut_as_shown {chunks} is = record {
    files = written ∙ whole_files plan (Some size) bytes some named;
    all = rw written (changed_all plan size bytes some named);
    told = ([], [], left_says left.0 left.1);
    failed = left.1.is;
  } where
    plan : ChunksPlan
    plan = record { chunks = chunks; elide = asked.elide; filing = filing_of asked }

    size : ℕ
    size = length shown

    can : CanSplit asked
    can = (by_words split.calling split.words splits.whole.read).1

    limits : IsInLimits (way.Chunks chunks)
    limits = rw is at can.way

    some : 0 < chunks.count
    some = limits.0

    named : HasAllNames (way.Chunks chunks) (naming_of asked)
    named = rw is at (all_have_names asked can.named)

    left : LeftSo (made_at task input.name ((chunks_work plan (Some size)).whole bytes) (Some Changed))
    left = left_so (chunks_work plan (Some size)) (Some Changed) (way_is is) refl (changed_told plan size bytes splits.other)

    written : contents_of split ≡ map (λ file. file.written) ((chunks_work plan (Some size)).whole bytes).files
    written = rw left.1.swept

  pub chunk_as_shown : {place : ℕ} {chunks : Chunks} → asked.way ≡ way.Chunk place chunks
      → IsChunkAsShown split asked place chunks input.name shown bytes
  chunk_as_shown {place} {chunks} is = record {
    out = rw (left_so work (work.verdict bytes) (way_is is) refl refl).1.swept;
    told = λ short. let left = changed short in ([], [], left_says left.0 left.1);
    failed = λ short. (changed short).1.is;
  } where
    work : Work
    work = chunk_work place chunks (Some (length shown))

    changed : has_ended chunks (length shown) bytes place ≡ false
        → LeftSo (made_at task input.name (work.whole bytes) (Some Changed))
    changed short = left_so work (Some Changed) (way_is is) refl
        (changed_alone place chunks (length shown) bytes splits.other short)
