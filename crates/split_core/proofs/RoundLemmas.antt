-- Lemmas on dealing lines in turn, as a stage, and on what waits in the engine in each of its two ways to cut.
use Rattle.std.proofs.{
  Common.{◌⊎◌, inl, inr, ◌≡◌, ℕ, ◌+◌, ◌%◌, ◌<◌, ◌≤◌, zero, suc, max, Bool, true, false, cond, List, [], ◌∷◌},
  Common.{◌++◌, length, map, get_or, refl, sym, ◌∙◌, ap, arith, Ok, Err, OnOk, Result, rules, subst},
  Math.{Nat.{mod-add-mod, mod-eq_of_lt, mod-mod, mod-le}, Path.fun_ext, Seq.drop-length},
  lemmas.Bool.{cases_lt, Decides.nat_tests},
  lemmas.List.{append-nil, length-map, get_or_past, FromFn.{length-map-range_with_len, get_or-map-range_with_len}},
  lemmas.Grind.common_steps,
}
use Rattle.std.specs.List.{filter, range_with_len}
use Rattle.seg_core.{
  specs.Line.{joined, delimiters},
  proofs.{Delimiters.delimiters-append, LineCounts.{line_count_near, line_count-front}},
}
use Rattle.ports_core.specs.{
  Name.{Naming, has_name},
  Slot.{Effect, Slot, effect},
  declared.verdict.Verdict.TheVariants.Suffixes,
  declared.fault.Fault.Fault,
  declared.slot.State.{State, TheVariants.{Open, Closed}},
}
use Rattle.engine_core.specs.{
  Written.{OutputsAt, StoppedBetween, gets_bytes, nothing},
  Work.{Judges, Work},
  declared.file_writer.Tells.Tells,
  Engine.{MayGet, EndsWith, EndsThere, PutsOut, StandsAt, is_verdict, cut},
  Draft.{part_of, part_with},
}
use Rattle.engine_core.proofs.{SpareLemmas.none_spare, WrittenLemmas.outputs_count, ShareLemmas.nothing_part}
use Rattle.split_core.specs.{
  Alike.as_if,
  laws.{ChunkLaws.map_same, WorkLaws.lawful, DealLaws.{dealt_append, dealt_none, dealt_files_are, share_none}},
  Parts.round_robin,
  inner.CutLaws.named,
  inner.Dealt.{dealt_first, reached_by, share_of},
  inner.Ways.{EndsAs, PassesAs, held},
  inner.Sharing.{file_at, always_named, part_by, all_open, closed_first, StandAt, Adds, Opens, ClosesAll},
  Split.{Filing, share, manner_of, are_named, is_verbose, output_by, dealt_files, settled_by, is_short, has_bytes},
  Split.{split_work, bytes_in},
  FilesState.{FilesState, filing_in},
  RoundState.RoundState,
  Round.{round_plan, round_work, work, opened_by, Holds},
  declared.splitter.Splitter.Splitter,
  ChunkerState.ChunkerState,
}
use Rattle.split_core.proofs.{
  AlikeLemmas.{complete_as, verdict_as, waiting_as},
  AgreedLemmas.{each_named, shared_bytes, waiting_is},
  CutLaws.{dealt_same, dealt_past},
  FilesLemmas.grow_same,
  SectionLemmas.all_dealt,
  ChunkerWays.{chunks_wait, no_suffixes, open_beside},
}
use Rattle.split_core.specs.Ways as ways
use Rattle.split_core.specs.declared.splitter.Splitter.TheVariants as way
use Rattle.split_core.proofs.PartsLemmas as part
use Rattle.split_core.specs.PartsState as parts_state

-- Names

-- if this many files have names, each of them has one
pub named_at : (names : Naming) (count place : ℕ) → are_named names count ≡ true → place < count
    → has_name names place ≡ true
named_at names zero place are within = absurd (omega arith)
named_at names (suc last) place are within = grind (arith, common_steps)

pub named_fewer : (names : Naming) (few count : ℕ) → are_named names count ≡ true → few ≤ count
    → are_named names few ≡ true
named_fewer names zero count are within = refl
named_fewer names (suc last) count are within = grind (arith, common_steps)

all_by : (filing : Filing) (n start count : ℕ) (state : State) (f : ℕ → List ℕ) → are_named filing.names n ≡ true
    → start + count ≤ n
    → named filing start (map (share state) (map f (range_with_len start count)))
    ≡ map (λ i. file_at filing i (share state (f i))) (range_with_len start count)
all_by filing n start zero state f are few = refl
all_by filing n start (suc count) state f are few = cc (
  named_at filing.names n start are (omega arith),
  all_by filing n
      (start + 1) count state f are (omega arith),
)

-- The files of a text

module _ (delim : ℕ) (filing : Filing) (elide : Bool) (n : ℕ) (x : List ℕ) (are : are_named filing.names n ≡ true) where
  filed_are : (state : State) {count : ℕ} → count ≡ opened_by delim elide n x
      → part_by filing (record { count = count; at = λ i. share state (share_of delim n x i) })
      ≡ part_of (manner_of filing) (map (share state) (dealt_files delim elide n x))
  filed_are state is = search (rules, common_steps, dealt_files_are, all_by)

  all_have : are_named filing.names (length (dealt_files delim elide n x)) ≡ true
  all_have = grind (arith, common_steps, named_fewer, dealt_files_are, length-map-range_with_len)

  -- if all files have names, no text needs more
  pub not_short : false ≡ is_short (round_plan delim n elide filing) x
  not_short = cc (length-map (dealt_files delim elide n x) (share Closed), all_have)

-- One more piece

-- files that aren't open yet have nothing
pub none_yet : (delim : ℕ) (elide : Bool) (n : ℕ) (x : List ℕ) (file : ℕ) → 0 < n → opened_by delim elide n x ≤ file
    → share_of delim n x file ≡ []
none_yet delim elide n x file some past = search (rules, cases_lt, dealt_past, share_none)

opened_after : (delim : ℕ) (elide : Bool) (n : ℕ) (x y : List ℕ) → 0 < n
    → max (opened_by delim elide n x) (reached_by delim n (delimiters delim x % n) y) ≡ opened_by delim elide n (x ++ y)
opened_after delim true n x [] some = search (rules, append-nil, line_count_near, mod-le)
opened_after delim true n x (byte ∷ y) some =
    grind (arith, common_steps, line_count-front, line_count_near, cases_lt, mod-eq_of_lt)
opened_after delim false n x y some = omega arith

-- what a file has of a text that goes on
share_after : (delim n : ℕ) (x y : List ℕ) → 0 < n → (i : ℕ)
    → share_of delim n (x ++ y) i ≡ share_of delim n x i ++ get_or (dealt_first delim n (delimiters delim x % n) y) i []
share_after delim n x y some i =
    grind (
      arith,
      common_steps,
      dealt_append,
      dealt_same,
      mod-mod,
      get_or-map-range_with_len,
      get_or_past,
      length-map-range_with_len,
      dealt_none,
      dealt_past,
    )

-- What a piece leaves

-- what of a text the stage has written
stands_is : {round : RoundState} {x : List ℕ} → Holds round x → (y : List ℕ) {count : ℕ}
    → count ≡ opened_by round.delim round.elide round.count y
    → part_by (filing_in round.files) (all_open (share_of round.delim round.count y) count) ≡ (work round).settled y
stands_is {round} holds y is = search (rules, filed_are)

stand_at : {visible : Bool} {round : RoundState} {before : List Slot} {x : List ℕ} {now : List Slot}
    → StandsAt ways.terms (way.Round round) visible before x now
    → StandAt visible round.files before (share_of round.delim round.count x) now
stand_at at = search (rules, stands_is, none_yet)

count_is : {round : RoundState} {x : List ℕ} (piece : List ℕ) → Holds round x
    → max (length round.files.outputs) (length (dealt_first round.delim round.count round.next piece))
    ≡ opened_by round.delim round.elide round.count (x ++ piece)
count_is piece holds = search (rules, length-map-range_with_len, opened_after)

pub passes_at : (visible : Bool) (round : RoundState) (piece : List ℕ) {place : ℕ} {next : FilesState}
    {before after : List Slot} (result : Result (Unit {0}) Fault)
    → OnOk result (place ≡ (round.next + delimiters round.delim piece) % round.count)
    → Adds round.files next (λ i. get_or (dealt_first round.delim round.count round.next piece) i []) 0
    (length (dealt_first round.delim round.count round.next piece)) (effect visible before after) result
    → PassesAs (way.Round round) (way.Round (record round { files = next; next = place })) piece
    (effect visible before after) result
passes_at visible round piece (Ok u) is adds = record {
  same = cc adds.filing;
  size = omega arith;
  holds = λ x holds. grind (arith, common_steps, mod-add-mod, delimiters-append, count_is);
  outputs = λ start x at. rw (stands_is at.holds (x ++ piece) (count_is piece at.holds)) at
      (adds.leaves start _ (share_of round.delim round.count (x ++ piece)) (stand_at at)
      (λ i. rw at.holds.next (share_after round.delim round.count x piece at.holds.some i)));
  ready = adds.ready;
  owns = adds.owned;
  there = λ are. tt;
  cut = tt;
  met = tt;
}
passes_at visible round piece {before = before} {after} (Err why) is adds =
    let tells = is_verbose round.files.tells in let lacks = part.none_lacks tells before after adds.caused in record {
      same = cc adds.filing;
      size = omega arith;
      holds = tt;
      outputs = tt;
      ready = tt;
      owns = adds.owned;
      there = λ are. tt;
      cut = λ start x at. cut (part.unjudged (always_named tells) before after why adds.caused lacks)
          (rw (stands_is at.holds x at.holds.opened, stands_is at.holds (x ++ piece) (count_is piece at.holds)) at
          ((adds.leaves start _ (share_of round.delim round.count (x ++ piece)) (stand_at at)
          (λ i. rw at.holds.next (share_after round.delim round.count x piece at.holds.some i))).stops _ _ 0 grow_same grow_same));
      met = part.met_files false _ _ (EndsWith ways.terms piece (way.Round round)) (always_named tells) tells
          before after why (refl, refl) refl refl adds.caused (λ is. absurd (lacks is));
    }

-- The end

closed_part : {round : RoundState} {x : List ℕ} → Holds round x
    → part_by (filing_in round.files) (closed_first (length round.files.outputs) (share_of round.delim round.count x)
    (length round.files.outputs)) ≡ (work round).whole x
closed_part {round} {x} holds =
    let n = length round.files.outputs in let has = share_of round.delim round.count x in let filing = filing_in round.files in
    ap (part_with (output_by filing.verbose))
    (map_same (λ i. file_at filing i ((closed_first n has n).at i)) (λ i. file_at filing i (share Closed (has i))) 0 n
    (λ i low high. grind (arith, nat_tests)))
    ∙ filed_are round.delim filing round.elide round.count x holds.named Closed holds.opened

-- once all files are closed, the outputs have the whole
whole_closed : {round : RoundState} {outs : Effect} → ClosesAll round.files outs (Ok tt)
    → PutsOut ways.terms (way.Round round) (work round).whole outs
whole_closed {outs = outs} closes before x at =
    subst (λ part. OutputsAt outs.visible before part outs.new) (closed_part at.holds) (closes.leaves before _ (stand_at at))

pub finishes_by : (round : RoundState) {outs : Effect} (result : Result (Unit {0}) Fault)
    → ClosesAll round.files outs result → EndsAs (way.Round round) (way.Round round) outs result
finishes_by round (Ok u) closes = search (rules, closes, whole_closed, part.told_writable)
finishes_by round {outs} (Err why) closes = record {
  same = refl;
  size = omega arith;
  well = tt;
  outputs = tt;
  writable = tt;
  owns = closes.owned;
  there = λ are. tt;
  cut = λ before x at. cut (ap is_verdict closes.caused.1)
      (rw (stands_is at.holds x at.holds.opened, closed_part at.holds) at
      ((closes.leaves before _ (stand_at at)).stops _ _ 0 grow_same grow_same));
  met = part.met_closing (is_verbose round.files.tells) (EndsThere ways.terms (way.Round round)) outs.old outs.new closes.caused;
}

-- The start

-- no file is open yet, and the next will be the next output
abbrev pub no_files : Naming → Tells → FilesState
no_files names tells = record { names = record { naming = names; drawn = 0 }; tells = tells; outputs = [] }

starts_at : {visible : Bool} (names : Naming) (tells : Tells) {before slots : List Slot}
    → OutputsAt visible before nothing slots → StandAt visible (no_files names tells) before (λ i. []) slots
starts_at names tells at = search (rules, outputs_count, nothing_part)

-- no line has come in yet
starts_with : (delim : ℕ) (elide : Bool) (n : ℕ) {count : ℕ} → count ≡ cond elide 0 n
    → max 0 count ≡ opened_by delim elide n []
starts_with delim elide n is = grind (arith, nat_tests)

-- what is there once the first were opened is all that must be written of no input
module _ {visible : Bool} (names : Naming) (tells : Tells) (delim : ℕ) (elide : Bool) (n : ℕ) {count : ℕ}
    {files next : FilesState} {before old new : List Slot} (is : files ≡ no_files names tells)
    (are : are_named names n ≡ true) (counted : count ≡ cond elide 0 n)
    (at : OutputsAt visible before nothing old) where
  pub opens_so : Opens files next 0 count (effect visible old new) (Ok tt)
      → OutputsAt visible before (settled_by (round_plan delim n elide (filing_in (no_files names tells))) []) new
  opens_so opens = let made = filed_are delim (filing_in (no_files names tells)) elide n [] are Open (starts_with delim elide n counted) in
      rw made at ((rw is at opens).adds.leaves before _ (λ i. []) (starts_at names tells at) (λ i. refl))

  pub opens_cut : {why : Fault} → Opens files next 0 count (effect visible old new) (Err why)
      → StoppedBetween (output_by (is_verbose tells)) visible before nothing
      (settled_by (round_plan delim n elide (filing_in (no_files names tells))) []) why new
  opens_cut opens = let made = filed_are delim (filing_in (no_files names tells)) elide n [] are Open (starts_with delim elide n counted) in
      rw (nothing_part (output_by (is_verbose tells)), made) at
      (((rw is at opens).adds.leaves before _ (λ i. []) (starts_at names tells at) (λ i. refl)).stops _ _ 0 grow_same grow_same)

-- if all files have names, the work is what was asked for
pub does_all : (delim : ℕ) (filing others : Filing) (elide : Bool) (n : ℕ) → are_named filing.names n ≡ true
    → others ≡ filing → round_work (round_plan delim n elide others) ≡ split_work (round_plan delim n elide filing)
does_all delim filing others elide n are same = grind (arith, common_steps, fun_ext, not_short)

-- nothing waits

pub joined_some : (these : List (List ℕ)) → joined (filter has_bytes these) ≡ joined these
joined_some [] = refl
joined_some ([] ∷ these) = joined_some these
joined_some ((byte ∷ bytes) ∷ these) = cc (joined_some these)

pub joined_files : (delim : ℕ) (elide : Bool) (n : ℕ) (x : List ℕ)
    → joined (dealt_files delim elide n x) ≡ joined (round_robin delim n x)
joined_files delim true n x = joined_some (round_robin delim n x)
joined_files delim false n x = refl

-- all bytes are with the files
pub dealt_all : (delim n : ℕ) (elide : Bool) (filing : Filing) (x : List ℕ) → 0 < n
    → are_named filing.names (length (dealt_files delim elide n x)) ≡ true
    → length (bytes_in (settled_by (round_plan delim n elide filing) x)) ≡ length x
dealt_all delim n elide filing x some are = search (rules, shared_bytes, each_named, joined_files, all_dealt)

-- Both ways to cut

-- as long as the engine goes on, all files have names
named_of : (splitter : Splitter) (x : List ℕ) → ways.Holds splitter x → Judges (ways.work splitter) x Suffixes → ⊥
named_of (way.Parts parts) x holds judged = cc (part.all_have_names holds)
named_of (way.Round round) x holds judged = cc
named_of (way.Chunks state) x holds judged = no_suffixes state x judged
named_of (way.Turn turn) x holds judged = cc

pub all_named : (splitter : Splitter) (x : List ℕ) → (as_if ways.terms).Holds splitter x
    → Judges (ways.work splitter) x Suffixes → ⊥
all_named splitter x is judged = named_of _ _ is.holds (sym (verdict_as is.alike) ∙ judged)

-- unless the engine writes what one file would have, or only one chunk, more can come
open_of : (splitter : Splitter) (x : List ℕ) → ways.Holds splitter x
    → ((ways.work splitter).means.output ≡ gets_bytes → ⊥) ⊎ ((state : ChunkerState) → splitter ≡ way.Chunks state → ⊥)
    → (ways.work splitter).is_complete x ≡ false
open_of (way.Parts parts) x holds which = sym (part.never_done holds)
open_of (way.Round round) x holds which = refl
open_of (way.Chunks state) x holds (inl beside) = open_beside _ x _ refl beside holds
open_of (way.Chunks state) x holds (inr other) = absurd (other state refl)
open_of (way.Turn turn) x holds which = refl

pub goes_on : (splitter : Splitter) (x : List ℕ) → (as_if ways.terms).Holds splitter x
    → ((ways.work splitter).means.output ≡ gets_bytes → ⊥) → (ways.work splitter).is_complete x ≡ false
goes_on splitter x is beside = complete_as is.alike ∙ open_of _ _ is.holds (inl beside)

pub never_done : (splitter : Splitter) → ((state : ChunkerState) → splitter ≡ way.Chunks state → ⊥) → (x : List ℕ)
    → (as_if ways.terms).Holds splitter x → (ways.work splitter).is_complete x ≡ false
never_done splitter other x is = complete_as is.alike ∙ open_of _ _ is.holds (inr other)

-- a split into parts isn't complete if any engine of it goes on
told_beside : (verbose : Bool) → output_by verbose ≡ gets_bytes → ⊥
told_beside true is = cc
told_beside false is = cc

pub open_after : (those : Work) (verbose : Bool) → those.means.output ≡ output_by verbose
    → (after : Splitter) (z : List ℕ) → ways.work after ≡ those → (as_if ways.terms).Holds after z
    → those.is_complete z ≡ false
open_after those verbose visible after z same is = rw (← same) (goes_on _ z is (λ bytes. told_beside verbose (cc)))

pub spares_none : (most : ℕ) (splitter : Splitter) → ((state : ChunkerState) → splitter ≡ way.Chunks state → ⊥)
    → MayGet (as_if ways.terms) splitter most
spares_none most (way.Parts parts) other x piece after n holds going within same later spare =
    omega (
      arith,
      none_spare _ (x ++ piece) n (lawful (way.Parts parts) _ holds.holds)
          (open_after _ (parts_state.filing_of parts).verbose refl after (x ++ piece) same later) spare,
    )
spares_none most (way.Round round) other x piece after n holds going within same later spare = grind (arith, common_steps, none_spare, lawful)
spares_none most (way.Turn turn) other x piece after n holds going within same later spare = grind (arith, common_steps, none_spare, lawful)
spares_none most (way.Chunks state) other x piece after n holds going within same later spare = absurd (other state refl)

held_of : (splitter : Splitter) (x : List ℕ) → ways.Holds splitter x
    → held splitter ≡ length ((ways.work splitter).waiting x)
held_of (way.Parts parts) x holds = ap length (holds.waits ∙ sym (waiting_is parts.limit (parts_state.filing_of parts) x
    (rw length-map at (part.all_have_names holds))))
held_of (way.Round round) x holds = rw (
  dealt_all round.delim round.count round.elide (filing_in round.files) x holds.some
      (all_have round.delim (filing_in round.files) round.elide round.count x holds.named),
  drop-length,
) refl
held_of (way.Chunks state) x holds = chunks_wait _ x holds
held_of (way.Turn turn) x holds = refl

pub held_is : (splitter : Splitter) (x : List ℕ) → (as_if ways.terms).Holds splitter x
    → held splitter ≡ length ((ways.work splitter).waiting x)
held_is splitter x is = held_of _ _ is.holds ∙ ap length (sym (waiting_as is.alike))
