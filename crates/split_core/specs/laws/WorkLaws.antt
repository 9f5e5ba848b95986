-- Laws that traits cite: those of the work of `split`, in each way to cut.
use Rattle.std.{
  proofs.lemmas.{Bool.{false≢true, ltb-true, not-true}, List.{append-nil, length-map}},
  proofs.Common.{◌≡◌, ℕ, ◌+◌, ◌≤◌, zero, suc, List, [], ◌++◌, map, Bool, true, false, Option, arith, length},
  proofs.Common.{Some, None, inl, refl, rules},
  specs.List.range_with_len,
}
use Rattle.engine_core.{
  specs.{Written.IsBeginning, Work.{IsLawful, IsComplete}, inner.Shares.SharesBegin},
  proofs.WrittenLemmas.begins_itself,
}
use Rattle.ports_core.specs.{Slot.MayBecome, declared.slot.State.{State, TheVariants.Open}}
use Rattle.split_core.specs.{
  Split.{Filing, share, are_named},
  Round.{round_plan, round_work},
  laws.DealLaws.{dealt_append, dealt_files_are, opened_by-grows},
  laws.ShareLaws.{part_begins, settled_grow, settled_end, files_settled, files_whole, parts_grow},
  laws.ShareLaws.are_named_more,
  laws.ChunkWorkLaws.{chunk_lawful, chunks_lawful, turn_lawful},
  Parts.{parts},
  PartsState.{parts_work},
  FilesState.filing_in,
  declared.splitter.Splitter.{Splitter, TheVariants.{Parts, Round, Chunks, Turn}},
  ChunkerState.{ChunkerState, Course, HoldsBy, can_cut, course, in_files, in_output, work_on},
  Ways.{Holds, work},
}
use Rattle.seg_core.specs.declared.cut.{Limit.Limit, Chunks.Chunks as Chunking}

-- files begin other files that aren't fewer, if each has a beginning of the other's bytes
files_begin : (high : State) (f g : ℕ → List ℕ) → ((file : ℕ) → MayBecome Open high × IsBeginning (f file) (g file))
    → (start m n : ℕ) → m ≤ n → SharesBegin (map (share Open) (map f (range_with_len start m)))
    (map (share high) (map g (range_with_len start n)))
files_begin high f g begins start zero n few = tt
files_begin high f g begins start (suc m) zero few = absurd (omega arith)
files_begin high f g begins start (suc m) (suc n) few =
    (inl (begins start).0, (begins start).1, files_begin high f g begins (start + 1) m n (omega arith))

-- dealt files only grow, and none is taken back
pub round_lawful : (delim count : ℕ) (elide : Bool) (filing : Filing)
    → IsLawful (round_work (round_plan delim count elide filing))
round_lawful delim count elide filing = record {
  grows = λ x y. part_begins filing _ _
      (rw (dealt_files_are delim elide count x, dealt_files_are delim elide count (x ++ y))
      (files_begin _ _ _ (λ file. ((refl, refl), (_, dealt_append delim count file 0 x y))) 0 _ _
      (opened_by-grows delim elide count x y)));
  ends = λ x. part_begins filing _ _ (rw (dealt_files_are delim elide count x)
      (files_begin _ _ _ (λ file. ((refl, refl), begins_itself _)) 0 _ _ (omega arith)));
  stays = λ x y never. absurd (false≢true never);
}

-- Parts that follow one another

stays : (limit : Limit) (filing : Filing) (x y : List ℕ) → (parts_work limit filing).is_complete x ≡ true
    → IsComplete (parts_work limit filing) x y
stays limit filing x y short =
    let none : are_named filing.names (length (parts limit x)) ≡ false = rw length-map at (not-true _ short) in
    let more = are_named_more filing.names _ _ none (parts_grow limit x y) in
    let here = rw (append-nil x) at (files_settled filing limit x [] none) in
    grind (arith, length-map, files_settled, files_whole)

pub parts_lawful : (limit : Limit) (filing : Filing) → IsLawful (parts_work limit filing)
parts_lawful limit filing = search (rules, part_begins, settled_grow, settled_end, stays)

-- Chunks

pub work_lawful : (on : Course) (chunks : Chunking) (said : Option ℕ) → can_cut on chunks.count ≡ true
    → IsLawful (work_on on chunks said)
work_lawful (in_files filing elide) chunks said can =
    chunks_lawful _ _ (ltb-true _ _ can)
work_lawful (in_output chunk) chunks said can = chunk_lawful _ _ _ (ltb-true _ _ can)

pub holds_can : (said : Option ℕ) (state : ChunkerState) (x : List ℕ) → HoldsBy said state x
    → can_cut (course state.cutter) state.cutter.chunks.count ≡ true
holds_can None state x holds = holds.cut.can
holds_can (Some size) state x holds = holds.cut.can

-- All ways

pub lawful : (way : Splitter) (x : List ℕ) → Holds way x → IsLawful (work way)
lawful (Parts state) x holds = parts_lawful _ _
lawful (Chunks state) x holds = work_lawful _ _ _ (holds_can state.said state x holds)
lawful (Turn state) x holds = turn_lawful _ _ _
lawful (Round state) x holds = round_lawful state.delim state.count state.elide (filing_in state.files)
