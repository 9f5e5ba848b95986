-- What waits of an input that is cut into chunks is what continuations put to different places.
use Rattle.std.proofs.{
  Common.{◌≡◌, ◌≢◌, ℕ, ◌-◌, ◌<◌, ◌≤◌, Bool, true, false, List, [], ◌∷◌, ◌++◌, length, drop, get_or},
  Common.{Option, Some, None, refl, sym, ◌∙◌, ap, arith},
  lemmas.{Grind.common_steps, Bool.ltb-false, List.{append-nil, get_or_append_left, get_or-append_right, length-append, take_all, take-append-drop}},
}
use Rattle.seg_core.specs.{Line.joined, declared.cut.Chunks.Chunks}
use Rattle.ports_core.specs.declared.slot.State.TheVariants.{Closed}
use Rattle.engine_core.{
  specs.Agreed.{ArePlaced, DifferOn, GoesBy, GoesTo, NoFewerWait, Spot, spot, file_bytes, output_at},
  specs.{Written.IsBeginning, Work.Work},
  proofs.AgreedLemmas.{none_comes, other, other_comes, other_differs, spots_differ, spots_few},
  proofs.LeastLemmas.{first_stay, least_by, none_is_least},
}
use Rattle.split_core.specs.{
  Chunks.{before_chunk, chunks_of, decided, in_the_end, is_longer, size_by, undecided},
  ChunkAgreed.{CanFollow, chunk_spots},
  ChunkWork.{ChunksPlan, chunks_whole, chunks_work, files_by, kept},
  Parts.uncut,
  Place.beside_output,
  Split.are_named,
  laws.{BegunLaws.begun_begins, ChunkLaws.{all_joined, begin_then_rest}, ChunkWorkLaws.chunks_lawful},
}
use Rattle.split_core.proofs.{
  ChunkAgreedLemmas.{GoesOnWith, files_on, first_file, joined_files, none_grows, none_kept, settled_files, whole_files},
  AgreedLemmas.{shared_bytes},
  UndecidedLemmas.{files_placed, last_open, settled_stay, spots_apart},
}

-- what is decided and what waits are all that came in
decided_all : (elide : Bool) (chunks : Chunks) (said : Option ℕ) (x : List ℕ) → 0 < chunks.count
    → is_longer said x ≡ false → joined (files_by elide (decided chunks 1 said x)) ++ undecided chunks 1 said x ≡ x
decided_all elide chunks None x some fits = grind (arith, common_steps, joined_files, append-nil, begin_then_rest, begun_begins)
decided_all elide chunks (Some size) x some fits =
    append-nil _ ∙ joined_files elide (chunks_of chunks size x) ∙ all_joined chunks size x some
    ∙ take_all size x (ltb-false _ _ fits)

-- Where the bytes go that wait

files_differ : (plan : ChunksPlan) (said : Option ℕ) (x : List ℕ) → 0 < plan.chunks.count
    → are_named plan.filing.names plan.chunks.count ≡ true → is_longer said x ≡ false → (i : ℕ)
    → length (joined (files_by plan.elide (decided plan.chunks 1 said x))) ≤ i → i < length x
    → (y : List ℕ) × (z : List ℕ) × CanFollow said x y × CanFollow said x z
    × (chunk_spots plan said (x ++ y) i ≢ chunk_spots plan said (x ++ z) i)
files_differ plan (Some size) x some named fits i past less =
    grind (arith, common_steps, decided_all plan.elide plan.chunks (Some size) x some fits)
files_differ plan None x some named fits i past less =
    let file = first_file plan.elide plan.chunks x some (omega arith) in
    let on = none_grows plan.chunks x some 0 (omega arith) in
    let r = before_chunk plan.chunks (length x) 1 x in (
      [],
      on.y,
      (none_comes, refl),
      on.comes,
      rw (
        append-nil x,
        whole_files plan None x some named,
        file.1,
        whole_files plan None (x ++ on.y) some named,
        files_on plan.elide on
            ∙ ap (λ front. front ++ (x ++ 0 ∷ on.more) ∷ kept plan.elide on.later) (none_kept plan.elide),
      ) (spots_apart 1 i [] r (x ++ 0 ∷ on.more) file.0 (kept plan.elide on.later)
          (omega (arith, ap length (joined_files plan.elide (uncut r) ∙ append-nil r)))
          (omega (arith, length-append x (0 ∷ on.more)))),
    )

pub chunks_wait : (plan : ChunksPlan) (said : Option ℕ) (x : List ℕ) → 0 < plan.chunks.count
    → are_named plan.filing.names plan.chunks.count ≡ true → is_longer said x ≡ false
    → DifferOn (CanFollow said x) (GoesBy (chunk_spots plan said)) x ((chunks_work plan said).waiting x)
chunks_wait plan said x some named fits = spots_differ (chunk_spots plan said)
    (joined (files_by plan.elide (decided plan.chunks 1 said x)))
    (λ x i. spots_few 1 (file_bytes (chunks_whole plan said x)) i)
    (sym (decided_all plan.elide plan.chunks said x some fits))
    (files_differ plan said x some named fits)
    (λ i less y z comes also. let cut = decided plan.chunks 1 said x in
    settled_stay (chunks_work plan said) (chunks_lawful plan said some) x
    (last_open plan.filing 0 (kept plan.elide cut.full) cut.rest) i
    (rw (settled_files plan said x some named) less) y z)

-- By no right spots are the first byte that waits and all before it decided: if enough bytes come, all that came in stands
-- in the first file.

module _ (plan : ChunksPlan) (x : List ℕ) (some : 0 < plan.chunks.count)
    (named : are_named plan.filing.names plan.chunks.count ≡ true) where
  abbrev work : Work
  work = beside_output (chunks_work plan None)

  -- what stands before the first byte that waits
  abbrev settled : List ℕ
  settled = joined (files_by plan.elide (decided plan.chunks 1 None x))

  first_ends : 0 < length x → length (output_at (work.whole x) 1) ≡ length settled
  first_ends has = let r = before_chunk plan.chunks (length x) 1 x in
      rw (whole_files plan None x some named, (first_file plan.elide plan.chunks x some has).1)
      (sym (ap length (joined_files plan.elide (uncut r) ∙ append-nil r)))

  module _ {byte : ℕ} (on : GoesOnWith plan.chunks None x x byte) where
    first_goes_on : output_at (work.whole (x ++ on.y)) 1 ≡ x ++ byte ∷ on.more
    first_goes_on = rw (
      whole_files plan None (x ++ on.y) some named,
      files_on plan.elide on
          ∙ ap (λ front. front ++ (x ++ byte ∷ on.more) ∷ kept plan.elide on.later) (none_kept plan.elide),
    ) refl

    first_begins : IsBeginning (output_at (work.whole (x ++ on.y)) 1) (x ++ on.y)
    first_begins = let w = x ++ on.y in (
      joined (kept plan.elide on.later),
      sym (rw first_goes_on (ap joined (sym (files_on plan.elide on
          ∙ ap (λ front. front ++ (x ++ byte ∷ on.more) ∷ kept plan.elide on.later) (none_kept plan.elide)))
          ∙ joined_files plan.elide (in_the_end plan.chunks None w) ∙ all_joined plan.chunks (length w) w some
          ∙ take_all (length w) w (omega arith))),
    )

    first_stays : {spots_of : List ℕ → ℕ → List Spot} → ArePlaced work spots_of → (i : ℕ) → i < length x
        → get_or x i 0 ≢ byte → GoesTo (spot 1 i) (spots_of (x ++ on.y) i)
    first_stays placed i less differs = first_stay work placed (x ++ on.y) 1 (length x) byte first_begins
        (omega (arith, ap length first_goes_on, length-append x (byte ∷ on.more)))
        (λ j past within. get_or-append_right x on.y (length x) j 0 refl past
        ∙ on.run (j - length x) 0 (omega (arith, length-append x on.y)))
        i i less (λ is. differs (sym (get_or_append_left x on.y 0 i less) ∙ is)) (omega arith)

  none_least : NoFewerWait (CanFollow None x) work x (undecided plan.chunks 1 None x)
  none_least = least_by work settled _ (none_comes, refl) (sym (decided_all plan.elide plan.chunks None x some refl))
      (λ spots_of placed stays less.
      let i = length settled in
      let on = none_grows plan.chunks x some (other (get_or x i 0)) (other_comes (get_or x i 0)) in
      let goes = (stays i (omega arith) on.y (spot 1 i) on.comes).1
      (first_stays on placed i less (other_differs (get_or x i 0))) in
      omega (arith, (placed.stands x i _ less goes).0, first_ends (omega arith)))

pub chunks_least : (plan : ChunksPlan) (said : Option ℕ) (x : List ℕ) → 0 < plan.chunks.count
    → are_named plan.filing.names plan.chunks.count ≡ true
    → NoFewerWait (CanFollow said x) (beside_output (chunks_work plan said)) x ((chunks_work plan said).waiting x)
chunks_least plan None x some named = none_least plan x some named
chunks_least plan (Some size) x some named = none_is_least (beside_output (chunks_work plan (Some size))) x

-- Spots are right

pub chunks_placed : (plan : ChunksPlan) (said : Option ℕ) → 0 < plan.chunks.count
    → are_named plan.filing.names plan.chunks.count ≡ true
    → ArePlaced (beside_output (chunks_work plan said)) (chunk_spots plan said)
chunks_placed plan said some named = files_placed (chunks_work plan said) plan.filing.names
    (λ x. files_by plan.elide (in_the_end plan.chunks said x)) (λ x. drop (size_by said x) x)
    (λ x. shared_bytes plan.filing Closed _)
    (λ x. rw (joined_files plan.elide (in_the_end plan.chunks said x), all_joined plan.chunks (size_by said x) x some)
    (take-append-drop (size_by said x) x))
