-- Lemmas on what each output of a run has at its end, by the pieces that were copied.
use Rattle.std.{
  proofs.lemmas.Bool.false≢true,
  proofs.Common.{◌≡◌, ◌⊎◌, ℕ, ◌<◌, ◌≤◌, zero, suc, Bool, true, false, List, [], ◌∷◌, ◌++◌, length, take, refl, sym},
  proofs.Common.{◌∙◌, ap, subst, arith, append_assoc},
  specs.List.concat,
}
use Rattle.ports_core.{
  specs.{
    Slot.{Slot, adds, breaks, opened, visible_of, unopened},
    Source.{Content, Source},
    Streams.standard_output,
    declared.{reason.Reason.Reason, slot.Mode.Mode},
  },
  proofs.Runs.{adds_both, adds-nil},
}
use Rattle.tee_core.{
  specs.{
    Left.{EndsWith, LeftBy, after_pieces, all_closed, all_open, broke_closing, broke_in, none_opened, not_opened},
    Opening.{OpensAs, is_opened, is_unopened},
    Outputs.{Closes, Gets, breaks_off, fails_to_close, gets_all, gets_none, is_closed, was_broken},
    Run.{Copied, EndsAs, TeeRun, all_opened, copied, no_room, one_more, output_at, output_slot, started},
  },
  proofs.CopyLemmas.{joined_more, mapped_at, output_of, said_place, start_of, starts_well},
}

-- what an output has of these pieces, before files are closed
data HasOf (visible : Bool) (pieces : List (List ℕ)) (start : Slot) : Slot → Type 0 where
  of_all : HasOf visible pieces start (adds (visible_of visible (concat pieces)) start)
  of_some : (before : List (List ℕ)) (piece : List ℕ) (after : List (List ℕ)) (n : ℕ) (why : Reason)
      → pieces ≡ before ++ piece ∷ after → n < length piece
      → HasOf visible pieces start (breaks why (adds (visible_of visible (concat before ++ take n piece)) start))
  of_none : (kept : List ℕ) (why : Reason) → (kept ≡ start.name) ⊎ (kept ≡ [])
      → HasOf visible pieces start (unopened why kept)

of_nothing : (visible : Bool) (start : Slot) → HasOf visible [] start start
of_nothing visible start = subst (λ slot. HasOf visible [] start slot) (adds-nil visible start) of_all

of_opened : (visible : Bool) {mode : Mode} {name : List ℕ} {now : Slot} → OpensAs mode name now
    → HasOf visible [] (opened name mode) now
of_opened visible {mode} {name} is_opened = of_nothing visible (opened name mode)
of_opened visible (is_unopened kept why named) = of_none kept why named

of_more : {visible : Bool} {pieces : List (List ℕ)} {piece : List ℕ} {start old new : Slot} → start.is_broken ≡ false
    → HasOf visible pieces start old → Gets visible piece old new → HasOf visible (pieces ++ piece ∷ []) start new
of_more {visible} {pieces} {piece} {start} sound of_all (gets_all _) =
    rw (adds_both visible (concat pieces) piece start, joined_more pieces piece) of_all
of_more {visible} {pieces} {piece} {start} sound of_all (breaks_off _ n why within) =
    rw (ap (breaks why) (adds_both visible (concat pieces) (take n piece) start)) (of_some pieces piece [] n why refl within)
of_more sound of_all (gets_none broken) = absurd (false≢true (sym sound ∙ broken))
of_more {piece = piece} sound (of_some before other after n why is within) (gets_none _) =
    of_some before other (after ++ piece ∷ []) n why (rw is (append_assoc before (other ∷ after) (piece ∷ []))) within
of_more sound (of_none kept why named) (gets_none _) = of_none kept why named
of_more sound has (gets_all again) = absurd (cc)
of_more sound has (breaks_off again n why within) = absurd (cc)

of_copied : {run : TeeRun} {pieces : List (List ℕ)} {slots : List Slot} → Copied run pieces slots → (n : ℕ)
    → n ≤ length run.names → HasOf run.visible pieces (start_of run n) (output_at slots n)
of_copied {run} (started new step) n within =
    rw (said_place step.said (output_slot n) (output_of run.names n within).0) (by n within) where
      by : (n : ℕ) → n ≤ length run.names → HasOf run.visible [] (start_of run n) (output_at step.mid n)
      by zero within = rw (step.changes.others 0 (λ file. omega (arith, file.0))) (of_nothing run.visible standard_output)
      by (suc n) within = of_opened run.visible (rw (mapped_at (λ name. opened name run.mode) run.names n within) at
          (step.changes.each (suc (suc n)) (omega arith, omega (arith, within))))
of_copied {run} (one_more pieces piece old new so_far goes some few step) n within =
    rw (said_place step.said (output_slot n) (output_of run.names n within).0) (of_more (starts_well run n).0
    (of_copied so_far n within) (step.changes.each (output_slot n) (output_of run.names n within)))

-- the end

ends_open : {visible : Bool} {pieces : List (List ℕ)} {start old : Slot} → HasOf visible pieces start old
    → EndsWith visible pieces start old
ends_open of_all = all_open
ends_open (of_some before piece after n why is within) = broke_in before piece after n why is within
ends_open (of_none kept why named) = not_opened kept why named

ends_closed : {visible : Bool} {pieces : List (List ℕ)} {start old new : Slot} → HasOf visible pieces start old
    → Closes old new → EndsWith visible pieces start new
ends_closed of_all (is_closed sound) = all_closed
ends_closed of_all (fails_to_close sound why) = broke_closing why
ends_closed has (was_broken broken) = ends_open has
ends_closed has (is_closed sound) = absurd (cc)
ends_closed has (fails_to_close sound why) = absurd (cc)

start_is : (run : TeeRun) (n : ℕ) → n ≤ length run.names → output_at (all_opened run) n ≡ start_of run n
start_is run zero within = refl
start_is run (suc n) within = mapped_at (λ name. opened name run.mode) run.names n within

pub left_by : (run : TeeRun) (visible_in : Bool) (content : Content) (source : Source) (new : List Slot) (status : ℕ)
    → EndsAs run visible_in content source new status → LeftBy run visible_in content source new
left_by run visible_in content source new status (no_room error said left at one) = none_opened error at
left_by run visible_in content source new status (copied pieces fault old mid comes so_far says ends is) =
    after_pieces pieces fault _ comes (λ n within. rw (
      start_is run n within,
      said_place ends.said (output_slot n) (output_of run.names n within).0,
    ) (by n within)) where
      has : (n : ℕ) → n ≤ length run.names → HasOf run.visible pieces (start_of run n) (output_at mid n)
      has n within = rw (said_place says (output_slot n) (output_of run.names n within).0) (of_copied so_far n within)

      by : (n : ℕ) → n ≤ length run.names → EndsWith run.visible pieces (start_of run n) (output_at ends.mid n)
      by zero within = rw (ends.changes.others 0 (λ file. omega (arith, file.0))) (ends_open (has 0 within))
      by (suc n) within =
          ends_closed (has (suc n) within) (ends.changes.each (suc (suc n)) (omega arith, omega (arith, within)))
