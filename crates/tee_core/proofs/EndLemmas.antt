-- Lemmas on what a run reads of its input, and on how it ends.
use Rattle.std.{
  proofs.lemmas.{Grind.common_steps, Bool.{cases_Bool, false≢true, or_parts}, List.{ext_get_or, length-map}},
  proofs.Common.{◌≡◌, ℕ, ◌+◌, ◌<◌, ◌≤◌, ◌^◌, List, [], ◌∷◌, ◌++◌, length, take, Bool, true, false, Option, Some},
  proofs.Common.{None, IsTrue, refl, sym, ◌∙◌, ap, subst, arith, length-append, append-nil, inl, inr, zero, suc, map},
  proofs.Common.{not, ◌||◌, if◌then◌else◌, is_none, replicate},
  specs.List.{concat, list_any},
}
use Rattle.ports_core.specs.{
  Slot.{Slot, changed_at, no_slot, slot_at, adds, closes, opened, streams, visible_of},
  Source.{ReadFails, Content, Source, counted, source_at, unshown, is_readable, gives, BrokeOff, Gave, IsFresh},
  declared.fault.Fault.{Fault, TheVariants.{Memory}},
  declared.on_broken.OnBroken.{OnBroken, TheVariants.{Warn, Exit, WarnNoPipe, ExitNoPipe, Signal}},
  declared.reason.Reason.{Reason, TheVariants.Other},
  Inputs.{CameFrom, OfContent, empty},
  Text.status_after,
  Message.{Report, SaysEach, TellsOn, output_reason},
  Streams.{standard_output, standard_error},
}
use Rattle.ports_core.proofs.{
  InputsLemmas.{HasRead, changed_source, came_broken, came_sound, still_readable, read_broken, read_failed},
  InputsLemmas.{read_more, read_none_more, read_to_end, of_content},
}
use Rattle.tee_core.{
  specs.{
    Run.{AreSound, ClosesAll, ComesIn, Copied, EndsAs, GaveLast, IsAsFound, IsRead, LeavesOf, SaysTo, TeeRun},
    Run.{all_copied, any_is, copied, ends_run, forgives, gone_status, is_done, is_same, lost_for, no_room, one_more},
    Run.{output_at, output_slot, said_of_input, standings_of, stands_as, started, status_for, tee_called, to_end},
    Run.IsFileOf,
    Outputs.{Closes, is_closed, fails_to_close, was_broken},
    declared.standing.Standing.{Standing, TheVariants.{Sound, Broken, Gone}},
    inner.Steps.{CopiesRead, HasStreams},
  },
  proofs.{
    ChangeLemmas.{closed_broken, is_between},
    CopyLemmas.{Stands, has_sound, joined_more, mapped_at, said_error, said_place, sound_error, sound_old},
    CopyLemmas.{sound_said, sound_stand, stands_of, output_of, stands_said, stands_streams, start_of, streams_count},
    CopyLemmas.{streams_kept, streams_next},
  },
}
use Rattle.ports_core.specs.declared.reason.Reason.TheVariants as reason

nothing_more : {x : List ℕ} (rest : List ℕ) → x ≡ x ++ rest → rest ≡ []
nothing_more [] is = refl
nothing_more {x} (byte ∷ rest) is = absurd (omega (arith, length-append x (byte ∷ rest), ap length is))

-- An input that was read up to here, and what is left of it; if bytes aren't visible, the input goes no further.
abbrev SeenTo : Bool → Content → List ℕ → Source → Type 0
SeenTo visible there x source = (content : Content) × (rest : List ℕ) × (visible ≡ true → content ≡ there) × (content.bytes ≡ x ++ rest) × LeavesOf visible source rest
    × CameFrom visible content source

-- an input that was read to its end
abbrev SeenWhole : Bool → Content → List ℕ → Bool → Source → Type 0
SeenWhole visible there x breaks source = (content : Content) × (visible ≡ true → content ≡ there) × (content.bytes ≡ x) × (content.breaks_off ≡ breaks) × LeavesOf visible source []
    × CameFrom visible content source

whole : (visible : Bool) (there : Content) (x : List ℕ) (breaks : Bool) (source : Source)
    → (visible ≡ true → (there.bytes ≡ x) × (there.breaks_off ≡ breaks) × (source.left.bytes ≡ []))
    → ((content : Content) → (visible ≡ false → content.breaks_off ≡ breaks) → CameFrom visible content source)
    → SeenWhole visible there x breaks source
whole true there x breaks source has came =
    let had = has refl in (there, (λ t. refl), had.0, had.1, (λ t. had.2), came there (λ off. absurd (cc)))
whole false there x breaks source has came = (
  record { bytes = x; breaks_off = breaks; shown = None },
  (λ t. absurd (cc)),
  refl,
  refl,
  (λ t. absurd (cc)),
  came _
      (λ off. refl),
)

-- the read failed
pub seen_broken : (visible : Bool) (there : Content) (x : List ℕ) (size : ℕ) (sources new : List Source)
    → (visible ≡ true → HasRead there x 0 sources) → IsTrue (is_readable sources 0)
    → (visible ≡ true → BrokeOff (source_at sources 0).left) → ReadFails 0 size sources new
    → SeenWhole visible there x true (source_at new 0)
seen_broken visible there x size sources new read can broke failed =
    grind (arith, common_steps, whole, read_broken, nothing_more, read_failed, came_broken)

-- the read reported the end
pub seen_ended : (visible : Bool) (there : Content) (x : List ℕ) (size : ℕ) (sources new : List Source)
    {buffer old_buffer : List ℕ} {n : ℕ} → (visible ≡ true → HasRead there x 0 sources)
    → IsTrue (is_readable sources 0) → (visible ≡ true → Gave (source_at sources 0).left old_buffer buffer n) → n ≡ 0
    → 0 < length old_buffer
    → new ≡ changed_at 0 (gives size n) sources → SeenWhole visible there x false (source_at new 0)
seen_ended visible there x size sources new {n = n} read can gave few room is = whole visible there x false (source_at new 0)
    (λ t. let at_end = (gave t).ended few room in let all = read_to_end there x 0 sources (read t) at_end.0 at_end.1 in
    (all.1, all.0, nothing_more _ (sym all.1 ∙ read_none_more there x 0 sources new size n (read t) can few is))) (λ content. came_sound visible new 0 (still_readable 0 sources new size n is can))

-- the input was read up to here
pub seen_so_far : (visible : Bool) (there : Content) (x : List ℕ) (sources : List Source)
    → (visible ≡ true → HasRead there x 0 sources) → IsTrue (is_readable sources 0)
    → SeenTo visible there x (source_at sources 0)
seen_so_far true there x sources read can = (
  there,
  (source_at sources 0).left.bytes,
  (λ t. refl),
  (read refl).bytes,
  (λ t. refl),
  came_sound true sources 0 can
      (λ off. absurd (cc)),
)
seen_so_far false there x sources read can = (
  unshown x,
  [],
  (λ t. absurd (cc)),
  sym (append-nil x),
  (λ t. absurd (cc)),
  came_sound false sources 0 can (λ off. refl),
)

-- the input gave one more piece
pub seen_more : (visible : Bool) (there : Content) (x : List ℕ) (size : ℕ) (sources new : List Source)
    {old_buffer buffer : List ℕ} {n : ℕ} → (visible ≡ true → HasRead there x 0 sources)
    → IsTrue (is_readable sources 0) → (visible ≡ true → Gave (source_at sources 0).left old_buffer buffer n)
    → new ≡ changed_at 0 (gives size n) sources
    → SeenTo visible there (x ++ take n buffer) (source_at new 0)
seen_more visible there x size sources new read can gave is =
    grind (arith, common_steps, seen_so_far, read_more, still_readable)

pub counted_more : (x buffer : List ℕ) {fed : ℕ} (n : ℕ) {sum : ℕ} → fed ≡ length x → n ≤ length buffer → sum ≡ fed + n
    → sum ≡ length (x ++ take n buffer)
counted_more x buffer n counted within is = grind (arith, common_steps)

-- the pieces

last_same : (before others : List (List ℕ)) (piece other : List ℕ) → before ++ piece ∷ [] ≡ others ++ other ∷ []
    → piece ≡ other
last_same [] [] piece other is = cc
last_same [] (first ∷ others) piece other is = grind (arith, common_steps)
last_same (first ∷ before) [] piece other is = grind (arith, common_steps)
last_same (first ∷ before) (next ∷ others) piece other is = last_same before others piece other (cc)

pub gave_none : (source : Source) → GaveLast [] source
gave_none source before piece is = grind (arith, common_steps)

pub gave_last : (pieces : List (List ℕ)) (size : ℕ) (sources new : List Source) {old_buffer buffer : List ℕ} {n : ℕ}
    → IsTrue (is_readable sources 0) → Gave (source_at sources 0).left old_buffer buffer n
    → new ≡ changed_at 0 (gives size n) sources → GaveLast (pieces ++ take n buffer ∷ []) (source_at new 0)
gave_last pieces size sources new can gave is before piece same = grind (arith, common_steps, changed_source, last_same)

-- each piece took one read, and there are no more pieces than bytes

few_pieces : {run : TeeRun} {pieces : List (List ℕ)} {slots : List Slot} → Copied run pieces slots
    → length pieces ≤ length (concat pieces)
few_pieces (started new step) = omega arith
few_pieces (one_more pieces piece old new so_far goes some few step) =
    omega (
      arith,
      few_pieces so_far,
      some,
      length-append pieces (piece ∷ []),
      ap length (joined_more pieces piece),
      length-append (concat pieces) piece,
    )

pub reads_once : {run : TeeRun} {pieces : List (List ℕ)} {slots : List Slot} {was now : ℕ} → Copied run pieces slots
    → length (concat pieces) < 2 ^ 63 → was ≡ length pieces → now ≡ counted was → now ≡ length pieces + 1
reads_once so_far few same is = grind (arith, common_steps, few_pieces so_far)

pub reads_more : {run : TeeRun} {pieces : List (List ℕ)} (piece : List ℕ) {slots : List Slot} {was now : ℕ}
    → Copied run pieces slots → length (concat pieces) < 2 ^ 63 → was ≡ length pieces → now ≡ counted was
    → now ≡ length (pieces ++ piece ∷ [])
reads_more {pieces = pieces} piece so_far few same is =
    omega (arith, reads_once so_far few same is, length-append pieces (piece ∷ []))

-- the fault was reported, and the run has this status
abbrev pub ToldSo : TeeRun → Fault → List Slot → List Slot → ℕ → Type 0
ToldSo run fault mid new status = TellsOn run.visible (tee_called run.calling) fault mid new
    × (status ≡ status_after fault run.calling (output_reason mid fault))

module _ {run : TeeRun} {visible_in : Bool} where
  pub reads_copied : {content : Content} {source : Source} {slots : List Slot} {known : List Standing}
      {fault : Option Fault} {pieces : List (List ℕ)} {is_vain : Bool} → known ≡ standings_of slots
      → is_done run.on_broken known ≡ is_vain → Copied run pieces slots
      → ComesIn visible_in content source is_vain pieces fault → CopiesRead run visible_in content source slots fault
  reads_copied {pieces = pieces} seen vain so_far comes = record {
    pieces = pieces;
    read = rw (← seen, vain) comes;
    copied = so_far;
  }

  -- the end

  pub ends_copied : {content : Content} {source : Source} {fault : Option Fault} {status : ℕ}
      {old mid new : List Slot} {known : List Standing} → status ≡ status_for run.on_broken known fault
      → known ≡ standings_of new → CopiesRead run visible_in content source old fault
      → SaysTo run (said_of_input source fault) old mid → ClosesAll run mid new
      → EndsAs run visible_in content source new status
  ends_copied {fault = fault} {old = old} {mid} is seen read says closes =
      copied read.pieces fault old mid read.read read.copied says closes
      (is ∙ ap (λ those. status_for run.on_broken those fault) seen)

  -- there was no memory

  ends_nowhere : {content : Content} {source : Source} {mid new : List Slot} {fault : Fault} {status : ℕ}
      → fault ≡ Memory → mid ≡ streams → IsAsFound visible_in content source → ToldSo run fault mid new status
      → EndsAs run visible_in content source new status
  ends_nowhere {mid = mid} {new} {status = status} is at unread says =
      let (tells, one) = subst (λ (those : Fault). ToldSo run those mid new status) is says in
      let said = tells standard_output standard_error [] at in
      no_room said.0 (said.0, (Other, said.1), refl) unread said.2 one

  pub ends_at_once : {old new_sources : List Source} {first mid new : List Slot} {fault : Fault} {status : ℕ}
      → fault ≡ Memory → IsFresh old → first ≡ streams → mid ≡ first → new_sources ≡ old
      → ToldSo run fault mid new status
      → OfContent visible_in (source_at old 0).left
      (λ content. EndsAs run visible_in content (source_at new_sources 0) new status
      × CameFrom visible_in content (source_at new_sources 0))
  ends_at_once {old} {new_sources} {new = new} {status = status} is fresh at same sources says =
      let unread = ap (λ those. source_at those 0) (sources ∙ fresh.only) in
      of_content visible_in (source_at old 0).left empty (source_at new_sources 0)
      (λ content. EndsAs run visible_in content (source_at new_sources 0) new status)
      (λ _. ends_nowhere is (same ∙ at) (fresh.standard, unread, λ _. cc) says)
      (λ untold. ends_nowhere is (same ∙ at) (fresh.standard, unread, λ tells. absurd (cc)) says)
      (cc) (cc)

-- no output broke

pub read_whole : {content : Content} (Leaves : List ℕ → Type 0) {is_vain : Bool} {x : List ℕ} {fault : Option Fault}
    → is_vain ≡ false → is_none fault ≡ true → IsRead content Leaves is_vain x fault → content.bytes ≡ x
read_whole Leaves left sound (to_end x is _ _) = is
read_whole Leaves left sound read = absurd (cc)

none_is : (one : Standing) (count : ℕ) → is_same Sound one ≡ false → any_is one (replicate count Sound) ≡ false
none_is one zero differs = refl
none_is one (suc count) differs = rw differs (none_is one count differs)

none_ends : (on_broken : OnBroken) (count : ℕ)
    → list_any (λ standing. ends_run standing on_broken) (replicate count Sound) ≡ false
none_ends on_broken zero = refl
none_ends on_broken (suc count) = none_ends on_broken count

-- a run in which nothing broke goes on
pub sound_goes_on : (on_broken : OnBroken) {slots : List Slot} {count : ℕ} → HasStreams slots count → AreSound slots
    → is_done on_broken (standings_of slots) ≡ false
sound_goes_on on_broken {count = count} has sound = rw (sound_stand has sound, none_ends on_broken (suc count)) refl

-- its status says whether the reading ended well
pub sound_status : (on_broken : OnBroken) {slots : List Slot} {count : ℕ} (fault : Option Fault)
    → HasStreams slots count → AreSound slots
    → status_for on_broken (standings_of slots) fault ≡ (if is_none fault then 0 else 1)
sound_status on_broken {count = count} fault has sound =
    rw (sound_stand has sound, none_is Gone (suc count) refl, none_is Broken (suc count) refl) (by (is_none fault)) where
      by : (ended : Bool) → ◌≡◌ {A = ℕ} (if not ended || false then 1 else 0) (if ended then 0 else 1)
      by true = refl
      by false = refl

none_faulty : (ended : Bool) → ◌≡◌ {A = ℕ} (if ended then 0 else 1) 0 → ended ≡ true
none_faulty true is = refl
none_faulty false is = absurd (omega arith)

-- an output that is neither gone nor broken otherwise is sound
sound_as : (slot : Slot) → is_same (stands_as slot) Broken ≡ false → is_same (stands_as slot) Gone ≡ false
    → slot.is_broken ≡ false
sound_as slot whole left = by slot.is_broken slot.reason whole left where
  by : (broken : Bool) (why : Reason) → is_same (if broken then lost_for why else Sound) Broken ≡ false
      → is_same (if broken then lost_for why else Sound) Gone ≡ false → broken ≡ false
  by false why whole left = refl
  by true reason.Gone whole left = absurd (cc)
  by true why whole left = absurd (cc)

sound_if : (files : List Slot) → any_is Broken (map stands_as files) ≡ false
    → any_is Gone (map stands_as files) ≡ false → (n : ℕ) → (slot_at files n).is_broken ≡ false
sound_if [] whole left n = refl
sound_if (file ∷ files) whole left zero = sound_as file (or_parts _ _ whole).0 (or_parts _ _ left).0
sound_if (file ∷ files) whole left (suc n) = sound_if files (or_parts _ _ whole).1 (or_parts _ _ left).1 n

pub none_broke : {slots : List Slot} {count : ℕ} → HasStreams slots count → any_is Broken (standings_of slots) ≡ false
    → any_is Gone (standings_of slots) ≡ false → AreSound slots
none_broke has whole left place differs = rw has.are (by place differs) where
  those : (n : ℕ) → (slot_at (has.output ∷ has.files) n).is_broken ≡ false
  those = sound_if (has.output ∷ has.files) (rw has.are at whole) (rw has.are at left)

  by : (place : ℕ) → (place ≡ 1 → ⊥) → (slot_at (has.output ∷ has.error ∷ has.files) place).is_broken ≡ false
  by zero differs = those 0
  by (suc zero) differs = absurd (differs refl)
  by (suc (suc n)) differs = those (suc n)

gone_fails : (on_broken : OnBroken) (failed : Bool) → forgives on_broken ≡ false → gone_status on_broken failed ≡ 0 → ⊥
gone_fails Warn failed strict zero_is = omega arith
gone_fails Exit failed strict zero_is = omega arith
gone_fails WarnNoPipe failed strict zero_is = false≢true (sym strict)
gone_fails ExitNoPipe failed strict zero_is = false≢true (sym strict)
gone_fails Signal failed strict zero_is = omega arith

status_zero : (on_broken : OnBroken) {slots : List Slot} {count : ℕ} (fault : Option Fault) → HasStreams slots count
    → forgives on_broken ≡ false → status_for on_broken (standings_of slots) fault ≡ 0
    → (is_none fault ≡ true) × AreSound slots
status_zero on_broken {slots} fault has strict = by (any_is Gone (standings_of slots)) (any_is Broken (standings_of slots)) (is_none fault) refl refl refl where
  by : (gone broken ended : Bool) → any_is Gone (standings_of slots) ≡ gone
      → any_is Broken (standings_of slots) ≡ broken → is_none fault ≡ ended
      → (if gone then gone_status on_broken (not ended || broken) else if not ended || broken then 1 else 0) ≡ 0
      → (ended ≡ true) × AreSound slots
  by true broken ended is_gone is_broken is_ended zero_is =
      absurd (gone_fails on_broken (not ended || broken) strict zero_is)
  by false true true is_gone is_broken is_ended zero_is = absurd (omega arith)
  by false broken false is_gone is_broken is_ended zero_is = absurd (omega arith)
  by false false true is_gone is_broken is_ended zero_is = (refl, none_broke has is_broken is_gone)

-- a run with the status 0 met no fault, and nothing broke; if it forgives, that is so if its outputs are sound
pub well_of : (on_broken : OnBroken) {slots : List Slot} {count : ℕ} (fault : Option Fault) → HasStreams slots count
    → (forgives on_broken ≡ true → AreSound slots) → status_for on_broken (standings_of slots) fault ≡ 0
    → (is_none fault ≡ true) × AreSound slots
well_of on_broken fault has sound zero_is = elim (cases_Bool (forgives on_broken)) [
  | inl forgiving ↦ let all = sound forgiving in
      (none_faulty (is_none fault) (sym (sound_status on_broken fault has all) ∙ zero_is), all)
  | inr strict ↦ status_zero on_broken fault has strict zero_is
]

-- the end of a run
module _ {run : TeeRun} {pieces : List (List ℕ)} {reports : List Report} {old mid new : List Slot}
    (so_far : Copied run pieces old) (says : SaysTo run reports old mid) (ends : ClosesAll run mid new) where
  no_file : IsFileOf run.names 1 → ⊥
  no_file file = omega (arith, file.0)

  stands_mid : Stands run (concat pieces) mid
  stands_mid = stands_said (stands_of so_far) says

  pub end_streams : HasStreams new (length run.names)
  end_streams = streams_next (stands_streams stands_mid) no_file ends

  module _ (sound : AreSound new) where
    sound_before : AreSound mid
    sound_before = sound_old ends sound closed_broken (is_between 2 (length run.names + 2))

    pub old_sound : AreSound old
    old_sound place differs = rw (said_place says place differs) at (sound_before place differs)

    abbrev bytes : List ℕ
    bytes = visible_of run.visible (concat pieces)

    has_copied : (n : ℕ) → n ≤ length run.names → output_at mid n ≡ adds bytes (start_of run n)
    has_copied n within = has_sound (stands_mid.each n within) (sound_before (output_slot n) (output_of run.names n within).0)

    closed : {before after : Slot} → Closes before after → after.is_broken ≡ false → after ≡ closes before
    closed (is_closed well) still = refl
    closed (fails_to_close well why) still = absurd (cc)
    closed (was_broken broken) still = absurd (cc)

    pub all_sound : new ≡ adds bytes standard_output ∷ says.error
        ∷ map (λ name. closes (adds bytes (opened name run.mode))) run.names
    all_sound = ext_get_or no_slot _ _ (streams_count end_streams ∙ omega (
      arith,
      length-map run.names
          (λ name. closes (adds bytes (opened name run.mode))),
    )) at where
      at : (place : ℕ) → place < length new → slot_at new place ≡ slot_at (adds bytes standard_output ∷ says.error
          ∷ map (λ name. closes (adds bytes (opened name run.mode))) run.names) place
      at zero within = said_place ends.said 0 (λ is. omega (arith, is)) ∙ ends.changes.others 0 (λ file. omega (arith, file.0))
          ∙ has_copied 0 (omega arith)
      at (suc zero) within = sound_error ends sound (streams_kept (stands_streams stands_mid) ends.changes.count
          (ends.changes.others 1 no_file)) no_file ∙ said_error says (omega (arith, streams_count (stands_streams (stands_of so_far))))
      at (suc (suc n)) within =
          let file : IsFileOf run.names (suc (suc n)) = (omega arith, omega (arith, within, streams_count end_streams)) in
          let same = said_place ends.said (suc (suc n)) (λ is. omega (arith, is)) in
          same ∙ closed (ends.changes.each (suc (suc n)) file) (rw same at (sound (suc (suc n)) (λ is. omega (arith, is))))
          ∙ ap closes (has_copied (suc n) (omega (arith, file.1)))
          ∙ sym (mapped_at (λ name. closes (adds bytes (opened name run.mode))) run.names n (omega (arith, file.1)))

    pub sound_says : SaysEach run.visible (tee_called run.calling) reports standard_error says.error
    sound_says = rw (sound_said so_far old_sound) at says.said

pub said_none : (source : Source) (fault : Option Fault) → is_none fault ≡ true → said_of_input source fault ≡ []
said_none source None ended = refl
said_none source (Some one) ended = absurd (cc)

module _ {run : TeeRun} {visible_in : Bool} where
  pub whole_if : {content : Content} {source : Source} {new : List Slot} {status : ℕ} → status ≡ 0
      → (forgives run.on_broken ≡ true → AreSound new) → EndsAs run visible_in content source new status
      → new ≡ all_copied run.visible run.mode run.names content.bytes
  whole_if zero_is sound (no_room _ said left at one) = absurd (omega arith)
  whole_if zero_is sound (copied pieces fault old mid comes so_far says ends is) =
      let good = well_of run.on_broken fault (end_streams so_far says ends) sound (sym is ∙ zero_is) in
      let goes = sound_goes_on run.on_broken (stands_streams (stands_of so_far)) (old_sound so_far says ends good.1) in
      let quiet : says.error ≡ standard_error = rw (said_none _ fault good.0) at (sound_says so_far says ends good.1) in
      rw (all_sound so_far says ends good.1, quiet, read_whole _ goes good.0 comes.read) refl

  pub whole_of : (there : Content) {source : Source} {new : List Slot} {status : ℕ} → visible_in ≡ true → status ≡ 0
      → (forgives run.on_broken ≡ true → AreSound new)
      → OfContent visible_in there
      (λ content. EndsAs run visible_in content source new status × CameFrom visible_in content source)
      → new ≡ all_copied run.visible run.mode run.names there.bytes
  whole_of there tells zero_is sound (content, is, holds) = cc (whole_if zero_is sound holds.0, is tells)
