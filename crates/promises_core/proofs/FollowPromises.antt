-- Lemmas on what `tail` writes of one file that only grows, if `tail` follows it and meets no fault.
use Rattle.std.proofs.{
  lemmas.{Grind.common_steps, Bool.{or_parts, cases_lt, false≢true}},
  Common.{◌≡◌, ℕ, ◌+◌, ◌<◌, ◌≤◌, max, zero, suc, Bool, true, false, List, [], ◌∷◌, ◌++◌, length, drop, Option, Some},
  Common.{refl, sym, ◌∙◌, ap, subst, arith, append_assoc, ◌&&◌, cond, is_some, not, ◌||◌, inl, inr, nat_lt, rules},
  Math.{Bool.or-true, Seq.drop-append_seam as drop_front},
}
use Rattle.watch_core.specs.Snapshot.{Snapshot, waiting}
use Rattle.follow_core.specs.{
  Ending.{seen_first, FollowEndsAs, Remains, looked, no_room, remains, stopped, unread},
  Gain.gains_later,
  Run.{AreKept, name_text},
  Version.{Entry, entries_later, entries_of, open_after, open_after_later, version_in},
  Followed.{any_failed, text_from},
  Look.{Fate, Look, Ways, fate_at, is_dropped, sound, snapshots, visit_at, ways_of},
  Share.{bytes_of, gain, gains_from, no_share, share_by, share_of, shares_from},
  FollowState.is_alive,
}
use Rattle.follow_core.proofs.{
  AgreeLemmas.grown,
  RunLemmas.{found_are, text_is_gains},
  LookLemmas.{failed_later, failed_sound, looks_give_text},
  LookedLemmas.as_many,
}
use Rattle.promises_core.{
  specs.Promises.{AsksToFollow, OnlyGrows, Follows, IsBare, IsOfProgram, showing},
  proofs.LeftLemmas.status_some,
}
use Rattle.tools_core.{specs.Following.{is_name, pause_by, start_of}, specs.Program.{ProgramEndsAt, looks_at}}
use Rattle.words_core.specs.EndsWords.{is_plus}
use Rattle.ends_core.specs.Ends.{tail_of}
use Rattle.ports_core.specs.{
  Slot.{Slot, slot_at, streams},
  declared.{calling.Calling.Calling, reason.Reason.Reason},
}
use Rattle.words_core.specs.{
  EndsWords.EndsAsked,
  declared.{value.Followed.Followed},
  Words.{follows, looks, settings_of},
}
use Rattle.tools_core.specs.Run.{Run, all_visible}

-- The text of a name whose file only grows: its start part at the first look, and then all that came.

-- n looks, from the look of number `start` on
abbrev pub looks_from : (ℕ → Snapshot) → ℕ → ℕ → List Snapshot
looks_from shows start zero = []
looks_from shows start (suc n) = shows start ∷ looks_from shows (suc start) n

one_more : (shows : ℕ → Snapshot) {start : ℕ} (n : ℕ)
    → looks_from shows start n ++ shows (start + n) ∷ [] ≡ looks_from shows start (suc n)
one_more shows zero = search rules
one_more shows {start} (suc n) =
    rw (let e : start + suc n ≡ suc start + n = omega arith in e) (ap (λ rest. shows start ∷ rest) (one_more shows n))

seen_are : (shows : ℕ → Snapshot) (n : ℕ) → seen_first shows n ≡ looks_from shows 0 n
seen_are shows zero = refl
seen_are shows (suc n) = rw (seen_are shows n)
    (ap (λ k. looks_from shows 0 n ++ shows k ∷ []) (omega arith) ∙ one_more shows n)

-- the versions of the file in n looks, from the look of number `start` on
abbrev pub versions : (ℕ → Snapshot) → ℕ → ℕ → ℕ → List Entry
versions shows file start zero = []
versions shows file start (suc n) = version_in (shows start) file ∷ versions shows file (suc start) n

later_are : (by_name : Bool) {name : List ℕ} (shows : ℕ → Snapshot) {file count : ℕ} (start n : ℕ) → start + n ≤ count
    → OnlyGrows count shows name file
    → entries_later by_name name (Some file) (looks_from shows start n) ≡ versions shows file start n
later_are by_name shows start zero within grows = refl
later_are true {name} shows {file} start (suc n) within grows =
    grind (arith, common_steps, (grows.0 start (omega (arith, within))), (later_are true shows (suc start) n (omega (arith, within)) grows))
later_are false shows start (suc n) within grows = rw (later_are false shows (suc start) n (omega (arith, within)) grows)

entries_are : (by_name : Bool) {name : List ℕ} (shows : ℕ → Snapshot) {file count : ℕ} (n : ℕ) → n ≤ count
    → OnlyGrows count shows name file → entries_of by_name name (looks_from shows 0 n) ≡ versions shows file 0 n
entries_are by_name shows zero within grows = refl
entries_are by_name shows (suc n) within grows = grind (arith, common_steps, later_are)

versions_kept : (shows : ℕ → Snapshot) {name : List ℕ} {file count : ℕ} (start n : ℕ) → start + n ≤ count
    → OnlyGrows count shows name file → AreKept (versions shows file start n)
versions_kept shows start zero within grows = tt
versions_kept shows start (suc zero) within grows = (tt, tt)
versions_kept shows start (suc (suc n)) within grows =
    grind (arith, common_steps, (versions_kept shows (suc start) (suc n) (omega (arith, within)) grows))

-- what later looks gain is what came to the file
holds_later : (shows : ℕ → Snapshot) {name : List ℕ} {file count : ℕ} (start n : ℕ) → start + n < count
    → OnlyGrows count shows name file
    → (shows (start + n)).holds file ≡ (shows start).holds file
    ++ gains_later (version_in (shows start) file) (versions shows file (suc start) n)
holds_later shows {file} start zero within grows = grind (arith, common_steps)
holds_later shows {file} start (suc n) within grows =
    let (piece, next) = grows.1 start (omega (arith, within)) in
    let front = (shows start).holds file in
    rw (
      grown file front next,
      let e : start + suc n ≡ suc start + n = omega arith in e,
      holds_later shows (suc start) n (omega (arith, within)) grows,
      next,
      append_assoc,
    )

gains_are : (shows : ℕ → Snapshot) {name : List ℕ} {file count n : ℕ} {came : List ℕ} → n < count
    → OnlyGrows count shows name file → (shows n).holds file ≡ (shows 0).holds file ++ came
    → gains_later (version_in (shows 0) file) (versions shows file 1 n) ≡ came
gains_are shows {file} {n} {came} within grows is =
    let front = (shows 0).holds file in
    let gained = gains_later (version_in (shows 0) file) (versions shows file 1 n) in
    let both : front ++ gained ≡ front ++ came = sym (holds_later shows 0 n (omega (arith, within)) grows) ∙ ap
    (λ k. (shows k).holds file) (let e : 0 + n ≡ n = omega arith in e) ∙ is in
    sym (drop_front front gained) ∙ ap (drop (length front)) both ∙ drop_front front came

-- the file is open after each look
stays_open : (by_name : Bool) {name : List ℕ} (shows : ℕ → Snapshot) {file count : ℕ} (n : ℕ) → n < count
    → OnlyGrows count shows name file → open_after by_name name (looks_from shows 0 (suc n)) ≡ Some file
stays_open by_name {name} shows {file} {count} n within grows = by by_name 1 n (omega (arith, within))
    ((shows 0).leads name) (grows.0 0 (omega (arith, within))) where
      by : (by_name : Bool) (start n : ℕ) → start + n ≤ count → (opened : Option ℕ) → opened ≡ Some file
          → open_after_later by_name name opened (looks_from shows start n) ≡ Some file
      by by_name start zero below opened is = is
      by true start (suc n) below opened is = by true (suc start) n (omega (arith, below)) ((shows start).leads name)
          (grows.0 start (omega (arith, below)))
      by false start (suc n) below opened is = by false (suc start) n (omega (arith, below)) opened is

-- If no call fails, following one name writes the text of this name.

-- A name on which no call failed got all that the look gives.

fine_share : (ways : Ways) (name : List ℕ) (before : List Look) (look : Look) (dropped : Bool) (fate : Fate)
    (why : Reason) → let share = share_by ways name before look (record { fate = fate; why = why }) in
    dropped ≡ false → is_some (cond dropped (no_share name) share).failure ≡ false
    → (fate ≡ sound) × (bytes_of (cond dropped (no_share name) share) ≡ gain ways name before look)
fine_share ways name before look true fate why kept well = absurd (cc)
fine_share ways name before look false sound why kept well = grind (arith, common_steps)
fine_share ways name before look false fate why kept well = absurd (cc)

-- further looks wrote all that they give, and the name is still followed
record WroteAll (ways : Ways) (name : List ℕ) (before looks : List Look) (text : List ℕ) : Type 0 where
  pub is : text ≡ gains_from ways name before looks
  pub kept : is_dropped ways.first looks ≡ false

wrote_all : (ways : Ways) (name : List ℕ) (before looks : List Look) (last : Option (List ℕ))
    → is_dropped ways.first before ≡ false → any_failed (shares_from ways (name ∷ []) before looks) ≡ false
    → WroteAll ways name before looks (text_from false last (shares_from ways (name ∷ []) before looks))
wrote_all ways name before [] last kept well = search rules
wrote_all ways name before (look ∷ looks) last kept well =
    let here = before ++ look ∷ [] in
    let both = or_parts (is_some (share_of ways before look ways.first name).failure) (any_failed (shares_from ways (name ∷ []) here looks)) well in
    let fine = fine_share ways name before look (is_dropped ways.first before) (fate_at ways.first look)
    (visit_at ways.first look).why kept both.0 in
    let rest = wrote_all ways name here looks last (ap is_some (failed_sound ways.first before look fine.0) ∙ kept) both.1 in record {
      is = rw (fine.1, rest.is);
      kept = ap is_some (failed_later (visit_at ways.first look) _ fine.0) ∙ rest.kept;
    }

-- a further look can always give something of a name whose file is open
alive_by : (dropped by_name : Bool) {opened : Option ℕ} {file : ℕ} → dropped ≡ false → opened ≡ Some file
    → ((not dropped && (by_name || is_some opened)) || false) ≡ true
alive_by true by_name kept is = cc
alive_by false true kept is = refl
alive_by false false kept is = cc

opens : (by_name : Bool) {name : List ℕ} (shows : ℕ → Snapshot) {file : ℕ} (looks : List Look)
    → OnlyGrows (length looks) shows name file → snapshots looks ≡ seen_first shows (length looks) → 0 < length looks
    → open_after by_name name (snapshots looks) ≡ Some file
opens by_name shows [] grows saw some = search rules
opens by_name shows (look ∷ looks) grows saw some = cc
    (saw, seen_are shows (suc (length looks)), stays_open by_name shows (length looks) (omega arith) grows)

-- the looks that were made, and what was written
pub record WroteText (ways : Ways) (name : List ℕ) (shows : ℕ → Snapshot) (count : ℕ) (seen : List Snapshot)
    (new : List Slot) : Type 0 where
  pub looks : List Look
  pub count_is : length looks ≡ length seen
  pub seen_is : seen ≡ snapshots looks
  pub saw : snapshots looks ≡ seen_first shows (length looks)
  pub kept : is_dropped ways.first looks ≡ false
  pub few : length looks ≤ count
  pub full : length looks < count → (0 < length looks)
      × (◌≡◌ {A = Bool} true true → is_alive ways (name ∷ []) looks ≡ false)
  pub is : (slot_at new 0).written ≡ name_text ways.start (entries_of ways.by_name name seen)

wrote_text : {calling : Calling} (ways : Ways) (name : List ℕ) (shows : ℕ → Snapshot) (count : ℕ) (left : Remains)
    → (left.seen ≡ seen_first shows (length left.seen) → AreKept (entries_of ways.by_name name left.seen))
    → FollowEndsAs true true (record {
      calling = calling;
      ways = ways;
      headers = false;
      names = name ∷ [];
      first = streams;
    }) count shows left 0 → WroteText ways name shows count left.seen left.slots
wrote_text ways name shows count left keeps_bytes (looked looks shares seen_is broken made few full found leaves) =
    grind (arith, common_steps, wrote_all, looks_give_text, found_are ways (name ∷ []) looks shares found)
wrote_text ways name shows count left keeps_bytes (stopped mid fault stop says failed) = absurd (status_some fault _ _ (sym failed))
wrote_text ways name shows count left keeps_bytes (unread looks shares before own seen_is broken made few alive found wrote is failed) =
    absurd (omega (arith, failed))
wrote_text ways name shows count left keeps_bytes (no_room why unseen unwatched says failed) = absurd (omega (arith, failed))

-- what each look of a run shows, if it begins within the pause that the run asks for
abbrev pub paused : Run → Followed → (pause : ℕ) → ℕ → Snapshot
paused run followed pause n = waiting (max (pause_by run.calling pause) 1) (showing run followed n)

pub follows_text : {run : Run} {count : ℕ} {options : EndsAsked} {followed : Followed} {name : List ℕ}
    → (follows : Follows run count options followed) → IsBare options
    → options.names ≡ name ∷ []
    → (run.seen ≡ seen_first (paused run followed follows.read.0) (length run.seen)
    → AreKept (entries_of (is_name followed) name run.seen))
    → WroteText (ways_of (is_name followed) (start_of options) 0) name
    (paused run followed follows.read.0) count run.seen run.outputs
follows_text {run} {count} {options} {followed} {name} follows bare named keeps_bytes =
    let ways = ways_of (is_name followed) (start_of options) 0 in
    let shows = paused run followed follows.read.0 in
    let (most, are, ends) = rw (bare, named, follows.well) at (rw (follows.read.1, follows.read.2) at follows.ends) in
    wrote_text ways name shows count (remains run.seen run.watched run.outputs) keeps_bytes (rw (as_many are) at ends)

pub tells_all : (run : Run) (options : EndsAsked) (followed : Followed) (name came : List ℕ) (file n : ℕ)
    → Follows run (n + 1) options followed → IsBare options → options.names ≡ name ∷ []
    → OnlyGrows (length run.seen) (showing run followed) name file
    → (showing run followed n).holds file ≡ (showing run followed 0).holds file ++ came
    → (slot_at run.outputs 0).written ≡ tail_of options.delim options.unit
    (is_plus options.count.sign) options.count.amount ((showing run followed 0).holds file) ++ came
tells_all run options followed name came file n follows bare named grows is =
    let ways = ways_of (is_name followed) (start_of options) 0 in
    let shows = paused run followed follows.read.0 in
    let wrote = follows_text follows bare named (λ saw.
    rw (saw, seen_are shows (length run.seen), entries_are (is_name followed) shows (length run.seen) (omega arith) grows)
    (versions_kept shows 0 (length run.seen) (omega arith) grows)) in
    let grew = subst (λ k. OnlyGrows k shows name file) (sym wrote.count_is) grows in
    let made : length wrote.looks ≡ n + 1 = elim (cases_lt (length wrote.looks) (n + 1)) [
      | inl less ↦ let why = wrote.full less in absurd (false≢true (sym (why.1 refl)
          ∙ alive_by (is_dropped ways.first wrote.looks) ways.by_name wrote.kept (opens ways.by_name shows wrote.looks grew wrote.saw why.0)))
      | inr enough ↦ omega (arith, wrote.few, enough)
    ] in
    let all : length wrote.looks ≡ suc n = grind (arith, common_steps) in
    rw (
      wrote.is,
      wrote.seen_is ∙ wrote.saw,
      all,
      seen_are shows (suc n),
      entries_are (is_name followed) shows (suc n) (omega (arith, all)) grew,
      text_is_gains ways.start (versions shows file 0 (suc n)) (versions_kept shows 0 (suc n) (omega (arith, all)) grew),
      gains_are shows (omega (arith, all)) grew is,
    )

-- A run of the program follows or doesn't, by what its words ask for.

pub asks_looks : (run : Run) {options : EndsAsked} {followed : Followed} {looks : ℕ}
    → (read : AsksToFollow run options followed looks)
    → looks_at run.calling run.fed (settings_of run.calling run.words) ≡ Some looks
asks_looks run {options = options} read = rw (read.1, read.2, or-true (nat_lt 1 (length options.names))) refl

pub ends_at : (run : Run) {looks : Option ℕ} → IsOfProgram run
    → looks_at run.calling run.fed (settings_of run.calling run.words) ≡ looks
    → ProgramEndsAt all_visible run looks
ends_at run ends is = rw (← is) ends
