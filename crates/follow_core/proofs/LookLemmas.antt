-- Lemmas on a look at a name: what it gives after the looks before it, what it reports, and how the name stands then.
use Rattle.follow_core.specs.{
  Standing.BrokeIn,
  Event.{after_change, all_held, bytes_in, came_of, change_between},
  Version.{Entry, entries_at_look, entries_later, entries_led, entries_open, gap, held_at, open_after},
  Version.open_after_later,
  Version.{open_after_look, version, version_in},
  Gain.{last_from, gains_after, gains_later},
  Look.{Failed, Fate, Look, Visit, Ways, are_met, broken_by, can_meet, entries_in, failed_by, failed_for},
  Look.{failed_in, fate_at, is_dropped, snapshots, sound, visit_at},
  Look.is_first,
  Run.AreKept,
  Share.{gain, gains_from, opened_in, text_in},
}
use Rattle.follow_core.proofs.{
  CallGivesLemmas.none_of,
  EventLemmas.bytes-append,
  RunLemmas.{gains-append, last_from-append, later-append, text_goes_on, text_is_gains, looks-append},
}
use Rattle.std.proofs.{
  lemmas.Grind.common_steps,
  Common.{arith, ◌≡◌, ℕ, Bool, true, false, List, [], ◌∷◌, ◌++◌, length, Option, Some, None, refl, sym, ◌∙◌, ap},
  Common.{append_assoc, ◌&&◌, eqb-true},
  lemmas.{List.{append-nil, map-append}, Bool.{and_parts, eq-eqb, Decides.nat_tests}},
  Math.Bool.{and-false, and-true},
}
use Rattle.watch_core.specs.Snapshot.{Snapshot, latest}

-- What a look gives for a name, after the looks before it.

pub entries_more : (ways : Ways) (name : List ℕ) (before : Look) (looks : List Look) (look : Look)
    → entries_in ways name ((before ∷ looks) ++ look ∷ [])
    ≡ entries_in ways name (before ∷ looks)
    ++ entries_at_look ways.by_name name (open_after ways.by_name name (snapshots (before ∷ looks))) look.snapshot
entries_more ways name before looks look = grind (arith, common_steps, map-append, looks-append)

-- the entries that a look adds
abbrev added : Ways → List ℕ → List Look → Look → List Entry
added ways name [] look = entries_in ways name (look ∷ [])
added ways name (before ∷ looks) look = entries_at_look ways.by_name name (opened_in ways name (before ∷ looks)) look.snapshot

-- one look more only adds entries
entries_go_on : (ways : Ways) (name : List ℕ) (looks : List Look) (look : Look)
    → entries_in ways name (looks ++ look ∷ []) ≡ entries_in ways name looks ++ added ways name looks look
entries_go_on ways name looks look = grind (arith, common_steps, entries_more)

-- the entry of a name after a look, if this file is open
abbrev entry_at : Snapshot → Option ℕ → Entry
entry_at snapshot None = gap
entry_at snapshot (Some file) = version_in snapshot file

came_adds : (before snapshot : Snapshot) (opened : Option ℕ) → bytes_in
    (came_of snapshot opened (length (held_at before opened)))
    ≡ gains_later (entry_at before opened) (entries_open snapshot opened)
came_adds before snapshot opened = grind (arith, common_steps, append-nil, eq-eqb, nat_tests)

led_adds : (before snapshot : Snapshot) (opened led : Option ℕ)
    → bytes_in (after_change (change_between opened led) (all_held snapshot led))
    ≡ gains_later (last_from (entry_at before opened) (entries_open snapshot opened)) (entries_led snapshot opened led)
led_adds before snapshot opened led = grind (arith, common_steps, append-nil, nat_tests)

entry_after : (by_name : Bool) (name : List ℕ) (opened : Option ℕ) (snapshot : Snapshot) (last : Entry)
    → last_from last (entries_at_look by_name name opened snapshot)
    ≡ entry_at snapshot (open_after_look by_name name opened snapshot)
entry_after by_name name opened snapshot last = grind (arith, common_steps, eqb-true)

-- the last entry is that of the open file
entry_later : (by_name : Bool) (name : List ℕ) (first : Snapshot) (snaps : List Snapshot) (opened : Option ℕ)
    → last_from (entry_at first opened) (entries_later by_name name opened snaps)
    ≡ entry_at (latest (first ∷ snaps)) (open_after_later by_name name opened snaps)
entry_later by_name name first [] opened = refl
entry_later by_name name first (snapshot ∷ snaps) opened =
    last_from-append (entry_at first opened) (entries_at_look by_name name opened snapshot) _
    ∙ ap (λ entry. last_from entry (entries_later by_name name (open_after_look by_name name opened snapshot) snaps))
    (entry_after by_name name opened snapshot (entry_at first opened))
    ∙ entry_later by_name name snapshot snaps (open_after_look by_name name opened snapshot)

-- what entries add after looks, by the file that these left open
gains_then : (start : List ℕ → List ℕ) (by_name : Bool) (name : List ℕ) (first : Snapshot) (snaps : List Snapshot)
    (led : Option ℕ) (more : List Entry)
    → gains_after start (entries_led first None led ++ entries_later by_name name led snaps) more
    ≡ gains_later (entry_at (latest (first ∷ snaps)) (open_after_later by_name name led snaps)) more
gains_then start by_name name first snaps None more = ap (λ last. gains_later last more) (entry_later by_name name first snaps None)
gains_then start by_name name first snaps (Some file) more =
    ap (λ last. gains_later last more) (entry_later by_name name first snaps (Some file))

-- what a look adds; if names aren't followed, it is as if the name led to the open file
at_look : (by_name : Bool) (name : List ℕ) (opened : Option ℕ) (snapshot : Snapshot)
    → entries_open snapshot opened ++ entries_led snapshot opened (open_after_look by_name name opened snapshot)
    ≡ entries_at_look by_name name opened snapshot
at_look by_name name opened snapshot = grind (arith, common_steps)

-- a look gives what its entries add
gain_adds : (ways : Ways) (name : List ℕ) (looks : List Look) (look : Look)
    → gain ways name looks look ≡ gains_after ways.start (entries_in ways name looks) (added ways name looks look)
gain_adds ways name [] look = append-nil _
gain_adds ways name (before ∷ looks) look =
    let last = latest (snapshots (before ∷ looks)) in let opened = opened_in ways name (before ∷ looks) in
    let led = open_after_look ways.by_name name opened look.snapshot in
    bytes-append (came_of look.snapshot opened (length (held_at last opened))) _
    ∙ (λ i. came_adds last look.snapshot opened i ++ led_adds last look.snapshot opened led i)
    ∙ sym (gains_then ways.start ways.by_name name before.snapshot (snapshots looks) (before.snapshot.leads name) _
    ∙ ap (gains_later (entry_at last opened)) (sym (at_look ways.by_name name opened look.snapshot))
    ∙ later-append (entry_at last opened) (entries_open look.snapshot opened) _)

-- the text goes on by what a look gives, if files that are appended to keep their bytes
pub look_goes_on : (ways : Ways) (name : List ℕ) (looks : List Look) (look : Look)
    → AreKept (entries_in ways name (looks ++ look ∷ []))
    → text_in ways name (looks ++ look ∷ []) ≡ text_in ways name looks ++ gain ways name looks look
look_goes_on ways name looks look kept = grind (arith, common_steps, entries_go_on, gain_adds, text_goes_on)

gains_are : (ways : Ways) (name : List ℕ) (before looks : List Look)
    → gains_after ways.start [] (entries_in ways name before) ++ gains_from ways name before looks
    ≡ gains_after ways.start [] (entries_in ways name (before ++ looks))
gains_are ways name before [] = rw (append-nil before) (append-nil _)
gains_are ways name before (look ∷ looks) = grind (
  arith,
  common_steps,
  gain_adds,
  append_assoc,
  entries_go_on,
  gains-append,
  gains_are ways name (before ++ look ∷ []) looks,
)

-- what all looks give is the text, if files that are appended to keep their bytes
pub looks_give_text : (ways : Ways) (name : List ℕ) (looks : List Look) → AreKept (entries_in ways name looks)
    → gains_from ways name [] looks ≡ text_in ways name looks
looks_give_text ways name looks kept = gains_are ways name [] looks ∙ sym (text_is_gains ways.start (entries_in ways name looks) kept)

-- The file that is open.

-- the file of an entry
abbrev pub file_of : Entry → Option ℕ
file_of gap = None
file_of (version v) = Some v.file

-- the file that a look leaves open is that of its last entry
pub look_leaves : (by_name : Bool) (name : List ℕ) (opened : Option ℕ) (snapshot : Snapshot) (last : Entry)
    → open_after_look by_name name opened snapshot ≡ file_of (last_from last
    (entries_at_look by_name name opened snapshot))
look_leaves by_name name opened snapshot last = grind (arith, common_steps, eqb-true)

open_append : (by_name : Bool) (name : List ℕ) (opened : Option ℕ) (snaps : List Snapshot) (snapshot : Snapshot)
    → open_after_later by_name name opened (snaps ++ snapshot ∷ [])
    ≡ open_after_look by_name name (open_after_later by_name name opened snaps) snapshot
open_append by_name name opened [] snapshot = refl
open_append by_name name opened (next ∷ snaps) snapshot =
    open_append by_name name (open_after_look by_name name opened next) snaps snapshot

-- the file that is open after one look more
pub open_more : (ways : Ways) (name : List ℕ) (before : Look) (looks : List Look) (look : Look)
    → opened_in ways name ((before ∷ looks) ++ look ∷ [])
    ≡ open_after_look ways.by_name name (opened_in ways name (before ∷ looks)) look.snapshot
open_more ways name before looks look =
    ap (open_after_later ways.by_name name (before.snapshot.leads name)) (map-append (λ (one : Look). one.snapshot) looks (look ∷ []))
    ∙ open_append ways.by_name name (before.snapshot.leads name) (snapshots looks) look.snapshot

-- the call of a visit by which a name broke
pub broke_by : (visit : Visit) → failed_by visit None ≡ failed_for visit.why (broken_by visit.fate)
broke_by visit = by visit.fate where
  by : (fate : Fate) → failed_by (record { fate = fate; why = visit.why }) None ≡ failed_for visit.why (broken_by fate)
  by sound = refl
  by fate = refl

-- if no call on a name failed, its fate at each look is sound
pub came_through : (visit : Visit) (later : Option Failed) → failed_by visit later ≡ None → visit.fate ≡ sound
came_through visit later = by visit.fate where
  by : (fate : Fate) → failed_by (record visit { fate = fate }) later ≡ None → fate ≡ sound
  by sound none = refl
  by fate none = absurd (cc)

-- a sound visit breaks no name
pub failed_later : (visit : Visit) (later : Option Failed) → visit.fate ≡ sound → failed_by visit later ≡ later
failed_later visit later fine = rw fine refl

-- the call by which a name broke at the last look, if none failed at the looks before
pub failed_more : (place : ℕ) (looks : List Look) (look : Look) {visit : Visit} → failed_in place looks ≡ None
    → visit_at place look ≡ visit → failed_in place (looks ++ look ∷ []) ≡ failed_by visit None
failed_more place [] look kept at = ap (λ those. failed_by those None) at
failed_more place (first ∷ looks) look kept at =
    let fine = came_through (visit_at place first) (failed_in place looks) kept in
    failed_later (visit_at place first) (failed_in place (looks ++ look ∷ [])) fine
    ∙ failed_more place looks look (sym (failed_later (visit_at place first) (failed_in place looks) fine) ∙ kept) at

-- a look at which no call failed breaks no name
pub failed_sound : (place : ℕ) (looks : List Look) (look : Look) → fate_at place look ≡ sound
    → failed_in place (looks ++ look ∷ []) ≡ failed_in place looks
failed_sound place [] look fine = failed_later (visit_at place look) None fine
failed_sound place (first ∷ looks) look fine = ap (failed_by (visit_at place first)) (failed_sound place looks look fine)

-- The fates that looks can meet.

pub met_none : (is_first by_name seeks : Bool) (place : ℕ) (looks : List Look) → failed_in place looks ≡ None
    → are_met is_first by_name seeks place looks ≡ true
met_none is_first by_name seeks place [] none = refl
met_none is_first by_name seeks place (look ∷ looks) none =
    let through = came_through (visit_at place look) (failed_in place looks) none in
    rw through (met_none false by_name seeks place looks
    (sym (failed_later (visit_at place look) (failed_in place looks) through) ∙ none))

met_more : (first by_name seeks : Bool) (place : ℕ) (looks : List Look) (look : Look)
    → are_met first by_name seeks place looks ≡ true
    → can_meet (is_first looks && first) by_name seeks (fate_at place look) ≡ true
    → are_met first by_name seeks place (looks ++ look ∷ []) ≡ true
met_more first by_name seeks place [] look so_far met = rw met refl
met_more first by_name seeks place (one ∷ looks) look so_far met =
    let both = and_parts (can_meet first by_name seeks (fate_at place one)) (are_met false by_name seeks place looks) so_far in
    rw both.0 (met_more false by_name seeks place looks look both.1 (rw (and-false (is_first looks)) met))

-- no call failed at one look more
pub broken_sound : {ways : Ways} (looks : List Look) (look : Look) {place : ℕ} {failed : Option Failed}
    → fate_at place look ≡ sound → BrokeIn ways looks place failed → BrokeIn ways (looks ++ look ∷ []) place failed
broken_sound {ways} looks look {place} fine so_far = grind (arith, common_steps, failed_sound, met_more)

-- the name broke at one look more
pub broken_more : {ways : Ways} (looks : List Look) (look : Look) {place : ℕ} {failed : Option Failed} {visit : Visit}
    → failed ≡ failed_by visit None → is_dropped place looks ≡ false → visit_at place look ≡ visit
    → can_meet (is_first looks) ways.by_name ways.seeks visit.fate ≡ true
    → BrokeIn ways (looks ++ look ∷ []) place failed
broken_more {ways} looks look {place} broke kept at met =
    let none : failed_in place looks ≡ None = none_of (failed_in place looks) kept in record {
      call = broke ∙ sym (failed_more place looks look none at);
      met = met_more true ways.by_name ways.seeks place looks look (met_none true ways.by_name ways.seeks place looks none)
          (rw (and-true (is_first looks), ap (λ (v : Visit). v.fate) at) met);
    }

-- What a look gives for a name.

abbrev pub seeing : Snapshot → List Visit → Look
seeing snapshot visits = record { snapshot = snapshot; visits = visits }
