-- Lemmas on looks that don't matter.
use Rattle.std.proofs.{
  lemmas.{
    Grind.common_steps,
    List.{append-nil, get_or_append_left},
    Bool.{eq-eqb, le-leb, false≢true},
    Slice.Eq.bytes_eq-Decides,
  },
  Math.Seq.drop-append_seam as drop_front,
  Common.{◌≡◌, ℕ, Bool, true, false, List, [], ◌∷◌, ◌++◌, length, Some, refl, sym, ◌∙◌, ap, arith, length-append},
  Common.{◌⊎◌, inl, inr, ◌<◌, Option, None, subst, rules},
}
use Rattle.engine_core.{specs.Written.IsBeginning, proofs.WrittenLemmas.{begins_itself, begins_trans}}
use Rattle.ports_core.proofs.{InputsLemmas.changed_elsewhere, SlotLemmas.length-changed_at}
use Rattle.watch_core.{
  specs.{
    Snapshot.Snapshot,
    Edits.{Edit, append, truncate, replace, remove, end, bar, World, led_to, edited, edited_by, seen_in, shown},
    Edits.{snapshots_from, snapshots_of},
  },
  proofs.WorldLemmas.{append_leads, append_grows, same_leads},
}
use Rattle.follow_core.{
  specs.Version.{Version, Entry, version, gap, version_in, entries_led, entries_later, entries_at_look, entries_of},
  specs.Gain.{gain_between, gains_later, last_from, gains_after},
  specs.Run.{AreKept, name_text},
  specs.Placing.{all_edits, IsUncut, AreSeen, AllSeen},
  proofs.{RunLemmas.text_is_gains, LookLemmas.{file_of, look_leaves}},
}

-- One look more changes no text.

-- a file that was appended to adds what was appended
pub grown : (file : ℕ) (front : List ℕ) {rest whole : List ℕ} → whole ≡ front ++ rest
    → gain_between (version (record { file = file; contents = front }))
    (version (record { file = file; contents = whole })) ≡ rest
grown file front {rest} is = grind (arith, common_steps, eq-eqb, le-leb, drop_front)

-- a version that stands inside a run adds nothing of its own
pub inside : (file : ℕ) (first : List ℕ) {middle last : List ℕ} → IsBeginning first middle → IsBeginning middle last
    → gain_between (version (record { file = file; contents = first }))
    (version (record { file = file; contents = middle }))
    ++ gain_between (version (record { file = file; contents = middle }))
    (version (record { file = file; contents = last }))
    ≡ gain_between (version (record { file = file; contents = first }))
    (version (record { file = file; contents = last }))
inside file first {middle} {last} (some, is) (more, is_more) = grind (arith, common_steps, grown)

-- a look at a file that didn't change gives nothing
still : {v : Version} (snapshot : Snapshot) (entries : List Entry) → snapshot.holds v.file ≡ v.contents
    → gains_later (version v) (version_in snapshot v.file ∷ entries) ≡ gains_later (version v) entries
still {v} snapshot entries same = grind (arith, common_steps, grown, append-nil)

through : {v : Version} (extra next : Snapshot) (entries : List Entry)
    → (extra.holds v.file ≡ v.contents)
    ⊎ (IsBeginning v.contents (extra.holds v.file) × IsBeginning (extra.holds v.file) (next.holds v.file))
    → gains_later (version v) (version_in extra v.file ∷ version_in next v.file ∷ entries)
    ≡ gains_later (version v) (version_in next v.file ∷ entries)
through {v} extra next entries given = grind (arith, common_steps, still, inside)

-- One look more gives the same text, if the open file is as it was at the look before, or was only appended to since
-- then and is only appended to until the next look, and a name that is followed leads where it led.
pub one_look_more : (by_name : Bool) {name : List ℕ} (last : Entry) (extra next : Snapshot) (later : List Snapshot)
    → (by_name ≡ true → extra.leads name ≡ file_of last)
    → ((v : Version) → last ≡ version v
    → (extra.holds v.file ≡ v.contents)
    ⊎ (IsBeginning v.contents (extra.holds v.file) × IsBeginning (extra.holds v.file) (next.holds v.file)))
    → gains_later last (entries_later by_name name (file_of last) (extra ∷ next ∷ later))
    ≡ gains_later last (entries_later by_name name (file_of last) (next ∷ later))
one_look_more by_name last extra next later leads grows = grind (arith, common_steps, through, entries_later)

-- one look more at a world gives the same text, under the same conditions
one_world_more : (forgives by_name : Bool) (name : List ℕ) (last : Entry) (now next : World) (later : List Snapshot)
    → (by_name ≡ true → (shown forgives now).leads name ≡ file_of last)
    → ((v : Version) → last ≡ version v
    → ((seen_in now).holds v.file ≡ v.contents)
    ⊎ (IsBeginning v.contents ((seen_in now).holds v.file)
    × IsBeginning ((seen_in now).holds v.file) ((seen_in next).holds v.file)))
    → gains_later last (entries_later by_name name (file_of last) (shown forgives now ∷ shown forgives next ∷ later))
    ≡ gains_later last (entries_later by_name name (file_of last) (shown forgives next ∷ later))
one_world_more false by_name name last now next later leads grows = one_look_more by_name last _ _ later leads grows
one_world_more true by_name name last now next later leads grows = one_look_more by_name last _ _ later leads grows

-- Two placings of looks agree.

-- files that names lead to are there, and no two names lead to the same file
record Sound (world : World) : Type 0 where
  known : (name : List ℕ) (file : ℕ) → led_to world.links name ≡ Some file → file < length world.files
  one : (name other : List ℕ) (file : ℕ) → led_to world.links name ≡ Some file → led_to world.links other ≡ Some file
      → name ≡ other

sound_edited : {world : World} (edit : Edit) → Sound world → Sound (edited edit world)
sound_edited edit sound = grind (arith, common_steps, length-changed_at, length-append, bytes_eq-Decides)

sound_all : (world : World) (edits : List Edit) → Sound world → Sound (edited_by edits world)
sound_all world [] sound = sound
sound_all world (edit ∷ edits) sound = sound_all (edited edit world) edits (sound_edited {world = world} edit sound)

one_append : (world : World) (other bytes : List ℕ) (file : ℕ)
    → IsBeginning ((seen_in world).holds file) ((seen_in (edited (append other bytes) world)).holds file)
one_append world other bytes file = elim (append_grows world other bytes file) [
  | inl same ↦ ([], same ∙ sym (append-nil _))
  | inr both ↦ (bytes, both.1)
]

-- a file that a name leads to keeps its bytes, if it isn't truncated
uncut : (forgives : Bool) (world : World) (name : List ℕ) (file : ℕ) (edits : List Edit) → Sound world
    → led_to world.links name ≡ Some file → IsUncut name edits → AreSeen forgives edits
    → IsBeginning ((seen_in world).holds file) ((seen_in (edited_by edits world)).holds file)
uncut forgives world name file [] sound leads no_cut seen = begins_itself _
uncut forgives world name file (truncate other n ∷ []) sound leads no_cut seen = search (rules, begins_itself, changed_elsewhere, false≢true, bytes_eq-Decides)
uncut forgives world name file (replace other bytes ∷ []) sound leads no_cut seen = grind (arith, common_steps, get_or_append_left, begins_itself)
uncut forgives world name file (remove other ∷ []) sound leads no_cut seen = begins_itself _
uncut forgives world name file (end process ∷ []) sound leads no_cut seen = begins_itself _
uncut forgives world name file (end process ∷ next ∷ edits) sound leads no_cut seen =
    uncut forgives (edited (end process) world) name file (next ∷ edits) (sound_edited {world = world} (end process) sound) leads no_cut seen
uncut forgives world name file (bar other is ∷ []) sound leads no_cut seen = begins_itself _
uncut forgives world name file (bar other is ∷ next ∷ edits) sound leads no_cut seen =
    uncut forgives (edited (bar other is) world) name file (next ∷ edits) (sound_edited {world = world} (bar other is) sound) leads no_cut seen.1
uncut forgives world name file (append other bytes ∷ []) sound leads no_cut seen = one_append world other bytes file
uncut forgives world name file (append other bytes ∷ next ∷ edits) sound leads no_cut seen =
    begins_trans _ _ _ (one_append world other bytes file) (uncut forgives (edited (append other bytes) world) name file (next ∷ edits)
    (sound_edited {world = world} (append other bytes) sound) (append_leads false world other bytes name ∙ leads) no_cut seen.1)
uncut forgives world name file (truncate other n ∷ (next ∷ edits)) sound leads no_cut seen = elim seen [ ]
uncut forgives world name file (replace other bytes ∷ (next ∷ edits)) sound leads no_cut seen = elim seen [ ]
uncut forgives world name file (remove other ∷ (next ∷ edits)) sound leads no_cut seen = elim seen [ ]

-- what was last seen of a name is what its file has now
abbrev Matches : Snapshot → Entry → Type 0
Matches snapshot gap = Unit {0}
Matches snapshot (version v) = snapshot.holds v.file ≡ v.contents

record Stays (forgives by_name : Bool) (name : List ℕ) (world : World) (last : Entry) : Type 0 where
  sound : Sound world
  leads : by_name ≡ true → (shown forgives world).leads name ≡ file_of last
  matches : Matches (seen_in world) last

abbrev gained : Bool → List ℕ → Entry → List Snapshot → List ℕ
gained by_name name last looks = gains_later last (entries_later by_name name (file_of last) looks)

abbrev last_seen : Bool → List ℕ → Entry → Snapshot → Entry
last_seen by_name name last snapshot = last_from last (entries_at_look by_name name (file_of last) snapshot)

stays_now : (forgives : Bool) {by_name : Bool} {name : List ℕ} (last : Entry) {world : World} → Sound world
    → Stays forgives by_name name world (last_seen by_name name last (shown forgives world))
stays_now false {by_name} {name} last {world} sound = grind (arith, common_steps, look_leaves, false≢true)
stays_now true {by_name} {name} last {world} sound = grind (arith, common_steps, look_leaves, false≢true)

same_first : (by_name : Bool) (name : List ℕ) (last : Entry) (snapshot : Snapshot) (looks others : List Snapshot)
    → gained by_name name (last_seen by_name name last snapshot) looks
    ≡ gained by_name name (last_seen by_name name last snapshot) others
    → gained by_name name last (snapshot ∷ looks) ≡ gained by_name name last (snapshot ∷ others)
same_first by_name name last snapshot looks others same = grind (arith, common_steps)

idle_look : (forgives by_name : Bool) {name : List ℕ} (last : Entry) {world : World} (looks : List Snapshot)
    → Stays forgives by_name name world last
    → gained by_name name last (shown forgives world ∷ looks) ≡ gained by_name name last looks
idle_look false by_name last looks stays = grind (arith, common_steps, entries_later)
idle_look true by_name last looks stays = grind (arith, common_steps, entries_later)

-- the edits, with a look after each of them
abbrev singles : List Edit → List (List Edit)
singles [] = []
singles (edit ∷ edits) = (edit ∷ []) ∷ singles edits

abbrev Refines : (forgives by_name : Bool) → List ℕ → List (List Edit) → Type 0
Refines forgives by_name name groups = (world : World) (last : Entry) → Stays forgives by_name name world last
    → gained by_name name last (snapshots_from forgives world groups)
    ≡ gained by_name name last (snapshots_from forgives world (singles (all_edits groups)))

one_group : (forgives : Bool) {by_name : Bool} {name : List ℕ} (group : List Edit) (groups : List (List Edit))
    → AreSeen forgives group
    → Refines forgives by_name name groups → Refines forgives by_name name (group ∷ groups)
one_group forgives {by_name} [] groups seen rest world last stays =
    idle_look forgives by_name last _ stays ∙ rest world last stays
one_group forgives {by_name} {name} (edit ∷ []) groups seen rest world last stays =
    grind (arith, common_steps, same_first, stays_now, sound_edited)
one_group forgives {by_name} {name} (append other bytes ∷ next ∷ edits) groups seen rest world last stays =
    let now = edited (append other bytes) world in let more = (next ∷ edits) ∷ groups in
    sym (one_world_more forgives by_name name last _ _ (snapshots_from forgives (edited_by (next ∷ edits) now) groups)
    (λ is. append_leads forgives world other bytes name ∙ stays.leads is) grows)
    ∙ same_first by_name name last _ (snapshots_from forgives now more) (snapshots_from forgives now (singles (all_edits more)))
    (one_group forgives (next ∷ edits) groups seen.1 rest _ _ (stays_now forgives last (sound_edited (append other bytes) stays.sound))) where
      grows : (v : Version) → last ≡ version v
          → ((seen_in (edited (append other bytes) world)).holds v.file ≡ v.contents)
          ⊎ (IsBeginning v.contents ((seen_in (edited (append other bytes) world)).holds v.file)
          × IsBeginning ((seen_in (edited (append other bytes) world)).holds v.file)
          ((seen_in (edited_by (next ∷ edits) (edited (append other bytes) world))).holds v.file))
      grows v is = let was : (seen_in world).holds v.file ≡ v.contents = subst (Matches (seen_in world)) is stays.matches in elim
          (append_grows world other bytes v.file) [
            | inl same ↦ inl (same ∙ was)
            | inr both ↦ inr (
              (bytes, both.1 ∙ ap (λ held. held ++ bytes) was),
              uncut forgives (edited (append other bytes) world) other v.file
                  (next ∷ edits) (sound_edited (append other bytes) stays.sound) (append_leads false world other bytes other ∙ both.0) seen.0 seen.1,
            )
          ]
one_group forgives (truncate other n ∷ next ∷ edits) groups seen rest world last stays = elim seen [ ]
one_group forgives (replace other bytes ∷ next ∷ edits) groups seen rest world last stays = elim seen [ ]
one_group forgives (remove other ∷ next ∷ edits) groups seen rest world last stays = elim seen [ ]
one_group forgives {by_name} {name} (end process ∷ next ∷ edits) groups seen rest world last stays =
    let still : Stays forgives by_name name (edited (end process) world)
    last = record {
      sound = sound_edited (end process) stays.sound;
      leads = λ is. same_leads forgives world (edited (end process) world) name refl refl ∙ stays.leads is;
      matches = grind (arith, common_steps, stays.matches);
    } in
    one_group forgives (next ∷ edits) groups seen rest (edited (end process) world) last still
    ∙ sym (idle_look forgives by_name last (snapshots_from forgives (edited (end process) world) (singles (all_edits ((next ∷ edits) ∷ groups)))) still)
one_group false {by_name} {name} (bar other is ∷ next ∷ edits) groups seen rest world last stays =
    let still : Stays false by_name name (edited (bar other is) world)
    last = record {
      sound = sound_edited (bar other is) stays.sound;
      leads = stays.leads;
      matches = grind (arith, common_steps, stays.matches);
    } in
    one_group false (next ∷ edits) groups seen.1 rest (edited (bar other is) world) last still
    ∙ sym (idle_look false by_name last (snapshots_from false (edited (bar other is) world) (singles (all_edits ((next ∷ edits) ∷ groups)))) still)
one_group true (bar other is ∷ next ∷ edits) groups seen rest world last stays = absurd (false≢true (sym seen.0))

refines : (forgives : Bool) {by_name : Bool} {name : List ℕ} (groups : List (List Edit)) → AllSeen forgives groups
    → Refines forgives by_name name groups
refines forgives [] seen world last stays = refl
refines forgives (group ∷ groups) seen world last stays =
    one_group forgives group groups seen.0 (refines forgives groups seen.1) world last stays

-- after the first look, looks give the same as one look after each edit
from_first : (forgives : Bool) (start : List ℕ → List ℕ) (by_name : Bool) (name : List ℕ) {world : World}
    (groups : List (List Edit)) → Sound world → AllSeen forgives groups → (led : Option ℕ)
    → (shown forgives world).leads name ≡ led
    → gains_after start [] (entries_led (shown forgives world) None led
    ++ entries_later by_name name led (snapshots_from forgives world groups))
    ≡ gains_after start []
    (entries_led (shown forgives world) None led
    ++ entries_later by_name name led (snapshots_from forgives world (singles (all_edits groups))))
from_first forgives start by_name name {world} groups sound seen None is = grind (arith, common_steps, refines)
from_first false start by_name name {world} groups sound seen (Some file) is = grind (arith, common_steps, refines)
from_first true start by_name name {world} groups sound seen (Some file) is = grind (arith, common_steps, refines)

pub text_of_singles : (forgives : Bool) (start : List ℕ → List ℕ) (by_name : Bool) (name : List ℕ) (first : List Edit)
    (groups : List (List Edit)) → AllSeen forgives groups
    → AreKept (entries_of by_name name (snapshots_of forgives (first ∷ groups)))
    → name_text start (entries_of by_name name (snapshots_of forgives (first ∷ groups)))
    ≡ gains_after start [] (entries_of by_name name (snapshots_of forgives (first ∷ singles (all_edits groups))))
text_of_singles forgives start by_name name first groups seen kept = grind (arith, common_steps, text_is_gains, from_first, sound_all)
