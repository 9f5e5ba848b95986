-- Files that are opened, written and closed in order.
use Rattle.std.proofs.{
  lemmas.Grind.{common_steps, elements},
  lemmas.Bool.{cases_lt, Decides.nat_tests},
  lemmas.List.{append-nil, take-append-drop, get_or_append_left, get_or-take, get_or_past, length-take-le},
  lemmas.List.FromFn.{length-map-range_with_len, take-map-range_with_len, map-range_with_len_more},
  lemmas.Result.{IfErr-weaker, on_ok_weaker},
  Common.{◌≡◌, ℕ, ◌+◌, ◌-◌, ◌<◌, ◌≤◌, zero, suc, max, Bool, cond, ltb, List, [], ◌++◌, ◌⊎◌, length, map, take},
  Common.{drop, Result, Ok, Err, append_assoc, inl, inr, refl, sym, ◌∙◌, ap, subst, arith, true, false, ◌∷◌, get_or},
  Common.{length-append, IsTrue, rules, zero-add},
  Math.Path.fun_ext,
}
use Rattle.std.specs.List.{range_with_len}
use Rattle.ports_core.specs.{
  Name.{Naming, name_at, has_name},
  declared.{slot.Mode.TheVariants.Fresh, fault.Fault.Fault},
  Slot.{Effect, Slot, changed_at, effect, opened, adds, closes, is_closable, with_written, SlotBreaks, visible_of},
  Slot.KeepsBroken,
}
use Rattle.engine_core.specs.{
  Names.{next_name, has_next, line_next, told_next, CanTell, OpensNone, no_memory, no_name, no_line, no_number},
  Names.no_file,
  declared.names.Names.Names,
  Written.{Written, OutputsAt, FilesBegin, Begins, IsBeginning, IsDueLine, IsNext, IsAt, LinesInOrder, Marks},
  Draft.{manner_by, opening_line, output_of, part_with, told_before, told_of_files},
  FileWriter.Breaks,
  InTurn.fault_in,
  inner.Write.Wrote,
}
use Rattle.engine_core.proofs.{
  WrittenLemmas.{IsNoOpen, begins_itself, begins_trans, due_by, kept_trans, marks_by, none_due, openings-append},
  WrittenLemmas.{openings_since, out_more, sound_at, part_trans},
  WrittenSteps.line_begins,
  SlotSteps.{keeps_again, keeps_close, keeps_open, keeps_write, rose_later, write_rose, writable_before},
  SlotSteps.{writable_elsewhere, writable_within, opened_writable, broken_there, written_size, short_size},
  SlotSteps.broken_size,
  OpenLemmas.{IsNextName, stops_opening},
  FileWriterLemmas.{breaks_later, can_tell, make_breaks},
  FileLemmas.{file_more, file_changes, write_makes},
}
use Rattle.ports_core.proofs.{SlotLemmas.length-changed_at, WriteLemmas.writable-written}
use Rattle.split_core.specs.{
  Split.{Filing, Share, is_verbose, output_by},
  FilesState.{FilesState, filing_in},
  Round.{AreReady, output_at},
  laws.{ChunkLaws.map_same, ShareLaws.told_begins},
  inner.Sharing.{file_at, files_by, part_by, all_open, only_at, StandAt, KeepsFiles, IsOfFiles, Adds, Leaves, Grow},
  inner.Sharing.{Halts, Shares, closed_first, Opens, ClosesAll, with_opened},
  Sharing.CannotOpen,
}
use Rattle.engine_core.specs.inner.Write as short
use Rattle.ports_core.specs.declared.fault.Fault.TheVariants as fault

-- what has a name after a place, has one there
pub named_before : (names : Naming) (place more : ℕ) → has_name names more ≡ true → place ≤ more
    → has_name names place ≡ true
named_before names place more is less = search rules

-- Files by their places

changed_by : {X : Type 0} (change : X → X) (f g : ℕ → X) (start n place : ℕ) {at : ℕ} → start + place ≡ at
    → place < n
    → ((i : ℕ) → (i ≡ at → ⊥) → f i ≡ g i) → change (f at) ≡ g at
    → changed_at place change (map f (range_with_len start n)) ≡ map g (range_with_len start n)
changed_by change f g start zero place is within other here = absurd (omega arith)
changed_by change f g start (suc n) zero is within other here = search (rules, map_same)
changed_by change f g start (suc n) (suc place) is within other here =
    cc (other start (λ same. omega arith), changed_by change f g (start + 1) n place (omega arith) (omega arith) other here)

drop_by : {X : Type 0} (f : ℕ → X) (k start n : ℕ) {at : ℕ} → start + k ≡ at
    → drop k (map f (range_with_len start n)) ≡ map f (range_with_len at (n - k))
drop_by f (suc k) start (suc n) is = let rest : suc n - suc k ≡ n - k = omega arith in rw rest (drop_by f k _ n (omega arith))
drop_by f k start n is = search rules

-- From some files to others

-- what standard output gets about one more file, it gets before the file is opened
told_more : (verbose : Bool) (file : ℕ → Slot) (n : ℕ)
    → told_of_files (output_by verbose) (map file (range_with_len 0 (n + 1)))
    ≡ told_of_files (output_by verbose) (map file (range_with_len 0 n)) ++ told_before (output_by verbose) (file n).name
told_more false file n = refl
told_more true file n = cc (
  map-range_with_len_more file 0 n n (zero-add n),
  openings-append opening_line (map file (range_with_len 0 n)) (file n ∷ []),
  append-nil (opening_line (file n).name),
)

-- what standard output gets about files doesn't depend on what they have
told_same : (verbose : Bool) (low high : ℕ → Slot) → ((i : ℕ) → (low i).name ≡ (high i).name) → (start n : ℕ)
    → told_of_files (output_by verbose) (map low (range_with_len start n))
    ≡ told_of_files (output_by verbose) (map high (range_with_len start n))
told_same false low high same start n = refl
told_same true low high same start zero = refl
told_same true low high same start (suc n) =
    cc (same start, told_same true low high same (start + 1) n)

grow_begins : (filing : Filing) {from to count : ℕ} {low high : Shares} → count ≤ low.count → Grow from to low high
    → Begins (part_by filing (record low { count = count })) (part_by filing high)
grow_begins filing {count = count} {low} {high} less grow =
    let files = by 0 count high.count (let more = grow.more in omega arith) in record { out = told_begins _ _ _ files; files = files } where
      by : (start m n : ℕ) → m ≤ n → FilesBegin (map (λ i. file_at filing i (low.at i)) (range_with_len start m))
          (map (λ i. file_at filing i (high.at i)) (range_with_len start n))
      by start zero n fewer = tt
      by start (suc m) zero fewer = absurd (omega arith)
      by start (suc m) (suc n) fewer =
          grind (arith, common_steps, grow.begin start, grow.bytes start, by (start + 1) m n (omega arith))

grow_trans : (from to : ℕ) {a b c d : ℕ} {low mid high : Shares} → Grow a b low mid → Grow c d mid high
    → from ≤ a → from ≤ c → b ≤ to → d ≤ to → Grow from to low high
grow_trans from to first second here there before after = record {
  more = omega arith;
  new = omega arith;
  begin = λ i. kept_trans (λ (one : Share). one.state) _ _ _ (first.begin i) (second.begin i);
  bytes = λ i. begins_trans _ _ _ (first.bytes i) (second.bytes i);
  same = λ i out. first.same i (grind (arith, out)) ∙ second.same i (grind (arith, out));
}

pub grow_same : {from to : ℕ} {shares : Shares} → Grow from to shares shares
grow_same = search rules

grow_by : {from to few many : ℕ} {had has : ℕ → List ℕ} (more : ℕ → List ℕ) → few ≤ many → many ≤ max few to
    → ((i : ℕ) → (i < from) ⊎ (to ≤ i) → more i ≡ []) → ((i : ℕ) → has i ≡ had i ++ more i)
    → Grow from to (all_open had few) (all_open has many)
grow_by {had = had} more less most outside are = record {
  more = less;
  new = most;
  begin = λ i. inl (refl, refl);
  bytes = λ i. (more i, are i);
  same = λ i out. cc (are i, outside i out, append-nil (had i));
}

-- A fault that stopped the files

-- the next of many files is the one after some files
next_due : (filing : Filing) {out : List ℕ} (part high : Shares) {many : ℕ} {name : List ℕ} → many ≤ high.count
    → (name ≡ name_at filing.names part.count) × (part.count < many)
    → IsNext (record { out = out; files = files_by filing part }) (part_by filing high) name
next_due filing part high {many} more (is, less) = let file : ℕ → Slot = λ i. file_at filing i (high.at i) in
    let some = part.count in record {
      front = map file (range_with_len 0 some);
      file = file some;
      rest = map file (range_with_len (some + 1) (high.count - suc some));
      files = let left : high.count - some ≡ suc (high.count - suc some) = omega arith in
          sym (take-append-drop some (map file (range_with_len 0 high.count)))
          ∙ cc (take-map-range_with_len file 0 high.count some (omega arith), drop_by _ _ 0 _ (zero-add some), left);
      place = grind (arith, length-map-range_with_len);
      name_is = sym is;
    }

-- the lines that standard output got after those for some files
lines_in : (verbose : Bool) (low : List Slot) (part high : Written) (place : ℕ) (bytes : List ℕ) (why : Fault)
    → FilesBegin low part.files → part.out ≡ told_of_files (output_by verbose) part.files ++ bytes
    → IsDueLine (IsNext part high) (told_before (output_by verbose)) bytes why
    → LinesInOrder (output_by verbose) (part_with (output_by verbose) low) part high place why
lines_in false low part high place bytes why begins is due = tt
lines_in true low part high place bytes why begins is due = record {
  next = bytes;
  all = is ∙ ap (λ text. text ++ bytes) (openings_since opening_line _ _ begins) ∙ append_assoc _ _ bytes;
  due = due;
}

-- A fault came at a place: some of many files had all, and standard output a beginning of the line for the file that is due.
halts_at : {outs : Effect} {filing : Filing} {part : Shares} {many place : ℕ} {why : Fault} {reached : List Slot}
    (Due : List ℕ → Type 0) (bytes : List ℕ) → place ≤ part.count → part.count ≤ many
    → ((name : List ℕ) → Due name → (name ≡ name_at filing.names part.count) × (part.count < many))
    → (bytes ≡ []) ⊎ ((part.count < many)
    × IsBeginning bytes (told_before (output_by filing.verbose) (name_at filing.names part.count)))
    → IsDueLine Due (told_before (output_by filing.verbose)) bytes why
    → OutputsAt outs.visible outs.old
    (record { out = (part_by filing part).out ++ bytes; files = files_by filing part }) reached
    → Marks Due why reached outs.new → IsAt why (length outs.old) place part.count
    → Halts filing part (record part { count = many }) place (place + 1) outs why
halts_at {outs} {filing} {part} {place = place} {why} {reached} Due bytes inside few due begun line outputs marks came = record {
  stops = λ first last end front back.
      let at : Written = record { out = (part_by filing part).out ++ bytes; files = files_by filing part } in
      let some = part.count in
      let below = grow_begins filing {count = some} few back in
      let above : Begins (part_by filing first) at = part_trans _ _ _ (grow_begins filing {count = first.count} (omega arith) front) (line_begins bytes) in
      let left : some - suc place ≡ first.count - suc place = omega arith in record {
        part = at;
        above = above;
        below = record {
          out = elim begun [
            | inl none ↦ rw (none, append-nil) below.out
            | inr begins ↦ begins_trans _ _ _
                (begins.1.0, ap (λ those. (part_by filing part).out ++ those) begins.1.1 ∙ sym (append_assoc _ bytes begins.1.0))
                (rw (told_more filing.verbose (λ i. file_at filing i (part.at i)) some) at
                (grow_begins filing {count = some + 1} (omega (arith, begins.0)) back).out)
          ];
          files = below.files;
        };
        place = place;
        order = record {
          done = take-map-range_with_len _ 0 some place inside
              ∙ map_same _ _ 0 place (λ i past low. ap (file_at filing i) (back.same i (inl (omega arith))))
              ∙ sym (take-map-range_with_len _ 0 last.count place (omega arith));
          untouched = rw (drop_by _ (suc place) 0 some (zero-add _), drop_by _ (suc place) 0 first.count (zero-add _), left)
              (map_same _ _ _ _ (λ i past more. ap (file_at filing i) (sym (front.same i (inr (omega arith))))));
        };
        lines = lines_in filing.verbose _ at _ place bytes why above.files refl
            (due_by Due _ _ bytes why (λ name is. next_due filing part last back.more (due name is)) line);
        reached = reached;
        outputs = outputs;
        marks = marks_by Due _ why reached outs.new (λ name is. next_due filing part last back.more (due name is)) marks;
        from = rw length-map-range_with_len came;
      };
  own = λ other is. grind (arith, rw is at came, outputs.standard);
}

-- standard output got nothing about a file that isn't open
halts : {outs : Effect} {filing : Filing} {part : Shares} {place : ℕ} {why : Fault} {reached : List Slot} → IsNoOpen why
    → place ≤ part.count → OutputsAt outs.visible outs.old (part_by filing part) reached
    → Marks (λ name. ⊥) why reached outs.new → IsAt why (length outs.old) place part.count
    → Halts filing part part place (place + 1) outs why
halts other inside outputs marks came =
    halts_at (λ name. ⊥) [] inside (omega arith) (λ name none. absurd none) (inl refl) (none_due _ _ _ other) (rw append-nil outputs) marks came

-- the files before its place had got more before, and those after it were to get more
halts_wider : {filing : Filing} {low mid more high : Shares} {from to place end : ℕ} {outs : Effect} {why : Fault}
    → Halts filing mid more place end outs why → from ≤ place → end ≤ max 1 to
    → Grow from (place + 1) low mid → Grow (end - 1) to more high → Halts filing low high from to outs why
halts_wider {to = to} {place} {end} stop less past above below = record {
  stops = λ first last further front back. stop.stops first last (max to further)
      (search (arith, grow_trans 0 (place + 1) front above)) (search (arith, grow_trans (end - 1) (max to further) below back));
  own = λ other is. omega (arith, stop.own other is);
}

-- Steps in a row

-- a later step
pub adds_then : {visible : Bool} {files between next : FilesState} {first second more : ℕ → List ℕ} {from to place : ℕ}
    {old mid new : List Slot} (result : Result (Unit {0}) Fault)
    → Adds files between first from to (effect visible old mid) (Ok tt)
    → Adds between next second place (place + 1) (effect visible mid new) result → from ≤ place → to ≤ place + 1
    → ((i : ℕ) → more i ≡ first i ++ second i) → Adds files next more from (place + 1) (effect visible old new) result
adds_then {visible} {files} {between} {next} {first} {second} {more} {from} {to} {place} {old} {mid} {new} result one other less near are = record {
  filing = other.filing ∙ one.filing;
  owned = λ start owns. other.owned start (one.owned start owns);
  ready = other.ready;
  opened = rw count at other.opened;
  sound = on_ok_weaker result (keeps_again _ _ _ one.sound) other.sound;
  caused = grind (arith, common_steps, one, other, IfErr-weaker, breaks_later);
  outside = λ i out. cc (are i, one.outside i (grind (arith, out)), other.outside i (grind (arith, out)));
  leaves = λ before had has at is. further result before had has (rw (← count, ← one.opened, ← one.filing)
      (other.leaves before (λ i. had i ++ first i) has (record {
        owns = one.owned (length before) at.owns;
        outputs = subst (λ filing. OutputsAt visible before (part_by filing (all_open (λ i. had i ++ first i) (length between.outputs))) mid)
            (sym one.filing)
            (rw (← one.opened) at (one.leaves before had _ at (λ i. refl)));
        none = λ i past. cc (at.none i (omega arith), one.outside i (inr (omega arith)));
      }) (λ i. cc (is i, are i, append_assoc (had i) (first i) (second i)))));
} where
  count : max (length between.outputs) (place + 1) ≡ max (length files.outputs) (place + 1)
  count = omega arith

  further : (result : Result (Unit {0}) Fault) (before : List Slot) (had has : ℕ → List ℕ)
      → Leaves (filing_in files) (all_open (λ i. had i ++ first i) (max (length files.outputs) to))
      (all_open has (max (length files.outputs) (place + 1))) place (place + 1) (effect visible before new) result
      → Leaves (filing_in files) (all_open had (length files.outputs))
      (all_open has (max (length files.outputs) (place + 1))) from (place + 1) (effect visible before new) result
  further (Ok done) before had has at = at
  further (Err why) before had has stop = halts_wider stop less (omega arith)
      (grow_by first (omega arith) (omega arith) (λ i out. one.outside i (grind (arith, out))) (λ i. refl)) grow_same

-- a fault on the way to more than was to be added
pub adds_wider : {files next : FilesState} {some more : ℕ → List ℕ} {from to : ℕ} (low most : ℕ)
    (rest : ℕ → List ℕ) {outs : Effect} {why : Fault}
    → Adds files next some from to outs (Err why) → ((i : ℕ) → more i ≡ some i ++ rest i)
    → ((i : ℕ) → (i < low) ⊎ (most ≤ i) → rest i ≡ [])
    → from ≤ low → to ≤ suc low → to ≤ most → Adds files next more from most outs (Err why)
adds_wider {some = some} low most rest adds are none less near far = record {
  filing = adds.filing;
  owned = adds.owned;
  ready = tt;
  opened = tt;
  sound = tt;
  caused = adds.caused;
  outside = λ i out. are i ∙ cc (adds.outside i (grind (arith, out)), none i (grind (arith, out)));
  leaves = λ before had has at is. halts_wider (adds.leaves before had (λ i. had i ++ some i) at (λ i. refl)) (omega arith) (omega arith) grow_same
      (grow_by rest (omega arith) (omega arith) (λ i out. none i (grind (arith, out)))
      (λ i. cc (is i, are i, append_assoc (had i) (some i) (rest i))));
}

-- files get what was gathered for them, one after another
module _ {visible : Bool} {files between next : FilesState} {old mid new : List Slot} {place : ℕ}
    (gathered : List (List ℕ)) {one bytes : List ℕ}
    (before : Adds files between (λ i. get_or (take place gathered) i []) 0 place (effect visible old mid) (Ok tt))
    (within : place < length gathered) (at : one ≡ get_or gathered place one) (same : bytes ≡ one) where
  pub sent_next : (result : Result (Unit {0}) Fault)
      → Adds between next (only_at place bytes) place (place + 1) (effect visible mid new) result
      → Adds files next (λ i. get_or (take (place + 1) gathered) i []) 0 (place + 1) (effect visible old new) result
  sent_next result after = adds_then result before after (omega arith) (omega arith)
      (λ i. grind (arith, common_steps, nat_tests, get_or-take, get_or_past, length-take-le, append-nil))

  pub sent_stops : {why : Fault}
      → Adds between next (only_at place bytes) place (place + 1) (effect visible mid new) (Err why)
      → Adds files next (λ i. get_or gathered i []) 0 (length gathered) (effect visible old new) (Err why)
  sent_stops {why} after = adds_wider (place + 1) (length gathered) (λ i. cond (ltb i (place + 1)) [] (get_or gathered i []))
      (sent_next (Err why) after) (λ i. grind (arith, common_steps, nat_tests, get_or-take, get_or_past, length-take-le, append-nil))
      (λ i out. grind (arith, nat_tests, get_or_past gathered i [], out)) (omega arith) (omega arith) (omega arith)

-- Opening

ready_written : {files : FilesState} (slot : ℕ) (bytes : List ℕ) {old new : List Slot} → AreReady files old
    → new ≡ with_written slot bytes old → AreReady files new
ready_written slot bytes ready is =
    grind (arith, common_steps, can_tell, length-changed_at, writable-written)

-- there are as many slots as before
owned_same : {files : FilesState} {old new : List Slot} → length new ≡ length old → KeepsFiles files old files new
owned_same size first owns = grind (arith, owns)

ready_opened : {files : FilesState} {old new : List Slot} (name : List ℕ) → AreReady files old
    → new ≡ old ++ opened name Fresh ∷ [] → AreReady (with_opened (length old) files) new
ready_opened {files} {old} {new} name ready is = search (rules, can_tell, writable_before, elements, get_or_append_left, writable_within, opened_writable)

-- The file could not be opened: then a name was drawn for it, or no output was added; and standard output can break only if it gets lines
-- about files.
fails_caused : {visible : Bool} {files : FilesState} {next : Names} {old new : List Slot} {why : Fault}
    → AreReady files old → IsTrue (has_next files.names) → OpensNone visible files.tells files.names next old new why
    → Breaks (manner_by files.names.naming (output_of files.tells)) old new why
    → ((length new ≡ length old) ⊎ (next.drawn ≡ files.names.drawn + 1))
    × CannotOpen (is_verbose files.tells) old new why × IsOfFiles (is_verbose files.tells) old new why
fails_caused ready has (no_memory same) breaks = (inl (ap length same), inl refl, tt)
fails_caused ready has (no_line n few some cut) breaks = grind (arith, common_steps, short_size, common_steps)
fails_caused ready has (no_file slot kept reason at few some drew is made) breaks = grind (arith, common_steps)
fails_caused ready has (no_number few some same) breaks = (inl (written_size 0 _ _ _ same), inl refl, tt)
fails_caused ready has (no_name few none same) breaks = absurd (cc)

pub cannot_later : (verbose other : Bool) (old mid new : List Slot) {why : Fault} → other ≡ verbose
    → KeepsBroken old mid → CannotOpen other mid new why → CannotOpen verbose old new why
cannot_later verbose other old mid new same stay fails = grind (arith, common_steps, rose_later)

-- what standard output gets about the next file
line_is : {files : FilesState} {slots : List Slot} → AreReady files slots → line_next files.tells files.names
    ≡ told_before (output_by (is_verbose files.tells)) (name_at files.names.naming (length files.outputs))
line_is ready = cc (ready.tells, ready.drawn)

-- the next file was opened, after the line about it
pub reached : (visible : Bool) (files : FilesState) {old new : List Slot} (place : ℕ) → AreReady files old
    → place ≡ length files.outputs
    → new ≡ told_next visible files.tells files.names old ++ opened (next_name files.names) Fresh ∷ []
    → Opens files (with_opened (length old) files) place (place + 1) (effect visible old new) (Ok tt)
reached visible files {old} place ready here is =
    let size : length (told_next visible files.tells files.names old) ≡ length old = written_size 0 _ _ _ refl in record {
      adds = record {
        filing = refl;
        owned = λ first owns. grind (arith, common_steps, size, ready, owns);
        ready = rw size at (ready_opened _ (ready_written 0 _ ready refl) is);
        opened = omega (arith, length-append files.outputs (length old ∷ []));
        sound = keeps_again _ _ _ (keeps_write 0 _ _ _ refl) (keeps_open _ _ _ is);
        caused = tt;
        outside = λ i out. refl;
        leaves = λ before had has at are. let same : ◌≡◌ {A = ℕ → List ℕ} has had = fun_ext (λ i. are i ∙ append-nil (had i)) in
            let count : max (length files.outputs) (place + 1) ≡ length files.outputs + 1 = omega arith in
            let file : ℕ → Slot = λ i. file_at (filing_in files) i ((all_open had 0).at i) in
            rw (
              count,
              same,
              told_more (is_verbose files.tells) file (length files.outputs),
              map-range_with_len_more file 0 (length files.outputs) (length files.outputs) (zero-add _),
              at.none (length files.outputs) (omega arith),
            )
            (rw (line_is ready, ready.drawn) at (file_more _ _ _ _ _ _ _ (out_more _ _ _ _ _ _ at.outputs refl) is));
      };
      caused = tt;
    }

-- the next file couldn't be opened
pub reached_not : (visible : Bool) (files : FilesState) {names : Names} {old new : List Slot} (place : ℕ) {why : Fault}
    → AreReady files old → place ≡ length files.outputs → has_name files.names.naming place ≡ true
    → names.naming ≡ files.names.naming → OpensNone visible files.tells files.names names old new why
    → Opens files (record files { names = names }) place (place + 1) (effect visible old new) (Err why)
reached_not visible files {old = old} place ready here named same fails =
    let caused = fails_caused ready (rw (here ∙ sym ready.drawn) at named) fails (make_breaks visible files.tells ready.output fails) in
    let stops = stops_opening {old = old} (let two = ready.streams in omega arith) fails in record {
      adds = record {
        filing = cc;
        owned = λ first owns. grind (arith, common_steps, ready, owns, caused.0);
        ready = tt;
        opened = tt;
        sound = tt;
        caused = caused.2;
        outside = λ i out. refl;
        leaves = λ before had has at are. halts_wider (halts_at {many = max (length files.outputs) (place + 1)} {place = place}
            (IsNextName files.names) stops.bytes (omega arith) (omega arith)
            (λ name next. (cc (next.2, ready.drawn), omega arith)) (elim stops.begins [
              | inl none ↦ inl none
              | inr some ↦ inr (omega arith, rw (line_is ready) at some.1)
            ]) (stops.due (told_before (output_by (is_verbose files.tells))) (cc ready.tells))
            (out_more _ _ _ _ _ _ at.outputs stops.wrote) stops.marks (rw (← here) (stops.at (length before) place)))
            (omega arith) (omega arith) grow_same (grow_by (λ i. []) (omega arith) (omega arith) (λ i out. refl) are);
      };
      caused = caused.1;
    }

-- Writing

-- only the file at a place changed
changed_files : (filing : Filing) (makes : Slot → Slot) (low high : Shares) {place : ℕ} → low.count ≡ high.count
    → place < low.count → ((i : ℕ) → (i ≡ place → ⊥) → low.at i ≡ high.at i)
    → makes (file_at filing place (low.at place)) ≡ file_at filing place (high.at place)
    → record { out = (part_by filing low).out; files = changed_at place makes (files_by filing low) }
    ≡ part_by filing high
changed_files filing makes low high {place} same within other here = grind (arith, common_steps, told_same, changed_by)

writes : {visible : Bool} {files : FilesState} {before : List Slot} {had has : ℕ → List ℕ} {old new : List Slot}
    {place : ℕ} (bytes : List ℕ) → place < length files.outputs
    → new ≡ with_written (output_at files place) (visible_of visible bytes) old → StandAt visible files before had old
    → ((i : ℕ) → has i ≡ had i ++ only_at place bytes i)
    → OutputsAt visible before (part_by (filing_in files) (all_open has (length files.outputs))) new
writes {visible} {files} {had = had} {has} {place = place} bytes within is at are =
    rw (changed_files (filing_in files) (adds bytes) (all_open had (length files.outputs)) (all_open has _) refl within
    (λ i differs. grind (arith, nat_tests, are i, append-nil (had i), differs)) (grind (arith, nat_tests, are place))) at
    (file_changes visible _ (adds bytes) (write_makes visible bytes) _ _ _ _ place at.outputs (rw (at.owns.stand place within) at is))

-- bytes were written to a file that is open, or it broke among them
written : (visible : Bool) {files : FilesState} {old new : List Slot} (place : ℕ) (bytes : List ℕ)
    (result : Result (Unit {0}) Fault) → AreReady files old → place < length files.outputs
    → Wrote visible (output_at files place) bytes old new (fault_in result)
    → Adds files files (only_at place bytes) place (place + 1) (effect visible old new) result
written visible {files} place bytes (Ok done) ready within is = record {
  filing = refl;
  owned = owned_same (written_size _ _ _ _ is);
  ready = ready_written _ _ ready is;
  opened = omega arith;
  sound = keeps_write _ _ _ _ is;
  caused = tt;
  outside = λ i out. grind (arith, nat_tests, out);
  leaves = λ before had has at are. let count : length files.outputs ≡ max (length files.outputs) (place + 1) = omega arith in
      rw count at (writes _ within is at are);
}
written visible {files} {old} place bytes (Err _) ready within (short.broke n cut) = record {
  filing = refl;
  owned = owned_same (short_size _ _ _ _ _ _ (short.broke n cut));
  ready = tt;
  opened = tt;
  sound = tt;
  caused = (
    λ none. absurd (omega (arith, (ready.closable place within).0)),
    write_rose _ _ _ n _ _ (ready.closable place within).1 cut,
  );
  outside = λ i out. grind (arith, nat_tests, out);
  leaves = λ before had has at are. halts_wider (halts tt (omega arith) (writes (take n bytes) within refl at (λ i. refl))
      (omega (arith, length-changed_at, writable_within (output_at files place) old (ready.closable place within).1), cut.slots)
      (inr (at.owns.stand place within))) (omega arith) (omega arith)
      (grow_by (only_at place (take n bytes)) (omega arith) (omega arith) (λ i out. grind (arith, nat_tests, out)) (λ i. refl))
      (grow_by (only_at place (drop n bytes)) (omega arith) (omega arith) (λ i out. grind (arith, nat_tests, out))
      (λ i. grind (arith, nat_tests, are i, take-append-drop n bytes, append_assoc, append-nil)));
}

-- there was no room for any of it
pub no_room : (visible : Bool) (files : FilesState) (more : ℕ → List ℕ) (to : ℕ) {slots : List Slot}
    → ((i : ℕ) → to ≤ i → more i ≡ []) → Adds files files more 0 to (effect visible slots slots) (Err fault.Memory)
no_room visible files more to none = record {
  filing = refl;
  owned = λ first owns. owns;
  ready = tt;
  opened = tt;
  sound = tt;
  caused = tt;
  outside = λ i out. none i (omega arith);
  leaves = λ before had has at are. halts_wider (halts {place = 0} tt (omega arith) at.outputs refl tt)
      (omega arith) (omega arith) grow_same (grow_by more (omega arith) (omega arith) (λ i out. none i (omega arith)) are);
}

-- Closing

-- the first `count` files were closed
abbrev pub HaveClosed : FilesState → ℕ → Effect → Type 0
HaveClosed files count outs = (before : List Slot) (had : ℕ → List ℕ) → StandAt outs.visible files before had outs.old
    → OutputsAt outs.visible before (part_by (filing_in files) (closed_first count had (length files.outputs))) outs.new

-- the files before this place are closed, and the others can be
pub record Closing (visible : Bool) (files : FilesState) (place : ℕ) (old now : List Slot) : Type 0 where
  pub size : length now ≡ length old
  pub left : (other : ℕ) → place ≤ other → other < length files.outputs → is_closable now (output_at files other)
  pub closed : HaveClosed files place (effect visible old now)
  pub output : CanTell files.tells now
  pub sound : KeepsBroken old now

module _ (visible : Bool) {files : FilesState} {place : ℕ} {old now : List Slot} (ready : AreReady files old)
    (within : place < length files.outputs) (so_far : Closing visible files place old now) where
  closes_next : {new : List Slot} → new ≡ changed_at (output_at files place) closes now
      → HaveClosed files (place + 1) (effect visible old new)
  closes_next is before had at =
      rw (changed_files (filing_in files) closes (closed_first place had (length files.outputs)) (closed_first (place + 1) had _) refl within
      (λ i differs. grind (arith, nat_tests, differs)) (grind (arith, nat_tests))) at
      (file_changes visible _ closes (λ file. refl) _ _ _ _ place (so_far.closed before had at) (rw (at.owns.stand place within) at is))

  pub one_closed : {new : List Slot} → new ≡ changed_at (output_at files place) closes now
      → Closing visible files (place + 1) old new
  one_closed {new} is = record {
    size = grind (arith, length-changed_at);
    left = grind (arith, common_steps, writable_elsewhere);
    closed = closes_next is;
    output = grind (arith, common_steps, can_tell, writable_elsewhere);
    sound = keeps_again _ _ _ so_far.sound (keeps_close _ _ _ is);
  }

  pub not_closed : {new : List Slot} {slot : ℕ} {why : Fault} → slot ≡ output_at files place
      → (why ≡ fault.Write slot) × SlotBreaks slot (changed_at slot closes now) new
      → ClosesAll files (effect visible old new) (Err why)
  not_closed {new} slot_is failed =
      let can = so_far.left place (omega arith) within in let breaks = rw slot_is at failed.1 in
      let there : output_at files place < length (changed_at (output_at files place) closes now) =
      omega (
        arith,
        length-changed_at (output_at files place) closes now,
        writable_within (output_at files place) old
            (ready.closable place within).1,
      ) in
      subst (λ those. ClosesAll files (effect visible old new) (Err those)) (sym (failed.0 ∙ ap fault.Write slot_is)) (record {
        output = tt;
        leaves = λ before had at. halts_wider (halts {part = closed_first (place + 1) had (length files.outputs)} tt (omega arith)
            (closes_next refl before had at) (there, breaks) (inr (at.owns.stand place within))) (omega arith) (omega arith)
            (grind (arith, nat_tests, begins_itself)) (grind (arith, nat_tests, cases_lt, begins_itself));
        caused = (
          output_at files place,
          refl,
          can.0,
          (
            so_far.sound (output_at files place) (sound_at (output_at files place) now can.1),
            rw breaks.1 (broken_there breaks.0 (output_at files place) _ there),
          ),
        );
        owned = owned_same (broken_size (output_at files place) now new breaks ∙ so_far.size);
      })

pub all_closed : {files : FilesState} {place : ℕ} {outs : Effect} → place ≡ length files.outputs
    → Closing outs.visible files place outs.old outs.new → ClosesAll files outs (Ok tt)
all_closed is so_far = record {
  leaves = rw is at so_far.closed;
  output = so_far.output;
  caused = tt;
  owned = owned_same so_far.size;
}

-- A file was reached, and then written to.

module _ {visible : Bool} {files next : FilesState} {old mid : List Slot} {place : ℕ} (bytes : List ℕ) where
  pub sent : {new : List Slot} {slot : ℕ} (result : Result (Unit {0}) Fault)
      → Opens files next place (place + 1) (effect visible old mid) (Ok tt) → slot ≡ output_at next place
      → Wrote visible slot bytes mid new (fault_in result)
      → Adds files next (only_at place bytes) place (place + 1) (effect visible old new) result
  sent result reached slot_is wrote = adds_then result reached.adds (written visible place bytes result reached.adds.ready
      (omega (arith, reached.adds.opened)) (rw slot_is at wrote)) (omega arith) (omega arith) (λ i. refl)

  -- a file that couldn't be reached stops the write to it as well
  pub sent_unreached : {why : Fault} → Opens files next place (place + 1) (effect visible old mid) (Err why)
      → Adds files next (only_at place bytes) place (place + 1) (effect visible old mid) (Err why)
  sent_unreached reached = adds_wider place (place + 1) (only_at place bytes) reached.adds (λ i. refl)
      (λ i out. grind (arith, nat_tests, out)) (omega arith) (omega arith) (omega arith)

-- what a field of the list of outputs shows
pub output_is : (files : FilesState) {items : List ℕ} (place : ℕ) {slot : ℕ} → items ≡ files.outputs
    → place < length items → slot ≡ get_or items place slot
    → (place < length files.outputs) × (slot ≡ output_at files place)
output_is files place same within is =
    let less : place < length files.outputs = omega (arith, ap length same) in (less, grind (arith, common_steps))
