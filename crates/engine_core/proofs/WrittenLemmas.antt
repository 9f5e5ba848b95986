-- Lemmas on what outputs have got.
use Rattle.std.proofs.{
  lemmas.{Grind.common_steps, List.{append-nil, take-append-drop, drop_all, length-map}},
  Common.{◌≡◌, ℕ, ◌+◌, ◌<◌, ◌≤◌, zero, suc, List, [], ◌∷◌, ◌++◌, length, take, drop, Bool, true, false, IsTrue},
  Common.{◌⊎◌, inl, inr, refl, sym, ◌∙◌, ap, arith, append_assoc, rules},
}
use Rattle.ports_core.specs.{
  Slot.{Slot, MayBecome, has_file, slot_at, is_writable, with_written, with_broken, visible_of},
  Write.BrokeAfter,
  declared.{reason.Reason.Reason, slot.State.State, fault.Fault.{Fault, TheVariants.{Memory, Write, Open}}},
}
use Rattle.engine_core.specs.{
  Written.{Written, nothing, only_out, OutputsAt, IsBeginning, FilesBegin, Begins, IsNext, Marks, IsAt, InOrder},
  Written.{StoppedBetween, Output, gets_bytes, gets_lines, gets_openings, openings_for, IsDueLine, LinesInOrder},
  InTurn.{AllClosed, InTurn, StoppedInTurn, LinesTo},
  inner.Written.HasLines,
}
use Rattle.ports_core.proofs.{
  SlotLemmas.{changed_at-append, length-changed_at, with_written-nil},
  WriteLemmas.{visible_of-append, visible_of-nil, with_written-append},
}
use Rattle.ports_core.specs.declared.slot.State.TheVariants as state

-- beginnings

pub begins_itself : (bytes : List ℕ) → IsBeginning bytes bytes
begins_itself bytes = search rules

pub begins_more : (bytes more : List ℕ) → IsBeginning bytes (bytes ++ more)
begins_more bytes more = (more, refl)

pub nothing_begins : (bytes : List ℕ) → IsBeginning [] bytes
nothing_begins bytes = (bytes, refl)

pub begins_trans : (low middle high : List ℕ) → IsBeginning low middle → IsBeginning middle high → IsBeginning low high
begins_trans low middle high (rest, is) (more, is_too) = grind (arith, common_steps)

pub take_begins_after : (n : ℕ) (before bytes : List ℕ) → IsBeginning (before ++ take n bytes) (before ++ bytes)
take_begins_after n before bytes = (
  drop n bytes,
  ap (λ rest. before ++ rest) (sym (take-append-drop n bytes)) ∙ sym
      (append_assoc before (take n bytes) (drop n bytes)),
)

-- a file that is open may be closed later, and any other file stays: this is transitive
pub kept_trans : {X : Type 0} (state_of : X → State) (low middle high : X)
    → MayBecome (state_of low) (state_of middle) ⊎ (low ≡ middle)
    → MayBecome (state_of middle) (state_of high) ⊎ (middle ≡ high)
    → MayBecome (state_of low) (state_of high) ⊎ (low ≡ high)
kept_trans state_of low middle high (inl is) (inl also) = inl (is.0, also.1)
kept_trans state_of low middle high (inl is) (inr same) = search rules
kept_trans state_of low middle high (inr same) (inl is) = search rules
kept_trans state_of low middle high (inr same) (inr also) = inr (same ∙ also)

-- a file is there, open or closed, just if it is there later
pub kept_there : {X : Type 0} (state_of : X → State) {low high : X}
    → MayBecome (state_of low) (state_of high) ⊎ (low ≡ high) → has_file (state_of low) ≡ has_file (state_of high)
kept_there state_of (inl (is, may)) = ap has_file is ∙ sym may
kept_there state_of (inr same) = ap (λ one. has_file (state_of one)) same

pub files_begin_themselves : (files : List Slot) → FilesBegin files files
files_begin_themselves [] = tt
files_begin_themselves (file ∷ files) = grind (arith, begins_itself, files_begin_themselves files)

pub files_trans : (low middle high : List Slot) → FilesBegin low middle → FilesBegin middle high → FilesBegin low high
files_trans [] middle high first second = tt
files_trans (file ∷ files) [] high first second = absurd first
files_trans (file ∷ files) (mid ∷ middle) [] first second = absurd second
files_trans (file ∷ files) (mid ∷ middle) (whole ∷ high) first second =
    grind (arith, common_steps, kept_trans, begins_trans, files_trans files _ _ first.5 second.5)

pub part_begins_itself : (part : Written) → Begins part part
part_begins_itself part = grind (arith, begins_itself, files_begin_themselves)

pub part_trans : (low middle high : Written) → Begins low middle → Begins middle high → Begins low high
part_trans low middle high first second = search (rules, begins_trans, files_trans)

-- parts that have bytes on standard output alone

pub out_begins : (low high : List ℕ) → IsBeginning low high → Begins (only_out low) (only_out high)
out_begins low high begins = search rules

-- standard output got more bytes after those that it had
pub out_more : (visible : Bool) (before : List Slot) (part : Written) (old new : List Slot) (more : List ℕ)
    → OutputsAt visible before part old → new ≡ with_written 0 (visible_of visible more) old
    → OutputsAt visible before (record part { out = part.out ++ more }) new
out_more visible before part old new more at wrote = grind (arith, changed_at-append, length-changed_at, with_written-append, visible_of-append)

-- nothing was written yet
pub nothing_out : (visible : Bool) (before : List Slot) → 0 < length before → OutputsAt visible before nothing before
nothing_out visible before standard = grind (arith, append-nil, visible_of-nil, with_written-nil)

-- how many slots there are
pub outputs_count : (visible : Bool) (before : List Slot) (part : Written) (now : List Slot)
    → OutputsAt visible before part now
    → length now ≡ length before + length part.files
outputs_count visible before part now at = grind (arith, common_steps, length-changed_at, length-map)

-- no file was touched
pub still_in_order : (files : List Slot) → InOrder files files files 0
still_in_order files = search rules

-- the fault isn't that a file could not be opened
abbrev pub IsNoOpen : Fault → Type 0
IsNoOpen (Open slot) = ⊥
IsNoOpen fault = Unit {0}

-- unless a file could not be opened, there need be no line for the file that is due
pub none_due : (IsDue : List ℕ → Type 0) (line : List ℕ → List ℕ) (fault : Fault) → IsNoOpen fault
    → IsDueLine IsDue line [] fault
none_due IsDue line (Open slot) other = absurd other
none_due IsDue line (Write slot) other = inl refl
none_due IsDue line Memory other = inl refl
none_due IsDue line fault other = refl

-- nothing was written
pub lines_still : (output : Output) (part high : Written) (place : ℕ) (fault : Fault) → IsNoOpen fault
    → LinesInOrder output part part high place fault
lines_still (gets_lines line) part high place fault other = inl refl
lines_still (gets_openings line) part high place fault other = grind (arith, common_steps)
lines_still output part high place fault other = tt

-- standard output broke in a write after a beginning was written
pub out_cut : (visible : Bool) (before : List Slot) (part : Written) (old new : List Slot) (more : List ℕ) (n : ℕ)
    → OutputsAt visible before part old → BrokeAfter visible old new 0 more n
    → StoppedBetween gets_bytes visible before part (record part { out = part.out ++ more }) (Write 0) new
out_cut visible before part old new more n at broke = record {
  part = record part { out = part.out ++ take n more };
  above = grind (arith, common_steps, begins_more, files_begin_themselves);
  below = grind (arith, common_steps, take_begins_after, files_begin_themselves);
  place = 0;
  order = still_in_order _;
  lines = tt;
  reached = with_written 0 (visible_of visible (take n more)) old;
  outputs = out_more _ _ _ _ _ _ at refl;
  marks = (there, broke.slots);
  from = inl refl;
} where
  there : 0 < length (with_written 0 (visible_of visible (take n more)) old)
  there = grind (arith, common_steps, length-changed_at, outputs_count)

-- a fault came before anything was written, and not as a file was opened
pub stopped_here : (output : Output) (visible : Bool) (before : List Slot) (low high : Written) (fault : Fault)
    (old new : List Slot) → OutputsAt visible before low old → Begins low high → Marks (IsNext low high) fault old new
    → IsAt fault (length before) 0 (length low.files) → IsNoOpen fault
    → StoppedBetween output visible before low high fault new
stopped_here output visible before low high fault old new at begins marks from other = grind (arith, common_steps, part_begins_itself, lines_still)

-- an output that could be written broke
pub broken_at : (why : Reason) (place : ℕ) (slots : List Slot) → IsTrue (is_writable slots place)
    → (slot_at (with_broken why place slots) place).is_broken ≡ true
broken_at why place [] can = search rules
broken_at why zero (slot ∷ slots) can = refl
broken_at why (suc place) (slot ∷ slots) can = broken_at _ _ slots can

pub sound_at : (place : ℕ) (slots : List Slot) → IsTrue (is_writable slots place)
    → (slot_at slots place).is_broken ≡ false
sound_at place slots can = search rules

pub nothing_begins_part : (part : Written) → Begins nothing part
nothing_begins_part part = search rules

-- the mark of a fault, if the name of the next file is known in another way
pub marks_by : (IsName IsOther : List ℕ → Type 0) (fault : Fault) (before after : List Slot)
    → ((name : List ℕ) → IsName name → IsOther name) → Marks IsName fault before after
    → Marks IsOther fault before after
marks_by IsName IsOther (Open slot) before after also is = grind arith
marks_by IsName IsOther fault before after also is = is

-- the files of a part are at their places in any part that it begins
next_in : (part : Written) {name : List ℕ} (front : List Slot) (file : Slot) (rest files : List Slot)
    → FilesBegin (front ++ file ∷ rest) files → {count : ℕ} → length front ≡ count → file.name ≡ name
    → (these : List Slot) × (one : Slot) × (more : List Slot) × (files ≡ these ++ one ∷ more) × (length these ≡ count)
    × (one.name ≡ name)
next_in part [] file rest (one ∷ more) begins place named = ([], one, more, refl, place, sym begins.0 ∙ named)
next_in part (first ∷ front) file rest (one ∷ more) begins place named =
    let past = next_in part front _ _ _ begins.5 refl named in
    (one ∷ past.0, past.1, past.2, ap (λ files. one ∷ files) past.3, ap suc past.4 ∙ place, past.5)
next_in part front file rest files begins place named = absurd begins

next_wider : {part high : Written} (more : Written) → Begins high more → (name : List ℕ) → IsNext part high name
    → IsNext part more name
next_wider {part} more begins name next =
    let found = next_in part _ _ _ _ (rw next.files at begins.files) next.place next.name_is in
    record { front = found.0; file = found.1; rest = found.2; files = found.3; place = found.4; name_is = found.5 }

-- the line for the file that is due, if the name of this file is known in another way
pub due_by : (IsDue IsOther : List ℕ → Type 0) (line : List ℕ → List ℕ) (bytes : List ℕ) (fault : Fault)
    → ((name : List ℕ) → IsDue name → IsOther name) → IsDueLine IsDue line bytes fault
    → IsDueLine IsOther line bytes fault
due_by IsDue IsOther line bytes (Write slot) also (inl none) = inl none
due_by IsDue IsOther line bytes (Write slot) also (inr (out, (name, due, begins))) = search rules
due_by IsDue IsOther line bytes (Open slot) also (name, due, whole) = search rules
due_by IsDue IsOther line bytes Memory also (inl none) = inl none
due_by IsDue IsOther line bytes Memory also (inr (name, due, whole)) = search rules
due_by IsDue IsOther line bytes fault also due = due

lines_wider : (output : Output) (part high more : Written) (place : ℕ) (fault : Fault) → Begins high more
    → LinesTo output part high place fault → LinesTo output part more place fault
lines_wider (gets_lines line) part high more place fault begins lines = lines
lines_wider (gets_openings line) part high more place fault begins lines = search (rules, due_by, next_wider)
lines_wider output part high more place fault begins lines = tt

-- a fault that stopped outputs between two parts also stopped them between a smaller and a greater part
pub turn_between : (output : Output) (visible : Bool) (before : List Slot) (less low high more : Written)
    (fault : Fault)
    (now : List Slot) → Begins less low → StoppedInTurn output visible before low high fault now → Begins high more
    → StoppedInTurn output visible before less more fault now
turn_between output visible before less low high more fault now lower stop wider = search (rules, part_trans, marks_by, next_wider, lines_wider)

closed_stays : {file : Slot} (whole : Slot) → file.state ≡ state.Closed
    → MayBecome file.state whole.state ⊎ (file ≡ whole) → file ≡ whole
closed_stays whole closed (inl (is, has)) = cc
closed_stays whole closed (inr same) = same

done_by : (place : ℕ) (part high : List Slot) → FilesBegin part high → AllClosed (take place part) → place ≤ length part
    → take place part ≡ take place high
done_by zero part high begins closed within = refl
done_by (suc place) [] high begins closed within = absurd (omega arith)
done_by (suc place) (file ∷ part) [] begins closed within = absurd begins
done_by (suc place) (file ∷ part) (whole ∷ high) begins closed within =
    grind (arith, closed_stays, done_by place _ _ begins.5 closed.1 (omega arith))

pub no_fewer : (low part : List Slot) → FilesBegin low part → length low ≤ length part
no_fewer [] part begins = omega arith
no_fewer (file ∷ low) [] begins = absurd begins
no_fewer (file ∷ low) (whole ∷ part) begins = omega (arith, no_fewer low _ begins.5)

-- files that were written in turn are in order
pub in_order : {low part high : List Slot} {place : ℕ} → FilesBegin low part → FilesBegin part high → InTurn part place
    → InOrder low part high place
in_order above below turn = grind (arith, done_by, drop_all, no_fewer)

pub openings-append : (line : List ℕ → List ℕ) (some more : List Slot)
    → openings_for line (some ++ more) ≡ openings_for line some ++ openings_for line more
openings-append line [] more = refl
openings-append line (file ∷ some) more = grind (arith, append_assoc, openings-append line some more)

-- the lines for all files are the lines for the first files, and those for the files that were opened since
pub openings_since : (line : List ℕ → List ℕ) (low part : List Slot) → FilesBegin low part
    → openings_for line part ≡ openings_for line low ++ openings_for line (drop (length low) part)
openings_since line [] part begins = refl
openings_since line (file ∷ low) [] begins = absurd begins
openings_since line (file ∷ low) (whole ∷ part) begins =
    grind (arith, append_assoc, openings_since line low _ begins.5)

-- the lines of standard output are in order if it had the lines for the lower part's files
lines_in_order : (output : Output) (low part high : Written) (place : ℕ) (fault : Fault) → Begins low part
    → HasLines output low.out low.files → LinesTo output part high place fault
    → LinesInOrder output low part high place fault
lines_in_order (gets_openings line) low part high place fault above has lines = record {
  next = lines.next;
  all = lines.all ∙ ap (λ had. had ++ lines.next) (openings_since _ _ _ above.files ∙ ap
      (λ had. had ++ openings_for line (drop (length low.files) part.files)) (sym has))
      ∙ append_assoc low.out (openings_for line (drop (length low.files) part.files)) lines.next;
  due = lines.due;
}
lines_in_order (gets_lines line) low part high place fault above has lines = grind arith
lines_in_order output low part high place fault above has lines = tt

pub stopped_in_turn : (output : Output) (visible : Bool) (before : List Slot) (low high : Written) (fault : Fault)
    (now : List Slot) → HasLines output low.out low.files → StoppedInTurn output visible before low high fault now
    → StoppedBetween output visible before low high fault now
stopped_in_turn output visible before low high fault now has stop = search (rules, in_order, lines_in_order)

-- closed files and one more file are in turn
pub turn_last : (files : List Slot) (file : Slot) (place : ℕ) → length files ≡ place → AllClosed files
    → InTurn (files ++ file ∷ []) place
turn_last files file place count closed = grind (arith, common_steps)

pub turn_next : (files : List Slot) → AllClosed files → InTurn files (length files)
turn_next files closed = grind (arith, common_steps)
