-- Lemmas: over the inputs that any run found there is a run that no fault stops.
use Rattle.std.{
  proofs.Common.{◌≡◌, ℕ, ◌+◌, ◌≤◌, ◌<◌, ◌^◌, suc, zero, Bool, true, false, ◌||◌, cond, List, [], ◌∷◌, ◌++◌},
  proofs.Common.{length, map, Option, Some, None, inl, inr, ◌⊎◌, refl, sym, ◌∙◌, ap, arith, lit<, append_assoc},
  proofs.Common.{append-nil, length-append},
  proofs.Math.Seq.get_or-append_seam,
  proofs.lemmas.{Bool.{cases_Bool, cases_lt, false≢true}, List.{get_or_past, length-map}},
  specs.List.concat,
}
use Rattle.ports_core.specs.{
  Inputs.{CameFrom, largest_piece},
  Message.{Report, SaysEach, whole},
  Slot.{Slot, adds, closes, has_file, is_open, no_slot, opened, slot_at},
  Source.{Content, Source, missing, source_at, source_of},
  Streams.{standard_error, standard_output, streams_with},
  declared.{
    fault.Fault.{Fault, TheVariants.Read},
    calling.{Calling.Calling, Speaker.Speaker},
    reason.Reason.TheVariants.Other,
  },
  Text.line_of,
}
use Rattle.engine_core.specs.{Written.{OutputsAt, Written}, Swept.{Cleared, Swept}, Work.{IsNeeded, Work}}
use Rattle.run_core.{
  proofs.FeedingLemmas.needed_within,
  specs.{
    Input.{Input, World, shown_of, input_of, inputs_at, inputs_from, is_dash, standard_input},
    Reading.{AreDone, IsLeft, reason_of},
    RunEnds.{AllDone, SaysOf},
    Task.{Task, made_by, of_input},
  },
}
use Rattle.tee_core.{
  proofs.{CopyLemmas.{sound_step, streams_of}, EndLemmas.{sound_goes_on, whole_if}},
  specs.{
    Opening.{OpensAs, is_opened},
    Outputs.{ChangesEach, Closes, Gets, gets_all, is_closed},
    Run.{AreSound, Copied, IsFileOf, IsOutputOf, IsRead, LeavesOf, TeeRun, said_of_input, standings_of, tee_called},
    inner.Steps.HasStreams,
  },
}
use Rattle.words_core.specs.{
  TeeWords.TeeAsked,
  Words.HasOperands,
  declared.settings.Settings.{Settings, TheVariants.{Head, Tail, Split, Csplit, Tee, About}},
}
use Rattle.tools_core.specs.{
  About.text_whole,
  Outcome.tee_run,
  Tasks.{csplit_task, head_task, names_of, split_task, tail_task},
}
use Rattle.promises_core.{
  specs.Promises.{Completes, DoesAll, FindAlike, HasLong, Ran},
  proofs.{SameLemmas.all_alike, LeftLemmas.{gone, met_by, outputs_of, told_again}},
}
use Rattle.ports_core.proofs.MessageLemmas.{each_state}
use Rattle.engine_core.specs.Swept as swept_so
use Rattle.tee_core.specs.Run as tee
use Rattle.tools_core.specs.Run.{Run}

-- A tool reads a front of an input: as far as it has enough of the input, and no further.

record Front (work : Work) (bytes : List ℕ) : Type 0 where
  pub read : List ℕ
  pub rest : List ℕ
  pub joined : bytes ≡ read ++ rest
  pub needed : IsNeeded work.is_complete 1 read
  pub enough : (rest ≡ []) ⊎ (work.is_complete read ≡ true)

front_from : (work : Work) (x rest : List ℕ) → IsNeeded work.is_complete 1 x → Front work (x ++ rest)
front_from work x [] needed = record { read = x; rest = []; joined = refl; needed = needed; enough = inl refl }
front_from work x (byte ∷ rest) needed = elim (cases_Bool (work.is_complete x)) [
  | inl complete ↦ record { read = x; rest = byte ∷ rest; joined = refl; needed = needed; enough = inr complete }
  | inr going ↦ rw append_assoc at
      (front_from work (x ++ byte ∷ []) rest (inr (x, byte ∷ [], refl, omega arith, going)))
]

-- an open source whose bytes are visible, whatever it holds
came_from : {content : Content} (source : Source) → source.is_open ≡ true → CameFrom true content source
came_from source is = record { was_open = is; breaks = λ untold. absurd (cc) }

-- the source of an input after a tool read such a front of it, or of an input that is missing
record LeftFor (work : Work) (there : Option Content) : Type 0 where
  pub source : Source
  pub is : (slot : ℕ) → IsLeft true work largest_piece slot there source

left_for : (work : Option (List ℕ) → Work) (there : Option Content) → LeftFor (work (shown_of there)) there
left_for work None = record { source = missing Other; is = λ slot. refl }
left_for work (Some content) =
    let front = front_from (work (shown_of (Some content))) [] content.bytes (inl refl) in record {
      source = record (source_of content)
          { left = record content { bytes = front.rest }; taken = front.read; reached = length front.read; ended = true };
      is = λ slot. (
        λ told. record {
          read = front.read;
          joined = front.joined;
          enough = front.enough;
          needed = needed_within
              (omega arith) front.needed;
          exact = λ well. front.needed;
          few = λ standard. omega arith;
        },
        came_from _ refl,
        λ ends goes. refl,
      );
    }

-- The sources of all inputs: that of standard input, and those of the files in their order.

module _ (work : Option (List ℕ) → Work) (world : World) where
  abbrev standard : LeftFor (work (shown_of (Some world.standard))) (Some world.standard)
  standard = left_for work (Some world.standard)

  -- after the sources of the names before these, there are further sources, so that all of these inputs are done
  abbrev CanBeDone : List Source → List Input → Type 0
  CanBeDone more inputs =
      (rest : List Source) × AreDone true work largest_piece inputs (standard.source ∷ (more ++ rest))

  -- the inputs of these names can be done, whatever stands before them
  abbrev AreDoneFrom : List (List ℕ) → Type 0
  AreDoneFrom names = (was_read : Bool) (slot : ℕ) (more : List Source) → slot ≡ suc (length more)
      → CanBeDone more (inputs_from world was_read slot names)

  file_done : (was_read : Bool) (slot : ℕ) (name : List ℕ) (names : List (List ℕ)) (more : List Source)
      → slot ≡ suc (length more) → AreDoneFrom names
      → CanBeDone more (input_of world was_read slot name false ∷ inputs_from world was_read (slot + 1) names)
  file_done was_read slot name names more is again =
      let here = left_for work (world.laid slot name) in
      let (rest, done) = again was_read (slot + 1) (more ++ here.source ∷ []) (omega (arith, is, length-append more (here.source ∷ []))) in
      let at_slot : source_at (standard.source ∷ (more ++ here.source ∷ rest)) slot ≡ here.source = ap
      (source_at (standard.source ∷ (more ++ here.source ∷ rest))) is ∙ get_or-append_seam more here.source rest _ in (
        here.source ∷ rest,
        (
          (omega (arith, is, length-append more (here.source ∷ rest)), rw at_slot (here.is slot)),
          rw
              (append_assoc more (here.source ∷ []) rest) at done,
        ),
      )

  name_done : (dash was_read : Bool) (slot : ℕ) (name : List ℕ) (names : List (List ℕ)) (more : List Source)
      → slot ≡ suc (length more) → AreDoneFrom names
      → CanBeDone more
      (input_of world was_read slot name dash ∷ inputs_from world (was_read || dash) (cond dash slot (slot + 1)) names)
  name_done true true slot name names more is again = let (rest, done) = again true slot more is in (rest, (tt, done))
  name_done true false slot name names more is again =
      let (rest, done) = again true slot more is in (rest, ((omega arith, standard.is 0), done))
  name_done false true slot name names more is again = file_done true slot name names more is again
  name_done false false slot name names more is again = file_done false slot name names more is again

  all_done : (names : List (List ℕ)) → AreDoneFrom names
  all_done [] was_read slot more is = ([], tt)
  all_done (name ∷ names) was_read slot more is =
      name_done (is_dash name) was_read slot name names more is (all_done names)

-- Standard error takes all lines, the outputs get all of a part, and files are removed.

took_reports : (speaker : Speaker) (reports : List Report) (old : Slot) → old.is_broken ≡ false
    → (error : Slot) × SaysEach true speaker reports old error × (error.is_broken ≡ false)
took_reports speaker [] old sound = (old, refl, sound)
took_reports speaker (report ∷ reports) old sound =
    let line = line_of speaker report.why report.message in
    let (error, says, still) = took_reports speaker reports (adds line old) sound in
    (error, (adds line old, record { said = line; is = inl refl; printed = whole sound refl }, says), still)

took_messages : (task : Task) (sources : List Source) (inputs : List Input) (old : Slot) → old.is_broken ≡ false
    → (error : Slot) × SaysOf true task sources inputs old error
took_messages task sources [] old sound = (old, refl)
took_messages task sources (input ∷ inputs) old sound =
    let (mid, one, still) = took_reports task.speaker (map (λ message. record { message = message; why = reason_of input.slot sources })
    (of_input task true input).messages) old sound in
    let (error, says) = took_messages task sources inputs mid still in (error, (mid, one, says))

at_part : (part : Written) (error : Slot) → OutputsAt true (streams_with error) part (outputs_of part error)
at_part part error = record { standard = lit< tt; slots = rw (told_again part.files) }

cleared_one : (slot : Slot) → Cleared slot (gone slot)
cleared_one slot = elim (cases_Bool (has_file slot.state)) [ inl has ↦ rw has (swept_so.removed has) | inr lacks ↦ rw lacks (swept_so.none lacks) ]

cleared_each : (slots : List Slot) (place : ℕ) → Cleared (slot_at slots place) (slot_at (map gone slots) place)
cleared_each [] place = swept_so.none refl
cleared_each (slot ∷ slots) zero = cleared_one slot
cleared_each (slot ∷ slots) (suc place) = cleared_each slots place

cleans : (sweeps : Bool) (output error : Slot) (files : List Slot)
    → (new : List Slot) × Swept sweeps 2 (output ∷ error ∷ files) new
cleans false output error files = (output ∷ error ∷ files, refl)
cleans true output error files =
    (output ∷ error ∷ map gone files, record { size = ap (λ n. suc (suc n)) (length-map files gone); before = before; cleared = cleared }) where
      before : (place : ℕ) → place < 2
          → slot_at (output ∷ error ∷ map gone files) place ≡ slot_at (output ∷ error ∷ files) place
      before zero few = refl
      before (suc zero) few = refl
      before (suc (suc place)) few = absurd (omega (arith, few))

      cleared : (place : ℕ) → 2 ≤ place
          → Cleared (slot_at (output ∷ error ∷ files) place) (slot_at (output ∷ error ∷ map gone files) place)
      cleared zero past = absurd (omega (arith, past))
      cleared (suc zero) past = absurd (omega (arith, past))
      cleared (suc (suc place)) past = cleared_each files place

-- A run over any inputs can end well.

record Well (run : Run) (asked : Settings) : Type 0 where
  pub sources : List Source
  pub new : List Slot
  pub status : ℕ
  pub does : DoesAll (record run { inputs = sources; outputs = new; status = status })
      (inputs_at run.world (names_of asked)) asked

-- what a run leaves that does all of a task
record DoesTask (task : Task) (found : List Input) : Type 0 where
  pub sources : List Source
  pub new : List Slot
  pub all : AllDone true true task found sources new

ends_well : (task : Task) (world : World) (names : List (List ℕ)) → DoesTask task (inputs_at world names)
ends_well task world names =
    let made = made_by task (inputs_at world names) in
    let (rest, done) = all_done task.work world names false 1 [] refl in
    let sources = (left_for task.work (Some world.standard)).source ∷ rest in
    let (error, says) = took_messages task sources (inputs_at world names) standard_error refl in
    let left = cleans made.sweeps (adds made.part.out standard_output) error made.part.files in record {
      sources = sources;
      new = left.0;
      all = record {
        error = error;
        says = says;
        reached = outputs_of made.part error;
        outputs = at_part made.part error;
        swept = left.1;
        done = done;
      };
    }

-- `tee`, whose input comes byte by byte.

abbrev pieces_of : List ℕ → List (List ℕ)
pieces_of bytes = map (λ byte. byte ∷ []) bytes

pieces_are : (bytes : List ℕ) → concat (pieces_of bytes) ≡ bytes
pieces_are [] = refl
pieces_are (byte ∷ bytes) = rw (pieces_are bytes)

read_all : (bytes : List ℕ) (breaks_off : Bool) {shown : Option (List ℕ)} (Leaves : List ℕ → Type 0) → Leaves []
    → IsRead (record { bytes = bytes; breaks_off = breaks_off; shown = shown }) Leaves false (concat (pieces_of bytes))
    (met_by breaks_off)
read_all bytes true Leaves none = tee.to_break _ (sym (pieces_are bytes)) refl none
read_all bytes false Leaves none = tee.to_end _ (sym (pieces_are bytes)) refl none

met_or_sound : (breaks_off : Bool) → (met_by breaks_off ≡ Some (Read 0)) ⊎ (breaks_off ≡ false)
met_or_sound true = inl refl
met_or_sound false = inr refl

-- A run of `tee` in which no output breaks. Its files are `first` before a step, and `last` after it.

module _ (Change : Slot → Slot → Type 0) (first last : List ℕ → Slot)
    (changes : (name : List ℕ) → Change (first name) (last name)) (error : Slot) where
  file_changes : (names : List (List ℕ)) (n : ℕ) → n < length names
      → Change (slot_at (map first names) n) (slot_at (map last names) n)
  file_changes [] n within = absurd (omega arith)
  file_changes (name ∷ names) zero within = changes name
  file_changes (name ∷ names) (suc n) within = file_changes names n (omega arith)

  outputs_change : (names : List (List ℕ)) {old new : Slot} → Change old new
      → ChangesEach Change (IsOutputOf names) (old ∷ error ∷ map first names) (new ∷ error ∷ map last names)
  outputs_change names {old} {new} one = record {
    count = omega (arith, length-map names first, length-map names last);
    each = each;
    others = others;
  } where
    each : (place : ℕ) → IsOutputOf names place
        → Change (slot_at (old ∷ error ∷ map first names) place) (slot_at (new ∷ error ∷ map last names) place)
    each zero is = one
    each (suc zero) is = absurd (is.0 refl)
    each (suc (suc n)) is = file_changes names n (omega (arith, is.1))

    past : (file : List ℕ → Slot) (n : ℕ) → (IsOutputOf names (suc (suc n)) → ⊥) → slot_at (map file names) n ≡ no_slot
    past file n none = get_or_past (map file names) n no_slot (elim (cases_lt n (length names)) [
      | inl within ↦ absurd (none (λ is. omega (arith, is), omega (arith, within)))
      | inr beyond ↦ omega (arith, beyond, length-map names file)
    ])

    others : (place : ℕ) → (IsOutputOf names place → ⊥)
        → slot_at (new ∷ error ∷ map last names) place ≡ slot_at (old ∷ error ∷ map first names) place
    others zero none = absurd (none (λ is. omega (arith, is), omega arith))
    others (suc zero) none = refl
    others (suc (suc n)) none = past last n none ∙ sym (past first n none)

-- as much, if standard output isn't changed
files_change : (Change : Slot → Slot → Type 0) (first last : List ℕ → Slot)
    → ((name : List ℕ) → Change (first name) (last name)) → (output error : Slot) (names : List (List ℕ))
    → ChangesEach Change (IsFileOf names) (output ∷ error ∷ map first names) (output ∷ error ∷ map last names)
files_change Change first last changes output error names =
    let all = outputs_change (λ old new. Change old new ⊎ (new ≡ old)) first last (λ name. inl (changes name)) error names (inr refl) in record {
      count = all.count;
      each = each;
      others = others all;
    } where
      each : (place : ℕ) → IsFileOf names place
          → Change (slot_at (output ∷ error ∷ map first names) place) (slot_at (output ∷ error ∷ map last names) place)
      each zero file = absurd (omega (arith, file.0))
      each (suc zero) file = absurd (omega (arith, file.0))
      each (suc (suc n)) file = file_changes Change first last changes error names n (omega (arith, file.1))

      others : ChangesEach (λ old new. Change old new ⊎ (new ≡ old)) (IsOutputOf names)
          (output ∷ error ∷ map first names) (output ∷ error ∷ map last names) → (place : ℕ)
          → (IsFileOf names place → ⊥)
          → slot_at (output ∷ error ∷ map last names) place ≡ slot_at (output ∷ error ∷ map first names) place
      others all zero none = refl
      others all (suc zero) none = refl
      others all (suc (suc n)) none = all.others (suc (suc n)) (λ is. none (omega arith, is.1))

module _ (calling : Calling) (asked : TeeAsked) where
  -- these bytes are on standard output, and the files are these
  abbrev laid : (List ℕ → Slot) → Slot → List ℕ → List Slot
  laid file error x = adds x standard_output ∷ error ∷ map file asked.names

  abbrev has_open : List ℕ → List ℕ → Slot
  has_open x name = adds x (opened name asked.mode)

  laid_well : (file : List ℕ → Slot) (error : Slot) (x : List ℕ) → ((name : List ℕ) → (file name).is_broken ≡ false)
      → is_open error.state ≡ true
      → HasStreams (laid file error x) (length asked.names) × AreSound (laid file error x)
  laid_well file error x sound opens = (streams_of (omega (arith, length-map asked.names file)) opens, at) where
    by : (names : List (List ℕ)) (n : ℕ) → (slot_at (map file names) n).is_broken ≡ false
    by [] n = refl
    by (name ∷ names) zero = sound name
    by (name ∷ names) (suc n) = by names n

    at : AreSound (laid file error x)
    at zero differs = refl
    at (suc zero) differs = absurd (differs refl)
    at (suc (suc n)) differs = by asked.names n

  open_well : (x : List ℕ) → HasStreams (laid (has_open x) standard_error x) (length asked.names)
      × AreSound (laid (has_open x) standard_error x)
  open_well x = laid_well (has_open x) standard_error x (λ name. refl) refl

  copied_on : (pieces : List (List ℕ)) (x bytes : List ℕ)
      → Copied (tee_run calling true asked) pieces (laid (has_open x) standard_error x)
      → Copied (tee_run calling true asked) (pieces ++ pieces_of bytes)
      (laid (has_open (x ++ bytes)) standard_error (x ++ bytes))
  copied_on pieces x [] so_far = rw (append-nil pieces, append-nil x) so_far
  copied_on pieces x (byte ∷ bytes) so_far =
      let more = x ++ byte ∷ [] in
      rw (append_assoc pieces ((byte ∷ []) ∷ []) (pieces_of bytes), append_assoc x (byte ∷ []) bytes) at
      (copied_on (pieces ++ (byte ∷ []) ∷ []) more bytes (tee.one_more pieces (byte ∷ []) (laid (has_open x) standard_error x)
      (laid (has_open more) standard_error more) so_far (sound_goes_on asked.on_broken (open_well x).0 (open_well x).1)
      (omega arith) (omega arith) (sound_step (open_well more).0 (open_well more).1 (outputs_change (Gets true (byte ∷ []))
      (has_open x) (has_open more) (λ name. gets_all refl) standard_error asked.names (gets_all refl)))))

  copied_all : (bytes : List ℕ)
      → Copied (tee_run calling true asked) (pieces_of bytes) (laid (has_open bytes) standard_error bytes)
  copied_all bytes = copied_on [] [] bytes (tee.started (laid (has_open []) standard_error []) (sound_step (open_well []).0
      (open_well []).1 (files_change (λ file now. OpensAs file.mode file.name now) (λ name. opened name asked.mode)
      (has_open []) (λ name. is_opened) standard_output standard_error asked.names)))

tee_well : (run : Run) (asked : TeeAsked) → length run.world.standard.bytes < 2 ^ 63 → Well run (Tee asked)
tee_well run asked few = record {
  sources = source ∷ [];
  new = new lines.0;
  status = tee.status_for asked.on_broken (standings_of (new lines.0)) fault;
  does = (
    record {
      content = content;
      input = refl;
      ends = ends;
      came = came_from source refl;
      whole = λ told well_of visible_of. whole_if well_of visible_of ends;
    },
    (well.1, pieces_are content.bytes),
  );
} where
  calling : Calling
  calling = run.calling

  content : Content
  content = run.world.standard

  pieces : List (List ℕ)
  pieces = pieces_of content.bytes

  fault : Option Fault
  fault = met_by content.breaks_off

  source : Source
  source = record (source_of content) {
    left = record content { bytes = [] };
    is_broken = content.breaks_off;
    taken = content.bytes;
    reached =
        length content.bytes;
    ended = true;
    reads = length pieces + 1;
  }

  lines : (error : Slot) × SaysEach true (tee_called calling) (said_of_input source fault) standard_error error
  lines =
      let (error, says, sound) = took_reports (tee_called calling) (said_of_input source fault) standard_error refl in
      (error, says)

  copied : List Slot
  copied = laid calling asked (has_open calling asked content.bytes) standard_error content.bytes

  new : Slot → List Slot
  new error = laid calling asked (λ name. closes (has_open calling asked content.bytes name)) error content.bytes

  well : HasStreams (new lines.0) (length asked.names) × AreSound (new lines.0)
  well = laid_well calling asked (λ name. closes (has_open calling asked content.bytes name)) lines.0 content.bytes (λ name. refl)
      (ap is_open (each_state true (tee_called calling) (said_of_input source fault) standard_error lines.0 lines.1))

  comes : tee.ComesIn true content source (tee.is_done asked.on_broken (standings_of copied)) pieces fault
  comes = let first = open_well calling asked content.bytes in rw (sound_goes_on asked.on_broken first.0 first.1) (record {
    read = read_all content.bytes content.breaks_off (LeavesOf true source) (λ told. refl);
    few = rw (pieces_are content.bytes) few;
    met = met_or_sound content.breaks_off;
    ended = λ none some. refl;
    last = λ told vain. absurd (false≢true vain);
    reads = refl;
  })

  ends : tee.EndsAs (tee_run calling true asked) true content source (new lines.0)
      (tee.status_for asked.on_broken (standings_of (new lines.0)) fault)
  ends = tee.copied pieces fault copied (laid calling asked (has_open calling asked content.bytes) lines.0 content.bytes)
      comes (copied_all calling asked content.bytes) (record { error = lines.0; said = lines.1; slots = refl })
      (sound_step well.0 well.1 (files_change Closes (has_open calling asked content.bytes)
      (λ name. closes (has_open calling asked content.bytes name)) (λ name. is_closed refl)
      (adds content.bytes standard_output) lines.0 asked.names)) refl

does_well : (run : Run) (asked : Settings) → HasOperands asked → (HasLong run asked → ⊥) → Well run asked
does_well run (Head asked) can short =
    let e = ends_well (head_task run.calling asked) run.world asked.names in
    record { sources = e.sources; new = e.new; status = _; does = (_, refl, e.all, refl) }
does_well run (Tail asked) can short =
    let e = ends_well (tail_task run.calling asked.ends) run.world asked.ends.names in
    record { sources = e.sources; new = e.new; status = _; does = (_, refl, e.all, refl) }
does_well run (Split asked) can short =
    let e = ends_well (split_task run.calling asked) run.world (asked.input ∷ []) in
    record { sources = e.sources; new = e.new; status = _; does = (_, refl, e.all, refl) }
does_well run (Csplit asked) (operands, asks) short =
    let e = ends_well (csplit_task run.calling asked operands) run.world (asked.input ∷ []) in
    record { sources = e.sources; new = e.new; status = _; does = (_, (operands, asks, refl), e.all, refl) }
does_well run (About which topic) can short =
    record { sources = []; new = _; status = 0; does = (text_whole refl refl, refl) }
does_well run (Tee asked) can short = elim (cases_lt (length run.world.standard.bytes) (2 ^ 63)) [
  | inl few ↦ tee_well run asked few
  | inr many ↦ absurd (short (standard_input run.world.standard, run.world.standard, ([], [], refl), refl, many))
]

pub one_completes : (run : Run) (asked : Settings) → Ran run asked → HasOperands asked → (HasLong run asked → ⊥)
    → (well : Run) × FindAlike asked run well × Completes well asked
one_completes run asked ran can short =
    let all = does_well run asked can short in (
      record run { inputs = all.sources; outputs = all.new; status = all.status },
      all_alike asked _,
      record { read = ran.read; does = all.does },
    )
