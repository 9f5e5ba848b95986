-- What people rest on, in a manual's words: what a run leaves, over inputs and outputs that tell their bytes, as those
-- in memory do.
use Rattle.std.specs.{
  Prelude.{◌≡◌, ℕ, ◌+◌, ◌^◌, ◌/◌, ◌%◌, ◌<◌, ◌≤◌, ◌==◌, nat_lt, suc, Bool, true, false, not, List, [], ◌∷◌},
  Prelude.{◌++◌, length, map, take, drop, All, slice_index_or, ◌⊎◌, Option, Some, None, option_map, Ok},
  Prelude.if◌then◌else◌,
  List.{concat, flat_map, range_with_len},
  declared.cmp.Ordering.TheVariants.Less,
  Ordering.nat_cmp,
  Cmp.Lexicographic.slice_cmp,
}
use Rattle.seg_core.specs.{
  Line.{delimiters, ends_with, first_lines, joined, lines_of},
  declared.{count.Sign.Sign, unit.Unit.{Unit as Counted, TheVariants.{Bytes, Lines}}, cut.{Way.Way, Chunks.Chunks}},
}
use Rattle.engine_core.specs.{Draft.opening_line, Written.IsBeginning, Work.Judges}
use Rattle.ports_core.specs.{
  Inputs.largest_piece,
  Message.SaysAll,
  Name.{name_at, ordered_count},
  Slot.{Slot, has_file, slot_at},
  Source.{Content, Source, source_at},
  Streams.standard_error,
  Text.{Message, message_of},
  declared.calling.Calling.{Calling, TheVariants.OwnName},
  declared.fault.Fault.Fault,
  declared.verdict.Verdict.{Verdict, TheVariants.Changed},
  declared.on_broken.OnBroken.OnBroken,
  declared.slot.{Mode.{Mode, TheVariants.Fresh}, State.{State, TheVariants.Closed}},
}
use Rattle.operand_core.specs.{Style.Style, declared.operand.Operand.Operand}
use Rattle.csplit_core.specs.{
  Input.all_lines,
  Operand.Line,
  Output.{file_in, naming_of as section_naming},
  Plan.{Step, Plan},
  Planned.plan,
  Section.{lines_between, section_of, whole_end, whole_sections},
}
use Rattle.run_core.specs.{
  Feeding.is_enough,
  Input.{Input, World, inputs_at, is_dash},
  RunEnds.AllDone,
  Task.{Task, made_by, status_of},
}
use Rattle.tee_core.specs.{
  Run.{AreSound, EndsAs as TeeCopies, TeeRun, copied, ends_run, forgives, is_quiet, no_room as no_memory, stands_as},
  declared.standing.Standing.{Standing, TheVariants.Sound},
}
use Rattle.words_core.specs.{
  declared.{
    settings.Settings.{Settings, TheVariants.{Head, Tail, Split, Csplit, Tee, About}},
    tail_words.TailSettings.TailSettings,
    value.Followed.Followed,
  },
  EndsWords.EndsAsked,
  Help.text_about,
  SplitWords.SplitAsked,
  TailWords.followed_by,
  TeeWords.TeeAsked,
  Words.{HasBadOperands, settings_of},
}
use Rattle.split_core.specs.{Chunks.{chunks_of, has_ended, pieces_in}, ChunkWork.{files_by, kept}}
use Rattle.watch_core.specs.Snapshot.{Snapshot}
use Rattle.ends_core.specs.Ends.{tail_of}
use Rattle.follow_core.specs.{Ending.shows_by, Version.{Entry, entries_of}}
use Rattle.tools_core.specs.{
  About.TellsText,
  Following.{FollowingEnds, is_name, method_of},
  Outcome.{IsTask, RunEnds, TeeEndsAs, names_read, refusal},
  Program.ProgramEnds,
  Run.{Run, all_visible},
  Tasks.{by, names_of, naming_of, speaker_of},
}
use Rattle.words_core.specs.EndsWords.{has_headers, is_minus, is_plus}
use Rattle.ports_core.specs.declared.reason.Reason.TheVariants as reason
use Rattle.ports_core.specs.declared.fault.Fault.TheVariants as fault
use Rattle.ports_core.specs.declared.slot.State.TheVariants as state
use Rattle.seg_core.specs.declared.cut.Way.TheVariants as way

-- a run ended as `run_words` ensures, which the program calls
abbrev pub IsOfProgram : Run → Type 0
IsOfProgram run = ProgramEnds all_visible run

-- Its words are read as these settings, and it ended as `run` ensures, whether it met a fault or not.
pub record Ran (run : Run) (asked : Settings) : Type 0 where
  pub read : settings_of run.calling run.words ≡ Ok asked
  pub ends : RunEnds all_visible run

-- an output whose reader is gone is no fault: of `tee`, where its words say so
abbrev pub forgives_gone : Settings → Bool
forgives_gone (Tee asked) = forgives asked.on_broken
forgives_gone asked = false

-- and it met no fault, nor a reader that was gone
pub record Does (run : Run) (asked : Settings) : Type 0 where
  pub ran : Ran run asked
  pub well : run.status ≡ 0
  pub unforgiven : forgives_gone asked ≡ true → AreSound run.outputs

-- What lies at a name that is the only one: at `-` standard input, at any other a file, which is opened as input 1.
abbrev pub lying_at : World → List ℕ → Option Content
lying_at world name = if is_dash name then Some world.standard else world.laid 1 name

abbrev pub is_bytes : Counted → Bool
is_bytes Bytes = true
is_bytes Lines = false

abbrev pub is_chunked : Way → Bool
is_chunked (way.Cut cut) = false
is_chunked (way.Chunks chunks) = true
is_chunked (way.Chunk place chunks) = true
is_chunked (way.Turn place n delim) = false

-- one chunk goes to standard output: that at this place, counted from 0
abbrev pub is_one_chunk : Way → Bool
is_one_chunk (way.Cut cut) = false
is_one_chunk (way.Chunks chunks) = false
is_one_chunk (way.Chunk place chunks) = nat_lt place chunks.count
is_one_chunk (way.Turn place n delim) = false

-- `head` of all but the last, `tail` of the last, or `split` that writes one chunk: if an input shows a text before it
-- is read, the tool takes this text, and nothing that comes after it
abbrev pub takes_shown : Settings → Bool
takes_shown (Head asked) = is_minus asked.count.sign
takes_shown (Tail asked) = not (is_plus asked.ends.count.sign)
takes_shown (Split asked) = is_one_chunk asked.way
takes_shown asked = false

-- the tool looks at what an input shows: so does `split` that makes chunks in files, too
abbrev pub looks : Settings → Bool
looks (Split asked) = is_chunked asked.way
looks asked = takes_shown asked

-- of what an input shows only the length matters: the tool counts bytes, or makes chunks
abbrev pub looks_at_length : Settings → Bool
looks_at_length (Head asked) = is_bytes asked.unit
looks_at_length (Tail asked) = is_bytes asked.ends.unit
looks_at_length (Split asked) = true
looks_at_length asked = false

-- What two inputs show, a text or none, is the same to the tool. It doesn't look at that; or they show the same; or only
-- the length matters, and that is the same.
abbrev pub ShowAlike : Settings → (one other : Option (List ℕ)) → Type 0
ShowAlike asked one other = looks asked ≡ true
    → (one ≡ other) ⊎ ((looks_at_length asked ≡ true) × (option_map length one ≡ option_map length other))

-- An input that shows this and has this content gives these bytes to a run of these settings. It has them and ends after
-- them, and shows nothing, or what is the same to the tool as these bytes. Or what it shows is the same to a tool that
-- takes such a text alone, and it has them first, whatever comes after them.
pub data Gives (asked : Settings) (shown : Option (List ℕ)) (content : Content) (bytes : List ℕ) : Type 0 where
  in_full : content.bytes ≡ bytes → content.breaks_off ≡ false → (shown ≡ None) ⊎ ShowAlike asked shown (Some bytes)
      → Gives asked shown content bytes
  at_first : (more : List ℕ) → content.bytes ≡ bytes ++ more → takes_shown asked ≡ true
      → ShowAlike asked shown (Some bytes) → Gives asked shown content bytes

-- the run has one input, which gives it these bytes
pub record HasInput (run : Run) (bytes : List ℕ) : Type 0 where
  pub name : List ℕ
  pub only : names_read run.calling run.words ≡ name ∷ []
  pub content : Content
  pub holds : lying_at run.world name ≡ Some content
  pub gives : (asked : Settings) → settings_of run.calling run.words ≡ Ok asked
      → Gives asked content.shown content bytes

-- an input gives these bytes to a run of these settings
pub record GivesBytes (asked : Settings) (input : Input) (bytes : List ℕ) : Type 0 where
  pub content : Content
  pub is : input.content ≡ Some content
  pub gives : Gives asked input.shown content bytes

-- Two inputs are the same, or have one name, and give the same bytes to runs of these settings. Or they have one name,
-- show what is the same to the tool, and have the same content except for what they show.
pub data AreAlike (asked : Settings) (one other : Input) : Type 0 where
  are_same : one ≡ other → AreAlike asked one other
  give_same : (bytes : List ℕ) → one.name ≡ other.name → GivesBytes asked one bytes → GivesBytes asked other bytes
      → AreAlike asked one other
  hold_same : (content : Content) (shown : Option (List ℕ)) → ShowAlike asked one.shown other.shown
      → one.name ≡ other.name → one.content ≡ Some content → other.content ≡ Some (record content { shown = shown })
      → AreAlike asked one other

-- each of the inputs and the one at its place in the other list
abbrev pub AllAlike : Settings → List Input → List Input → Type 0
AllAlike asked [] [] = Unit {0}
AllAlike asked (one ∷ ones) [] = ⊥
AllAlike asked [] (other ∷ others) = ⊥
AllAlike asked (one ∷ ones) (other ∷ others) = AreAlike asked one other × AllAlike asked ones others

-- Two runs of these settings read inputs of the same names, in order, and find the same under each: the same bytes, which
-- end or break off alike, or nothing. In how many reads bytes come is no part of what lies there. Nor is what an input
-- shows before it is read, as far as the tool doesn't look at that.
abbrev pub FindAlike : Settings → Run → Run → Type 0
FindAlike asked one other = AllAlike asked (inputs_at one.world (names_read one.calling one.words))
    (inputs_at other.world (names_read other.calling other.words))

-- what is on standard output
abbrev pub output_of : Run → List ℕ
output_of run = (slot_at run.outputs 0).written

-- what the first n of these runs wrote there, one after another
abbrev pub output_of_all : (ℕ → Run) → (n : ℕ) → List ℕ
output_of_all runs n = flat_map (λ place. output_of (runs place)) (range_with_len 0 n)

-- these options, and this count in place of theirs
abbrev pub counted : EndsAsked → Sign → ℕ → EndsAsked
counted options sign n = record options { count = record { sign = sign; amount = n } }

-- `head` with them
abbrev pub IsHead : Run → EndsAsked → Sign → ℕ → Type 0
IsHead run options sign n = Does run (Head (counted options sign n))

-- `tail` with them, which reads its inputs and so follows none: it makes no looks, whatever is to be followed, their
-- count and their pauses, and waits for no process
abbrev pub IsTail : Run → EndsAsked → Sign → ℕ → Type 0
IsTail run options sign n = (followed : Option Followed) × (looks : ℕ) × (pause : ℕ) × (process : Option ℕ)
    × Does run (Tail (record {
      ends = counted options sign n;
      followed = followed;
      looks = looks;
      pause = pause;
      process = process;
    }))

-- no header is written: an option says so, or there is one input and none asks for headers
abbrev pub IsBare : EndsAsked → Type 0
IsBare options = has_headers options.headers options.names ≡ false

-- both count lines, which end with the same byte, or both count bytes; neither writes a header
pub record CountAlike (one other : EndsAsked) : Type 0 where
  pub unit : one.unit ≡ other.unit
  pub delim : one.unit ≡ Lines → one.delim ≡ other.delim
  pub bare : IsBare one × IsBare other

-- The files that it opened. One that was opened twice, under the same name or another, stands here twice.
abbrev pub files_of : Run → List Slot
files_of run = drop 2 run.outputs

-- the lines that tell of these files, in order
abbrev pub lines_telling : List Slot → List ℕ
lines_telling files = flat_map (λ (file : Slot). opening_line file.name) files

-- The file was opened in this mode: it was empty then, or kept what it had. It was closed, and never broke.
abbrev pub IsSound : Mode → Slot → Type 0
IsSound mode file = (file.mode ≡ mode) × (file.state ≡ Closed) × (file.is_broken ≡ false)

-- a file was opened in this mode for each name, in their order; it is sound, and these bytes were written to it
pub record AreCopies (mode : Mode) (names : List (List ℕ)) (bytes : List ℕ) (files : List Slot) : Type 0 where
  pub named : map (λ (file : Slot). file.name) files ≡ names
  pub each : All (λ (file : Slot). IsSound mode file × (file.written ≡ bytes)) files

-- what was written to each file
abbrev pub contents_of : Run → List (List ℕ)
contents_of run = map (λ (file : Slot). file.written) (files_of run)

-- each name comes before the next, by the first byte in which they differ; a beginning of another comes before that
abbrev pub AreInOrder : List (List ℕ) → Type 0
AreInOrder [] = Unit {0}
AreInOrder (name ∷ []) = Unit {0}
AreInOrder (name ∷ next ∷ names) = (slice_cmp nat_cmp name next ≡ Less) × AreInOrder (next ∷ names)

-- the text at a place; there is an empty one at any other
abbrev pub text_at : List (List ℕ) → ℕ → List ℕ
text_at texts place = slice_index_or texts place []

-- what was written to the file at a place
abbrev pub content_at : Run → ℕ → List ℕ
content_at run place = text_at (contents_of run) place

-- The file at a place has the name of this place: the prefix, letters or digits, and the ending. The files come in the
-- order of their names, byte by byte, as a shell's `*` gives them where it sorts so. Each was made anew, and is sound.
pub record AreListed (asked : SplitAsked) (files : List Slot) : Type 0 where
  pub named : (place : ℕ) → place < length files
      → text_at (map (λ (file : Slot). file.name) files) place ≡ name_at (naming_of asked) place
  pub in_order : AreInOrder (map (λ (file : Slot). file.name) files)
  pub sound : All (IsSound Fresh) files

-- The pieces are joined the input. Each has n of what is counted, but the last may have fewer; none has nothing.
pub record ArePieces (size : List ℕ → ℕ) (n : ℕ) (input : List ℕ) (pieces : List (List ℕ)) : Type 0 where
  pub all : joined pieces ≡ input
  pub some : (place : ℕ) → place < length pieces → 0 < size (text_at pieces place)
  pub most : (place : ℕ) → place < length pieces → size (text_at pieces place) ≤ n
  pub full : (place : ℕ) → place + 1 < length pieces → size (text_at pieces place) ≡ n

-- Each piece but the last ends with a line.
abbrev pub AreUncut : ℕ → List (List ℕ) → Type 0
AreUncut delim pieces = (place : ℕ) → place + 1 < length pieces → ends_with delim (text_at pieces place) ≡ true

-- The piece ends with a line, or it is n bytes within one line.
abbrev pub EndsLine : ℕ → ℕ → List ℕ → Type 0
EndsLine delim n piece = (ends_with delim piece ≡ true) ⊎ ((length piece ≡ n) × (delimiters delim piece ≡ 0))

-- With the first line of the next piece, to which a delimiter is added where it lacks it, the piece would have more
-- than n bytes.
abbrev pub IsFilled : (delim n : ℕ) (piece next : List ℕ) → Type 0
IsFilled delim n piece next = n < length piece + length (first_lines delim 1 (next ++ delim ∷ []))

-- The pieces are joined the input. None is empty, none has more than n bytes, and between two pieces a line is cut only
-- where it is longer than that. Each has as many lines as fit, where an open last line counts with its delimiter: so a
-- piece in which such a line follows others has room for that.
pub record AreLinePieces (delim n : ℕ) (input : List ℕ) (pieces : List (List ℕ)) : Type 0 where
  pub all : joined pieces ≡ input
  pub some : (place : ℕ) → place < length pieces → 0 < length (text_at pieces place)
  pub most : (place : ℕ) → place < length pieces → length (text_at pieces place) ≤ n
  pub uncut : (place : ℕ) → place + 1 < length pieces → EndsLine delim n (text_at pieces place)
  pub filled : (place : ℕ) → place + 1 < length pieces
      → IsFilled delim n (text_at pieces place) (text_at pieces (suc place))
  pub room : (place : ℕ) → place < length pieces → 0 < delimiters delim (text_at pieces place)
      → ends_with delim (text_at pieces place) ≡ false → length (text_at pieces place) < n

-- Line i of the input, counted from 0, is line i / n of file i % n, and there is nothing else in the files. There are
-- n, or those that have a line, where the others are left out.
pub record AreDealt (delim n : ℕ) (elide : Bool) (input : List ℕ) (contents : List (List ℕ)) : Type 0 where
  pub lines : (i : ℕ) → text_at (lines_of delim input) i ≡ text_at (lines_of delim (text_at contents (i % n))) (i / n)
  -- each line has a place of its own in the files; these have no more bytes than the input, and so no others
  pub all : length (joined contents) ≡ length input
  pub count : elide ≡ false → length contents ≡ n
  pub left_out : elide ≡ true → All (λ bytes. 0 < length bytes) contents

-- There are n pieces. Each has its file, or those that have a byte, where the others are left out; joined these are the
-- input.
pub record AreChunks (n : ℕ) (elide : Bool) (input : List ℕ) (pieces contents : List (List ℕ)) : Type 0 where
  pub count : length pieces ≡ n
  pub files : contents ≡ kept elide pieces
  pub all : joined contents ≡ input

-- the input goes to files, and not what one of them would have to standard output
abbrev pub makes_files : Way → Bool
makes_files (way.Cut cut) = true
makes_files (way.Chunks chunks) = true
makes_files (way.Chunk place chunks) = false
makes_files (way.Turn place n delim) = false

-- a run split this input in this way
pub record Splits (run : Run) (asked : SplitAsked) (way : Way) (input : List ℕ) : Type 0 where
  pub does : Does run (Split asked)
  pub has : HasInput run input
  pub is : asked.way ≡ way

-- each of the first `count` of these runs split the input in its own way
abbrev pub AllSplit : (ℕ → Run) → (ℕ → SplitAsked) → (count : ℕ) → (ℕ → Way) → List ℕ → Type 0
AllSplit runs asked count ways input =
    (place : ℕ) → place < count → Splits (runs place) (asked place) (ways place) input

-- This operand begins with `%` (37). One that does so is a pattern whose section is skipped, where the operands of a
-- `csplit` are right.
abbrev pub skips : List ℕ → Bool
skips [] = false
skips (byte ∷ word) = byte == 37

-- no operand begins so
abbrev pub SkipNothing : List (List ℕ) → Type 0
SkipNothing [] = Unit {0}
SkipNothing (word ∷ words) = (skips word ≡ false) × SkipNothing words

-- the line at the cut of a step, where such lines are left out
abbrev pub left_out : Bool → List Line → Step → List Line
left_out true lines step = lines_between step.cut (suc step.cut) lines
left_out false lines step = []

-- the lines of each step's section and the line that is left out after it, and then those of the last section
abbrev pub in_turn : Bool → List Line → List Step → List Line → List Line
in_turn suppress lines [] last = last
in_turn suppress lines (step ∷ steps) last =
    (section_of lines step).lines ++ (left_out suppress lines step ++ in_turn suppress lines steps last)

-- the lines of the last section: all that are left, but none where the plan ends with a cut below the current line
abbrev pub last_section : List Line → Plan → List Line
last_section lines plan = lines_between plan.last.current (whole_end (length lines) plan.ending) lines

-- Each line of the input is in one section, or is left out at a cut, and in their order these are all lines. The files
-- have the sections that are kept, one each, and nothing else: none is of a section that is skipped, nor of an empty
-- one where empty files are left out.
pub record AreSections (style : Style) (operands : List Operand) (input : List ℕ)
    (contents : List (List ℕ)) : Type 0 where
  pub all : in_turn style.suppress (all_lines input) (plan style operands (all_lines input)).steps
      (last_section (all_lines input) (plan style operands (all_lines input))) ≡ all_lines input
  pub files : contents ≡ flat_map (file_in style)
      (whole_sections (all_lines input) (plan style operands (all_lines input)))

-- The files are numbered in their order: each has its place's name, from 0 on, and no two have one name. Where there are
-- at most `ordered_count` files (as many numbers have one count of digits, and no `#` marks them), this is the order of
-- the names, byte by byte. Each file was made anew, and is sound.
pub record AreNumbered (style : Style) (files : List Slot) : Type 0 where
  pub named : (place : ℕ) → place < length files
      → text_at (map (λ (file : Slot). file.name) files) place ≡ name_at (section_naming style) place
  pub apart : length files ≤ 2 ^ 64 → (one other : ℕ) → one < length files → other < length files
      → text_at (map (λ (file : Slot). file.name) files) one ≡ text_at (map (λ (file : Slot). file.name) files) other
      → one ≡ other
  pub in_order : length files ≤ ordered_count style.form → length files ≤ 2 ^ 64
      → AreInOrder (map (λ (file : Slot). file.name) files)
  pub sound : All (IsSound Fresh) files

-- an output has a beginning of what another has, under its name, or it has nothing
pub record BeginsAs (output other : Slot) : Type 0 where
  pub bytes : IsBeginning output.written other.written
  pub named : (output.name ≡ other.name) ⊎ (output.written ≡ [])

-- Each output of a run but standard error has a beginning of what the same output of another run has. What was written
-- to a file counts, also where it was removed.
abbrev pub BeginsEach : Run → Run → Type 0
BeginsEach run other =
    (place : ℕ) → (place ≡ 1 → ⊥) → BeginsAs (slot_at run.outputs place) (slot_at other.outputs place)

-- an output's name, which is lost where a file could not be opened and there was no memory to keep it
abbrev pub IsCalled : Slot → List ℕ → Type 0
IsCalled output name = (output.name ≡ name) ⊎ ((output.name ≡ []) × (output.state ≡ state.Unopened))

-- what could not be done with an output that is broken and in this state
abbrev pub failing : ℕ → State → Fault
failing place state.Unopened = fault.Open place
failing place state.Open = fault.Write place
failing place state.Closed = fault.Write place
failing place state.Removed = fault.Write place

-- The output at this place, which isn't standard error, is broken, has this name, and could not be opened or written, as
-- this fault says.
abbrev pub BrokeAt : Run → ℕ → List ℕ → Fault → Type 0
BrokeAt run place name fault = (place ≡ 1 → ⊥) × IsCalled (slot_at run.outputs place) name
    × ((slot_at run.outputs place).is_broken ≡ true) × (failing place (slot_at run.outputs place).state ≡ fault)

-- one of the inputs that the run found
abbrev pub IsFound : Run → Settings → Input → Type 0
IsFound run asked input = (before : List Input) × (after : List Input)
    × (inputs_at run.world (names_of asked) ≡ before ++ input ∷ after)

-- one of them has more bytes than any tool takes
abbrev pub HasLong : Run → Settings → Type 0
HasLong run asked = (input : Input) × (content : Content) × IsFound run asked input × (input.content ≡ Some content)
    × (2 ^ 63 ≤ length content.bytes)

-- A fault that stops a run, and the name that its line has: there was no memory, which nothing that is left could show;
-- an input has more than any tool takes; operands of `csplit` are wrong, the first of them this word; or the output of
-- this name broke. Where one of `tee` broke that counts as well, also where it went on with the others.
abbrev pub StopsRun : Run → Settings → List ℕ → Fault → Type 0
StopsRun run asked name fault.Memory = Unit {0}
StopsRun run asked name fault.TooLong = HasLong run asked
StopsRun run asked name (fault.Usage kind word) = HasBadOperands asked (fault.Usage kind word)
    × (name ≡ text_at run.words word)
StopsRun run asked name (fault.Write place) = BrokeAt run place name (fault.Write place)
StopsRun run asked name (fault.Open place) = BrokeAt run place name (fault.Open place)
StopsRun run asked name why = ⊥

-- the tool has not enough of what an input gives, which shows this, before it breaks off, and `tee` never has
abbrev pub WantsMore : Calling → Settings → Option (List ℕ) → Content → Type 0
WantsMore calling asked shown content =
    (task : Task) → IsTask calling asked task → is_enough (task.work shown) content ≡ false

-- A fault after which a run goes on, and the name that its line has: an input of this name is missing, or breaks off
-- before the tool has enough of it; or the tool has, and its own work over that input ends with this verdict, as where
-- names run out or no line matches. The number of an input stands in no line.
pub data GoesOnAfter (run : Run) (asked : Settings) : Fault → List ℕ → Type 0 where
  missing : (input : Input) → IsFound run asked input → input.content ≡ None
      → GoesOnAfter run asked (fault.Open 0) input.name
  broken_off : (input : Input) (content : Content) → IsFound run asked input → input.content ≡ Some content
      → content.breaks_off ≡ true → WantsMore run.calling asked input.shown content
      → GoesOnAfter run asked (fault.Read 0) input.name
  judged : (input : Input) (content : Content) (task : Task) (verdict : Verdict) → IsFound run asked input
      → input.content ≡ Some content → IsTask run.calling asked task → is_enough (task.work input.shown) content ≡ true
      → Judges (task.work input.shown) content.bytes verdict
      → GoesOnAfter run asked (fault.Verdict verdict) (task.subject verdict input.name)

-- a fault that the run met, and the name that its line has
abbrev pub IsMet : Run → Settings → Fault → List ℕ → Type 0
IsMet run asked fault name = StopsRun run asked name fault ⊎ GoesOnAfter run asked fault name

-- the message that tells a fault by a line that has this name: that of operands that are wrong refuses the words
abbrev pub message_by : Run → Fault → List ℕ → Message
message_by run (fault.Usage kind word) name = refusal run.calling run.words (fault.Usage kind word)
message_by run why name = message_of why name

-- the message that tells such a fault
abbrev pub TellsMet : Run → Settings → Message → Type 0
TellsMet run asked message = (fault : Fault) × (name : List ℕ) × IsMet run asked fault name
    × (message ≡ message_by run fault name)

-- Standard error got the lines of these messages, of which each tells a fault that the run met: as far as it takes
-- lines, and where there was no memory for one, the line that says so stands in its place.
pub record SaysLines (run : Run) (asked : Settings) (lines : List Message) : Type 0 where
  pub are : All (TellsMet run asked) lines
  pub said : SaysAll true (speaker_of run.calling asked) lines standard_error (slot_at run.outputs 1)

-- the run told this fault by a line that has this name, perhaps among others
abbrev pub Tells : Run → Settings → Fault → List ℕ → Type 0
Tells run asked fault name = (before : List Message) × (after : List Message)
    × SaysLines run asked (before ++ message_by run fault name ∷ after)

-- The files have what came, up to the length that was shown, each what goes with its chunk of a text of that length. It
-- was told that the input of this name changed.
pub record IsCutAsShown (run : Run) (asked : SplitAsked) (chunks : Chunks)
    (name shown bytes : List ℕ) : Type 0 where
  pub files : contents_of run ≡ files_by asked.elide (chunks_of chunks (length shown) bytes)
  pub all : joined (contents_of run) ≡ take (length shown) bytes
  pub told : Tells run (Split asked) (fault.Verdict Changed) name
  pub failed : run.status ≡ 1

-- Standard output has what came of the chunk at this place, of a text of the length that was shown. Unless the chunk got
-- all that goes with it, it was told that the input of this name changed.
pub record IsChunkAsShown (run : Run) (asked : SplitAsked) (place : ℕ) (chunks : Chunks)
    (name shown bytes : List ℕ) : Type 0 where
  pub out : output_of run ≡ text_at (pieces_in (chunks_of chunks (length shown) bytes)) place
  pub told : has_ended chunks (length shown) bytes place ≡ false → Tells run (Split asked) (fault.Verdict Changed) name
  pub failed : has_ended chunks (length shown) bytes place ≡ false → run.status ≡ 1

-- the output at this place broke, if it did, since nobody reads it any more
abbrev pub LostReader : Run → ℕ → Type 0
LostReader run place = (slot_at run.outputs place).reason ≡ reason.Gone

-- an output broke since nobody reads it any more
abbrev pub HasGone : Run → Type 0
HasGone run = (place : ℕ) × (place ≡ 1 → ⊥) × ((slot_at run.outputs place).is_broken ≡ true) × LostReader run place

-- A reader may be gone of which nothing is said, by a tool's own name: the status tells it. `tee` may go on without it,
-- where its words or how it was called ask for that.
abbrev pub IsSilent : Run → Settings → Type 0
IsSilent run (Tee asked) = (is_quiet asked.on_broken ≡ true) × HasGone run
IsSilent run asked = (run.calling ≡ OwnName) × HasGone run × (run.status ≡ 141)

-- it says why it failed: it told a fault that it met
abbrev pub SaysWhy : Run → Settings → Type 0
SaysWhy run asked = (fault : Fault) × (name : List ℕ) × IsMet run asked fault name × Tells run asked fault name

-- its files are removed after a fault: those of a `csplit` that isn't to keep them
abbrev pub removes_files : Settings → Bool
removes_files (Head asked) = false
removes_files (Tail asked) = false
removes_files (Split asked) = false
removes_files (Csplit asked) = not asked.style.keep
removes_files (Tee asked) = false
removes_files (About tool topic) = false

-- an output that has no file any more, or never had, or is broken
abbrev pub IsGone : Slot → Type 0
IsGone output = (has_file output.state ≡ false) ⊎ (output.is_broken ≡ true)

-- Why an output is broken: it could not be opened or written, which was told by its name; or it is a file of `csplit`
-- that was to be removed after some fault, with all others, and could not be: each of these is gone, or broken too.
-- That need not be told, nor then what broke it before.
pub data WhyBroken (run : Run) (asked : Settings) (place : ℕ) : Type 0 where
  named : (name : List ℕ) → IsCalled (slot_at run.outputs place) name
      → Tells run asked (failing place (slot_at run.outputs place).state) name → WhyBroken run asked place
  unremoved : removes_files asked ≡ true → (slot_at run.outputs place).state ≡ Closed
      → ((other : ℕ) → 2 ≤ other → IsGone (slot_at run.outputs other)) → WhyBroken run asked place

-- `tee` copied all that its input has, and none of its outputs broke. A run in which one broke counts as one that a
-- fault stopped, also where it went on with the others.
abbrev pub IsCopied : {run : TeeRun} {visible_in : Bool} {content : Content} {source : Source} {new : List Slot}
    {status : ℕ} → TeeCopies run visible_in content source new status → Type 0
IsCopied {content = content} {new = new} (copied pieces fault old mid comes so_far says closes is) =
    AreSound new × (concat pieces ≡ content.bytes)
IsCopied (no_memory error says unread slots is) = ⊥

-- A run over these inputs did all that these settings ask for, and no fault stopped it. It went on where an input was
-- missing or broke off, and where the tool's own work ended with a verdict: no match, a line out of range, names that
-- ran out. These are told, and its status is 1.
abbrev pub DoesAll : Run → List Input → Settings → Type 0
DoesAll run found (Tee asked) = (does : TeeEndsAs all_visible run found asked) × IsCopied does.ends
DoesAll run found (About tool topic) =
    TellsText true (by run.calling tool) (text_about tool topic) run.outputs run.status × (run.status ≡ 0)
DoesAll run found asked = (task : Task) × IsTask run.calling asked task
    × AllDone true true task found run.inputs run.outputs × (run.status ≡ status_of (made_by task found))

-- A run's words are read as these settings, and it did all that they ask for over what it found, whatever its status.
-- No fault stopped it.
pub record Completes (run : Run) (asked : Settings) : Type 0 where
  pub read : settings_of run.calling run.words ≡ Ok asked
  pub does : DoesAll run (inputs_at run.world (names_of asked)) asked

-- A run was to split its one input in this way, and no fault stopped it. The input showed a text that has a byte, and
-- then gave these bytes, which are fewer or more, and ended after them.
pub record SplitsOther (run : Run) (asked : SplitAsked) (way : Way) (input : Input)
    (shown bytes : List ℕ) : Type 0 where
  pub whole : Completes run (Split asked)
  pub is : asked.way ≡ way
  pub only : inputs_at run.world (names_read run.calling run.words) ≡ input ∷ []
  pub showed : input.shown ≡ Some shown
  pub some : 0 < length shown
  pub gave : input.content ≡ Some (record { bytes = bytes; breaks_off = false; shown = Some shown })
  pub other : length bytes ≡ length shown → ⊥

-- Why an output of a run is broken was told, and the status is 1; or the run may be silent about a reader that is gone.
abbrev pub IsTold : Run → Settings → ℕ → Type 0
IsTold run asked place = ((run.status ≡ 1) × WhyBroken run asked place)
    ⊎ (IsSilent run asked × (LostReader run place ⊎ WhyBroken run asked place))

-- A fault that stops a run was met: the run told it, and its status is 1. If that is an output of `tee` that broke, the
-- run went on with the others or ended with that, and no more is said here of it.
pub record IsStopped (run : Run) (asked : Settings) : Type 0 where
  pub failed : run.status ≡ 1
  pub why : Fault
  pub name : List ℕ
  pub stops : StopsRun run asked name why
  pub says : Tells run asked why name

-- An output got the same in two runs, under the same name. It is left the same in both, unless it is broken in one of
-- them, as a file that was to be removed and could not be.
pub record IsAlike (output other : Slot) : Type 0 where
  pub name : output.name ≡ other.name
  pub mode : output.mode ≡ other.mode
  pub written : output.written ≡ other.written
  pub left : output.is_broken ≡ false → other.is_broken ≡ false → output ≡ other

-- two runs said the same lines on standard error, as far as that took them in each
abbrev pub SayAlike : Settings → Run → Run → Type 0
SayAlike asked one other = (lines : List Message) × SaysLines one asked lines × SaysLines other asked lines

-- two runs left the same status, as many outputs, the same in each, and said the same
pub record LeaveAlike (asked : Settings) (one other : Run) : Type 0 where
  pub status : one.status ≡ other.status
  pub count : length one.outputs ≡ length other.outputs
  pub outputs : (place : ℕ) → (place ≡ 1 → ⊥) → IsAlike (slot_at one.outputs place) (slot_at other.outputs place)
  pub said : SayAlike asked one other

-- What an output of `tee` has: one that is sound has all of these pieces, and any other a beginning; one that ended the
-- run has all before the last, and where it couldn't be opened, nothing was read.
pub record HasUpTo (run : Run) (on_broken : OnBroken) (before last : List ℕ) (output : Slot) : Type 0 where
  pub no_more : IsBeginning output.written (before ++ last)
  pub sound : stands_as output ≡ Sound → output.written ≡ before ++ last
  pub some : ends_run (stands_as output) on_broken ≡ true → IsBeginning before output.written
  pub unopened : ends_run (stands_as output) on_broken ≡ true → output.state ≡ state.Unopened
      → (source_at run.inputs 0).reads ≡ 0

-- one of the outputs but standard error stands so
abbrev pub OneIs : Run → (Standing → Type 0) → Type 0
OneIs run Is =
    (place : ℕ) × (place ≡ 1 → ⊥) × (place < length run.outputs) × Is (stands_as (slot_at run.outputs place))

-- A run of `tee` ended with its input, with an output whose breaking ends such a run, once none was left, or told that
-- it found no memory to begin, and read nothing. The input was read up to `last`, which is no longer than a piece, and
-- the rest is left.
pub record EndsWithBreak (run : Run) (asked : TeeAsked) : Type 0 where
  pub before : List ℕ
  pub last : List ℕ
  pub rest : List ℕ
  pub read : run.world.standard.bytes ≡ (before ++ last) ++ rest
  pub left : (source_at run.inputs 0).left.bytes ≡ rest
  pub small : length last ≤ largest_piece
  pub outputs : (place : ℕ) → (place ≡ 1 → ⊥) → place < length run.outputs
      → HasUpTo run asked.on_broken before last (slot_at run.outputs place)
  pub ended : (rest ≡ []) ⊎ OneIs run (λ standing. ends_run standing asked.on_broken ≡ true)
      ⊎ (OneIs run (λ standing. standing ≡ Sound) → ⊥)
      ⊎ (((source_at run.inputs 0).reads ≡ 0) × Tells run (Tee asked) fault.Memory [])

-- what `tail` is asked for that is to follow files so, in this many looks and with these pauses, and names no process
abbrev pub to_follow : EndsAsked → Followed → (looks pause : ℕ) → TailSettings
to_follow options followed looks pause =
    record { ends = options; followed = Some followed; looks = looks; pause = pause; process = None }

-- its words ask for that, whatever pauses they ask for, and if they name standard input, it can be followed
abbrev pub AsksToFollow : Run → EndsAsked → Followed → (looks : ℕ) → Type 0
AsksToFollow run options followed looks = (pause : ℕ)
    × (settings_of run.calling run.words ≡ Ok (Tail (to_follow options followed looks pause)))
    × (followed_by run.calling run.fed (to_follow options followed looks pause) ≡ Some followed)

-- It followed what its words ask for, in as many looks as its caller asks for, ended as `run_follow` ensures, or as the
-- program does where standard input is followed, and met no fault. The program asks for as many looks as its words do.
pub record Follows (run : Run) (count : ℕ) (options : EndsAsked) (followed : Followed) : Type 0 where
  pub looks : ℕ
  pub read : AsksToFollow run options followed looks
  pub ends : FollowingEnds all_visible run count
  pub well : run.status ≡ 0

-- what each look of it shows where it follows its names so
abbrev pub showing : Run → Followed → ℕ → Snapshot
showing run followed = shows_by run.calling (method_of followed) run.shows

-- what `tail` with these options writes of a text
abbrev pub tail_part : EndsAsked → List ℕ → List ℕ
tail_part options = tail_of options.delim options.unit (is_plus options.count.sign) options.count.amount

-- A run of `tail` with these options followed one name, in as many looks as its caller asks for. It met no fault, and
-- wrote no header.
pub record FollowsOne (run : Run) (count : ℕ) (options : EndsAsked) : Type 0 where
  pub followed : Followed
  pub name : List ℕ
  pub follows : Follows run count options followed
  pub bare : IsBare options
  pub named : options.names ≡ name ∷ []

-- What the looks that were made found under the one name that a run follows, in order: the versions of its file, or of
-- several files, and gaps.
abbrev pub versions_of : {run : Run} {count : ℕ} {options : EndsAsked} → FollowsOne run count options → List Entry
versions_of {run = run} one = entries_of (is_name one.followed) one.name run.seen

-- what this file has at a look
abbrev pub held : {run : Run} {count : ℕ} {options : EndsAsked} → FollowsOne run count options → (look file : ℕ)
    → List ℕ
held {run = run} one look file = (showing run one.followed look).holds file

-- at each of the first `count` looks the name leads to this file, which has all that it had at the look before, and
-- perhaps more after it
abbrev pub OnlyGrows : (count : ℕ) → (ℕ → Snapshot) → List ℕ → ℕ → Type 0
OnlyGrows count shows name file = ((n : ℕ) → n < count → (shows n).leads name ≡ Some file)
    × ((n : ℕ) → suc n < count → IsBeginning ((shows n).holds file) ((shows (suc n)).holds file))

-- its name leads to this file at each look that was made, and the file only grows
abbrev pub IsGrowing : {run : Run} {count : ℕ} {options : EndsAsked} → FollowsOne run count options → ℕ → Type 0
IsGrowing {run = run} one file = OnlyGrows (length run.seen) (showing run one.followed) one.name file
