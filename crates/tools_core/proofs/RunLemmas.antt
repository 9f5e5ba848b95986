-- Lemmas on how a run ends, by its words.
use Rattle.std.{
  specs.Option.unwrap_or,
  proofs.Common.{◌≡◌, ℕ, List, [], ◌∷◌, Option, Some, None, option_map, Result, Ok, Err, refl, ◌∙◌, ap, subst},
  proofs.Common.{take, Bool, true, false, length, map, Bor, inl, inr, codes, arith, max, ◌&&◌, if◌then◌else◌},
  proofs.Math.Bool.and-false,
}
use Rattle.ports_core.specs.{
  declared.fault.{Fault.{Fault, TheVariants.{Memory, Usage, Write}}, UsageKind.{UsageKind, TheVariants.BadFollow}},
  declared.reason.Reason.TheVariants.Other,
  declared.calling.Speaker.Speaker,
  Write.BrokeAfter,
  declared.tool.Tool.Tool,
  declared.calling.Calling.{Calling, TheVariants.{Cutters, OwnName}},
  Slot.{Slot, adds, breaks, changed_at, slot_at, streams, visible_of},
  Source.{Content, Source, source_at, source_of},
  Text.{Message, message_of, refusal_of, status_after},
  Message.{Says, SaysAll, SaysFor, SaysOn, TellsOn, output_named, output_reason},
  Inputs.{CameFrom, OfContent, empty},
  Streams.{standard_error, standard_output},
}
use Rattle.words_core.specs.{
  declared.{
    settings.{Settings.{Settings, TheVariants.{Head, Tail, Split, Csplit, Tee, About}}, Topic.Topic, Headers.Headers},
    tail_words.TailSettings.TailSettings,
    value.Followed.Followed,
  },
  CsplitWords.{HasBadOperand, csplit_asked, CsplitAsked},
  EndsWords.{ends_asked, EndsAsked},
  SplitWords.split_asked,
  TailWords.{followed_by, has_dash, tail_asked},
  TeeWords.{tee_asked},
  Given.Given,
  Refusal.{detail_of, word_at},
  Spelling.{given_by, IsRefused},
  Value.then_check,
  Table.{ToolRow, row_named, tools},
  Words.{about_or, topic_in, work_for, program_asked, settings_for, settings_of, tool_settings, topic_named, CanRun},
  Words.{HasBadOperands, asks_input, follows, looks},
}
use Rattle.words_core.proofs.{CallingLemmas.row_named-tool, LimitLemmas.read-can}
use Rattle.follow_core.{
  proofs.LookedLemmas.most_made,
  specs.{
    Ending.{no_room as no_room_yet, shows_by},
    declared.run.Method.{Method, TheVariants.{Descriptor, Name, PresentName, FirstFile}},
  },
}
use Rattle.tools_core.specs.{
  Outcome.{Refuses, RefusesFor, RunEnds, RunEndsAt, refusal, refuser, speaker},
  Run.{IsUnread, Run, Visible},
  inner.Asked.RunsAsked,
  Tasks.{by, names_of, speaker_of, tool_of},
  About.{TellsText, no_text, text_cut},
  Following.{FollowingEnds, FollowingEndsAt, FollowsTail, IsUnseen, method_of, pause_by},
  Program.{ProgramEnds, ProgramEndsAt, looks_at},
}
use Rattle.run_core.{
  specs.{Input.{Finds, Input, World, standard_input}, RunEnds.{no_room, RunsOver}, Task.Task},
  proofs.InputLemmas.none_touched,
}
use Rattle.seg_core.specs.declared.{count.Count.Count, unit.Unit.Unit as Counted}
use Rattle.tee_core.specs.Run.{AreSound, IsAsFound, all_copied, forgives, EndsAs as TeeCopies}
use Rattle.operand_core.specs.Reading.{no_memory}
use Rattle.watch_core.specs.Snapshot.{Snapshot, waiting}
use Rattle.ports_core.specs.declared.tool.Tool.TheVariants as tool
use Rattle.tee_core.specs.Run as copies
use Rattle.operand_core.specs.declared.operand_fault.OperandFaultKind.TheVariants as kind

-- The tool that runs is the tool that the words name.

by_check : {A : Type 0} (which : Tool) (make : A → Settings) (checked : Result A Fault) {settings : Settings}
    → ((asked : A) → which ≡ tool_of (make asked)) → then_check checked (λ asked. Ok (make asked)) ≡ Ok settings
    → which ≡ tool_of settings
by_check which make (Ok asked) {settings} makes is = let same : make asked ≡ settings = cc in rw (← same) (makes asked)
by_check which make (Err fault) makes is = absurd (cc)

by_work : (calling : Calling) (which : Tool) (given : Given) {settings : Settings}
    → work_for calling which given ≡ Ok settings → which ≡ tool_of settings
by_work calling tool.Head given is = by_check tool.Head (λ asked. Head asked) (Ok (ends_asked given)) (λ asked. refl) is
by_work calling tool.Tail given is = by_check tool.Tail (λ asked. Tail asked) (tail_asked calling given) (λ asked. refl) is
by_work calling tool.Split given is = by_check tool.Split (λ asked. Split asked) (split_asked given) (λ asked. refl) is
by_work calling tool.Csplit given is = by_check tool.Csplit (λ asked. Csplit asked) (csplit_asked calling given) (λ asked. refl) is
by_work calling tool.Tee given is = by_check tool.Tee (λ asked. Tee asked) (Ok (tee_asked calling given)) (λ asked. refl) is
by_work calling tool.Cutters given is = absurd (cc)

by_about : (which : Tool) (topic : Option Topic) (work : Result Settings Fault) {settings : Settings}
    → (work ≡ Ok settings → which ≡ tool_of settings) → about_or which topic work ≡ Ok settings
    → which ≡ tool_of settings
by_about which (Some topic) work {settings} rest is = let same : About which topic ≡ settings = cc in rw (← same) refl
by_about which None work rest is = rest is

by_topic : (topic : Option Topic) {settings : Settings} → program_asked topic ≡ Ok settings
    → (tool.Cutters ≡ tool_of settings) × CanRun settings
by_topic (Some topic) {settings} is = let same : About tool.Cutters topic ≡ settings = cc in rw (← same) (refl, tt)
by_topic None is = absurd (cc)

-- What the words ask for can be done.

by_given : (calling : Calling) (name : List ℕ) {row : ToolRow} (words : List (List ℕ)) {settings : Settings}
    (given : Result Given Fault) → Some row ≡ row_named (tools calling) name → given_by calling row words ≡ given
    → then_check given (settings_for calling row.tool) ≡ Ok settings
    → (row.tool ≡ tool_of settings) × CanRun settings
by_given calling name {row} words {settings} (Ok given) named read is = (
  by_about row.tool (topic_in given.options) (work_for calling row.tool given) (by_work calling row.tool given) is,
  read-can calling name words (Ok settings) refl named read is,
)
by_given calling name words (Err fault) named read is = absurd (cc)

by_row : (calling : Calling) (name : List ℕ) (words : List (List ℕ)) {settings : Settings} (row : Option ToolRow)
    → row ≡ row_named (tools calling) name → tool_settings calling name words row ≡ Ok settings
    → (unwrap_or (option_map (λ row. row.tool) row) tool.Cutters ≡ tool_of settings) × CanRun settings
by_row calling name words (Some row) named is = by_given calling name words (given_by calling row words) named refl is
by_row calling name words None named is = by_topic (topic_named name) is

pub by_words : (calling : Calling) (words : List (List ℕ)) {settings : Settings}
    → settings_of calling words ≡ Ok settings → (speaker words ≡ tool_of settings) × CanRun settings
by_words calling [] is = absurd (cc)
by_words calling (name ∷ words) is =
    rw (row_named-tool calling name) at (by_row calling name words (row_named (tools calling) name) refl is)

-- How a run over inputs ends, by its words.

-- the names that a run reads are those of its settings
pub ends_names : {asked : EndsAsked} {unit : Counted} {count : Count} {headers : Headers} {delim : ℕ}
    {items now : List (Bor (List ℕ))} → now ≡ items
    → record {
      unit = unit;
      count = count;
      headers = headers;
      delim = delim;
      names = map (λ
          (name : Bor (List ℕ)). name.now) items;
    } ≡ asked
    → map (λ (name : Bor (List ℕ)). name.now) now ≡ asked.names
ends_names same is = cc (same, is)

-- a run of this task over these inputs
pub as_task : {visible : Bool} {world : World} {names : List (List ℕ)} {IsAsked : Task → Type 0}
    {Ends : Task → List Input → Type 0} (task : Task) → IsAsked task → RunsOver visible world names (Ends task)
    → RunsOver visible world names (λ found. (task : Task) × IsAsked task × Ends task found)
as_task task is (found, finds, ends) = (found, finds, (task, is, ends))

-- `tee` over standard input.

-- the name that `tee` reads leads to standard input
pub finds_standard : {visible : Bool} {world : World} {content : Content} → (visible ≡ true → content ≡ world.standard)
    → Finds visible world (codes "-" ∷ []) (standard_input content ∷ [])
finds_standard {world = world} {content} there = record {
  are = ((record { laid = world.laid; standard = content }, _, refl), refl);
  there = λ t. rw (there t);
}

-- Words that weren't read, since there was no memory, by what they ask for.

-- an input that wasn't read, whether its bytes are visible or not
unread_source : (visible : Bool) (world : World) {sources : List Source} → sources ≡ source_of world.standard ∷ []
    → OfContent visible world.standard (λ content. IsAsFound visible content (source_at sources 0)
    × CameFrom visible content (source_at sources 0))
unread_source true world fresh = rw fresh (
  world.standard,
  λ t. refl,
  ((world.standard, refl, λ t. refl), record { was_open = refl; breaks = λ off. absurd (cc) }),
)
unread_source false world fresh = rw fresh (
  empty,
  λ t. absurd (cc),
  ((world.standard, refl, λ t. absurd (cc)), record { was_open = refl; breaks = λ off. refl }),
)

-- want of memory is one of the faults of operands
lacks_memory : (asked : CsplitAsked) → HasBadOperand asked Memory
lacks_memory asked = (record { kind = kind.Memory; index = 0 }, no_memory 0, refl)

-- Words that are refused, or weren't read since there was no memory.

refused_memory : {calling : Calling} {visible : Bool} (words : List (List ℕ)) (fault : Fault) {new : List Slot}
    {status : ℕ}
    → RefusesFor calling visible words Memory new status → RefusesFor calling visible words fault new status
refused_memory words fault refuses = record {
  error = refuses.error;
  says = let (why, says) = refuses.says in
      (why, record { said = says.said; is = inr (elim says.is [ inl is ↦ is | inr is ↦ is ]); printed = says.printed });
  slots = refuses.slots;
  failed = refuses.failed;
}

-- the message that refuses words was written, and nothing else was done
pub refused_by_line : {calling : Calling} {visible : Bool} {words : List (List ℕ)} (fault : Fault) {old new : List Slot}
    → old ≡ streams → SaysOn visible (refuser calling words) Other (refusal calling words fault) old new
    → RefusesFor calling visible words fault new 1
refused_by_line fault fresh says =
    let (after, said, are) = says standard_output standard_error [] fresh in
    record { error = after; says = (Other, said); slots = are; failed = refl }

pub refused_usage : {calling : Calling} {visible : Bool} {words : List (List ℕ)} (kind : UsageKind) (place : ℕ)
    {speaker : Speaker} {old new : List Slot} → speaker ≡ refuser calling words → old ≡ streams
    → SaysOn visible speaker Other
    (refusal_of speaker kind (word_at words place) (detail_of speaker.calling words kind place)) old new
    → RefusesFor calling visible words (Usage kind place) new 1
refused_usage kind place is fresh says = refused_by_line (Usage kind place) fresh (rw is at says)

-- a fault that isn't about words is refused with its own message
pub plain_refusal : (calling : Calling) (words : List (List ℕ)) (fault : Fault)
    → ((kind : UsageKind) (place : ℕ) → fault ≡ Usage kind place → ⊥)
    → message_of fault [] ≡ refusal calling words fault
plain_refusal calling words (Usage kind place) none = absurd (none kind place refl)
plain_refusal calling words fault none = refl

-- the tool that writes a message is the tool that the words ask for
pub worded_by : {visible : Bool} {message : Message} (calling : Calling) {which tool : Tool} {old new : Slot}
    → which ≡ tool → Says visible (by calling which) message old new → Says visible (by calling tool) message old new
worded_by calling is says = rw is at says

says_as : {visible : Bool} (calling : Calling) (words : List (List ℕ)) {settings : Settings} {new : List Slot}
    {status : ℕ}
    → settings_of calling words ≡ Ok settings → (refuses : RefusesFor calling visible words Memory new status)
    → SaysAll visible (speaker_of calling settings) (message_of Memory [] ∷ []) standard_error refuses.error
says_as calling words is refuses =
    (refuses.error, worded_by calling (by_words calling words is).0 refuses.says, refl)

module _ (visible : Visible) (run : Run) (fresh : IsUnread run) where
  -- the words ask for something whose operands can't be read
  operands_refused : (settings : Settings) (fault : Fault) → HasBadOperands settings fault → Refuses visible run fault
      → RunEndsAt visible run (Ok settings)
  operands_refused settings fault bad refuses = let (found, finds, untouched) = none_touched fresh in
      (found, finds, inr (fresh, (fault, bad, refuses)))

  unread_for : (meant : Result Settings Fault) → settings_of run.calling run.words ≡ meant → Refuses visible run Memory
      → RunEndsAt visible run meant
  unread_for (Err fault) is refuses = (fresh, refused_memory run.words fault refuses)
  unread_for (Ok (Csplit asked)) is refuses = operands_refused (Csplit asked) Memory (lacks_memory asked) refuses
  unread_for (Ok (Tee asked)) is refuses =
      let (content, there, (unread, came)) = unread_source visible.inputs run.world fresh in (
        standard_input content ∷ [],
        finds_standard there,
        inl (record {
          content = content;
          input = refl;
          ends = copies.no_room refuses.error
              (says_as run.calling run.words is refuses) unread refuses.slots refuses.failed;
          came = came;
          whole =
              λ t well visible_of. absurd (omega (arith, well, refuses.failed));
        }),
      )
  unread_for (Ok (About which topic)) is refuses = (
    [],
    record { are = refl; there = λ t. refl },
    inl
        (no_text refuses.error (worded_by run.calling (by_words run.calling run.words is).0 refuses.says) refuses.slots
        refuses.failed),
  )
  unread_for (Ok settings) is refuses =
      let (found, finds, untouched) = none_touched fresh in (
        found,
        finds,
        inl (
          _,
          refl,
          no_room refuses.error (says_as run.calling run.words is refuses) refuses.slots untouched (ap length fresh) refuses.failed,
        ),
      )

  pub refused_or_memory : {fault : Fault} → IsRefused HasBadOperands (settings_of run.calling run.words) fault
      → Refuses visible run fault → RunEnds visible run
  refused_or_memory (inr (inl is)) refuses = rw is (fresh, refuses)
  refused_or_memory {fault} (inr (inr (settings, is, bad))) refuses = rw is (operands_refused settings fault bad refuses)
  refused_or_memory (inl is) refuses = unread_for (settings_of run.calling run.words) refl (rw is at refuses)

-- a run did what its words ask for
pub ends_as_asked : (visible : Visible) (run : Run) (settings : Settings)
    → settings_of run.calling run.words ≡ Ok settings
    → RunsAsked visible run settings → RunEnds visible run
ends_as_asked visible run settings read (found, finds, does) = rw read (found, finds, inl does)

-- How a run that follows ends, by its words.

-- how names are followed changes nothing about how soon looks begin
pub shows_by-waiting : (calling : Calling) (how : Method) (milliseconds : ℕ) (shows : ℕ → Snapshot)
    → shows_by calling how (λ n. waiting milliseconds (shows n))
    ≡ (λ n. waiting milliseconds (shows_by calling how shows n))
shows_by-waiting OwnName Descriptor milliseconds shows = refl
shows_by-waiting OwnName Name milliseconds shows = refl
shows_by-waiting OwnName PresentName milliseconds shows = refl
shows_by-waiting OwnName FirstFile milliseconds shows = refl
shows_by-waiting Cutters Descriptor milliseconds shows = refl
shows_by-waiting Cutters Name milliseconds shows = refl
shows_by-waiting Cutters PresentName milliseconds shows = refl
shows_by-waiting Cutters FirstFile milliseconds shows = refl

module _ (visible : Visible) (run : Run) (looks : ℕ) (unseen : IsUnseen run) where
  -- Words that weren't read, since there was no memory.

  unread_tail : (asked : TailSettings) (followed : Option Followed) → speaker run.words ≡ tool.Tail
      → Refuses visible run Memory → FollowsTail visible run looks asked followed
  unread_tail asked None speaks refuses = (unseen, refused_memory run.words (Usage BadFollow 0) refuses)
  unread_tail asked (Some followed) speaks refuses =
      let (most, are, above) = most_made visible.watch asked.process
      (λ n. waiting (max (pause_by run.calling asked.pause) 1) (shows_by run.calling (method_of followed) run.shows n)) looks 0 (omega arith) (λ t. omega arith) in
      let (why, says) = worded_by run.calling speaks refuses.says in (
        most,
        are,
        no_room_yet why unseen.0 unseen.1
            (λ output error since are. let is_error : standard_error ≡ error = ap (λ (slots : List Slot). slot_at slots 1) are in (
              refuses.error,
              subst (λ first. SaysFor visible.outputs (by run.calling tool.Tail) why (message_of Memory []) first refuses.error) is_error says,
              refuses.slots ∙ ap (changed_at 1 (λ _. refuses.error)) are,
            )) refuses.failed,
      )

  unread_files : (meant : Result Settings Fault) → settings_of run.calling run.words ≡ meant
      → Refuses visible run Memory
      → FollowingEndsAt visible run looks meant
  unread_files (Ok (Tail asked)) is refuses =
      unread_tail asked (followed_by run.calling run.fed asked) (by_words run.calling run.words is).0 refuses
  unread_files (Ok (Csplit asked)) is refuses = (unseen, inr (Memory, lacks_memory asked, refuses))
  unread_files (Ok asked) is refuses = (unseen, inl (tt, refused_memory run.words (Usage BadFollow 0) refuses))
  unread_files (Err fault) is refuses = (unseen, refused_memory run.words fault refuses)

  operands_unread : (settings : Settings) (fault : Fault) → HasBadOperands settings fault → Refuses visible run fault
      → FollowingEndsAt visible run looks (Ok settings)
  operands_unread (Csplit asked) fault bad refuses = (unseen, inr (fault, bad, refuses))
  operands_unread asked fault bad refuses = absurd bad

  pub refused_words : {fault : Fault} → IsRefused HasBadOperands (settings_of run.calling run.words) fault
      → Refuses visible run fault → FollowingEnds visible run looks
  refused_words (inr (inl is)) refuses = rw is (unseen, refuses)
  refused_words {fault} (inr (inr (settings, is, bad))) refuses = rw is (operands_unread settings fault bad refuses)
  refused_words (inl is) refuses = unread_files (settings_of run.calling run.words) refl (rw is at refuses)

-- Which of the two kinds of runs the words ask for.

-- Whether standard input can be watched matters only if that is asked.

asked_alike : (asked : TailSettings) (fed : Bool) (followed : Option Followed) (hyphen : Bool)
    → asked.followed ≡ followed → has_dash asked.ends.names ≡ hyphen
    → followed_by OwnName (asks_input OwnName (Tail asked) && fed) asked ≡ followed_by OwnName fed asked
asked_alike asked false followed hyphen is there = rw (and-false (asks_input OwnName (Tail asked))) refl
asked_alike asked true None true is there = rw (is, there) refl
asked_alike asked true None false is there = rw (is, there) refl
asked_alike asked true (Some how) true is there = rw (is, there) refl
asked_alike asked true (Some how) false is there = rw (is, there, there) refl

followed_alike : (calling : Calling) (fed : Bool) (asked : TailSettings)
    → followed_by calling (asks_input calling (Tail asked) && fed) asked ≡ followed_by calling fed asked
followed_alike Cutters fed asked = refl
followed_alike OwnName fed asked = asked_alike asked fed asked.followed (has_dash asked.ends.names) refl refl

follows_alike : (calling : Calling) (fed : Bool) (settings : Settings)
    → follows calling (asks_input calling settings && fed) settings ≡ follows calling fed settings
follows_alike calling fed (Tail asked) = rw (followed_alike calling fed asked) refl
follows_alike calling fed settings = refl

-- in how many looks these settings ask to follow files
pub looks_as : (calling : Calling) (fed : Bool) {is_fed test : Bool} (words : List (List ℕ)) (settings : Settings)
    → settings_of calling words ≡ Ok settings → is_fed ≡ (asks_input calling settings && fed)
    → follows calling is_fed settings ≡ test
    → looks_at calling fed (settings_of calling words) ≡ (if test then Some (looks settings) else None)
looks_as calling fed words settings read is so = rw (read, ← follows_alike calling fed settings, ← is, so) refl

module _ (visible : Visible) (run : Run) where
  abbrev pub FollowsSo : Bool → ℕ → Settings → Type 0
  FollowsSo is_fed looks settings = FollowingEndsAt visible (record run { fed = is_fed }) looks (Ok settings)

  tail_alike : (is_fed : Bool) (looks : ℕ) (asked : TailSettings) (followed : Option Followed)
      → FollowsTail visible (record run { fed = is_fed }) looks asked followed
      → FollowsTail visible run looks asked followed
  tail_alike is_fed looks asked None ends = ends
  tail_alike is_fed looks asked (Some how) ends = ends

  ends_alike : (settings : Settings) (looks : ℕ) → FollowsSo (asks_input run.calling settings && run.fed) looks settings
      → FollowsSo run.fed looks settings
  ends_alike (Tail asked) looks ends = tail_alike (asks_input run.calling (Tail asked) && run.fed) looks asked (followed_by run.calling run.fed asked)
      (rw (followed_alike run.calling run.fed asked) at ends)
  ends_alike settings looks ends = ends

  -- what a run leaves whose words ask to follow files
  pub program_follows : {is_fed : Bool} {count : ℕ} (settings : Settings)
      → settings_of run.calling run.words ≡ Ok settings → is_fed ≡ (asks_input run.calling settings && run.fed)
      → follows run.calling is_fed settings ≡ true → count ≡ looks settings → IsUnread run
      → FollowsSo is_fed count settings → ProgramEnds visible run
  program_follows {count = count} settings read is can often fresh ends =
      let so = subst (λ those. FollowsSo those count settings) is ends in
      let as_often = subst (λ n. FollowsSo (asks_input run.calling settings && run.fed) n settings) often so in
      rw (looks_as run.calling run.fed run.words settings read is can, read)
      (fresh, ends_alike settings (looks settings) as_often)

  -- what a run leaves whose words ask to follow nothing
  pub program_runs : {is_fed : Bool} (settings : Settings) → settings_of run.calling run.words ≡ Ok settings
      → is_fed ≡ (asks_input run.calling settings && run.fed) → follows run.calling is_fed settings ≡ false
      → IsUnseen run → RunsAsked visible run settings → ProgramEnds visible run
  program_runs settings read is cannot unseen ran =
      rw (looks_as run.calling run.fed run.words settings read is cannot)
      (unseen.0, unseen.1, ends_as_asked visible run settings read ran)

  -- how a run ends if its words are refused, whichever kind of run they ask for
  pub program_refuses : {fault : Fault} → IsUnread run → IsUnseen run
      → IsRefused HasBadOperands (settings_of run.calling run.words) fault → Refuses visible run fault
      → ProgramEnds visible run
  program_refuses fresh unseen refused refuses = by (looks_at run.calling run.fed (settings_of run.calling run.words)) where
    by : (asked : Option ℕ) → ProgramEndsAt visible run asked
    by (Some looks) = (fresh, refused_words visible run looks unseen refused refuses)
    by None = (unseen.0, unseen.1, refused_or_memory visible run fresh refused refuses)

-- How a run ends that is asked for a text about a tool.

-- standard output broke after a beginning of the text
pub text_broke : {visible : Bool} {speaker : Speaker} {status : ℕ} (text : List ℕ) (n : ℕ) {old mid new : List Slot}
    {fault : Fault} → old ≡ streams → BrokeAfter visible old mid 0 text n → fault ≡ Write 0
    → TellsOn visible speaker fault mid new → status ≡ status_after fault speaker.calling (output_reason mid fault)
    → TellsText visible speaker text new status
text_broke {visible} text n {mid = mid} fresh broke is tells ends =
    let (why, slots) = broke.slots in
    let output = breaks why (adds (visible_of visible (take n text)) standard_output) in
    let there : mid ≡ output ∷ standard_error ∷ [] = rw fresh at slots in
    let (after, says, are) = tells output standard_error [] there in
    let name : output_named mid (Write 0) ≡ codes "standard output" = rw there in
    let reason : output_reason mid (Write 0) ≡ why = rw there in
    text_cut n broke.within why after (rw (reason, name) at (rw is at says)) are (rw reason at (rw is at ends))
