-- Lemmas: a run that a fault stopped reported the fault; and which outputs are broken then.
use Rattle.std.{
  proofs.lemmas.{Grind.common_steps, Bool.{cases_Bool, false≢true}, List.{Elements.{All-append, All-nil}}},
  proofs.Common.{All, None, ◌≡◌, ℕ, ◌^◌, ◌≤◌, suc, Bool, true, false, cond, is_none, subst, List, [], not, ◌||◌, ◌∷◌},
  proofs.Common.{◌++◌, length, length-append, Option, Some, codes, inl, inr, ◌⊎◌, refl, sym, ◌∙◌, ap, arith, zero},
  proofs.Common.rules,
  proofs.Math.Seq.get_or-append_seam,
  specs.List.concat,
}
use Rattle.ports_core.specs.{
  Message.{Says, SaysAll, output_named, output_reason},
  declared.calling.Calling.{Calling, TheVariants.{Cutters, OwnName}},
  declared.fault.Fault.{Fault, TheVariants.{Memory, Write, Open, Read, TooLong, Usage}},
  declared.on_broken.OnBroken.{OnBroken, TheVariants.{Warn, Exit}},
  declared.reason.Reason.Reason,
  declared.tool.Tool.Tool,
  Slot.{Slot, breaks, slot_at},
  Source.{Content, Source},
  Streams.{standard_error, streams_with},
  Text.{Message, is_quiet, message_of},
}
use Rattle.engine_core.specs.{Written.{Output, IsNext, Written, StoppedBetween}, Swept.Swept, Work.{Needs, Work}}
use Rattle.ports_core.proofs.MessageLemmas.{messages_in, says_more}
use Rattle.run_core.specs.{
  Feeding.{IsCall, Step, Stops, closes as ends_call, enough, feeds, opens, to_end},
  Input.{Input, inputs_at, standard_input},
  RunEnds.{AllDone, EndsAs, RunStep, as_defined, calling as call_step, no_room, stopped},
  Task.{Task, made_by, status_of},
}
use Rattle.run_core.proofs.{InputLemmas.{said_of, told_stop}, StopLemmas.Reported}
use Rattle.tee_core.{
  specs.{
    Run.{AreSound, IsRead, said_of_input, standings_of},
    declared.standing.Standing.{TheVariants.{Broken, Gone}},
    inner.Steps.HasStreams,
  },
  proofs.{
    CopyLemmas.{stands_of, stands_streams},
    EndLemmas.{end_streams, none_broke, old_sound, sound_goes_on, sound_status, well_of},
  },
}
use Rattle.words_core.specs.{
  Words.HasBadOperands,
  TeeWords.TeeAsked,
  declared.settings.{Settings.{Settings, TheVariants.{Csplit, Tee, About}}, Topic.Topic},
  Help.text_about,
  Refusal.word_at,
}
use Rattle.tools_core.specs.{
  About.{TellsText, no_text, text_cut, text_whole},
  Outcome.{refusal, refuser, speaker, tee_run},
  Tasks.{by, names_of, speaker_of, tool_of},
}
use Rattle.promises_core.specs.{
  Promises.{BrokeAt, Completes, Does, HasGone, HasLong, IsCalled, IsCopied, IsGone, IsSilent, LostReader, IsStopped},
  Promises.{DoesAll, Ran, SaysLines, SaysWhy, StopsRun, Tells, TellsMet, WhyBroken, broken_off, message_by, failing},
  Promises.{named, removes_files},
}
use Rattle.promises_core.proofs.{
  BeginLemmas.{IsMarked, marked_at},
  TeePromises.{IsLoud, TellsAll, any_gone, broken_why, failing_stops, sound_or, tee_broke, tee_told, told_all},
  LeftLemmas.{tells_one, HasLine, all_tell, completes_left, left_at, left_says, one_line, ran_over, slots_at},
  LeftLemmas.{swept_gone, swept_kept, speaker_is, AreLive, IsSoundAt, inputs_fit, live_begin, outputs_live, Did},
  LeftLemmas.{says_line, step_live, task_lives},
}
use Rattle.tools_core.proofs.RunLemmas.{by_words, worded_by}
use Rattle.ports_core.specs.declared.reason.Reason.TheVariants as reason
use Rattle.ports_core.specs.declared.slot.State.TheVariants as state
use Rattle.tee_core.specs.Run as tee
use Rattle.tools_core.specs.{Outcome.IsTask, Run.Run}

-- If a step read 2^63 bytes or more, its input is that long.

call_long : {work : Work} {opening : Needs} {most : ℕ} {content : Content} {call : Step}
    → IsCall work opening most content call → 2 ^ 63 ≤ length call.read → 2 ^ 63 ≤ length content.bytes
call_long opens long = search rules
call_long (feeds x piece rest is short more) long = grind (arith, common_steps)
call_long (ends_call x (to_end ended is) needed) long = rw is long
call_long (ends_call x (enough rest is complete) needed) long = grind (arith, common_steps)

abbrev IsLong : Option Content → Type 0
IsLong there = (content : Content) × (there ≡ Some content) × (2 ^ 63 ≤ length content.bytes)

step_long : {task : Task} {most : ℕ} {so_far : Written} {is_first : Bool} {input : Input} {sources : List Source}
    {step : Step} → RunStep true task most so_far is_first input sources step → 2 ^ 63 ≤ length step.read
    → IsLong input.content
step_long (call_step content call there is leaves) long = (content, there, call_long is long)
step_long at long = search rules

-- In a run over inputs, the output that the fault marked is the output that its line names.

record IsBlamed (fault : Fault) (place : ℕ) (old new : Slot) : Type 0 where
  pub is : failing place new.state ≡ fault
  pub named : (slots : List Slot) → (slot_at slots place).name ≡ output_named slots fault
  pub why : (slots : List Slot) → (slot_at slots place).reason ≡ output_reason slots fault

blamed : (fault : Fault) (place : ℕ) (before : List Slot) {new : Slot} → IsSoundAt before place
    → IsMarked fault place before new → IsBlamed fault place (slot_at before place) new
blamed (Write slot) place before sound (here, there, (why, is)) = grind (arith, common_steps)
blamed (Open slot) place before sound (here, (kept, why, is)) = grind (arith, common_steps)
blamed fault place before sound marked = absurd marked

-- the fault that stopped a step stops the run
stops_run : (run : Run) (asked : Settings) (fault : Fault) (step : Step) (mid : List Slot) {output : Output}
    {error : Slot} {low high : Written} {reached : List Slot}
    → (between : StoppedBetween output true (streams_with error) low high fault reached)
    → (2 ^ 63 ≤ length step.read → HasLong run asked) → Stops step reached fault
    → ((slot : ℕ) → (slot ≡ 1 → ⊥) → (slot_at reached slot).is_broken ≡ true
    → BrokeAt run slot (slot_at mid slot).name fault)
    → StopsRun run asked (output_named mid fault) fault
stops_run run asked (Write slot) step mid between long stops broke = grind (arith, common_steps)
stops_run run asked (Open slot) step mid between long stops broke = grind (arith, common_steps)
stops_run run asked Memory step mid between long stops broke = tt
stops_run run asked TooLong step mid between long stops broke = long stops
stops_run run asked fault step mid between long stops broke = absurd stops

-- the fault that stopped a step isn't about words
plain_message : (run : Run) (fault : Fault) (step : Step) (name : List ℕ) (reached : List Slot)
    → Stops step reached fault → message_of fault name ≡ message_by run fault name
plain_message run (Usage kind place) step name reached stops = absurd stops
plain_message run fault step name reached stops = refl

-- Why an output is broken: its fault was reported with its name, or the output was to be removed.

abbrev IsToldIn : Run → Settings → List Slot → ℕ → Type 0
IsToldIn run asked slots place = (name : List ℕ) × IsCalled (slot_at slots place) name
    × Tells run asked (failing place (slot_at slots place).state) name

abbrev IsToldOf : Run → Settings → ℕ → Type 0
IsToldOf run asked place = IsToldIn run asked run.outputs place

abbrev IsStuck : Bool → List Slot → ℕ → Type 0
IsStuck clears new place = (clears ≡ true) × ((slot_at new place).state ≡ state.Closed) × ((other : ℕ) → 2 ≤ other → IsGone (slot_at new other))

-- the fault that stopped a run, and which outputs are broken
record IsStop (clears : Bool) (run : Run) (asked : Settings) : Type 0 where
  pub failed : run.status ≡ 1
  pub why : Fault
  pub name : List ℕ
  pub stops : StopsRun run asked name why
  pub line : Tells run asked why name
  pub broke : (place : ℕ) → (place ≡ 1 → ⊥) → (slot_at run.outputs place).is_broken ≡ true
      → IsToldOf run asked place ⊎ IsStuck clears run.outputs place

-- The run stopped before anything was written.

streams_sound : (place : ℕ) (error : Slot) → (place ≡ 1 → ⊥) → (slot_at (streams_with error) place).is_broken ≡ false
streams_sound (suc zero) error differs = absurd (differs refl)
streams_sound place error differs = refl

stop_early : {clears : Bool} {run : Run} {asked : Settings} (fault : Fault) (name : List ℕ) {error : Slot}
    → StopsRun run asked name fault
    → SaysAll true (speaker_of run.calling asked) (message_by run fault name ∷ []) standard_error error
    → run.outputs ≡ streams_with error → run.status ≡ 1
    → IsStop clears run asked
stop_early {run = run} {asked = asked} fault name {error} stops says slots is = record {
  failed = is;
  why = fault;
  name = name;
  stops = stops;
  line = ([], [], grind (arith, common_steps));
  broke = grind (arith, common_steps, streams_sound);
}

-- what a run leaves if a fault stopped it
module _ (run : Run) (asked : Settings) (clears : Bool) {output : Output} {error : Slot} {low high : Written}
    {fault : Fault} {reached : List Slot} (live : AreLive high.files)
    (between : StoppedBetween output true (streams_with error) low high fault reached) {mid : List Slot}
    (swept : Swept clears 2 reached mid) {Change : Slot → Slot → Type 0} (told : Reported Change mid run.outputs) where
  -- standard error stays the slot after the first
  stopped_error : slot_at mid 1 ≡ error
  stopped_error = grind (arith, common_steps)

  -- the outputs before the fault are sound, so an output that is broken after it was marked by it
  blamed_at : (place : ℕ) → (place ≡ 1 → ⊥) → (slot_at reached place).is_broken ≡ true
      → IsBlamed fault place (slot_at between.reached place) (slot_at reached place)
  blamed_at place differs broken =
      let sound : IsSoundAt between.reached place = rw (slots_at between.outputs)
      (outputs_live between.part error place (live_begin between.part.files high.files between.below.files live) differs) in
      blamed fault place between.reached sound (elim (marked_at (IsNext between.part high) fault between.reached reached place between.marks) [
        | inl same ↦ grind (arith, common_steps)
        | inr marked ↦ marked
      ])

  marked_broke : (place : ℕ) → (place ≡ 1 → ⊥) → (slot_at reached place).is_broken ≡ true
      → BrokeAt run place (slot_at mid place).name fault
  marked_broke place differs broken =
      let kept = swept_kept clears reached mid swept place in
      rw (told.others place differs) (differs, inl refl, kept.still broken, grind (arith, common_steps, blamed_at))

  -- an output that broke as it was to be removed
  stuck_after : (place : ℕ) → (place ≡ 1 → ⊥) → (slot_at reached place).is_broken ≡ false
      → (slot_at run.outputs place).is_broken ≡ true → IsStuck clears run.outputs place
  stuck_after place differs was broken =
      let (is, closed) = (swept_kept clears reached mid swept place).broke was (rw (told.others place differs) at broken) in (
        is,
        rw (told.others place differs) closed,
        λ other past. rw (told.others other (λ one. omega (arith, past, one))) (swept_gone clears reached mid is swept other past),
      )

-- a fault goes unreported only if the tool was called by its own name
quiet_own : (fault : Fault) (calling : Calling) (why : Reason) → is_quiet fault calling why ≡ true → calling ≡ OwnName
quiet_own fault OwnName why is = refl
quiet_own (Write slot) Cutters why is = absurd (cc)
quiet_own fault Cutters why is = absurd (cc)

-- A reader that is gone.

gone_reason : (fault : Fault) (calling : Calling) (why : Reason) → is_quiet fault calling why ≡ true
    → why ≡ reason.Gone
gone_reason (Write slot) OwnName reason.Gone is = refl
gone_reason (Write slot) OwnName why is = absurd (cc)
gone_reason (Write slot) Cutters why is = absurd (cc)
gone_reason fault OwnName why is = absurd (cc)
gone_reason fault Cutters why is = absurd (cc)

quiet_gone : (run : Run) (asked : Settings) (name : List ℕ) (fault : Fault) (calling : Calling) (mid : List Slot)
    → ((place : ℕ) → (place ≡ 1 → ⊥) → slot_at run.outputs place ≡ slot_at mid place)
    → is_quiet fault calling (output_reason mid fault) ≡ true → StopsRun run asked name fault → HasGone run
quiet_gone run asked name (Write slot) calling mid others is (differs, called, broken, fails) =
    (slot, differs, broken, rw (others slot differs) (gone_reason (Write slot) calling _ is))
quiet_gone run asked name fault calling mid others is stops = absurd (cc)

-- a run ended since a reader is gone, and didn't report that
silent_by : (run : Run) (task : Task) (asked : Settings) → IsTask run.calling asked task
    → task.speaker.calling ≡ OwnName → HasGone run → run.status ≡ 141 → IsSilent run asked
silent_by run task (Tee asked) of own gone is = absurd of
silent_by run task (About which topic) of own gone is = absurd of
silent_by run task asked of own gone is = (grind (arith, common_steps), gone, is)

-- a reader that is gone isn't reported; and which outputs are broken then
record IsQuietly (run : Run) (asked : Settings) : Type 0 where
  pub silent : IsSilent run asked
  pub broke : (place : ℕ) → (place ≡ 1 → ⊥) → (slot_at run.outputs place).is_broken ≡ true
      → LostReader run place ⊎ (IsToldOf run asked place ⊎ IsStuck (removes_files asked) run.outputs place)

-- no fault stopped the run, or a fault did, or a reader is gone and that isn't reported
abbrev Unless : Run → Settings → Type 0 → Type 0
Unless run asked Whole = Whole ⊎ IsStop (removes_files asked) run asked ⊎ IsQuietly run asked

ends_or : {run : Run} {asked : Settings} {task : Task} → IsTask run.calling asked task
    → EndsAs true true task (inputs_at run.world (names_of asked)) run.inputs run.outputs run.status
    → Unless run asked (AllDone true true task (inputs_at run.world (names_of asked)) run.inputs run.outputs
    × (run.status ≡ status_of (made_by task (inputs_at run.world (names_of asked)))))
ends_or of (as_defined all is) = inl (all, is)
ends_or {run} {asked} {task} of (stopped fault mid at tells is) =
    let living = task_lives run.calling asked task of in
    let clears = removes_files asked in
    let between = at.stop.between in
    let reached = at.stop.reached in
    let swept = rw (living at.input.shown).1 at at.stop.swept in
    let lines = (made_by task at.before).messages in
    let name = output_named mid fault in
    let reason = output_reason mid fault in
    let report = told_stop at tells in
    let fits = inputs_fit task true at.before (all_tell run asked task [] at.before (at.input ∷ at.after) of at.are) living in
    let live = step_live (living at.input.shown).0 fits.live at.stop.is in
    let stop = stops_run run asked fault at.stop.step mid between
    (λ many. let (content, there, long) = step_long at.stop.is many in (at.input, content, (at.before, at.after, at.are), there, long)) at.stop.stops
    (marked_broke run asked clears live between swept report) in
    elim (cases_Bool (is_quiet fault task.speaker.calling reason)) [
      | inl quiet ↦ inr (inr (record {
        silent = silent_by run task asked of (quiet_own fault _ reason quiet) (quiet_gone run asked name fault _ mid report.others quiet stop)
            (rw quiet at is);
        broke = λ place differs broken. elim (cases_Bool (slot_at reached place).is_broken) [
          | inr was ↦ inr (inr (stuck_after run asked clears live between swept report place differs was broken))
          | inl was ↦
              let blame = blamed_at run asked clears live between swept report place differs was in
              inl (rw (report.others place differs) (blame.why mid ∙ gone_reason fault _ reason quiet))
        ];
      }))
      | inr loud ↦
          let all = says_more true task.speaker lines (message_of fault name) standard_error at.error _
          (said_of true task true run.inputs at.before standard_error at.error at.says)
          (reason, rw (loud, stopped_error run asked clears live between swept report) at report.says) in
          let Said : List Message → Type 0 = λ those.
          SaysAll true (speaker_of run.calling asked) those standard_error (slot_at run.outputs 1) in
          let said : Said (lines ++ message_of fault name ∷ []) = rw (speaker_is run.calling asked task of) at all in
          let told : SaysLines run asked (lines ++ message_by run fault name ∷ []) = record {
            are = All-append (TellsMet run asked) lines _ fits.are
                (one_line (TellsMet run asked) (message_by run fault name) (fault, name, inl stop, refl));
            said = subst (λ line. Said (lines ++ line ∷ [])) (plain_message run fault at.stop.step name reached at.stop.stops) said;
          } in
          inr (inl (record {
            failed = rw loud at is;
            why = fault;
            name = name;
            stops = stop;
            line = (lines, [], told);
            broke = λ place differs broken. elim (cases_Bool (slot_at reached place).is_broken) [
              | inr was ↦ inr (stuck_after run asked clears live between swept report place differs was broken)
              | inl was ↦
                  let why = blamed_at run asked clears live between swept report place differs was in
                  let kept = swept_kept clears reached mid swept place in
                  let others = report.others place differs in
                  inl (_, inl refl, grind (arith, common_steps))
            ];
          }))
    ]
ends_or {run} {asked} {task} of (no_room error says slots untouched count is) =
    inr (inl (stop_early Memory [] tt (rw (speaker_is run.calling asked task of) at says) slots is))

-- `tee`.

read_or : {content : Content} (Leaves : List ℕ → Type 0) {is_vain : Bool} {x : List ℕ} {fault : Option Fault}
    → is_vain ≡ false → IsRead content Leaves is_vain x fault
    → (x ≡ content.bytes) ⊎ ((fault ≡ Some TooLong) × (2 ^ 63 ≤ length content.bytes))
read_or Leaves left (tee.to_end x is ended leaves) = inl (sym is)
read_or Leaves left (tee.to_break x is breaks leaves) = inl (sym is)
read_or Leaves left (tee.to_limit x piece rest is many within leaves) = grind (arith, common_steps)
read_or Leaves left (tee.to_broken_output x rest is leaves) = absurd (cc)

-- what is reported about the input was met
input_tells : (run : Run) (asked : TeeAsked) {content : Content} (source : Source) (Leaves : List ℕ → Type 0)
    {is_vain : Bool} {x : List ℕ} {fault : Option Fault}
    → inputs_at run.world (names_of (Tee asked)) ≡ standard_input content ∷ []
    → IsRead content Leaves is_vain x fault
    → All (TellsMet run (Tee asked)) (messages_in (said_of_input source fault))
input_tells run asked {content} source Leaves only (tee.to_break x is broke leaves) =
    one_line (TellsMet run (Tee asked)) _
    (Read 0, codes "standard input", inr (broken_off (standard_input content) content ([], [], only) refl broke (λ task of. absurd of)), refl)
input_tells run asked {content} source Leaves only (tee.to_limit x piece rest is many within leaves) =
    one_line (TellsMet run (Tee asked)) _ (
      TooLong,
      codes "standard input",
      inl
          (standard_input content, content, ([], [], only), refl, omega (arith, ap length is, length-append (x ++ piece) rest)),
      refl,
    )
input_tells run asked source Leaves only reads = All-nil (TellsMet run (Tee asked))

-- if nothing is kept back and an output broke, the status is 1
loud_status : (on_broken : OnBroken) {slots : List Slot} {count : ℕ} (fault : Option Fault) → HasStreams slots count
    → IsLoud on_broken slots → (AreSound slots → ⊥) → tee.status_for on_broken (standings_of slots) fault ≡ 1
loud_status on_broken {slots} fault has loud unsound = by (tee.any_is Gone (standings_of slots))
    (tee.any_is Broken (standings_of slots)) (is_none fault) refl refl where
      gone_one : (on_broken : OnBroken) (failed : Bool) → tee.is_quiet on_broken ≡ false
          → tee.gone_status on_broken failed ≡ 1
      gone_one Warn failed loud = refl
      gone_one Exit failed loud = refl
      gone_one on_broken failed loud = absurd (cc)

      by : (gone broken ended : Bool) → tee.any_is Gone (standings_of slots) ≡ gone
          → tee.any_is Broken (standings_of slots) ≡ broken
          → cond gone (tee.gone_status on_broken (not ended || broken)) (cond (not ended || broken) 1 0) ≡ 1
      by true broken ended is_gone is_broken =
          elim loud [ inl loudly ↦ gone_one on_broken (not ended || broken) loudly | inr none ↦ absurd (cc) ]
      by false false true is_gone is_broken = absurd (unsound (none_broke has is_broken is_gone))
      by false true true is_gone is_broken = refl
      by false broken false is_gone is_broken = refl

tee_or : {run : Run} (asked : TeeAsked) {content : Content} {source : Source}
    → inputs_at run.world (names_of (Tee asked)) ≡ standard_input content ∷ []
    → (ends : tee.EndsAs (tee_run run.calling true asked) true content source run.outputs run.status)
    → Unless run (Tee asked) (IsCopied ends)
tee_or {run} asked {content} {source} only (tee.copied pieces fault old mid came so_far says closes is) =
    elim (cases_Bool (tee.is_quiet asked.on_broken)) [
      | inl quiet ↦ elim (cases_Bool (tee.any_is Gone (standings_of run.outputs))) [
        | inl gone ↦ inr (inr (record {
          silent = (quiet, any_gone told gone);
          broke = λ place differs broken. elim (tee_broke told place differs broken) [
            | inl unread ↦ inl unread
            | inr line ↦ inr (inl line)
          ];
        }))
        | inr none ↦ loudly (inr none)
      ]
      | inr loud ↦ loudly (inl loud)
    ] where
      told : TellsAll run asked fault
      told = told_all run asked so_far says closes source refl (input_tells run asked source _ only came.read)

      stop : IsLoud asked.on_broken run.outputs → run.status ≡ 1 → (why : Fault) (name : List ℕ)
          → StopsRun run (Tee asked) name why → Tells run (Tee asked) why name → IsStop false run (Tee asked)
      stop loud failed why name stops line = record {
        failed = failed;
        why = why;
        name = name;
        stops = stops;
        line = line;
        broke = λ place differs broken. inl (tee_told told loud place differs broken);
      }

      loudly : IsLoud asked.on_broken run.outputs
          → Unless run (Tee asked) (AreSound run.outputs × (concat pieces ≡ content.bytes))
      loudly loud = elim (sound_or told) [
        | inr (place, differs, broken) ↦
            let (name, called, line) = tee_told told loud place differs broken in
            let which = (slot_at run.outputs place).state in
            let unsound = λ (sound : AreSound run.outputs). false≢true (sym (sound place differs) ∙ broken) in
            inr (inl (stop loud (is ∙ loud_status asked.on_broken fault told.streams loud unsound) (failing place which) name
            (failing_stops run (Tee asked) which (differs, called, broken, refl)) line))
        | inl sound ↦ elim (read_or _ (sound_goes_on asked.on_broken (stands_streams (stands_of so_far))
            (old_sound so_far says closes sound)) came.read) [
              | inl all ↦ inl (sound, all)
              | inr (met, many) ↦ inr (inl
                  (stop loud (is ∙ sound_status asked.on_broken fault told.streams sound ∙ rw met) TooLong (codes "standard input")
                  (standard_input content, content, ([], [], only), refl, many) (says_line (told.input TooLong met) told.says)))
            ]
      ]
tee_or asked only (tee.no_room error says unread slots is) = inr (inl (stop_early Memory [] tt says slots is))

-- A text about a tool.

about_or : {run : Run} {which : Tool} {topic : Topic}
    → TellsText true (by run.calling which) (text_about which topic) run.outputs run.status
    → Unless run (About which topic) (run.status ≡ 0)
about_or (text_whole slots is) = inl is
about_or {run} {which} {topic} (text_cut n short why error tells slots is) = elim (cases_Bool (is_quiet (Write 0) run.calling why)) [
  | inl quiet ↦ grind (arith, common_steps, quiet_own, gone_reason)
  | inr loud ↦
      let line = tells_one run (About which topic) (Write 0) (codes "standard output") (inl stops)
      (rw slots (error, (why, rw loud at tells), refl)) in
      inr (inl (record { failed = rw loud at is; why = Write 0; name = codes "standard output"; stops = stops; line = line; broke = only line }))
] where
  stops : BrokeAt run 0 (codes "standard output") (Write 0)
  stops = rw slots (λ is. absurd (cc), inl refl, refl, refl)

  only : Tells run (About which topic) (Write 0) (codes "standard output") → (place : ℕ) → (place ≡ 1 → ⊥)
      → (slot_at run.outputs place).is_broken ≡ true
      → IsToldOf run (About which topic) place ⊎ IsStuck false run.outputs place
  only line zero differs broken = inl (codes "standard output", stops.1, rw stops.3 line)
  only line (suc zero) differs broken = absurd (differs refl)
  only line (suc (suc place)) differs broken = absurd (false≢true (rw slots at broken))
about_or (no_text error says slots is) = inr (inl (stop_early Memory [] tt (error, says, refl) slots is))

-- All tools.

-- what was done is more, if no fault stopped the run
unless_so : {run : Run} {asked : Settings} {A B : Type 0} → (A → B) → Unless run asked A → Unless run asked B
unless_so more (inl all) = inl (more all)
unless_so more (inr stop) = inr stop

does_or : {run : Run} (asked : Settings) → Did run asked
    → Unless run asked (DoesAll run (inputs_at run.world (names_of asked)) asked)
does_or (Tee asked) does = unless_so (λ copied. (does, copied)) (tee_or asked does.input does.ends)
does_or (About which topic) does = unless_so (λ well. (does, well)) (about_or does)
does_or asked (task, of, ends) = unless_so (λ all. (task, of, all.0, all.1)) (ends_or {asked = asked} of ends)

-- Operands that are wrong.

-- the word about which a fault of words is
abbrev word_of : List (List ℕ) → Fault → List ℕ
word_of words (Usage kind place) = word_at words place
word_of words fault = []

bad_stops : (run : Run) (asked : Settings) (fault : Fault) → HasBadOperands asked fault
    → StopsRun run asked (word_of run.words fault) fault
bad_stops run (Csplit asked) fault bad = grind (arith, common_steps)
bad_stops run asked fault bad = absurd bad

refused_by : {old new : Slot} (run : Run) (asked : Settings) (fault : Fault) → HasBadOperands asked fault
    → speaker run.words ≡ tool_of asked
    → Says true (refuser run.calling run.words) (refusal run.calling run.words fault) old new
    → Says true (speaker_of run.calling asked) (message_by run fault (word_of run.words fault)) old new
refused_by run asked Memory bad is says = worded_by run.calling is says
refused_by run asked (Usage kind place) bad is says = worded_by run.calling is says
refused_by run (Csplit asked) fault bad is says = grind (arith, common_steps)
refused_by run asked fault bad is says = absurd bad

ran_so : {run : Run} {asked : Settings} → Ran run asked → Unless run asked (Completes run asked)
ran_so {run} {asked} ran = elim (ran_over ran) [
  | inl does ↦ elim (does_or asked does) [
    | inl all ↦ inl (record { read = ran.read; does = all })
    | inr stop ↦ inr stop
  ]
  | inr (fault, bad, refuses) ↦ inr (inl (stop_early fault (word_of run.words fault) (bad_stops run asked fault bad)
      (refuses.error, refused_by run asked fault bad (by_words run.calling run.words ran.read).0 refuses.says, refl) refuses.slots refuses.failed))
]

-- A `tee` with status 0 copied all, if its outputs are sound or its mode doesn't forgive.

whole_copied : (run : Run) (asked : TeeAsked) {content : Content} {source : Source}
    (ends : tee.EndsAs (tee_run run.calling true asked) true content source run.outputs run.status)
    → run.status ≡ 0 → (tee.forgives asked.on_broken ≡ true → AreSound run.outputs) → IsCopied ends
whole_copied run asked (tee.copied pieces fault old mid comes so_far says closes is) well sound =
    let good = well_of asked.on_broken fault (end_streams so_far says closes) sound (sym is ∙ well) in (
      good.1,
      elim (read_or _ (sound_goes_on asked.on_broken (stands_streams (stands_of so_far))
          (old_sound so_far says closes good.1)) comes.read) [
            | inl same ↦ same
            | inr (met, many) ↦ grind (arith, common_steps)
          ],
    )
whole_copied run asked (tee.no_room error says unread slots is) well sound = absurd (omega (arith, is, well))

pub silent_completes : {run : Run} (asked : Settings) → Does run asked → IsSilent run asked → Completes run asked
silent_completes {run} (Tee asked) does silent = elim (ran_over does.ran) [
  | inl did ↦ record { read = does.ran.read; does = (did, whole_copied run asked did.ends does.well does.unforgiven) }
  | inr (fault, bad, refuses) ↦ absurd bad
]
silent_completes asked does silent = absurd (omega (arith, does.well, silent.2))

pub completes_or : (run : Run) (asked : Settings) → Ran run asked
    → Completes run asked ⊎ IsStopped run asked ⊎ IsSilent run asked
completes_or run asked ran = grind (arith, common_steps, ran_so)

has_failed : (failed : Bool) {status : ℕ} → status ≡ cond failed 1 0 → status ≡ 1 → failed ≡ true
has_failed true is one = refl
has_failed false is one = cc

-- one of the lines reports a fault that the run met
told_one : {run : Run} {asked : Settings} {line : Message} {lines : List Message} → SaysLines run asked lines
    → HasLine line lines → SaysWhy run asked
told_one {run} {asked} {line} {lines} says (before, after, is) =
    let has : HasLine line lines = (before, after, is) in
    let (fault, name, met, same) =
    rw (is, get_or-append_seam before line after line) at
    (says.are (length before) line (omega (arith, ap length is, length-append before (line ∷ after)))) in
    (fault, name, met, says_line (rw same at has) says)

-- if a `tee` doesn't report readers that are gone and has the status 1, it reports what else failed
tee_why : (run : Run) (asked : TeeAsked) {content : Content} {source : Source}
    → inputs_at run.world (names_of (Tee asked)) ≡ standard_input content ∷ [] → tee.is_quiet asked.on_broken ≡ true
    → tee.EndsAs (tee_run run.calling true asked) true content source run.outputs run.status
    → run.status ≡ 1 → SaysWhy run (Tee asked)
tee_why run asked {source = source} only quiet (tee.copied pieces fault old mid comes so_far says closes is) one = by fault refl where
  told : TellsAll run asked fault
  told = told_all run asked so_far says closes source refl (input_tells run asked source _ only comes.read)

  silent : (on_broken : OnBroken) (gone : Bool) → tee.is_quiet on_broken ≡ true
      → cond gone (tee.gone_status on_broken false) 0 ≡ 1 → ⊥
  silent on_broken false quiet one = omega (arith, one)
  silent Warn true quiet one = false≢true quiet
  silent Exit true quiet one = false≢true quiet
  silent on_broken true quiet one = omega (arith, one)

  by : (met : Option Fault) → fault ≡ met → SaysWhy run (Tee asked)
  by (Some met) at = told_one told.says (told.input met at)
  by None at = elim (cases_Bool (tee.any_is Broken (standings_of run.outputs))) [
    | inl broken ↦ broken_why told broken
    | inr unbroken ↦ absurd (silent asked.on_broken (tee.any_is Gone (standings_of run.outputs)) quiet
        (rw (at, unbroken) at (sym is ∙ one)))
  ]
tee_why run asked only quiet (tee.no_room error says unread slots is) one =
    (Memory, [], inl tt, tells_one run (Tee asked) Memory [] (inl tt) (rw slots says))

silent_says : (run : Run) (asked : Settings) → Ran run asked → IsSilent run asked → run.status ≡ 1 → SaysWhy run asked
silent_says run (Tee asked) ran silent one = elim (ran_over ran) [
  | inl did ↦ tee_why run asked did.input silent.0 did.ends one
  | inr (fault, bad, refuses) ↦ absurd bad
]
silent_says run asked ran silent one = absurd (omega (arith, one, silent.2))

pub says_why : (run : Run) (asked : Settings) → Ran run asked → run.status ≡ 1 → SaysWhy run asked
says_why run asked ran one = elim (ran_so ran) [
  | inl whole ↦
      let all = completes_left whole in
      let (line, (fault, name, met, is), has) = all.fits.tells (has_failed all.made.failed all.left.is one) in
      (fault, name, met, says_line (rw is at has) (left_says all.fits all.left))
  | inr (inl stop) ↦ grind (arith, common_steps)
  | inr (inr quiet) ↦ silent_says run asked ran quiet.silent one
]

why_broken : {run : Run} {asked : Settings} {place : ℕ}
    → IsToldOf run asked place ⊎ IsStuck (removes_files asked) run.outputs place → WhyBroken run asked place
why_broken (inl (name, called, line)) = named name called line
why_broken (inr (removes, closed, gone)) = search rules

-- each broken output has a reason and the status is 1, or the run doesn't report readers that are gone
pub is_broken : (run : Run) (asked : Settings) (place : ℕ) → Ran run asked → (place ≡ 1 → ⊥)
    → (slot_at run.outputs place).is_broken ≡ true → ((run.status ≡ 1) × WhyBroken run asked place)
    ⊎ (IsSilent run asked × (LostReader run place ⊎ WhyBroken run asked place))
is_broken run asked place ran differs broken = elim (ran_so ran) [
  | inl whole ↦
      let all = completes_left whole in
      let sound = (outputs_live all.made.part standard_error place all.fits.live differs).0 in
      let (sweeps, closed) = (left_at all.left place differs).broke sound broken in
      let (clears, failed) = all.fits.sweeps sweeps in
      inl (rw failed at all.left.is, why_broken (inr (clears, closed, swept_gone all.made.sweeps _ _ sweeps all.left.swept)))
  | inr (inl stop) ↦ inl (stop.failed, why_broken (stop.broke place differs broken))
  | inr (inr quiet) ↦ inr (
    quiet.silent,
    elim (quiet.broke place differs broken) [
      | inl unread ↦ inl unread
      | inr why ↦ inr (why_broken why)
    ],
  )
]
