-- Lemmas on what `csplit` leaves of its input.
use Rattle.std.{
  proofs.lemmas.{
    Grind.common_steps,
    Bool.{cond_both, false≢true, lt-ltb},
    List.{append-nil, Elements.{All-append, All-cons, All-map, All-nil}},
  },
  proofs.Common.{suc, ◌≡◌, ℕ, ◌+◌, drop, Bool, true, false, eqb, List, [], ◌∷◌, Option, Some, None, refl, ◌∙◌, ◌-◌},
  proofs.Common.{Result, Ok, Err, ◌≤◌, ◌++◌, length, map, sym, ap, arith, cond},
  specs.List.flat_map,
}
use Rattle.operand_core.specs.{
  declared.{
    operand.{Operand.Operand, Target.{Target, TheVariants.{Number, Search}}, Times.{Times, TheVariants.Count}},
    operand_fault.OperandFaultKind.OperandFaultKind,
  },
  Reading.{Aim, line, match, Spelled, Words, AreRead, Asks, IsTarget, aim_of, failed},
  Reading.{least_after, times_by, with_operand, words_from, words_of},
  Word.{spelling, closed_at, repeated, numbered},
  Style.Style,
}
use Rattle.csplit_core.specs.{
  Operand.{is_kept, Line, has_more},
  Csplit.verdict_of,
  Input.{all_lines, marked, newline},
  Output.{file_in, manner_of, naming_of, shares_in, state_in},
  Plan.{State, line_after, step_of, Step, Ending, below, Plan, Runs, misses, is_above, is_below, cuts},
  Planned.plan,
  Section.{Section, section_of, bytes_of, is_final, is_last_kept, lines_between, lines_in, whole_sections},
  laws.{PlanLaws.plan_runs, SectionLaws.are_within},
}
use Rattle.csplit_core.proofs.WholeLemmas.{ends_after_all, none_lost_at_end, between_rest, rest_is_all}
use Rattle.promises_core.{
  specs.Promises.{SkipNothing, skips, Does, HasInput, AreNumbered, contents_of, files_of, in_turn, last_section},
  specs.Promises.left_out,
  proofs.{SplitPromises.{are_made, order_by}, LeftLemmas.each_section, PromiseLemmas.{did_one, one_made}},
}
use Rattle.tools_core.specs.Tasks.{csplit_task}
use Rattle.seg_core.{specs.Line.{joined, lines_of}, proofs.{FirstLines.joined-append, LinesOf.joined-lines_of}}
use Rattle.ports_core.specs.{
  Slot.Slot,
  declared.{slot.State.TheVariants.Closed, calling.Calling.{Calling, TheVariants.Cutters}},
}
use Rattle.engine_core.specs.{
  declared.file_writer.Opening.TheVariants.{Never, Late, AtOnce},
  Draft.{Share, files_from, made_of},
}
use Rattle.ports_core.proofs.OrderLemmas.{in_order, no_two}
use Rattle.words_core.specs.{CsplitWords.CsplitAsked, declared.settings.Settings.TheVariants.Csplit}
use Rattle.split_core.proofs.CutLaws.{bytes_of_shares}
use Rattle.tools_core.specs.Run.{Run}

-- If no word of `csplit`'s operands skips a section, each operand keeps its section.

-- What operands aim at.

abbrev KeepsAim : Aim → Type 0
KeepsAim (line n) = Unit {0}
KeepsAim (match kept text offset) = kept ≡ true

abbrev KeepsAimed : Result Aim OperandFaultKind → Type 0
KeepsAimed (Ok aim) = KeepsAim aim
KeepsAimed (Err what) = Unit {0}

closed_keeps : (calling : Calling) (least delimiter : ℕ) (text : List ℕ) (place : Option ℕ) → eqb delimiter 47 ≡ true
    → KeepsAimed (aim_of calling least (closed_at delimiter text place))
closed_keeps calling least delimiter text None is = tt
closed_keeps calling least delimiter text (Some place) is = grind (arith, common_steps)

repeated_keeps : (calling : Calling) (least : ℕ) (times : Option Times)
    → KeepsAimed (aim_of calling least (repeated times))
repeated_keeps calling least None = tt
repeated_keeps calling least (Some times) = tt

numbered_keeps : (calling : Calling) (least : ℕ) (n : Option ℕ) → KeepsAimed (aim_of calling least (numbered n))
numbered_keeps calling least None = tt
numbered_keeps calling least (Some n) = grind (arith, common_steps)

word_keeps : (calling : Calling) (least : ℕ) (word : List ℕ) → skips word ≡ false
    → KeepsAimed (aim_of calling least (spelling word))
word_keeps calling least [] differs = tt
word_keeps calling least (byte ∷ text) differs = grind (arith, common_steps, cond_both, closed_keeps, false≢true, repeated_keeps, numbered_keeps)

abbrev KeepAims : List Spelled → Type 0
KeepAims [] = Unit {0}
KeepAims (spelled ∷ more) = KeepsAim spelled.aim × KeepAims more

aimed_keep : (index : ℕ) (aimed : Result Aim OperandFaultKind) (past : Aim → Words) → KeepsAimed aimed
    → ((aim : Aim) → KeepsAim aim → KeepAims (past aim).operands)
    → KeepAims (elim aimed as (λ _. Words) [ Err what ↦ failed what index | Ok aim ↦ past aim ]).operands
aimed_keep index (Err what) past keeps each = tt
aimed_keep index (Ok aim) past keeps each = each aim keeps

times_keep : (index : ℕ) (aim : Aim) (says : Option Times) (past next : Words) → KeepsAim aim
    → KeepAims past.operands → KeepAims next.operands
    → KeepAims
    (elim says as (λ _. Words) [
      | Some times ↦ with_operand index aim times past
      | None ↦ with_operand index aim (Count 0) next
    ]).operands
times_keep index aim (Some times) past next keeps first second = (keeps, first)
times_keep index aim None past next keeps first second = (keeps, second)

words_keep : (calling : Calling) (index least : ℕ) (words : List (List ℕ)) → SkipNothing words
    → KeepAims (words_from calling index least words).operands
words_keep calling index least [] none = tt
words_keep calling index least (word ∷ []) none = grind (arith, common_steps, aimed_keep, word_keeps)
words_keep calling index least (word ∷ next ∷ words) none = aimed_keep index _ _ (word_keeps calling least word none.0)
    (λ aim keeps. times_keep index aim (times_by (spelling next)) _ _ keeps
    (words_keep calling (index + 2) (least_after least aim) words none.1.1)
    (words_keep calling (index + 1) (least_after least aim) (next ∷ words) none.1))

all_keep : (calling : Calling) (words : List (List ℕ)) → SkipNothing words → KeepAims (words_of calling words).operands
all_keep calling [] none = tt
all_keep calling (word ∷ words) none = words_keep calling 0 0 (word ∷ words) none

-- The operands that are read.

abbrev pub KeepTargets : List Operand → Type 0
KeepTargets [] = Unit {0}
KeepTargets (operand ∷ operands) = (is_kept operand.target ≡ true) × KeepTargets operands

target_keeps : (aim : Aim) (target : Target) → KeepsAim aim → IsTarget aim target → is_kept target ≡ true
target_keeps (line n) (Number m) keeps is = refl
target_keeps (match is_kept text offset) (Search pattern kept moved) keeps is = is.1 ∙ keeps
target_keeps aim target keeps is = absurd is

read_keep : (spelled : List Spelled) (operands : List Operand) → KeepAims spelled → AreRead spelled operands
    → KeepTargets operands
read_keep [] [] keep are = tt
read_keep (spelled ∷ more) (operand ∷ operands) keep are =
    grind (arith, common_steps, target_keeps, (read_keep more operands keep.1 are.1))
read_keep spelled operands keep are = absurd are

-- If all operands keep their sections, all sections are kept.

abbrev AllKept : List Section → Type 0
AllKept [] = Unit {0}
AllKept (section ∷ sections) = (section.is_kept ≡ true) × AllKept sections

kept_after : (more : Bool) (operand : Operand) (operands : List Operand) → KeepTargets (operand ∷ operands)
    → KeepTargets (cond more (operand ∷ operands) operands)
kept_after true operand operands keep = keep
kept_after false operand operands keep = keep.1

kept_then : (sections : List Section) (last : Section) → AllKept sections → last.is_kept ≡ true
    → AllKept (sections ++ last ∷ [])
kept_then [] last kept is = (is, tt)
kept_then (section ∷ sections) last kept is = (kept.0, kept_then sections last kept.1 is)

record Kept (lines : List Line) (plan : Plan) : Type 0 where
  pub sections : AllKept (map (section_of lines) plan.steps)
  pub final : is_last_kept plan.ending ≡ true

runs_keep : {style : Style} {lines : List Line} {state : State} {plan : Plan} → Runs style lines state plan
    → KeepTargets state.operands → Kept lines plan
runs_keep (cuts state cut its from within plan rest) keep =
    let these = rw its.are at keep in
    let past = runs_keep rest (kept_after (has_more its.operand.times state.repetition) its.operand its.operands these) in
    record { sections = (these.0, past.sections); final = past.final }
runs_keep (misses state operand operands is none) keep = grind (arith, common_steps)
runs_keep (is_above state cut its from far) keep = grind (arith, common_steps)
runs_keep (is_below state cut its low) keep = grind (arith, common_steps)
runs_keep run keep = record { sections = tt; final = refl }

-- The files of sections that are kept, joined, are the lines of these sections.

all_bytes : (lines : List (List ℕ)) → map (λ (line : Line). line.text) (map marked lines) ≡ lines
all_bytes [] = refl
all_bytes (text ∷ lines) = rw (all_bytes lines)

-- What the files have.

shares_have : (style : Style) (sections : List Section)
    → map (λ (one : Share). one.bytes) (shares_in style sections) ≡ flat_map (file_in style) sections
shares_have style [] = refl
shares_have style (section ∷ sections) = grind (arith, common_steps, bytes_of_shares, (shares_have style sections))

files_have : (style : Style) (place : ℕ) (shares : List Share)
    → map (λ (file : Slot). file.written) (files_from (manner_of style) place shares)
    ≡ map (λ (one : Share). one.bytes) shares
files_have style place [] = refl
files_have style place (one ∷ shares) = rw (files_have style (place + 1) shares)

-- a section that is kept makes no file only if it is empty
file_joined : (elide kept : Bool) (bytes : List ℕ) → kept ≡ true
    → joined (made_of (cond kept (cond elide Late AtOnce) Never) bytes) ≡ bytes
file_joined elide false bytes kept = absurd (cc)
file_joined true true [] kept = refl
file_joined true true (byte ∷ bytes) kept = append-nil (byte ∷ bytes)
file_joined false true bytes kept = append-nil bytes

files_joined : (style : Style) (sections : List Section) → AllKept sections
    → joined (flat_map (file_in style) sections) ≡ bytes_of (lines_in sections)
files_joined style [] kept = refl
files_joined style (section ∷ sections) kept =
    grind (arith, common_steps, joined-append, file_joined, (files_joined style sections kept.1))

-- What a run leaves.

-- a plan that ends well has no cut below the current line
ends_well : (ending : Ending) → verdict_of ending ≡ None → is_final ending ≡ false
ends_well (below operand repetition) well = absurd (cc)
ends_well ending well = refl

pub record IsCsplit (run : Run) (asked : CsplitAsked) (input : List ℕ) : Type 0 where
  pub operands : List Operand
  pub asks : Asks asked.calling asked.operands operands
  pub well : is_final (plan asked.style operands (all_lines input)).ending ≡ false
  pub files : files_of run ≡ files_from (manner_of asked.style) 0
      (shares_in asked.style
      (whole_sections (all_lines input) (plan asked.style operands (all_lines input))))
  pub contents : contents_of run ≡ flat_map (file_in asked.style)
      (whole_sections (all_lines input) (plan asked.style operands (all_lines input)))

pub is_csplit : {run : Run} {asked : CsplitAsked} {input : List ℕ} → Does run (Csplit asked) → HasInput run input
    → IsCsplit run asked input
is_csplit {run} {asked} {input} does has =
    let one = did_one does has in
    let (task, (operands, asks, is), made_is) = one.makes in
    let made = one_made one (csplit_task Cutters asked operands) (operands, asks, refl) in
    let sections = whole_sections (all_lines input) (plan asked.style operands (all_lines input)) in
    let files : files_of run ≡ files_from (manner_of asked.style) 0 (shares_in asked.style sections) = ap (drop 2) made.slots in
    record {
      operands = operands;
      asks = asks;
      well = ends_well _ made.unjudged;
      files = files;
      contents = rw files (files_have asked.style 0 (shares_in asked.style sections) ∙ shares_have
          asked.style sections);
    }

pub are_numbered : (run : Run) (asked : CsplitAsked) (input : List ℕ) → Does run (Csplit asked) → HasInput run input
    → AreNumbered asked.style (files_of run)
are_numbered run asked input does has =
    let split = is_csplit does has in
    let lines = all_lines input in
    let sections = whole_sections lines (plan asked.style split.operands lines) in
    let steps = (plan asked.style split.operands lines).steps in
    let IsClosed = λ (section : Section). state_in section ≡ Closed in
    let naming = naming_of asked.style in
    let made = are_made (manner_of asked.style) (shares_in asked.style sections) (each_section (λ state. state ≡ Closed) asked.style sections
    (All-append IsClosed (map (section_of lines) steps) _
    (All-map IsClosed (section_of lines) steps (λ k step within. refl)) (All-cons IsClosed _ [] refl (All-nil IsClosed)))) in
    rw split.files (record {
      named = made.named;
      apart = λ least one other first second same.
          no_two naming one other tt (lt-ltb _ _ (omega (arith, first, least)))
          (lt-ltb _ _ (omega (arith, second, least))) (sym (made.named one first) ∙ same ∙ made.named other second);
      in_order = λ few least. order_by _ _ made.named (λ k next.
          in_order naming k (suc k) tt (omega arith) (lt-ltb _ _ (omega (arith, next, least))) (lt-ltb _ _ (omega (arith, next, few))));
      sound = made.sound;
    })

pub none_is_lost : (run : Run) (asked : CsplitAsked) (input : List ℕ) → Does run (Csplit asked) → HasInput run input
    → asked.style.suppress ≡ false → SkipNothing asked.operands → joined (contents_of run) ≡ input
none_is_lost run asked input does has whole none =
    let split = is_csplit does has in
    let lines = all_lines input in
    let keep = read_keep (words_of asked.calling asked.operands).operands split.operands (all_keep asked.calling asked.operands none) split.asks.read in
    let kept = runs_keep (plan_runs asked.style split.operands lines) keep in
    rw (
      split.contents,
      files_joined asked.style (whole_sections lines (plan asked.style split.operands lines))
          (kept_then (map (section_of lines) (plan asked.style split.operands lines).steps) _ kept.sections kept.final),
    )
    (rw (none_lost_at_end asked.style whole split.operands lines split.well, all_bytes (lines_of newline input))
    (joined-lines_of newline input))

-- Each line has its turn.

cut_rest : (suppress : Bool) (lines : List Line) (step : Step) → 1 ≤ step.cut
    → left_out suppress lines step ++ drop (line_after suppress step.cut - 1) lines ≡ drop (step.cut - 1) lines
cut_rest true lines step some = between_rest _ _ lines some (omega arith)
cut_rest false lines step some = refl

past_cut : (suppress : Bool) {cut : ℕ} → 1 ≤ cut → 1 ≤ line_after suppress cut
past_cut true some = omega (arith, some)
past_cut false some = some

all_in_turn : {style : Style} {lines : List Line} {first : State} {plan : Plan} → Runs style lines first plan
    → 1 ≤ first.current
    → in_turn style.suppress lines plan.steps (drop (plan.last.current - 1) lines) ≡ drop (first.current - 1) lines
all_in_turn {style} {lines} (cuts state cut its from within plan rest) some =
    let low : 1 ≤ cut.line = omega (arith, some, from) in
    let step = step_of state its.operand cut in
    rw (all_in_turn rest (past_cut style.suppress low), cut_rest style.suppress lines step low)
    (between_rest state.current cut.line lines some from)
all_in_turn run some = refl

pub none_missing : (style : Style) (operands : List Operand) {lines : List Line}
    → is_final (plan style operands lines).ending ≡ false
    → in_turn style.suppress lines (plan style operands lines).steps (last_section lines (plan style operands lines))
    ≡ lines
none_missing style operands {lines} live =
    let plan' = plan style operands lines in
    let runs = plan_runs style operands lines in
    let some = (are_within runs (omega arith)).1 in
    ap (in_turn style.suppress lines plan'.steps)
    (ap (λ end. lines_between plan'.last.current end lines) (ends_after_all (length lines) plan'.ending live) ∙ rest_is_all lines _ some)
    ∙ all_in_turn runs (omega arith)
