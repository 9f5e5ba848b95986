-- Chunks of an input, as a stage.
use Rattle.std.proofs.Common.{rules}
use Rattle.std.proofs.lemmas.Grind.{common_steps}
use Rattle.std.proofs.{
  lemmas.{
    Bool.{cases_lt, eq-eqb, false≢true, le-leb, le-ltb, lt-ltb, ltb-true},
    List.{append-nil, drop_all, take_at, take-append-drop, length-append, length-drop, length-take},
  },
  Common.{◌≡◌, ℕ, ◌+◌, ◌-◌, ◌<◌, ◌≤◌, min, true, false, eqb, nat_lt, List, [], ◌++◌, ◌⊎◌, length, take},
  Common.{drop, Option, Some, None, Ok, Err, inl, inr, refl, sym, ◌∙◌, ap, arith, append_assoc},
}
use Rattle.engine_core.{
  specs.{FileWriter.IsWrite, Written.Begins, Work.{IsLawful, IsNeeded, IsSpare, Work}},
  proofs.WrittenLemmas.part_begins_itself,
}
use Rattle.ports_core.specs.{
  Slot.Effect,
  declared.{fault.Fault.{Fault, TheVariants.Verdict}, verdict.Verdict.TheVariants.Changed},
}
use Rattle.seg_core.specs.declared.cut.Chunks.{Chunks}
use Rattle.split_core.specs.{
  Chunks.{chunks_within, ended, has_ended},
  ChunkerState.{ChunkerState, Course, CutterState, Holds, IsAimed, IsSaid, SinkState, can_cut},
  ChunkerState.{course, course_of, in_files, in_output, part_on, whole_on, work, work_on, total},
  inner.{
    Chunker.{Comes, EndsAs, IsLike, PassesAs},
    Cutter.{CutsMore, CutsAs, IsCut, part_so, said_work},
    Seen.{is_each_on, is_past_at, is_past_on},
    Brings.{Brings, EndsAll},
  },
  Parts.CutUp,
  laws.{
    ChunkLaws.{ended_after, has_ended_before, passed_full, start_within},
    ChunkWorkLaws.longer_differs,
    WorkLaws.work_lawful,
  },
}
use Rattle.split_core.proofs.{
  ChunkerWays.{ends_at, ends_changed, passes_at, passes_changed},
  CutterLemmas.{placed_at},
  SinkLemmas.brings_wider,
}

-- What is made

-- what is settled of a text within its size
settled_within : (on : Course) (chunks : Chunks) (size : ℕ) (x : List ℕ) → length x ≤ size
    → part_on on (chunks_within chunks size x) ≡ (work_on on chunks (Some size)).settled x
settled_within on chunks size x fits = grind (arith, common_steps)

pub whole_within : (on : Course) (chunks : Chunks) (size : ℕ) (x : List ℕ) → length x ≤ size
    → whole_on on (chunks_within chunks size x) ≡ (work_on on chunks (Some size)).whole x
whole_within on chunks size x fits = grind (arith, common_steps)

-- If the input showed its size

-- the output is complete exactly if the one chunk that is written has ended
past_at : (chunks : Chunks) (size place : ℕ) (on : Course) (x : List ℕ) → can_cut on chunks.count ≡ true
    → length x ≤ size → ended chunks size x ≡ place
    → is_past_at on place ≡ (work_on on chunks (Some size)).is_complete x
past_at chunks size place (in_files filing elide) x can fits is = sym (le-ltb _ _ fits)
past_at chunks size place (in_output chunk) x can fits is = grind (arith, common_steps, cases_lt, lt-ltb, has_ended_before, le-ltb, ended_after, ltb-true)

pub past_is : {cutter : CutterState} {size : ℕ} {x : List ℕ} → IsCut cutter size x
    → is_past_on cutter.sink ≡ (said_work cutter size).is_complete x
past_is {cutter} {size} {x} is = past_at _ _ _ _ x is.cut.can is.fits (placed_at is)

-- one chunk is complete once a text has its size
full_at : (on : Course) (chunks : Chunks) (size : ℕ) (x : List ℕ) → can_cut on chunks.count ≡ true
    → is_each_on on ≡ false → size ≤ length x → (work_on on chunks (Some size)).is_complete x ≡ true
full_at (in_files filing elide) chunks size x can one full = absurd (false≢true (sym one))
full_at (in_output chunk) chunks size x can one full =
    let within : chunk + 1 ≤ chunks.count = omega (arith, ltb-true _ _ can) in
    let start = start_within chunks.count size (chunk + 1) (omega arith) within in
    le-leb _ _ (omega (arith, passed_full chunks size x full))

-- all was used if none is left
used_all : {work : Work} {x : List ℕ} {n : ℕ} (spare : IsSpare work x n) → spare.rest ≡ [] → x ≡ spare.used
used_all spare none = grind (arith, common_steps)

-- what is written of what came in is what is written of what was used of it
so_used : {work : Work} {x : List ℕ} {n : ℕ} → IsLawful work → (spare : IsSpare work x n)
    → work.settled spare.used ≡ work.settled x
so_used {work} {x} lawful spare = elim spare.enough [
  | inl none ↦ rw (used_all spare none) refl
  | inr complete ↦ rw spare.joined (sym (lawful.stays spare.used spare.rest complete).settled_stays)
]

pub cut_is : {chunker : ChunkerState} {size : ℕ} {x : List ℕ} (has : IsSaid chunker size x)
    → IsCut chunker.cutter size has.spare.used
cut_is has = grind (arith, common_steps)

part_is : {chunker : ChunkerState} {size : ℕ} {x : List ℕ} (has : IsSaid chunker size x)
    → part_so chunker.cutter size has.spare.used ≡ (said_work chunker.cutter size).settled x
part_is {chunker} {size} has = let on = course chunker.cutter in let chunks = chunker.cutter.chunks in
    settled_within on chunks size has.spare.used has.within
    ∙ so_used (work_lawful on chunks (Some size) has.cut.can) has.spare

-- A piece

within_size : {chunker : ChunkerState} {size : ℕ} {x : List ℕ} → IsSaid chunker size x → chunker.cutter.at ≤ size
within_size has = omega arith

done_fits : {cutter next : CutterState} {size : ℕ} {piece : List ℕ} {outs : Effect} {past : ℕ}
    → CutsAs cutter next size piece past outs → cutter.at ≤ size
    → cutter.at + length (take (length piece - past) piece) ≤ size
done_fits {piece = piece} {past = past} takes within = search rules

module _ {chunker : ChunkerState} {next : CutterState} {size : ℕ} {piece : List ℕ} {x : List ℕ} {past : ℕ}
    {outs : Effect}
    (takes : CutsAs chunker.cutter next size piece past outs)
    (ok : (past ≡ 0) ⊎ (is_each_on (course next) ≡ false)) (has : IsSaid chunker size x) where
  abbrev done : List ℕ
  done = take (length piece - past) piece

  abbrev over : List ℕ
  over = drop (length piece - past) piece

  fits_done : length (has.spare.used ++ done) ≤ size
  fits_done = search (rules, done_fits, within_size, length-append)

  -- once the output is complete, none of the piece is used
  none_done : (said_work chunker.cutter size).is_complete has.spare.used ≡ true → length piece - past ≡ 0
  none_done complete = omega (arith, takes.still (past_is (cut_is has) ∙ complete))

  joined_so : x ++ piece ≡ (has.spare.used ++ done) ++ (has.spare.rest ++ over)
  joined_so = elim has.spare.enough [
    | inl none ↦ (let both = take-append-drop (length piece - past) piece in
        rw (used_all has.spare none, none, append_assoc has.spare.used done over, both) refl)
    | inr complete ↦
        rw (none_done complete, append-nil has.spare.used, has.spare.joined) (append_assoc has.spare.used _ piece)
  ]

  next_cut : IsCut next size (has.spare.used ++ done)
  next_cut = takes.cuts.leads has.spare.used (cut_is has) fits_done

  needed_so : IsNeeded (said_work chunker.cutter size).is_complete 1 (has.spare.used ++ done)
  needed_so = elim takes.needed [
    | inl all ↦ (let e : length piece - past ≡ 0 = omega (arith, all) in
        rw (e, append-nil has.spare.used) has.spare.needed)
    | inr needed ↦ needed has.spare.used (cut_is has)
  ]

  enough_so : ((has.spare.rest ++ over) ≡ [])
      ⊎ ((said_work chunker.cutter size).is_complete (has.spare.used ++ done) ≡ true)
  enough_so = elim takes.enough [
    | inl none ↦ zero_past none
    | inr later ↦ elim later [
      | inl ended ↦ inr (rw (takes.cuts.stays.course, takes.cuts.chunks) at (sym (past_is next_cut) ∙ ended))
      | inr full ↦ elim ok [
        | inl none ↦ zero_past none
        | inr one ↦ inr (rw (takes.cuts.stays.course, takes.cuts.chunks) at (full_at (course next) next.chunks size (has.spare.used ++ done)
            next_cut.cut.can one (omega (arith, full, next_cut.cut.at))))
      ]
    ]
  ] where
    zero_past : past ≡ 0 → ((has.spare.rest ++ over) ≡ [])
        ⊎ ((said_work chunker.cutter size).is_complete (has.spare.used ++ done) ≡ true)
    zero_past none = let out : over ≡ [] = drop_all (length piece - past) piece (omega (arith, none)) in elim has.spare.enough [
      | inl rest ↦ inl (rw (rest, out) refl)
      | inr complete ↦ inr (rw (none_done complete, append-nil has.spare.used) complete)
    ]

  abbrev spare_on : IsSpare (said_work chunker.cutter size) (x ++ piece) (chunker.spare + past)
  spare_on = record {
    used = has.spare.used ++ done;
    rest = has.spare.rest ++ over;
    joined = joined_so;
    long = omega (arith, has.spare.long, length-append has.spare.rest over, length-drop (length piece - past) piece, takes.few);
    needed = needed_so;
    enough = enough_so;
  }

  pub said_on : (after : ℕ) → after ≡ chunker.spare + past → IsSaid (record chunker { cutter = next; spare = after }) size (x ++ piece)
  said_on after is = record {
    spare = record {
      used = has.spare.used ++ done;
      rest = has.spare.rest ++ over;
      joined = joined_so;
      long = spare_on.long ∙ sym is;
      needed = rw (takes.cuts.stays.course, takes.cuts.chunks) needed_so;
      enough = rw (takes.cuts.stays.course, takes.cuts.chunks) enough_so;
    };
    within = fits_done;
    cut = next_cut.cut;
    waits = has.waits;
  }

  pub part_on_said : part_so chunker.cutter size (has.spare.used ++ done)
      ≡ (said_work chunker.cutter size).settled (x ++ piece)
  part_on_said = let on = course chunker.cutter in let chunks = chunker.cutter.chunks in
      settled_within on chunks size (has.spare.used ++ done) fits_done
      ∙ so_used (work_lawful on chunks (Some size) has.cut.can) spare_on

pub is_said : {chunker : ChunkerState} {size : ℕ} {x : List ℕ} → chunker.said ≡ Some size → Holds chunker x
    → IsSaid chunker size x
is_said {chunker} {size} {x} said holds = grind (arith, common_steps)

said_is : {chunker : ChunkerState} {size : ℕ} {x : List ℕ} → chunker.said ≡ Some size → IsSaid chunker size x
    → Holds chunker x
said_is {chunker} {size} {x} said is = grind (arith, common_steps)

module _ {chunker : ChunkerState} {size : ℕ} where
  cut_brings : {next : CutterState} {bytes : List ℕ} {outs : Effect} {fault : Option Fault}
      → CutsMore chunker.cutter next size bytes outs fault
      → (chunker.cutter.at ≤ size → chunker.cutter.at + length bytes ≤ size) → {x : List ℕ}
      → (has : IsSaid chunker size x)
      → Brings (course chunker.cutter) chunker.cutter.sink.aim next.sink.aim ((said_work chunker.cutter size).settled x)
      (part_so chunker.cutter size (has.spare.used ++ bytes)) outs fault
  cut_brings {bytes = bytes} cuts fits has = rw (part_is has) at (cuts.brings has.spare.used (cut_is has)
      (omega (arith, fits (within_size has), has.cut.at, length-append has.spare.used bytes)))

  -- a fault came
  to_all : (piece bytes more : List ℕ) → bytes ++ more ≡ piece → {x : List ℕ} → (has : IsSaid chunker size x)
      → chunker.cutter.at + length bytes ≤ size
      → Begins (part_so chunker.cutter size (has.spare.used ++ bytes))
      ((said_work chunker.cutter size).settled (x ++ piece))
  to_all piece bytes more both has fits =
      let on = course chunker.cutter in
      let chunks = chunker.cutter.chunks in
      let lawful = work_lawful on chunks (Some size) has.cut.can in
      let used = has.spare.used in
      let rest = has.spare.rest in
      let within : length (used ++ bytes) ≤ size = omega (arith, length-append used bytes) in
      rw (settled_within on chunks size (used ++ bytes) within) (
      elim has.spare.enough [
        | inl none ↦
            rw (used_all has.spare none, ← both, ← append_assoc used bytes more) (lawful.grows (used ++ bytes) more)
        | inr complete ↦
            let low = (lawful.stays used bytes complete).settled_stays in
            let high = (lawful.stays used (rest ++ piece) complete).settled_stays in
            rw (has.spare.joined, append_assoc used rest piece, low, high) (part_begins_itself _)
      ])

module _ {chunker : ChunkerState} {next : CutterState} {size : ℕ} (piece : List ℕ) {outs : Effect}
    (said : chunker.said ≡ Some size) where
  pub passes_said : {past : ℕ} (after : ℕ) → after ≡ chunker.spare + past
      → CutsAs chunker.cutter next size piece past outs
      → (past ≡ 0) ⊎ (is_each_on (course next) ≡ false)
      → PassesAs chunker (record chunker { cutter = next; spare = after }) piece outs (Ok tt)
  passes_said after is takes ok = passes_at (Ok tt) (record { said = refl; chunks = takes.cuts.chunks })
      (omega arith)
      (record {
        stays = takes.cuts.stays;
        brings = λ x holds. let has = is_said said holds in
            rw said (rw (part_on_said takes ok has) at (cut_brings takes.cuts (done_fits takes) has));
      })
      (λ x holds. said_is said (said_on takes ok (is_said said holds) after is))

  pub passes_not : {why : Fault}
      → CutsMore chunker.cutter next size (take (min (length piece) (size - chunker.cutter.at)) piece)
      outs (Some why) → PassesAs chunker (record chunker { cutter = next }) piece outs (Err why)
  passes_not {why} cuts = let n = min (length piece) (size - chunker.cutter.at) in
      let fits : chunker.cutter.at ≤ size → chunker.cutter.at + length (take n piece) ≤ size =
      λ within. omega (arith, length-take n piece) in
      passes_at (Err why) (record { said = refl; chunks = cuts.chunks })
      (omega (arith, length-take n piece))
      (record {
        stays = cuts.stays;
        brings = λ x holds. let has = is_said said holds in rw said (brings_wider
            (to_all piece (take n piece) (drop n piece) (take-append-drop n piece) has (fits (within_size has)))
            (cut_brings cuts fits has));
      }) (λ x holds. tt)

-- the input has more than it showed
each_course : (on : Course) (chunks : Chunks) (size : ℕ) → is_each_on on ≡ true → (x : List ℕ)
    → (work_on on chunks (Some size)).is_complete x ≡ nat_lt size (length x)
each_course (in_files filing elide) chunks size each x = refl
each_course (in_output chunk) chunks size each x = absurd (false≢true each)

each_judges : (on : Course) (chunks : Chunks) (size : ℕ) → is_each_on on ≡ true → (x : List ℕ)
    → eqb (length x) size ≡ false → (work_on on chunks (Some size)).verdict x ≡ Some Changed
each_judges (in_files filing elide) chunks size each x differs = rw differs refl
each_judges (in_output chunk) chunks size each x differs = absurd (false≢true each)

never_past : (on : Course) (place : ℕ) → is_each_on on ≡ true → is_past_at on place ≡ false
never_past (in_files filing elide) place each = refl
never_past (in_output chunk) place each = cc

module _ (chunker : ChunkerState) {next : CutterState} {size : ℕ} (piece : List ℕ) {past : ℕ}
    {outs : Effect}
    (said : chunker.said ≡ Some size) (takes : CutsAs chunker.cutter next size piece past outs)
    (some : 0 < past)
    (each : is_each_on (course next) ≡ true) where
  abbrev cut_off : List ℕ
  cut_off = take (length piece - past) piece

  this : is_each_on (course chunker.cutter) ≡ true
  this = rw takes.cuts.stays.course at each

  all_used : (x : List ℕ) (has : IsSaid chunker size x) → has.spare.rest ≡ []
  all_used x has = elim has.spare.enough [
    | inl none ↦ none
    | inr complete ↦ absurd (omega (
      arith,
      has.within,
      ltb-true _ _
          (sym (each_course (course chunker.cutter) chunker.cutter.chunks size this has.spare.used) ∙ complete),
    ))
  ]

  full : size ≤ next.at
  full = search (rules, false≢true, never_past)

  size_is : (x : List ℕ) (has : IsSaid chunker size x) → length (has.spare.used ++ cut_off) ≡ size
  size_is x has = search (rules, within_size, length-take, full, length-append)

  all_so : (x : List ℕ) (has : IsSaid chunker size x)
      → x ++ piece ≡ (has.spare.used ++ cut_off) ++ drop (length piece - past) piece
  all_so x has = let n = length piece - past in let both = take-append-drop n piece in
      rw (used_all has.spare (all_used x has), append_assoc has.spare.used cut_off (drop n piece), both) refl

  taken : (x : List ℕ) (has : IsSaid chunker size x) → take size (x ++ piece) ≡ has.spare.used ++ cut_off
  taken x has = ap (take size) (all_so x has) ∙ take_at (has.spare.used ++ cut_off) _ size (size_is x has)

  longer_so : (x : List ℕ) (has : IsSaid chunker size x) → size < length (x ++ piece)
  longer_so x has = search (rules, all_so, length-append, size_is, length-drop)

  pub changed_more : PassesAs chunker (record chunker { cutter = next }) piece
      outs (Err (Verdict Changed))
  changed_more = passes_changed (record { said = refl; chunks = takes.cuts.chunks }) (omega (arith, takes.at, takes.few))
      (record {
        stays = takes.cuts.stays;
        brings = λ x holds. let has = is_said said holds in
            rw said (rw (← taken x has) at (cut_brings takes.cuts (done_fits takes) has));
      })
      (λ x holds. let has = is_said said holds in let longer : size < length (x ++ piece) = longer_so x has in rw said (
        each_course (course chunker.cutter) chunker.cutter.chunks size this (x ++ piece) ∙ lt-ltb _ _ longer,
        each_judges (course chunker.cutter) chunker.cutter.chunks size this (x ++ piece) (longer_differs size (x ++ piece) longer),
      ))

-- The end of an input that showed its length

shorter_differs : (size n : ℕ) → n < size → eqb n size ≡ false
shorter_differs size n less = grind (arith, common_steps)

-- if the output is complete, only one chunk is written
complete_whole : (on : Course) (chunks : Chunks) (size : ℕ) (x : List ℕ) → length x ≤ size
    → (work_on on chunks (Some size)).is_complete x ≡ true → (cut : CutUp) → part_on on cut ≡ whole_on on cut
complete_whole (in_files filing elide) chunks size x fits complete = grind (arith, common_steps)
complete_whole (in_output chunk) chunks size x fits complete = λ cut. refl

-- a complete output is the whole, whatever else comes
pub complete_all : (on : Course) (chunks : Chunks) (size : ℕ) (used rest : List ℕ) → can_cut on chunks.count ≡ true
    → length used ≤ size → (work_on on chunks (Some size)).is_complete used ≡ true
    → whole_on on (chunks_within chunks size used) ≡ (work_on on chunks (Some size)).whole (used ++ rest)
complete_all on chunks size used rest can fits complete = grind (arith, common_steps, complete_whole, settled_within, work_lawful)

whole_said : {chunker : ChunkerState} {size : ℕ} {x : List ℕ} (has : IsSaid chunker size x)
    → whole_on (course chunker.cutter) (chunks_within chunker.cutter.chunks size has.spare.used)
    ≡ (said_work chunker.cutter size).whole x
whole_said {chunker} {size} has = grind (arith, common_steps, used_all, whole_within, complete_all)

ends_well : (on : Course) (chunks : Chunks) (size : ℕ) (x : List ℕ) {n : ℕ}
    → (spare : IsSpare (work_on on chunks (Some size)) x n) → can_cut on chunks.count ≡ true
    → length spare.used ≤ size
    → ((work_on on chunks (Some size)).is_complete spare.used ≡ true) ⊎ (size ≤ length spare.used)
    → (work_on on chunks (Some size)).verdict x ≡ None
ends_well (in_files filing elide) chunks size x spare can fits ends = elim spare.enough [
  | inr complete ↦ absurd (omega (arith, ltb-true _ _ complete))
  | inl none ↦ elim ends [
    | inl complete ↦ absurd (omega (arith, ltb-true _ _ complete))
    | inr full ↦ rw (eq-eqb (length x) size (omega (arith, ap length (used_all spare none)))) refl
  ]
]
ends_well (in_output chunk) chunks size x spare can fits ends = rw all refl where
  complete : has_ended chunks size spare.used chunk ≡ true
  complete = elim ends [
    | inl done ↦ done
    | inr full ↦ full_at (in_output chunk) chunks size spare.used can refl full
  ]

  all : has_ended chunks size x chunk ≡ true
  all = rw spare.joined ((work_lawful (in_output chunk) chunks (Some size) can).stays spare.used spare.rest complete).still

ends_badly : (on : Course) (chunks : Chunks) (size : ℕ) (x : List ℕ) → length x < size
    → (work_on on chunks (Some size)).is_complete x ≡ false → (work_on on chunks (Some size)).verdict x ≡ Some Changed
ends_badly (in_files filing elide) chunks size x short open_still = rw (shorter_differs _ _ short) refl
ends_badly (in_output chunk) chunks size x short open_still = rw (open_still, shorter_differs _ _ short) refl

module _ {chunker next : ChunkerState} {size : ℕ} {outs : Effect} (said : chunker.said ≡ Some size)
    (same : IsLike chunker next) (bound : total next ≤ total chunker) where
  end_comes : (fault : Option Fault) → EndsAll chunker.cutter.sink next.cutter.sink outs fault
      → Comes chunker next (work chunker).whole outs fault
  end_comes fault ends = grind (arith, common_steps, is_said, part_is, whole_said)

  pub said_stops : {why : Fault} → IsAimed chunker.cutter.sink.aim outs.old
      → EndsAll chunker.cutter.sink next.cutter.sink outs (Some why) → IsWrite why
      → EndsAs chunker next outs (Err why)
  said_stops {why} aimed ends broke = search (rules, ends_at, end_comes)

  pub said_ends : IsAimed chunker.cutter.sink.aim outs.old
      → EndsAll chunker.cutter.sink next.cutter.sink outs None
      → (is_past_on chunker.cutter.sink ≡ true) ⊎ (size ≤ chunker.cutter.at)
      → EndsAs chunker next outs (Ok tt)
  said_ends aimed ends full = ends_at (Ok tt) aimed same bound (end_comes None ends)
      (λ x holds. let has = is_said said holds in rw said
      (ends_well (course chunker.cutter) chunker.cutter.chunks size x has.spare has.cut.can has.within (elim full [
        | inl past ↦ inl (sym (past_is (cut_is has)) ∙ past)
        | inr all ↦ inr (omega arith)
      ]))) (λ some. tt)

  pub said_changed : EndsAll chunker.cutter.sink next.cutter.sink outs None
      → is_past_on chunker.cutter.sink ≡ false → chunker.cutter.at < size
      → EndsAs chunker next outs (Err (Verdict Changed))
  said_changed ends going short = ends_changed same bound (end_comes None ends) (λ x holds. let has = is_said said holds in
      let open_still = sym (past_is (cut_is has)) ∙ going in
      let all : x ≡ has.spare.used = elim has.spare.enough [
        | inl none ↦ used_all has.spare none
        | inr complete ↦ absurd (false≢true (sym open_still ∙ complete))
      ] in
      rw (said, all) (ends_badly (course chunker.cutter) chunker.cutter.chunks size has.spare.used
      (omega arith) open_still))

pub past_same : (one two : SinkState) → course_of two.aim ≡ course_of one.aim → two.place ≡ one.place
    → is_past_on two ≡ is_past_on one
past_same one two same place = rw (same, place) refl
