-- What the writer of files does, one change after another, and what is true if a change is stopped.
use Rattle.std.proofs.{
  lemmas.{Grind.common_steps, Bool.false≢true},
  Common.{◌≡◌, ℕ, Bool, false, List, [], ◌∷◌, ◌++◌, ◌⊎◌, length, Option, Some, None, Result, Ok, Err, IfErr, inl},
  Common.{inr, refl, sym, ◌∙◌, ap, subst, arith, rules, append_assoc},
}
use Rattle.engine_core.specs.{
  Draft.{Manner, Draft, made_of, draft_part, with_bytes, with_next},
  FileWriter.{WriterState, Writes, IsReady, IsWrite, RunsShort, KeepsFiles, Goes, paused},
  Written.{OutputsAt, Begins},
  Swept.Removes,
  InTurn.fault_in,
  declared.file_writer.{Current.TheVariants.Skipped, Opening.{Opening, TheVariants.Never}},
}
use Rattle.ports_core.specs.{
  Slot.{Effect, Slot, effect},
  declared.{fault.Fault.{Fault, TheVariants.{Memory, Verdict}}, verdict.Verdict.TheVariants.Suffixes},
}
use Rattle.engine_core.proofs.{
  ShareLemmas.{stopped_part, bytes_begin, next_begins, still_made, part_grows},
  SweepLemmas.{left_apart, left_has, left_there, same_size},
  FileWriterLemmas.{lacks_memory, leaves_again, leaves_lacking, put_nothing, reaches_again, reaches_as, stops_wider},
  FileWriterLemmas.{where_short, where_well},
}
use Rattle.ports_core.specs.declared.fault.Fault.TheVariants as fault

-- One change after another

pub goes_again : {visible : Bool} {one two three : WriterState} {first second : Draft → Draft} (both : Draft → Draft)
    {old mid new : List Slot} {fault : Option Fault} → ((draft : Draft) → second (first draft) ≡ both draft)
    → ((manner : Manner) (draft : Draft) → Begins (draft_part manner draft) (draft_part manner (first draft)))
    → Goes one two first (effect visible old mid) None → Goes two three second (effect visible mid new) fault
    → Goes one three both (effect visible old new) fault
goes_again {visible} {three = three} {first} both {new = new} {fault} is begins before after = record {
  leaves = leaves_again before.leaves after.leaves;
  reaches = λ manner draft writes. reaches_again (begins manner draft) (before.reaches manner draft writes)
      (reaches_as refl (ap (draft_part manner) (sym (is draft))) (after.reaches manner (first draft) (before.writes manner draft writes)));
  short = where_short _ after.short (λ short manner draft writes. let ran = short manner (first draft) (before.writes manner draft writes) in record {
    none = subst (λ draft. manner.has_name (length draft.ended) ≡ false) (is draft) ran.none;
    begun = subst (λ draft. made_of draft.opening draft.bytes ≡ draft.bytes ∷ []) (is draft) ran.begun;
    all = λ old at. subst (λ draft. OutputsAt visible old (draft_part manner draft) new) (is draft)
        (ran.all old ((before.reaches manner draft writes).there old at));
  });
  writes = where_well fault after.writes (λ more manner draft writes. subst (Writes manner three) (is draft)
      (more manner (first draft) (before.writes manner draft writes)));
}

-- both drafts have as many files that ended, and if the first makes a file, the second does
abbrev pub GrowsOn : Draft → Draft → Type 0
GrowsOn low high = (low.ended ≡ high.ended) × (made_of low.opening low.bytes ≡ low.bytes ∷ [] → made_of high.opening high.bytes ≡ high.bytes ∷ [])

-- a change that was stopped is a change to more that was stopped: names didn't run out, or the same file is due
pub goes_wider : {writer next : WriterState} {low : Draft → Draft} (high : Draft → Draft) {outs : Effect}
    {fault : Fault}
    → ((manner : Manner) (draft : Draft) → Begins (draft_part manner (low draft)) (draft_part manner (high draft)))
    → ((fault ≡ Verdict Suffixes → ⊥) ⊎ ((draft : Draft) → GrowsOn (low draft) (high draft)))
    → Goes writer next low outs (Some fault) → Goes writer next high outs (Some fault)
goes_wider {writer} {low = low} high {outs} {fault} begins same stopped = record {
  leaves = stopped.leaves;
  reaches = λ manner draft writes. stops_wider (stopped.reaches manner draft writes) (begins manner draft);
  short = λ is manner draft writes. by same is manner draft (stopped.short is manner draft writes);
  writes = tt;
} where
  by : ((fault ≡ Verdict Suffixes → ⊥) ⊎ ((draft : Draft) → GrowsOn (low draft) (high draft)))
      → fault ≡ Verdict Suffixes → (manner : Manner) (draft : Draft)
      → RunsShort writer low manner draft outs → RunsShort writer high manner draft outs
  by (inl other) is manner draft ran = absurd (other is)
  by (inr grows) is manner draft ran =
      let ended = (grows draft).0 in
      let none : manner.has_name (length (high draft).ended) ≡ false = grind (arith, common_steps) in record {
        none = none;
        begun = (grows draft).1 ran.begun;
        all = grind (arith, common_steps, stopped_part);
      }

pub next_not_ended : {writer next : WriterState} (opening : Opening) {outs : Effect} {f : Fault} → IsWrite f
    → Goes writer next (with_next Never) outs (Some f) → Goes writer next (with_next opening) outs (Some f)
next_not_ended opening broke ended = goes_wider (with_next opening) (λ manner draft. search (rules, part_grows))
    (inl (λ short. absurd (let e : fault.Write broke.0 ≡ Verdict Suffixes = sym broke.1 ∙ short in cc))) ended

pub next_begun : {visible : Bool} {writer mid next : WriterState} {opening : Opening} {old between new : List Slot}
    {fault : Option Fault} → Goes writer mid (with_next Never) (effect visible old between) None → mid.current ≡ Skipped
    → Goes (paused mid) next (with_next opening) (effect visible between new) fault
    → Goes writer next (with_next opening) (effect visible old new) fault
next_begun {visible} {mid = mid} {next} {opening} {between = between} {new} {fault} ended none start = goes_again
    (with_next opening) (search rules) (λ manner draft. next_begins manner Never draft) ended
    (subst (λ current. Goes (record mid { current = current }) next (with_next opening) (effect visible between new) fault) (sym none) start)

-- More bytes after others

pub goes_more : {visible : Bool} {one two three : WriterState} (a b : List ℕ) {old mid new : List Slot}
    {fault : Option Fault} → Goes one two (with_bytes a) (effect visible old mid) None
    → Goes two three (with_bytes b) (effect visible mid new) fault
    → Goes one three (with_bytes (a ++ b)) (effect visible old new) fault
goes_more a b first second = search (rules, goes_again, common_steps, bytes_begin)

-- a write was stopped among these bytes, before further bytes
pub stops_among : {writer next : WriterState} (a b : List ℕ) {outs : Effect} {fault : Fault}
    → Goes writer next (with_bytes a) outs (Some fault) → Goes writer next (with_bytes (a ++ b)) outs (Some fault)
stops_among a b stopped = goes_wider (with_bytes (a ++ b)) (λ manner draft. subst
    (λ those. Begins (draft_part manner (with_bytes a draft)) (draft_part manner those))
    (grind (arith, common_steps)) (bytes_begin manner b (with_bytes a draft)))
    (inr (λ draft. (
      refl,
      λ makes. subst (λ bytes. made_of draft.opening bytes ≡ bytes ∷ [])
          (append_assoc draft.bytes a b) (still_made draft.opening (draft.bytes ++ a) b makes),
    ))) stopped

pub goes_as : {writer next : WriterState} {a b : List ℕ} {outs : Effect} {fault : Option Fault}
    → a ≡ b → Goes writer next (with_bytes a) outs fault → Goes writer next (with_bytes b) outs fault
goes_as is goes = search rules

-- the last call only wants memory
pub goes_or_lacks : {writer next : WriterState} {bytes : List ℕ} {outs : Effect}
    (result : Result (Unit {0}) Fault) → Goes writer next (with_bytes bytes) outs None
    → IfErr result (λ fault. fault ≡ Memory) → Goes writer next (with_bytes bytes) outs (fault_in result)
goes_or_lacks (Ok done) went lacks = went
goes_or_lacks {writer} {next} {bytes} {outs} (Err fault) went lacks = subst (λ why. Goes writer next (with_bytes bytes) outs (Some why)) (sym lacks) (record {
  leaves = leaves_again went.leaves leaves_lacking;
  reaches = λ manner draft writes. reaches_again (bytes_begin manner bytes draft) (went.reaches manner draft writes)
      (lacks_memory manner (with_bytes bytes draft) (went.writes manner draft writes).named);
  short = λ is. absurd (cc);
  writes = tt;
})

pub goes_lacking : {visible : Bool} {writer : WriterState} {bytes : List ℕ} {slots : List Slot} {fault : Fault}
    → IsReady writer slots → fault ≡ Memory
    → Goes writer writer (with_bytes bytes) (effect visible slots slots) (Some fault)
goes_lacking {bytes = bytes} {fault = fault} ready lacks = stops_among [] bytes (goes_or_lacks (Err fault) (put_nothing refl ready) lacks)

-- The files are removed.

pub files_left : {writer next : WriterState} {old new : List Slot} → next.keeps ≡ writer.keeps
    → next.current ≡ writer.current → Removes writer.files old next.files new → KeepsFiles writer next old new
files_left same_keeps same removes = search (rules, same_size, left_has, left_there, false≢true, left_apart)
