-- Lemmas on inputs that a work can't tell apart, and on what a stage owes that was fed one in place of the other.
use Rattle.std.proofs.lemmas.Grind.{common_steps}
use Rattle.std.proofs.{
  Common.{◌≡◌, ℕ, ◌≤◌, ◌<◌, Bool, true, false, List, [], ◌++◌, length, drop, Result, Ok, Err, inl, inr},
  Common.{refl, sym, ◌∙◌, ap, arith, append_assoc, rules},
  lemmas.{
    Bool.{cases_Bool, cases_lt},
    List.{append-nil, length-append, nil_from_length, drop-append-le, take-append-drop, take-append-le, take_at},
  },
  Math.Seq.drop-append_seam,
}
use Rattle.engine_core.specs.{
  Engine.{CutsOff, EndsThere, Finishes, IsMet, IsMetThere, IsMetWith, Passes, PutsOut, StandsAt, TakesIn, Terms},
  Engine.TookIn,
  Written.Written,
  Work.{IsLawful, IsNeeded, IsSpare, Means, Needs, Work},
}
use Rattle.ports_core.specs.{
  Slot.{Slot, effect},
  declared.{fault.Fault.{Fault, TheVariants.{Memory, Open, Write}}, verdict.Verdict.Verdict},
}
use Rattle.engine_core.proofs.SpareLemmas.{all_used, complete_used, none_spare}
use Rattle.split_core.specs.Alike.{AreAlike, as_if}
use Rattle.ports_core.specs.declared.fault.Fault.TheVariants as fault_is

-- Inputs that are alike

pub same_alike : (work : Work) (x : List ℕ) → AreAlike work x x
same_alike work x = search rules

-- What follows doesn't matter: nothing, or more

module _ {work : Work} {x z : List ℕ} (alike : AreAlike work x z) where
  pub settled_as : work.settled x ≡ work.settled z
  settled_as = cc (append-nil x, append-nil z, alike.settled [])

  pub whole_as : work.whole x ≡ work.whole z
  whole_as = cc (append-nil x, append-nil z, alike.whole [])

  pub waiting_as : work.waiting x ≡ work.waiting z
  waiting_as = cc (append-nil x, append-nil z, alike.waiting [])

  pub complete_as : work.is_complete x ≡ work.is_complete z
  complete_as = cc (append-nil x, append-nil z, alike.complete [])

  pub verdict_as : work.verdict x ≡ work.verdict z
  verdict_as = cc (append-nil x, append-nil z, alike.verdict [])

  pub unused_as : {n : ℕ} → IsSpare work z n → IsSpare work x n
  unused_as {n} spare = rw (append-nil x) at ((alike.unused [] n).1 (rw (append-nil z) spare))

pub alike_more : {work : Work} {x z : List ℕ} → AreAlike work x z → (piece : List ℕ)
    → AreAlike work (x ++ piece) (z ++ piece)
alike_more {work} {x} {z} alike piece = search (rules, append_assoc, length-append)

-- What isn't used of inputs that are alike, if neither beginning completes the output

-- two beginnings of one text, the longer one split
split_at : (x y u rest : List ℕ) → x ++ y ≡ u ++ rest → length x ≤ length u
    → (u ≡ x ++ drop (length x) u) × (y ≡ drop (length x) u ++ rest)
split_at x y u rest is long = (
  cc (take-append-drop (length x) u, take_at x y (length x) refl, take-append-le (length x) u rest long),
  cc (drop-append_seam x y, drop-append-le (length x) u rest long),
)

module _ (work : Work) (lawful : IsLawful work) (x z : List ℕ) (going : work.is_complete z ≡ false)
    (same : (y : List ℕ) → work.is_complete (x ++ y) ≡ work.is_complete (z ++ y)) where
  -- what completes the output is longer
  longer : (u rest y : List ℕ) → z ++ y ≡ u ++ rest → work.is_complete u ≡ true → length z < length u
  longer u rest y is complete = elim (cases_lt (length z) (length u)) [
    | inl less ↦ less
    | inr short ↦ absurd (cc ((split_at u rest z y (sym is) short).0, (lawful.stays u (drop (length u) z) complete).still))
  ]

  needed_so : (u v : List ℕ) → u ≡ z ++ v → length z < length u → IsNeeded work.is_complete 1 u
      → IsNeeded work.is_complete 1 (x ++ v)
  needed_so u v all less (inl none) = absurd (omega (arith, ap length none))
  needed_so u v all less (inr (before, piece, joined, few, open_yet)) =
      let (front, rest_is) = split_at z v before piece (sym all ∙ joined)
      (omega (arith, ap length joined, length-append before piece)) in
      let b = drop (length z) before in inr (x ++ b, piece, cc (append_assoc x b piece), few, cc (same b))

  pub spare_so : (y : List ℕ) (n : ℕ) → IsSpare work (z ++ y) n → IsSpare work (x ++ y) n
  spare_so y n spare = elim (cases_Bool (work.is_complete (z ++ y))) [
    | inl complete ↦
        let done = complete_used work (z ++ y) n spare complete in
        let less = longer spare.used spare.rest y spare.joined done in
        let (all, rest_is) = split_at z y spare.used spare.rest spare.joined (omega arith) in
        let v = drop (length z) spare.used in record {
          used = x ++ v;
          rest = spare.rest;
          joined = cc (append_assoc x v spare.rest);
          long = spare.long;
          needed = needed_so spare.used v all less spare.needed;
          enough = inr (cc (same v));
        }
    | inr is ↦ rw (none_spare work (z ++ y) n lawful is spare) (all_used work (x ++ y) (same y ∙ is))
  ]

-- What a stage owes

module _ {S : Type 0} (terms : Terms S) where
  pub holds_itself : {stage : S} {x : List ℕ} → terms.Holds stage x → (as_if terms).Holds stage x
  holds_itself {stage} {x} is = record { other = x; alike = same_alike _ x; holds = is }

  -- a call that takes in a piece
  takes_in : {piece : List ℕ} {old new : S} → terms.work new ≡ terms.work old → TakesIn terms.Holds piece old new
      → TakesIn (as_if terms).Holds piece old new
  takes_in {piece} same takes x is = grind (arith, common_steps, alike_more)

  stands_so : {old : S} {visible : Bool} {start before : List Slot} {x : List ℕ}
      → (at : StandsAt (as_if terms) old visible start x before)
      → StandsAt terms old visible start at.holds.other before
  stands_so at = grind (arith, common_steps, settled_as)

  puts_out : {old : S} {visible : Bool} {before after : List Slot} {due : List ℕ → Written}
      → ((x z : List ℕ) → AreAlike (terms.work old) x z → due x ≡ due z)
      → PutsOut terms old due (effect visible before after)
      → PutsOut (as_if terms) old due (effect visible before after)
  puts_out same puts start x at = rw (same x at.holds.other at.holds.alike) (puts start at.holds.other (stands_so at))

  cuts_off : {old : S} {visible : Bool} {before after : List Slot} {why : Fault} {due : List ℕ → Written}
      → ((x z : List ℕ) → AreAlike (terms.work old) x z → due x ≡ due z)
      → CutsOff terms old due (effect visible before after) why
      → CutsOff (as_if terms) old due (effect visible before after) why
  cuts_off same cuts start x at = rw (settled_as at.holds.alike, same x at.holds.other at.holds.alike)
      (cuts start at.holds.other (stands_so at))

  -- faults have the same causes
  met_so : (means : Means) (needs : Needs) (Lacks : Type 0) {Ends Or : Verdict → Type 0} (old new : List Slot)
      (why : Fault) → ((verdict : Verdict) → Ends verdict → Or verdict) → IsMet means needs Lacks Ends old new why
      → IsMet means needs Lacks Or old new why
  met_so means needs Lacks old new Memory or met = met
  met_so means needs Lacks old new (Write slot) or met = met
  met_so means needs Lacks old new (Open slot) or met = met
  met_so means needs Lacks old new (fault_is.Verdict verdict) or met = or verdict met
  met_so means needs Lacks old new why or met = absurd met

  ends_there : {stage : S} (verdict : Verdict) → EndsThere terms stage verdict → EndsThere (as_if terms) stage verdict
  ends_there {stage} verdict ends x is = verdict_as is.alike ∙ ends is.other is.holds

  pub passes_as_if : {visible : Bool} {piece : List ℕ} {old new : S} {before after : List Slot}
      (result : Result (Unit {0}) Fault)
      → Passes terms piece old new (effect visible before after) (IsMetWith terms piece old) result
      → Passes (as_if terms) piece old new (effect visible before after) (IsMetWith (as_if terms) piece old) result
  passes_as_if {piece = piece} {old} (Ok done) passes = let outputs = puts_out (λ x z alike. alike.settled piece) passes.outputs in
      grind (arith, takes_in)
  passes_as_if {piece = piece} {old} (Err why) passes = let cut = cuts_off (λ x z alike. alike.settled piece) passes.cut in grind arith

  pub finishes_as_if : {visible : Bool} {old new : S} {before after : List Slot} (result : Result (Unit {0}) Fault)
      → Finishes terms old new (effect visible before after) (IsMetThere terms old) result
      → Finishes (as_if terms) old new (effect visible before after) (IsMetThere (as_if terms) old) result
  finishes_as_if {old = old} (Ok done) ends = let outputs = puts_out (λ x z alike. whole_as alike) ends.outputs in grind (arith, verdict_as)
  finishes_as_if {old = old} {before = before} {after} (Err why) ends = let cut = cuts_off (λ x z alike. whole_as alike) ends.cut in
      let met = met_so (terms.work old).means (terms.work old).means.closing (Unit {0}) before after why ends_there ends.met in search rules

  -- A front that was passed over is alike to one that it stands after.
  pub took_as : {before after : S} {x z : List ℕ} → AreAlike (terms.work before) x z → TookIn terms before after z
      → TookIn (as_if terms) before after x
  took_as {before} {after} {x} {z} alike took = grind (arith, common_steps, settled_as, complete_as, nil_from_length)
