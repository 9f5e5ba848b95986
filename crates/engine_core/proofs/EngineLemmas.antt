-- Lemmas on what all engines share.
use Rattle.std.proofs.{Common.{◌≡◌, ℕ, ◌⊎◌, rules, Bool, false, List, arith, Result, Ok, Err, IfErr, inl, inr, refl}}
use Rattle.ports_core.specs.{Slot.{Effect, Slot, effect}, declared.fault.Fault.{Fault, TheVariants.{Failed, TooLong}}}
use Rattle.engine_core.{
  specs.{Written.{Written, Begins}, Work.IsLawful, Engine.{CutsOff, Terms, Finishes, IsCaused, Passes, cut, met}},
  proofs.WrittenLemmas.stopped_here,
}

-- an engine that refuses a call changes nothing
module _ {S : Type 0} (terms : Terms S) (visible : Bool) (stage : S) (slots : List Slot)
    (lawful : (x : List ℕ) → terms.Holds stage x → IsLawful (terms.work stage)) where
  refused : {fault : Fault} (due : List ℕ → Written) → (fault ≡ TooLong) ⊎ (fault ≡ Failed)
      → ((x : List ℕ) → terms.Holds stage x → Begins ((terms.work stage).settled x)
      (due x)) → CutsOff terms stage due (effect visible slots slots) fault
  refused due (inl is) grows before x at = rw is (cut refl (stopped_here _ _ _ _ _ _ _ _ at.outputs (grows x at.holds) refl tt tt))
  refused due (inr is) grows before x at = rw is (cut refl (stopped_here _ _ _ _ _ _ _ _ at.outputs (grows x at.holds) refl tt tt))

  pub pass_refused : {Met : List Slot → List Slot → Fault → Type 0} {fault : Fault} (piece : List ℕ)
      → (fault ≡ TooLong) ⊎ (fault ≡ Failed) → Met slots slots fault
      → Passes terms piece stage stage (effect visible slots slots) Met (Err fault)
  pass_refused piece is why = record {
    same = refl;
    size = omega arith;
    holds = tt;
    outputs = tt;
    ready = tt;
    owns = λ first own. own;
    there = λ are. are;
    cut = refused _ is (λ x holds. (lawful x holds).grows x piece);
    met = why;
  }

  pub finish_refused : {Met : List Slot → List Slot → Fault → Type 0} → Met slots slots Failed
      → Finishes terms stage stage (effect visible slots slots) Met (Err Failed)
  finish_refused why = record {
    same = refl;
    size = omega arith;
    well = tt;
    outputs = tt;
    writable = tt;
    owns = λ first own. own;
    there = λ are. are;
    cut = refused (terms.work stage).whole (inr refl) (λ x holds. (lawful x holds).ends x);
    met = why;
  }

-- the cause of a stage's fault is a cause of the engine's fault
pub caused : (Met : Fault → Type 0) {is_over : Bool} (fed size : ℕ) (old new : List Slot)
    (result : Result (Unit {0}) Fault) → is_over ≡ false → IfErr result Met
    → IfErr result (IsCaused Met is_over fed size old new)
caused Met fed size old new (Ok u) going why = tt
caused Met fed size old new (Err fault) going why = met fault going why

pub passes_caused : {S : Type 0} {terms : Terms S} {is_over : Bool} {fed size : ℕ} {piece : List ℕ} {stage next : S}
    {outs : Effect} {Met : List Slot → List Slot → Fault → Type 0} {result : Result (Unit {0}) Fault}
    → is_over ≡ false → Passes terms piece stage next outs Met result
    → Passes terms piece stage next outs (λ old new. IsCaused (Met old new) is_over fed size old new) result
passes_caused going passes = search (rules, caused)
