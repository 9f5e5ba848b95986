use Rattle.std.proofs.{Common.{◌≡◌, ℕ, List, ◌++◌, length, Bool, true, false, ◌⊎◌, inl, inr, refl, ap, subst}}
use Rattle.ports_core.specs.{
  Slot.Slot,
  declared.{fault.Fault.{Fault, TheVariants.{Memory, Write, Open, TooLong}}, verdict.Verdict.Verdict},
}
use Rattle.engine_core.specs.{
  Work.{Means, on_output},
  Engine.{EndsWith, IsCaused, IsMet, over, long, met},
  EngineState.{EngineState, HoldsIn, IsRefusedWith},
}
use Rattle.ends_core.{
  specs.{declared.ends.Portion.Portion, Stage.{Holds, count_of, delim_of, terms, keeps, may_lack, stretch_of, unit_of}},
  proofs.EndsLemmas.{none_settled, on_means},
}
use Rattle.ports_core.specs.declared.fault.Fault.TheVariants as fault_is
use Rattle.ends_core.proofs.laws.full_windows_lack_nothing.Goals as goal

-- a stage that writes to standard output alone, lacks no memory and has no fault of its own
only_writes : (memory : Bool) {lacks : Bool} (Ends : Verdict → Type 0) (old new : List Slot) (fault : Fault)
    → lacks ≡ false → ((verdict : Verdict) → Ends verdict → ⊥)
    → IsMet (on_output memory) (on_output memory).feeding (lacks ≡ true) Ends old new fault
    → (fault ≡ Write 0) ⊎ (fault ≡ TooLong)
only_writes memory Ends old new Memory enough well cause = absurd (cc)
only_writes memory Ends old new (Write _) enough well cause = inl (ap Write (cause.1 refl))
only_writes memory Ends old new (Open _) enough well cause = absurd (cc)
only_writes memory Ends old new (fault_is.Verdict verdict) enough well cause = absurd (well verdict cause)
only_writes memory Ends old new fault enough well cause = absurd cause

only_these : (memory : Bool) {lacks is_over : Bool} (Ends : Verdict → Type 0) {fed size : ℕ} {old new : List Slot}
    {fault : Fault} → is_over ≡ false → lacks ≡ false → ((verdict : Verdict) → Ends verdict → ⊥)
    → IsCaused
    (IsMet (on_output memory) (on_output memory).feeding (lacks ≡ true) Ends old new) is_over fed size old new fault
    → (fault ≡ Write 0) ⊎ (fault ≡ TooLong)
only_these memory Ends live enough well (over ended _) = absurd (cc)
only_these memory Ends live enough well (long _ _ _) = inr refl
only_these memory Ends {old} {new} live enough well (met fault _ cause) =
    only_writes memory Ends old new fault enough well cause

fails : (engine : EngineState Portion) (x piece : List ℕ) (old new : List Slot) (fault : Fault) → HoldsIn Holds engine x
    → may_lack engine.stage ≡ false
    → IsRefusedWith terms piece engine old new fault → (fault ≡ Write 0) ⊎ (fault ≡ TooLong)
fails engine x piece old new fault holds enough refused =
    let s = stretch_of engine.stage in
    only_these (keeps s) (EndsWith terms piece engine.stage) holds.live enough
    (λ verdict ends. none_settled engine.stage (x ++ piece) (ends x holds.within))
    (subst (λ (means : Means). IsCaused (IsMet means means.feeding (may_lack engine.stage ≡ true) (EndsWith terms piece engine.stage) old new) engine.is_over engine.fed (length piece) old new fault)
    (on_means s (delim_of engine.stage) (unit_of engine.stage) (count_of engine.stage)) refused)

pub returns-clause-fails : goal.returns-clause-fails
returns-clause-fails c = fails
