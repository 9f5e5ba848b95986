-- Lemmas on what an engine takes in without a read.
use Rattle.std.proofs.{lemmas.Grind.common_steps, Common.{◌≡◌, ℕ, Bool, List, [], arith}}
use Rattle.ports_core.specs.{Source.Source, Inputs.PassesOver}
use Rattle.engine_core.specs.Engine.{Terms, TookIn}
use Rattle.ports_core.proofs.InputsLemmas.{passes_none}

-- a stage that takes in nothing stays as it was

module _ {S : Type 0} (terms : Terms S) where
  pub loads_none : (visible : Bool) {slot : ℕ} {stage : S} {sources : List Source} → terms.Holds stage []
      → terms.size stage ≡ 0
      → PassesOver visible slot 0 (TookIn terms stage stage) sources sources
  loads_none visible fresh none = passes_none _ _ (grind arith)

  -- a stage stays as it was if no byte was passed over
  pub loads_still : {visible : Bool} {slot : ℕ} {Before : List ℕ → Type 0} {stage : S} {old new : List Source}
      → terms.Holds stage []
      → terms.size stage ≡ 0 → PassesOver visible slot 0 Before old new
      → PassesOver visible slot 0 (TookIn terms stage stage) old new
  loads_still fresh none passes = grind (arith, common_steps)
