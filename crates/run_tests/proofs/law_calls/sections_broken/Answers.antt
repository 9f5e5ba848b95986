use Rattle.std.proofs.Common.{◌∷◌, [], refl, ap}
use Rattle.std.specs.Prelude.{ℕ, List}
use Rattle.words_core.specs.declared.settings.Settings.TheVariants.{Csplit}
use Rattle.run_tests.proofs.law_calls.sections_broken.Goals as goal

pub returns : goal.returns
returns c asked read only =
    c.left_broken.ensures (Csplit asked) read refl (ap (λ (name : List ℕ). name ∷ []) only) (λ looked. absurd (cc))
