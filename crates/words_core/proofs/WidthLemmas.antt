-- Lemmas on the least width that writes a number of names.
use Rattle.std.proofs.{
  Common.{◌≡◌, ℕ, ◌+◌, ◌-◌, ◌<◌, ◌≤◌, zero, suc, false, arith, refl, ◌∙◌, ap},
  lemmas.{Grind.common_steps, Bool.{cond_both, leb-true}},
}
use Rattle.ports_core.specs.{declared.alphabet.Alphabet.Alphabet, Name.name_count}
use Rattle.words_core.specs.SplitWords.{least_from, names_all}

-- if a width doesn't write all numbers, the next width is tried
pub least_next : (alphabet : Alphabet) (count width : ℕ) → width < 23 → names_all alphabet count width ≡ false
    → least_from alphabet count (23 - width) width ≡ least_from alphabet count (23 - (width + 1)) (width + 1)
least_next alphabet count width few not =
    let more : 23 - width ≡ suc (23 - (width + 1)) = omega arith in
    ap (λ more. least_from alphabet count more width) more ∙ rw not refl

-- the width that is found is at least the first and at most the last
pub least_within : (alphabet : Alphabet) (count more width : ℕ)
    → (width ≤ least_from alphabet count more width) × (least_from alphabet count more width ≤ width + more)
least_within alphabet count zero width = (omega arith, omega arith)
least_within alphabet count (suc more) width = grind (arith, common_steps, least_within alphabet count more (width + 1))

pub least_writes : (alphabet : Alphabet) (count more width : ℕ) → count ≤ name_count alphabet (width + more)
    → count ≤ name_count alphabet (least_from alphabet count more width)
least_writes alphabet count zero width last = rw (let same : width + 0 ≡ width = omega arith in same) at last
least_writes alphabet count (suc more) width last =
    cond_both (names_all alphabet count width) width (least_from alphabet count more (width + 1))
    (λ found. count ≤ name_count alphabet found)
    (λ is. leb-true _ _ is)
    (λ _. least_writes alphabet count more (width + 1) (rw (let same : width + suc more ≡ width + 1 + more = omega arith in same) at last))
