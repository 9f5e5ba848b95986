-- A change of one input leaves all others as they were, and one that takes bytes leaves it as readable as it was.
use Rattle.std.proofs.{
  Common.{◌≡◌, ℕ, zero, suc, Bool, true, false, Option, List, [], ◌∷◌, ◌++◌, nat_eq, IsTrue, refl, ap, ◌∙◌, sym, arith},
  lemmas.Bool.{false≢true, Decides.nat_tests},
}
use Rattle.ports_core.specs.{
  Slot.changed_at,
  Source.{Source, Content, OpensNothing, broke, no_room, missing, gives, looks, skips, is_readable},
  declared.fault.Fault.Fault,
}

nat_eq-suc : (a b : ℕ) → nat_eq (suc a) (suc b) ≡ nat_eq a b
nat_eq-suc a b = grind (arith, nat_tests)

pub elsewhere : (place other : ℕ) (change : Source → Source) (sources : List Source) → nat_eq other place ≡ false → is_readable (changed_at place change sources) other ≡ is_readable sources other
elsewhere place other change [] differs = refl
elsewhere zero zero change (source ∷ sources) differs = absurd (false≢true (sym differs))
elsewhere zero (suc other) change (source ∷ sources) differs = refl
elsewhere (suc place) zero change (source ∷ sources) differs = refl
elsewhere (suc place) (suc other) change (source ∷ sources) differs = elsewhere place other change sources (sym (nat_eq-suc other place) ∙ differs)

readable_given : (place size n : ℕ) (sources : List Source) → is_readable (changed_at place (gives size n) sources) place ≡ is_readable sources place
readable_given place size n [] = refl
readable_given zero size n (source ∷ sources) = refl
readable_given (suc place) size n (source ∷ sources) = readable_given place size n sources

readable_looked : (place size : ℕ) (sources : List Source) → is_readable (changed_at place (looks size) sources) place ≡ is_readable sources place
readable_looked place size [] = refl
readable_looked zero size (source ∷ sources) = refl
readable_looked (suc place) size (source ∷ sources) = readable_looked place size sources

readable_skipped : (place n : ℕ) (sources : List Source) → is_readable (changed_at place (skips n) sources) place ≡ is_readable sources place
readable_skipped place n [] = refl
readable_skipped zero n (source ∷ sources) = refl
readable_skipped (suc place) n (source ∷ sources) = readable_skipped place n sources

pub others_stay : (place other : ℕ) (change : Source → Source) (old new : List Source) → new ≡ changed_at place change old → nat_eq other place ≡ false → is_readable new other ≡ is_readable old other
others_stay place other change old new is differs = ap (λ (those : List Source). is_readable those other) is ∙ elsewhere place other change old differs

pub still_given : (place size n : ℕ) (old new : List Source) → new ≡ changed_at place (gives size n) old → IsTrue (is_readable old place) → IsTrue (is_readable new place)
still_given place size n old new is can = ap (λ (those : List Source). is_readable those place) is ∙ readable_given place size n old ∙ can

pub still_looked : (place size : ℕ) (old new : List Source) → new ≡ changed_at place (looks size) old → IsTrue (is_readable old place) → IsTrue (is_readable new place)
still_looked place size old new is can = ap (λ (those : List Source). is_readable those place) is ∙ readable_looked place size old ∙ can

pub still_skipped : (place n : ℕ) (old new : List Source) → new ≡ changed_at place (skips n) old → IsTrue (is_readable old place) → IsTrue (is_readable new place)
still_skipped place n old new is can = ap (λ (those : List Source). is_readable those place) is ∙ readable_skipped place n old ∙ can

pub still_passed : (place n : ℕ) (old new : List Source) (could : Bool) → (IsTrue could → new ≡ changed_at place (skips n) old) → (could ≡ false → new ≡ old) → IsTrue (is_readable old place) → IsTrue (is_readable new place)
still_passed place n old new true passed kept can = still_skipped place n old new (passed refl) can
still_passed place n old new false passed kept can = ap (λ (those : List Source). is_readable those place) (kept refl) ∙ can

pub others_passed : (place other n : ℕ) (old new : List Source) (could : Bool) → (IsTrue could → new ≡ changed_at place (skips n) old) → (could ≡ false → new ≡ old) → nat_eq other place ≡ false → is_readable new other ≡ is_readable old other
others_passed place other n old new true passed kept differs = others_stay place other (skips n) old new (passed refl) differs
others_passed place other n old new false passed kept differs = ap (λ (those : List Source). is_readable those other) (kept refl)

readable_front : (old more : List Source) (other : ℕ) → IsTrue (is_readable old other) → IsTrue (is_readable (old ++ more) other)
readable_front [] more other can = absurd (false≢true can)
readable_front (source ∷ old) more zero can = can
readable_front (source ∷ old) more (suc other) can = readable_front old more other can

pub kept_in_vain : (visible : Bool) (laid : ℕ → List ℕ → Option Content) (old new : List Source) (name : List ℕ) (why : Fault) (other : ℕ) → OpensNothing visible laid old new name why → IsTrue (is_readable old other) → IsTrue (is_readable new other)
kept_in_vain visible laid old new name why other (broke slot reason number none is) can =
    ap (λ (those : List Source). is_readable those other) is ∙ readable_front old (missing reason ∷ []) other can
kept_in_vain visible laid old new name why other (no_room is) can = ap (λ (those : List Source). is_readable those other) is ∙ can
