-- What all continuations agree on, of a copied input.
use Rattle.std.proofs.{
  lemmas.{Grind.common_steps, Bool.{cond_both, lt-ltb}},
  Common.{◌≡◌, ℕ, ◌+◌, ◌<◌, ◌≤◌, zero, suc, List, [], ◌∷◌, ◌++◌, length, map, get_or, Bool, inl, inr, refl, sym},
  Common.{◌∙◌, ap, arith},
}
use Rattle.engine_core.{
  specs.Agreed.{file_bytes, IsAgreed, IsUndecided, Spot, spot, output_at, GoesTo, ArePlaced},
  specs.Written.{FilesBegin, OutputsAt},
  proofs.AgreedLemmas.{agreed_now, same_spots},
}
use Rattle.ports_core.{
  specs.Slot.{streams, opened, adds, closes, visible_of, visible_slot},
  specs.declared.slot.{Mode.Mode, State.{State, TheVariants.{Open, Closed}}},
}
use Rattle.tee_core.specs.{Copy.{copies, copy_in, tee_work, spots_each, tee_spots}, Run.all_copied}

copies_begin : (mode : Mode) (names : List (List ℕ)) (x y : List ℕ)
    → FilesBegin (map (copy_in mode Open x) names) (map (copy_in mode Closed (x ++ y)) names)
copies_begin mode [] x y = tt
copies_begin mode (name ∷ names) x y = grind (arith, common_steps, copies_begin mode names x y)

same_bytes : (mode : Mode) (one other : State) (names : List (List ℕ)) (x : List ℕ)
    → file_bytes (copies mode names one x) ≡ file_bytes (copies mode names other x)
same_bytes mode one other [] x = refl
same_bytes mode one other (name ∷ names) x = cc (same_bytes mode one other names x)

pub tee_agreed : (mode : Mode) (names : List (List ℕ)) (x : List ℕ)
    → IsAgreed (tee_work mode names) x ((tee_work mode names).settled x)
tee_agreed mode names x =
    agreed_now (tee_work mode names) x (λ y. record { out = (y, refl); files = copies_begin mode names x y })
    (cc (same_bytes mode Closed Open names x))

-- a byte that came in goes to all outputs, whatever comes
goes_there : (names : List (List ℕ)) (x y : List ℕ) (i : ℕ) → i < length x
    → tee_spots names (x ++ y) i ≡ spot 0 i ∷ spots_each 1 names i
goes_there names x y i less = grind (arith, common_steps)

pub tee_undecided : (names : List (List ℕ)) (x : List ℕ) → IsUndecided (tee_spots names) x []
tee_undecided names x = same_spots (tee_spots names) (λ i less y z. goes_there names x y i less ∙ sym (goes_there names x z i less))

-- spots are right

each_goes : (place : ℕ) (names : List (List ℕ)) {i : ℕ} (at : Spot) → GoesTo at (spots_each place names i)
    → (at.offset ≡ i) × (place ≤ at.place) × (at.place < place + length names)
each_goes place [] at goes = absurd goes
each_goes place (name ∷ names) at (inl is) = grind (arith, common_steps)
each_goes place (name ∷ names) at (inr goes) = omega (arith, each_goes (place + 1) names at goes)

tee_goes : (names : List (List ℕ)) (x : List ℕ) {i : ℕ} (at : Spot) → GoesTo at (tee_spots names x i)
    → (at.offset ≡ i) × (at.place < 1 + length names)
tee_goes names x at goes = grind (arith, common_steps, cond_both, each_goes)

file_has : (mode : Mode) (names : List (List ℕ)) {x : List ℕ} (place : ℕ) → place < length names
    → get_or (file_bytes (copies mode names Closed x)) place [] ≡ x
file_has mode [] place less = absurd (omega arith)
file_has mode (name ∷ names) zero less = refl
file_has mode (name ∷ names) (suc place) less = file_has mode names place (omega arith)

output_has : (mode : Mode) (names : List (List ℕ)) {x : List ℕ} (place : ℕ) → place < 1 + length names
    → output_at ((tee_work mode names).whole x) place ≡ x
output_has mode names zero less = refl
output_has mode names (suc place) less = file_has mode names place (omega arith)

no_output : (mode : Mode) (names : List (List ℕ)) (x : List ℕ) (place offset : ℕ)
    → offset < length (get_or (file_bytes (copies mode names Closed x)) place [])
    → place < length names
no_output mode [] x place offset less = absurd (omega arith)
no_output mode (name ∷ names) x zero offset less = omega arith
no_output mode (name ∷ names) x (suc place) offset less = (omega (arith, no_output mode names x place offset less))

goes_to_each : (from : ℕ) (names : List (List ℕ)) (i k : ℕ) → k < length names
    → GoesTo (spot (from + k) i) (spots_each from names i)
goes_to_each from [] i k less = absurd (omega arith)
goes_to_each from (name ∷ names) i zero less = grind (arith, common_steps)
goes_to_each from (name ∷ names) i (suc k) less =
    grind (arith, common_steps, goes_to_each (from + 1) names i k (omega arith))

tee_filled : (mode : Mode) (names : List (List ℕ)) (x : List ℕ) (place offset : ℕ)
    → offset < length (output_at ((tee_work mode names).whole x) place)
    → (i : ℕ) × (i < length x) × GoesTo (spot place offset) (tee_spots names x i)
tee_filled mode names x zero offset less = (offset, less, rw (lt-ltb offset (length x) less) (inl refl))
tee_filled mode names x (suc place) offset less =
    let there = no_output mode names x place offset less in
    let within : offset < length x = rw (file_has mode names place there) at less in (
      offset,
      within,
      rw (lt-ltb offset (length x) within) (inr (rw (let e : 1 + place ≡ suc place = omega arith in e) at (goes_to_each 1 names offset place there))),
    )

pub tee_placed : (mode : Mode) (names : List (List ℕ)) → ArePlaced (tee_work mode names) (tee_spots names)
tee_placed mode names = record {
  stands = λ x i at less goes. (let one = tee_goes names x at goes in let has = output_has mode names at.place one.1 in
      (rw has (omega arith), ap (λ those. get_or those at.offset 0) has ∙ ap (λ k. get_or x k 0) one.0));
  filled = λ x at less. tee_filled mode names x at.place at.offset less;
  order = λ x i j one other same goes also. grind (arith, tee_goes);
}

-- the outputs of a run in which nothing breaks

copied_files : (visible : Bool) (mode : Mode) (names : List (List ℕ)) (x : List ℕ)
    → map (λ name. closes (adds (visible_of visible x) (opened name mode))) names
    ≡ map (visible_slot visible) (map (copy_in mode Closed x) names)
copied_files visible mode [] x = refl
copied_files visible mode (name ∷ names) x = cc (copied_files visible mode names x)

pub copied_whole : (visible : Bool) (mode : Mode) (names : List (List ℕ)) (x : List ℕ)
    → OutputsAt visible streams ((tee_work mode names).whole x) (all_copied visible mode names x)
copied_whole visible mode names x = grind (arith, common_steps, copied_files)
