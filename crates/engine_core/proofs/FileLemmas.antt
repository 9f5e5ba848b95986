-- How the files of a part change, as outputs after the streams are opened, written and closed.
use Rattle.std.proofs.{
  lemmas.Grind.common_steps,
  Common.{◌≡◌, ℕ, ◌+◌, zero, suc, List, [], ◌∷◌, ◌++◌, length, map, Bool, true, false, refl, ◌∙◌, ap, arith},
  Common.length-append,
}
use Rattle.ports_core.{
  specs.declared.slot.Mode.Mode,
  specs.Slot.{Slot, changed_at, opened, adds, visible_of, visible_slot},
  proofs.{SlotLemmas.{length-changed_at, changed_after}, WriteLemmas.{visible_of-append, visible_of-nil}},
}
use Rattle.engine_core.{specs.Written.{Written, OutputsAt}, proofs.WrittenLemmas.outputs_count}

abbrev pub with_files : Written → List Slot → Written
with_files part files = record part { files = files }

-- one more file was opened
pub file_more : (visible : Bool) (before : List Slot) (part : Written) (old new : List Slot) (name : List ℕ)
    (mode : Mode)
    → OutputsAt visible before part old → new ≡ old ++ opened name mode ∷ []
    → OutputsAt visible before (with_files part (part.files ++ opened name mode ∷ [])) new
file_more visible before part old new name mode at is = grind (arith, common_steps, visible_of-nil)

-- a change of what is visible of a file is visible of this change of the file
abbrev pub Makes : Bool → (Slot → Slot) → (Slot → Slot) → Type 0
Makes visible change makes = (file : Slot) → change (visible_slot visible file) ≡ visible_slot visible (makes file)

files_change : (visible : Bool) (change makes : Slot → Slot) → Makes visible change makes
    → (place : ℕ) (files : List Slot)
    → changed_at place change (map (visible_slot visible) files)
    ≡ map (visible_slot visible) (changed_at place makes files)
files_change visible change makes fits place [] = refl
files_change visible change makes fits zero (file ∷ files) = grind (arith, fits)
files_change visible change makes fits (suc place) (file ∷ files) =
    grind (arith, files_change visible change makes fits place files)

-- the file at a place was changed
pub file_changes : (visible : Bool) (change makes : Slot → Slot) → Makes visible change makes
    → (before : List Slot) (part : Written) (old new : List Slot) (place : ℕ) → OutputsAt visible before part old
    → new ≡ changed_at (length before + place) change old
    → OutputsAt visible before (with_files part (changed_at place makes part.files)) new
file_changes visible change makes fits before part old new place at is = grind (arith, length-changed_at, changed_after, files_change)

pub write_makes : (visible : Bool) (bytes : List ℕ) → Makes visible (adds (visible_of visible bytes)) (adds bytes)
write_makes visible bytes file = grind (arith, visible_of-append)

-- a change of the last member of a list
pub changed_last : {X : Type 0} (change : X → X) (xs : List X) (x : X)
    → changed_at (length xs) change (xs ++ x ∷ []) ≡ xs ++ change x ∷ []
changed_last change xs x = grind (arith, changed_after change 0 xs (x ∷ []))

-- the last file was changed; its slot is the last slot
pub last_changes : (visible : Bool) (change makes : Slot → Slot) → Makes visible change makes
    → (before : List Slot) (part : Written) (front : List Slot) (file : Slot) (old new : List Slot) (slot : ℕ)
    → part.files ≡ front ++ file ∷ [] → suc slot ≡ length old → OutputsAt visible before part old
    → new ≡ changed_at slot change old
    → OutputsAt visible before (with_files part (front ++ makes file ∷ [])) new
last_changes visible change makes fits before part front file old new slot files last at is =
    rw (ap (changed_at (length front) makes) files ∙ changed_last _ _ _) at
    (file_changes visible change makes fits before part old new (length front) at (is ∙ ap (λ n. changed_at n change old) place)) where
      place : slot ≡ length before + length front
      place = let all : length old ≡ length before + length part.files = outputs_count _ _ _ _ at in
          omega (arith, ap length files ∙ length-append front (file ∷ []))
