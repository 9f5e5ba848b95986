-- Lemmas that runs of several tools need.
use Rattle.std.proofs.{
  lemmas.Grind.common_steps,
  Common.{◌≡◌, ℕ, Bool, true, false, if◌then◌else◌, List, [], ◌++◌, refl, arith},
}
use mir.Val.{bool_byte}
use Rattle.ports_core.specs.Slot.{Slot, adds, visible_of}

pub as_status : (failed : Bool) → bool_byte failed ≡ (if failed then 1 else 0)
as_status true = refl
as_status false = refl

pub adds-nil : (visible : Bool) (slot : Slot) → adds (visible_of visible []) slot ≡ slot
adds-nil visible slot = grind (arith, common_steps)

-- bytes and then more bytes are added as one text
pub adds_both : (visible : Bool) (first second : List ℕ) (slot : Slot)
    → adds (visible_of visible second) (adds (visible_of visible first) slot)
    ≡ adds (visible_of visible (first ++ second)) slot
adds_both visible first second slot = grind (arith, common_steps)
