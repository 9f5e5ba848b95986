-- Inputs that a tool's work can't tell apart.
use Rattle.std.specs.Prelude.{◌≡◌, ℕ, ◌↔◌, List, ◌++◌, length}
use Rattle.engine_core.specs.{Work.{Work, IsSpare}, Engine.Terms}

-- Two beginnings of an input: whatever follows, the work makes the same of both.
pub record AreAlike (work : Work) (x z : List ℕ) : Type 0 where
  pub long : length x ≡ length z
  pub settled : (y : List ℕ) → work.settled (x ++ y) ≡ work.settled (z ++ y)
  pub whole : (y : List ℕ) → work.whole (x ++ y) ≡ work.whole (z ++ y)
  pub waiting : (y : List ℕ) → work.waiting (x ++ y) ≡ work.waiting (z ++ y)
  pub complete : (y : List ℕ) → work.is_complete (x ++ y) ≡ work.is_complete (z ++ y)
  pub verdict : (y : List ℕ) → work.verdict (x ++ y) ≡ work.verdict (z ++ y)
  pub unused : (y : List ℕ) (n : ℕ) → IsSpare work (x ++ y) n ↔ IsSpare work (z ++ y) n

-- `Holds` is true of x, or of other bytes that the work can't tell from x
pub record AsIf (work : Work) (Holds : List ℕ → Type 0) (x : List ℕ) : Type 0 where
  pub other : List ℕ
  pub alike : AreAlike work x other
  pub holds : Holds other

-- the terms of a stage that may have been fed other bytes that are alike
abbrev pub as_if : {S : Type 0} → Terms S → Terms S
as_if terms = record terms { Holds = λ stage. AsIf (terms.work stage) (terms.Holds stage) }
