-- Where the numbers of a code lead without a byte.
use Rattle.std.specs.Prelude.{◌≡◌, ◌⊎◌, ◌↔◌, ℕ, ◌≤◌, Bool, IsTrue, List, length}
use Rattle.scan_core.specs.{
  declared.{node.Node.Node, branch.{Branch.Branch, When.{When, TheVariants.{Never, AtFront, AtEnd, Always}}}},
  inner.Sets.Flows,
}

-- a branch is open at a place of a line; the flags say whether the place is the line's first or its last
abbrev pub Opens : When → (at_first at_last : Bool) → Type 0
Opens Never at_first at_last = ⊥
Opens AtFront at_first at_last = IsTrue at_first
Opens AtEnd at_first at_last = IsTrue at_last
Opens Always at_first at_last = Unit {0}

-- a number leads without a byte exactly where its branch leads
pub record IsBranch (code : List Node) (number : ℕ) (branch : Branch) : Type 0 where
  pub one : branch.one ≤ length code
  pub other : branch.other ≤ length code
  pub exact : (at_first at_last : Bool) (to : ℕ) → Flows code at_first at_last number to
      ↔ (Opens branch.when at_first at_last × ((to ≡ branch.one) ⊎ (to ≡ branch.other)))
