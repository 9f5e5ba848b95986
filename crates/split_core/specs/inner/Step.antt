-- What the next bytes of a piece do to the part that was begun, and to what is left after the full parts.
use Rattle.std.specs.Prelude.{◌≡◌, ℕ, ◌+◌, ◌-◌, ◌<◌, ◌≤◌, Bool, true, false, List, [], ◌++◌, length, take, drop}
use Rattle.seg_core.specs.{declared.cut.Limit.Limit, Cut.most}
use Rattle.split_core.specs.{
  declared.step.Step.{Step, TheVariants.{Goes, Ends, Begins, Waits}},
  Parts.{is_full, first_part, settled_rest, waiting_rest},
  PartsState.Lacks,
}

-- what waits fits into a part
pub record Fits (limit : Limit) (left : ℕ) (has_line : Bool) (waiting : List ℕ) : Type 0 where
  pub some : 0 < left
  pub within : length waiting + left ≤ most limit
  pub after_line : has_line ≡ true → length waiting + left < most limit

-- the numbers of a step are within the piece, and less is missing after it
abbrev pub IsWithin : ℕ → Bool → List ℕ → Step → Type 0
IsWithin left has_line piece (Goes bytes less has) = (0 < bytes) × (bytes ≤ length piece) × (0 < less) × (less ≤ left)
    × (has ≡ true → less < left)
IsWithin left has_line piece (Ends end bytes) = (0 < end) × (end ≤ bytes) × (bytes ≤ length piece)
    × (bytes < left + end)
IsWithin left has_line piece (Begins bytes) = (0 < bytes) × (bytes ≤ length piece) × (bytes ≤ left) × (has_line ≡ true)
IsWithin left has_line piece Waits = (length piece < left) × (has_line ≡ true)

-- all of this text is settled, and it has no full part
pub record IsBegun (limit : Limit) (text : List ℕ) (left : ℕ) (has_line : Bool) : Type 0 where
  pub short : is_full limit text ≡ false
  pub settled : settled_rest limit text ≡ text
  pub waits : waiting_rest limit text ≡ []
  pub lacks : Lacks limit text left has_line

-- the first part of the text is full, and the next has begun
pub record IsTurned (limit : Limit) (text first next : List ℕ) : Type 0 where
  pub full : is_full limit text ≡ true
  pub first_is : first_part limit text ≡ first
  pub both : text ≡ first ++ next
  pub begun : IsBegun limit next (most limit - length next) false

-- the piece settles nothing, and all of it waits
pub record IsHeld (limit : Limit) (rest piece : List ℕ) (left : ℕ) (has_line : Bool) : Type 0 where
  pub short : is_full limit (rest ++ piece) ≡ false
  pub settled : settled_rest limit (rest ++ piece) ≡ settled_rest limit rest
  pub waits : waiting_rest limit (rest ++ piece) ≡ waiting_rest limit rest ++ piece
  pub lacks : Lacks limit (rest ++ piece) (left - length piece) has_line

abbrev pub Leads : Limit → List ℕ → ℕ → Bool → List ℕ → Step → Type 0
Leads limit rest left has_line piece (Goes bytes less has) = IsBegun limit (rest ++ take bytes piece) less has
Leads limit rest left has_line piece (Ends end bytes) =
    IsTurned limit (rest ++ take bytes piece) (rest ++ take end piece) (drop end (take bytes piece))
Leads limit rest left has_line piece (Begins bytes) =
    IsTurned limit (rest ++ take bytes piece) (settled_rest limit rest) (waiting_rest limit rest ++ take bytes piece)
Leads limit rest left has_line piece Waits = IsHeld limit rest piece left has_line
