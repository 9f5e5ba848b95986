-- What private calls say of what files get.
use Rattle.std.specs.Prelude.{◌≡◌, List, [], ◌∷◌, ◌⊎◌}
use Rattle.engine_core.specs.{Draft.Share, Written.IsBeginning}
use Rattle.ports_core.specs.Slot.{MayBecome}

-- Each share begins the share at its place in the other list, which may have more shares. A share whose file is open
-- is open or closed there. Any other share is the same in both.
abbrev pub SharesBegin : List Share → List Share → Type 0
SharesBegin [] wholes = Unit {0}
SharesBegin (share ∷ shares) [] = ⊥
SharesBegin (share ∷ shares) (whole ∷ wholes) = (MayBecome share.state whole.state ⊎ (share ≡ whole))
    × IsBeginning share.bytes whole.bytes × SharesBegin shares wholes
