-- What private calls say of looks that are placed among edits.
use Rattle.std.specs.Prelude.{Bool, List, [], map}
use Rattle.watch_core.specs.Edits.{Edit, snapshots_of}
use Rattle.follow_core.specs.Look.{Look}

-- a look after each of these lists of edits, without a call that fails
abbrev pub looks_after : (forgives : Bool) → List (List Edit) → List Look
looks_after forgives looks = map (λ snapshot. record { snapshot = snapshot; visits = [] }) (snapshots_of forgives looks)
