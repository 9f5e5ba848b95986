-- What can be asked of `split` is a statement with at most one proof.
use Rattle.std.specs.Coded.{×_prop, le_prop}
use Rattle.seg_core.specs.declared.cut.{
  Cut.TheVariants.{Parts, Round},
  Way.{Way, TheVariants.{Cut, Chunk, Chunks, Turn}},
}
use Rattle.words_core.specs.SplitWords.{SplitAsked, CanSplit, IsInLimits}

limits_prop : (way : Way) → IsProp (IsInLimits way)
limits_prop (Cut (Parts limit)) = le_prop
limits_prop (Cut (Round n delim)) = ×_prop le_prop le_prop
limits_prop (Chunks chunks) = ×_prop le_prop le_prop
limits_prop (Chunk place chunks) = ×_prop (×_prop le_prop le_prop) le_prop
limits_prop (Turn place n delim) = ×_prop (×_prop le_prop le_prop) le_prop

pub CanSplit-prop : (asked : SplitAsked) → IsProp (CanSplit asked)
CanSplit-prop asked = hlevel (limits_prop asked.way, le_prop)
