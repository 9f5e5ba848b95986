-- How an input is cut into files.
use Rattle.std.specs.Prelude.{ℕ, ◌<◌}
use Rattle.seg_core.specs.declared.cut.{
  Cut.{Cut, TheVariants.{Parts, Round}},
  Limit.{Limit, TheVariants.{Lines, Bytes, LineBytes}},
  Way.Way,
}
use Rattle.seg_core.specs.declared.cut.Way.TheVariants as way

-- how many lines or bytes a part has at the most
abbrev pub most : Limit → ℕ
most (Lines n delim) = n
most (Bytes n) = n
most (LineBytes n delim) = n

-- the number of a cut is at least 1
abbrev pub IsPositive : Cut → Type 0
IsPositive (Parts limit) = 0 < most limit
IsPositive (Round n delim) = 0 < n

-- The number of a cut or of chunks is at least 1. A chunk or file that is asked for alone exists.
abbrev pub IsWay : Way → Type 0
IsWay (way.Cut cut) = IsPositive cut
IsWay (way.Chunks chunks) = 0 < chunks.count
IsWay (way.Chunk place chunks) = place < chunks.count
IsWay (way.Turn place count delim) = place < count
