-- What was seen of a text: where delimiters stand, and its first line.
use Rattle.std.specs.{
  Prelude.{◌≡◌, ℕ, ◌+◌, ◌≤◌, eqb, List, length, take, drop, map, ◌<◌, ◌∷◌, ◌++◌},
  Simd.Lanes.mask_l,
}
use Rattle.seg_core.specs.Line.{HasNone, lines_of, delimiters}
use Rattle.split_core.specs.declared.complete_lines.Ahead.{Ahead}

-- a bit for each byte, the lowest for the first byte; it is 1 if the byte is the delimiter
abbrev pub delimiter_mask : ℕ → List ℕ → ℕ
delimiter_mask delim bytes = mask_l (map (λ byte. eqb byte delim) bytes)

-- the first bytes have no delimiter, and the mask says which of the bytes after them are delimiters
pub record Sees (delim : ℕ) (x : List ℕ) (ahead : Ahead) : Type 0 where
  pub within : ahead.passed + ahead.width ≤ length x
  pub narrow : ahead.width ≤ 64
  pub none : HasNone delim (take ahead.passed x)
  pub marked : ahead.mask ≡ delimiter_mask delim (take ahead.width (drop ahead.passed x))

pub record IsFirstLine (delim : ℕ) (x line rest : List ℕ) : Type 0 where
  pub whole : x ≡ line ++ rest
  pub first : lines_of delim x ≡ line ∷ lines_of delim rest
  pub counted : delimiters delim x ≡ delimiters delim rest + 1
  pub shorter : length rest < length x
