-- What private calls say: parts that follow one another, and what files get of them.
use Rattle.std.specs.Prelude.{◌≡◌, ℕ, List, [], ◌∷◌, true, false, map}
use Rattle.seg_core.specs.declared.cut.Limit.{Limit}
use Rattle.split_core.specs.{
  Parts.{is_full, first_part, after_first, CutUp, parts},
  Split.{Filing, Share, manner_of, share},
}
use Rattle.ports_core.specs.{declared.slot.State.TheVariants.Closed, Slot.Slot}
use Rattle.engine_core.specs.Draft.{files_from}

-- the parts of a text, one after another

pub data Cuts (limit : Limit) : List ℕ → List (List ℕ) → List ℕ → Type 0 where
  stops : (x : List ℕ) → is_full limit x ≡ false → Cuts limit x [] x
  goes : (x : List ℕ) (parts : List (List ℕ)) (rest : List ℕ) → is_full limit x ≡ true
      → Cuts limit (after_first limit x) parts rest → Cuts limit x (first_part limit x ∷ parts) rest

abbrev pub cut_so : List (List ℕ) → List ℕ → CutUp
cut_so parts rest = record { full = parts; rest = rest }

-- the files at the end, all closed
abbrev pub whole_parts : Limit → List ℕ → List Share
whole_parts limit x = map (share Closed) (parts limit x)

-- the files of these shares, named from a place on, as far as there are names
abbrev pub named : Filing → ℕ → List Share → List Slot
named filing place shares = files_from (manner_of filing) place shares
