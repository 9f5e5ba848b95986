-- What the laws of chunks say of the end.
use Rattle.std.specs.Prelude.{◌≡◌, ℕ, ◌<◌, true, false, List, [], ◌++◌, get_or, Option}
use Rattle.seg_core.specs.declared.cut.Way.{Way}
use Rattle.engine_core.specs.{Agreed.file_bytes, Written.only_out, Work.Work}
use Rattle.split_core.specs.{
  ChunkAgreed.{CanFollow, TwoDiffer},
  ChunkWork.{ChunksPlan, way_work},
  Split.{Filing, are_named},
}

-- if each chunk has a name, and there is one chunk at least, this is true
abbrev pub IfNamed : ChunksPlan → Type 0 → Type 0
IfNamed plan A = 0 < plan.chunks.count → are_named plan.filing.names plan.chunks.count ≡ true → A

-- of any input, `one` writes to standard output what `all` writes to the file at this place, empty files counted
abbrev pub WritesFile : (place : ℕ) → Filing → (one all : Way) → Type 0
WritesFile place filing one all = (said : Option ℕ) (x : List ℕ) → (way_work one false filing said).whole x
    ≡ only_out (get_or (file_bytes ((way_work all false filing said).whole x)) place [])

-- whatever follows x, the same is written at the end
abbrev pub EndAlike : Work → List ℕ → Type 0
EndAlike work x = (y z : List ℕ) → work.whole (x ++ y) ≡ work.whole (x ++ z)

-- two continuations of x write different things at the end
abbrev pub TwoEndApart : (said : Option ℕ) → Work → List ℕ → Type 0
TwoEndApart said work x = TwoDiffer (CanFollow said x) (λ y. work.whole (x ++ y))
