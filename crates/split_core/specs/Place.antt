-- Where the bytes of an input go: into files, of which the first has place 1 among the outputs.
use Rattle.std.specs.Prelude.{ℕ, ◌+◌, ◌%◌, nat_lt, ◌&&◌, List, [], ◌∷◌, length, take, if◌then◌else◌}
use Rattle.seg_core.specs.{Line.{lines_of, delimiters}, declared.cut.Cut.{Cut, TheVariants.{Parts, Round}}}
use Rattle.ports_core.specs.Name.{Naming, has_name}
use Rattle.engine_core.specs.{Work.Work, Agreed.{Spot, spot, spots_from, file_bytes}}
use Rattle.split_core.specs.{Parts.dealt, Split.{Plan, whole_by}}

-- the file to which the line of byte i is dealt; bytes and files are counted from 0
abbrev pub dealt_to : ℕ → ℕ → List ℕ → ℕ → ℕ
dealt_to delim n x i = delimiters delim (take i x) % n

-- byte i goes to its file, after what the file has of the bytes before, if the file has a name
abbrev pub dealt_spots : ℕ → ℕ → Naming → List ℕ → ℕ → List Spot
dealt_spots delim n names x i =
    if nat_lt i (length x) && has_name names (dealt_to delim n x i)
    then spot (dealt_to delim n x i + 1) (length
    (dealt n (dealt_to delim n x i) 0 (lines_of delim (take i x)))) ∷ [] else []

-- where byte i goes; parts that follow one another are the text, as far as there are names
abbrev pub spots_by : Cut → Plan → List ℕ → ℕ → List Spot
spots_by (Parts limit) plan x i = spots_from 1 (file_bytes (whole_by plan x)) i
spots_by (Round n delim) plan x i = dealt_spots delim n plan.filing.names x i

-- a work whose whole has nothing on standard output
abbrev pub beside_output : Work → Work
beside_output work = record work { whole = λ x. record (work.whole x) { out = [] } }

abbrev pub split_spots : Plan → List ℕ → ℕ → List Spot
split_spots plan x i = spots_by plan.cut plan x i
