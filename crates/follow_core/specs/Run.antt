-- Sequences of versions of a file, here called runs, and the text that they give.
use Rattle.std.specs.{
  Prelude.{◌≡◌, ℕ, ◌==◌, Bool, true, false, ◌&&◌, nat_le, List, [], ◌∷◌, ◌++◌, length, drop, if◌then◌else◌},
  List.onto_first,
}
use Rattle.engine_core.specs.Written.{IsBeginning}
use Rattle.follow_core.specs.Version.{Version, Entry, version, gap}

-- whether version w goes on from version v: it is the same file, and it didn't get shorter
abbrev pub goes_on : Version → Version → Bool
goes_on v w = (v.file == w.file) && nat_le (length v.contents) (length w.contents)

-- whether the first of these entries goes on from this version
abbrev pub runs_on : Version → List Entry → Bool
runs_on v [] = false
runs_on v (gap ∷ entries) = false
runs_on v (version w ∷ entries) = goes_on v w

-- the runs: the longest stretches of versions without a gap, in which each version goes on from the version before it
abbrev pub runs_of : List Entry → List (List Version)
runs_of [] = []
runs_of (gap ∷ entries) = runs_of entries
runs_of (version v ∷ entries) = if runs_on v entries then onto_first v (runs_of entries) else (v ∷ []) ∷ runs_of entries

abbrev pub first_contents : List Version → List ℕ
first_contents [] = []
first_contents (v ∷ run) = v.contents

abbrev pub last_contents : List Version → List ℕ
last_contents [] = []
last_contents (v ∷ []) = v.contents
last_contents (v ∷ w ∷ run) = last_contents (w ∷ run)

-- the last contents of each run, one after another
abbrev pub whole_text : List (List Version) → List ℕ
whole_text [] = []
whole_text (run ∷ runs) = last_contents run ++ whole_text runs

-- the text of runs, if the first run began at the first look: of it the start part of its first contents and what came
-- after these contents; of each other run its last contents
abbrev pub begun_text : (List ℕ → List ℕ) → List (List Version) → List ℕ
begun_text start [] = []
begun_text start (run ∷ runs) = start (first_contents run) ++ drop (length (first_contents run)) (last_contents run)
    ++ whole_text runs

-- The text of a name. A run that begins at the first look gives its start part and what came later. Any other run gives
-- its last contents. The start part is what the tool writes of a file that isn't followed.
abbrev pub name_text : (List ℕ → List ℕ) → List Entry → List ℕ
name_text start [] = []
name_text start (gap ∷ entries) = whole_text (runs_of entries)
name_text start (version v ∷ entries) = begun_text start (runs_of (version v ∷ entries))

-- if the next version goes on from this version, it begins with the bytes of this version, as after appending
abbrev pub KeptFrom : Version → List Entry → Type 0
KeptFrom v [] = Unit {0}
KeptFrom v (gap ∷ entries) = Unit {0}
KeptFrom v (version w ∷ entries) = goes_on v w ≡ true → IsBeginning v.contents w.contents

abbrev pub AreKept : List Entry → Type 0
AreKept [] = Unit {0}
AreKept (gap ∷ entries) = AreKept entries
AreKept (version v ∷ entries) = KeptFrom v entries × AreKept entries
