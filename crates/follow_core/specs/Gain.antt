-- What each entry adds to the text of a name, by the entry before it.
use Rattle.std.specs.Prelude.{ℕ, List, [], ◌∷◌, ◌++◌, length, drop, if◌then◌else◌}
use Rattle.follow_core.specs.{Version.{Entry, version, gap}, Run.goes_on}

abbrev pub gain_between : Entry → Entry → List ℕ
gain_between (version v) (version w) = if goes_on v w then drop (length v.contents) w.contents else w.contents
gain_between (version v) gap = []
gain_between gap (version w) = w.contents
gain_between gap gap = []

abbrev pub gains_later : Entry → List Entry → List ℕ
gains_later last [] = []
gains_later last (entry ∷ entries) = gain_between last entry ++ gains_later entry entries

-- what the entry of the first look adds
abbrev pub started : (List ℕ → List ℕ) → Entry → List ℕ
started start (version v) = start v.contents
started start gap = []

abbrev pub last_from : Entry → List Entry → Entry
last_from entry [] = entry
last_from entry (next ∷ entries) = last_from next entries

-- what entries add after the entries before them; if there are none before, the first entry is that of the first look
abbrev pub gains_after : (List ℕ → List ℕ) → List Entry → List Entry → List ℕ
gains_after start [] [] = []
gains_after start [] (entry ∷ entries) = started start entry ++ gains_later entry entries
gains_after start (entry ∷ before) entries = gains_later (last_from entry before) entries
