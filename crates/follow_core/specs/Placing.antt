-- Looks that are placed among edits.
use Rattle.std.specs.Prelude.{◌≡◌, ℕ, Bool, false, List, [], ◌∷◌, ◌++◌, bytes_eq}
use Rattle.watch_core.specs.Edits.{Edit, append, truncate, replace, remove, end, bar, snapshots_of}
use Rattle.follow_core.specs.{Version.{Entry, entries_of}, Run.{name_text, AreKept}}

-- all edits in order, if each list of them is followed by a look
abbrev pub all_edits : List (List Edit) → List Edit
all_edits [] = []
all_edits (edits ∷ looks) = edits ++ all_edits looks

-- none of these edits truncates the file of this name
abbrev pub IsUncut : List ℕ → List Edit → Type 0
IsUncut name [] = Unit {0}
IsUncut name (append other bytes ∷ edits) = IsUncut name edits
IsUncut name (truncate other n ∷ edits) = (bytes_eq name other ≡ false) × IsUncut name edits
IsUncut name (replace other bytes ∷ edits) = IsUncut name edits
IsUncut name (remove other ∷ edits) = IsUncut name edits
IsUncut name (end process ∷ edits) = IsUncut name edits
IsUncut name (bar other is ∷ edits) = IsUncut name edits

-- One look after these edits sees all that they do. A truncation, a replacement or a removal is the last of them, and
-- no file is truncated after it was appended to. If looks forgive, a bar is the last of them, too, since a name comes
-- and goes with it.
abbrev pub AreSeen : (forgives : Bool) → List Edit → Type 0
AreSeen forgives [] = Unit {0}
AreSeen forgives (edit ∷ []) = Unit {0}
AreSeen forgives (append name bytes ∷ next ∷ edits) = IsUncut name (next ∷ edits) × AreSeen forgives (next ∷ edits)
AreSeen forgives (truncate name n ∷ next ∷ edits) = ⊥
AreSeen forgives (replace name bytes ∷ next ∷ edits) = ⊥
AreSeen forgives (remove name ∷ next ∷ edits) = ⊥
AreSeen forgives (end process ∷ next ∷ edits) = AreSeen forgives (next ∷ edits)
AreSeen forgives (bar name is ∷ next ∷ edits) = (forgives ≡ false) × AreSeen forgives (next ∷ edits)

abbrev pub AllSeen : (forgives : Bool) → List (List Edit) → Type 0
AllSeen forgives [] = Unit {0}
AllSeen forgives (edits ∷ looks) = AreSeen forgives edits × AllSeen forgives looks

-- the entries of a name, if the first look comes after the first edits, and one look after each further list of edits
abbrev pub entries_among : (forgives by_name : Bool) → List ℕ → List Edit → List (List Edit) → List Entry
entries_among forgives by_name name first looks = entries_of by_name name (snapshots_of forgives (first ∷ looks))

-- Two placings of looks among the same edits, with the first look after the same edits, give the same text of a name,
-- if each look sees all that the edits do, and files that are appended to keep their bytes.
abbrev pub Agree : (forgives : Bool) → (List ℕ → List ℕ) → (by_name : Bool) → List ℕ → List Edit
    → (one other : List (List Edit)) → Type 0
Agree forgives start by_name name first one other = AllSeen forgives one → AllSeen forgives other
    → all_edits one ≡ all_edits other
    → AreKept (entries_among forgives by_name name first one)
    → AreKept (entries_among forgives by_name name first other)
    → name_text start (entries_among forgives by_name name first one)
    ≡ name_text start (entries_among forgives by_name name first other)
