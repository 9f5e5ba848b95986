-- The files of shares, and what standard output gets about them: what begins what, and the last file.
use Rattle.std.proofs.{
  lemmas.{Grind.common_steps, Bool.cond_both, List.length-map},
  Common.{◌≡◌, ℕ, ◌+◌, suc, Bool, true, false, cond, List, [], ◌∷◌, ◌++◌, ◌⊎◌, length, map, inl, inr, refl, subst},
  Common.{arith, append_assoc, rules},
}
use Rattle.engine_core.specs.{
  Draft.{Manner, AreNamed, Share, share, file_at, files_from, told_of_files, told_before, part_with, part_of},
  Draft.{made_of, Draft, shares_of, draft_part, with_bytes, with_next},
  Written.{nothing, Begins, FilesBegin, IsBeginning, Output, gets_lines, gets_openings, lines_for, openings_for},
  InTurn.AllClosed,
  inner.{Written.HasLines, Shares.SharesBegin},
  declared.file_writer.Opening.{Opening, TheVariants.{Never, Late, AtOnce}},
}
use Rattle.ports_core.specs.{Slot.{Slot, MayBecome}, declared.slot.State.{State, TheVariants.{Open, Closed}}}
use Rattle.engine_core.proofs.{
  WrittenLemmas.{begins_itself, begins_more, openings-append, openings_since},
  WrittenSteps.{begun_out, with_last, file_of},
}

-- Shares that begin others

pub shares_after : (front low high : List Share) → SharesBegin low high → SharesBegin (front ++ low) (front ++ high)
shares_after [] low high begins = begins
shares_after (share ∷ front) low high begins = (inr refl, begins_itself _, shares_after front _ _ begins)

pub shares_wider : (low high more : List Share) → SharesBegin low high → SharesBegin low (high ++ more)
shares_wider [] high more begins = tt
shares_wider (share ∷ low) [] more begins = absurd begins
shares_wider (share ∷ low) (whole ∷ high) more begins = (begins.0, begins.1, shares_wider low _ _ begins.2)

-- an open share begins an open or closed share with more bytes
pub made_begin : (opening : Opening) (state : State) (low high : List ℕ) → MayBecome Open state → IsBeginning low high
    → SharesBegin (map (share Open) (made_of opening low)) (map (share state) (made_of opening high))
made_begin Never state low high may begins = tt
made_begin Late state [] high may begins = tt
made_begin Late state (byte ∷ low) [] may (rest, is) = absurd (cc)
made_begin Late state (byte ∷ low) (first ∷ high) may begins = search rules
made_begin AtOnce state low high may begins = search rules

-- The files of shares that begin others begin the files of those shares

files_by : (manner : Manner) (has : Bool) (place : ℕ) (one other : Share) (low high : List Slot)
    → MayBecome one.state other.state ⊎ (one ≡ other) → IsBeginning one.bytes other.bytes → FilesBegin low high
    → FilesBegin (cond has (file_at manner place one ∷ low) []) (cond has (file_at manner place other ∷ high) [])
files_by manner true place one other low high kept first rest = search rules
files_by manner false place one other low high kept first rest = tt

pub files_begin : (manner : Manner) (place : ℕ) (low high : List Share) → SharesBegin low high
    → FilesBegin (files_from manner place low) (files_from manner place high)
files_begin manner place [] high begins = tt
files_begin manner place (share ∷ low) [] begins = absurd begins
files_begin manner place (share ∷ low) (whole ∷ high) begins =
    grind (arith, files_by, files_begin manner (place + 1) _ high begins.2)

-- What standard output gets about files

pub told-append : (output : Output) (a b : List Slot)
    → told_of_files output (a ++ b) ≡ told_of_files output a ++ told_of_files output b
told-append (gets_lines line) [] b = refl
told-append (gets_lines line) (file ∷ a) b =
    grind (arith, append_assoc, told-append (gets_lines line) a b)
told-append (gets_openings line) a b = openings-append _ a b
told-append output a b = refl

pub has_told : (output : Output) (files : List Slot) → HasLines output (told_of_files output files) files
has_told (gets_lines line) files = refl
has_told (gets_openings line) files = refl
has_told output files = tt

-- the part without a file is empty
pub nothing_part : (output : Output) → part_with output [] ≡ nothing
nothing_part (gets_lines line) = refl
nothing_part (gets_openings line) = refl
nothing_part output = refl

pub nothing_told : (output : Output) → HasLines output [] []
nothing_told (gets_lines line) = refl
nothing_told (gets_openings line) = refl
nothing_told output = tt

-- open files have no lines, if lines are for closed files
open_untold : (line : Slot → List ℕ) (manner : Manner) (place : ℕ) (bytes : List (List ℕ))
    → lines_for line (files_from manner place (map (share Open) bytes)) ≡ []
open_untold line manner place [] = refl
open_untold line manner place (one ∷ bytes) =
    grind (arith, cond_both, open_untold line manner (place + 1) bytes)

told_by : (line : Slot → List ℕ) (has : Bool) (file : Slot) (low high : List Slot)
    → IsBeginning (lines_for line low) (lines_for line high)
    → IsBeginning (lines_for line (cond has (file ∷ low) [])) (lines_for line (cond has (file ∷ high) []))
told_by line true file low high begins = grind (arith, common_steps)
told_by line false file low high begins = begins_itself []

-- the lines of files by their names begin the lines of the files that these files begin
pub openings_begin : (line : List ℕ → List ℕ) (low high : List Slot) → FilesBegin low high
    → IsBeginning (openings_for line low) (openings_for line high)
openings_begin line low high begins = (_, openings_since _ _ _ begins)

-- what standard output got only grows as the last shares grow
told_grows : (output : Output) (manner : Manner) (place : ℕ) (front : List Share) (low : List (List ℕ))
    (high : List Share) → SharesBegin (map (share Open) low) high
    → IsBeginning (told_of_files output (files_from manner place (front ++ map (share Open) low)))
    (told_of_files output (files_from manner place (front ++ high)))
told_grows (gets_lines line) manner place [] low high begins = rw (open_untold _ _ place low) (_, refl)
told_grows (gets_lines line) manner place (one ∷ front) low high begins =
    grind (arith, told_by, told_grows (gets_lines line) manner (place + 1) front low high begins)
told_grows (gets_openings line) manner place front low high begins =
    grind (arith, openings_begin, files_begin, shares_after)
told_grows output manner place front low high begins = begins_itself []

-- what is written of shares grows if the last shares are open and go on
pub part_grows : (manner : Manner) (front : List Share) (low : List (List ℕ)) (high : List Share)
    → SharesBegin (map (share Open) low) high
    → Begins (part_of manner (front ++ map (share Open) low)) (part_of manner (front ++ high))
part_grows manner front low high begins = grind (arith, told_grows, files_begin, shares_after)

-- What is written of a draft only grows.

pub bytes_begin : (manner : Manner) (bytes : List ℕ) (draft : Draft)
    → Begins (draft_part manner draft) (draft_part manner (with_bytes bytes draft))
bytes_begin manner bytes draft = search (rules, part_grows, made_begin, begins_more)

pub next_shares : (opening : Opening) (draft : Draft)
    → shares_of (with_next opening draft)
    ≡ map (share Closed) draft.ended
    ++ (map (share Closed) (made_of draft.opening draft.bytes) ++ map (share Open) (made_of opening []))
next_shares opening draft = grind (arith, common_steps)

pub next_begins : (manner : Manner) (opening : Opening) (draft : Draft)
    → Begins (draft_part manner draft) (draft_part manner (with_next opening draft))
next_begins manner opening draft = search (rules, next_shares, part_grows, shares_wider, made_begin, begins_itself)

-- Files that all have names

-- m places after place n + 1 is m + 1 places after place n
pub one_on : (n m : ℕ) → n + suc m ≡ n + 1 + m
one_on n m = omega arith

-- the files of shares are the files of the first shares and those of the others
files_on : (manner : Manner) (place : ℕ) (front rest : List Share) → AreNamed manner (place + length front)
    → files_from manner place (front ++ rest)
    ≡ files_from manner place front ++ files_from manner (place + length front) rest
files_on manner place [] rest named = search rules
files_on manner place (one ∷ front) rest named = cc (
  named place (omega arith),
  one_on _ _,
  files_on manner (place + 1) front _ (λ other less. named other (omega arith)),
)

-- if the place after these shares has no name, more shares make no file
pub files_stop : (manner : Manner) (place : ℕ) (front rest : List Share)
    → manner.has_name (place + length front) ≡ false
    → files_from manner place (front ++ rest) ≡ files_from manner place front
files_stop manner place [] [] none = refl
files_stop manner place [] (one ∷ rest) none = search rules
files_stop manner place (one ∷ front) rest none = cc (files_stop manner (place + 1) front _ (subst (λ n. manner.has_name n ≡ false) (one_on _ _) none))

pub stopped_part : (manner : Manner) (draft : Draft) → manner.has_name (length draft.ended) ≡ false
    → draft_part manner draft ≡ part_of manner (map (share Closed) draft.ended)
stopped_part manner draft none = grind (arith, files_stop, length-map)

pub closed_files : (manner : Manner) (place : ℕ) (ended : List (List ℕ))
    → AllClosed (files_from manner place (map (share Closed) ended))
closed_files manner place [] = tt
closed_files manner place (one ∷ ended) =
    grind (arith, cond_both, closed_files manner (place + 1) ended)

-- The files that ended, and one more file

abbrev pub ended_files : Manner → Draft → List Slot
ended_files manner draft = files_from manner 0 (map (share Closed) draft.ended)

abbrev pub ended_out : Manner → Draft → List ℕ
ended_out manner draft = told_of_files manner.output (ended_files manner draft)

abbrev pub name_after : Manner → Draft → List ℕ
name_after manner draft = manner.name (length draft.ended)

files_with : (manner : Manner) (draft : Draft) (state : State) (bytes : List ℕ)
    → AreNamed manner (suc (length draft.ended))
    → files_from manner 0 (map (share Closed) draft.ended ++ share state bytes ∷ [])
    ≡ ended_files manner draft ++ file_of (name_after manner draft) bytes state ∷ []
files_with manner draft state bytes named = grind (arith, length-map, files_on)

pub part_last : (manner : Manner) (draft : Draft) (state : State) (bytes : List ℕ)
    → AreNamed manner (suc (length draft.ended))
    → part_of manner (map (share Closed) draft.ended ++ share state bytes ∷ [])
    ≡ with_last
    (ended_out manner draft ++ told_of_files manner.output (file_of (name_after manner draft) bytes state ∷ []))
    (ended_files manner draft) (file_of (name_after manner draft) bytes state)
part_last manner draft state bytes named = grind (arith, files_with, with_last, file_of, told-append)

last_told : (output : Output) (name bytes : List ℕ)
    → told_of_files output (file_of name bytes Open ∷ []) ≡ told_before output name
last_told (gets_openings line) name bytes = search rules
last_told output name bytes = refl

-- the last file is open
pub open_part : (manner : Manner) (draft : Draft) → AreNamed manner (suc (length draft.ended))
    → made_of draft.opening draft.bytes ≡ draft.bytes ∷ []
    → draft_part manner draft ≡ with_last (begun_out manner.output (ended_files manner draft) (name_after manner draft))
    (ended_files manner draft) (file_of (name_after manner draft) draft.bytes Open)
open_part manner draft named makes = grind (arith, part_last, with_last, file_of, last_told)

-- no file is open
pub none_part : (manner : Manner) (draft : Draft) → made_of draft.opening draft.bytes ≡ []
    → draft_part manner draft ≡ part_with manner.output (ended_files manner draft)
none_part manner draft none = search rules

-- what was begun has a file, or has none
pub made_or : (opening : Opening) (bytes : List ℕ) → (made_of opening bytes ≡ []) ⊎ (made_of opening bytes ≡ bytes ∷ [])
made_or Never bytes = inl refl
made_or Late [] = inl refl
made_or Late (byte ∷ bytes) = inr refl
made_or AtOnce bytes = inr refl

-- what makes a file still makes it with more bytes
pub still_made : (opening : Opening) (bytes more : List ℕ) → made_of opening bytes ≡ bytes ∷ []
    → made_of opening (bytes ++ more) ≡ (bytes ++ more) ∷ []
still_made Never bytes more is = absurd (cc)
still_made Late [] more is = absurd (cc)
still_made Late (byte ∷ bytes) more is = refl
still_made AtOnce bytes more is = refl
