-- Laws that traits cite: what files get once more came in, and at the end.
use Rattle.std.proofs.{
  lemmas.{Grind.common_steps, List.{map-append, length-map}},
  Common.{◌≡◌, ℕ, ◌+◌, ◌<◌, ◌≤◌, suc, List, [], ◌∷◌, ◌++◌, length, map, Bool, true, false},
  Common.{inl, refl, sym, arith, append_assoc, rules},
}
use Rattle.seg_core.{specs.declared.cut.Limit.{Limit}}
use Rattle.ports_core.specs.{Name.{Naming, has_name}, Slot.Slot, declared.slot.State.TheVariants.{Open, Closed}}
use Rattle.engine_core.specs.{
  Draft.{opening_line, part_of, told_of_files},
  Written.{FilesBegin, IsBeginning, Begins},
  inner.Shares.SharesBegin,
}
use Rattle.engine_core.proofs.{
  ShareLemmas.{files_begin, files_stop, made_begin, openings_begin, shares_after},
  WrittenLemmas.{begins_itself},
}
use Rattle.split_core.specs.{
  Parts.{is_full, first_part, after_first, cut_up, unless_empty, parts, settled_rest},
  Split.{Filing, Share, share, manner_of, are_named, output_by, settled_parts},
  inner.{CutLaws.{goes, cut_so, whole_parts, named}},
  laws.CutLaws.{cut_on, cut_none, cut_once, cuts_up, rest_short},
}
use Rattle.split_core.specs.laws.{LimitLaws.{full_some, settled_some, settled_then_waiting, short_some}}
use Rattle.split_core.specs.laws.LimitLaws.{settled_in_full, settled_in_rest}

-- if files begin others, what standard output gets about the first begins what it gets about the others
pub told_begins : (verbose : Bool) (low high : List Slot) → FilesBegin low high
    → IsBeginning (told_of_files (output_by verbose) low) (told_of_files (output_by verbose) high)
told_begins false low high begins = begins_itself _
told_begins true low high begins = openings_begin opening_line low high begins

pub part_begins : (filing : Filing) (low high : List Share) → SharesBegin low high
    → Begins (part_of (manner_of filing) low) (part_of (manner_of filing) high)
part_begins filing low high begins = grind (arith, common_steps, files_begin, told_begins)

-- if a place has no name, the shares from there on make no file
pub named_short : (filing : Filing) (place : ℕ) (front rest : List Share)
    → has_name filing.names (place + length front) ≡ false
    → named filing place (front ++ rest) ≡ named filing place front
named_short filing place front rest none = files_stop (manner_of filing) place front rest none

-- The parts of whole texts

settled_in_whole : (limit : Limit) (x : List ℕ) → IsBeginning (settled_rest limit x) x
settled_in_whole limit x = (_, sym (settled_then_waiting _ x))

-- what files get of a longer text: the full parts of the text, and then what they get of the rest and what follows

pub settled_on : (limit : Limit) (x y : List ℕ)
    → settled_parts limit (x ++ y) ≡ map (share Closed) (cut_up limit x).full
    ++ settled_parts limit ((cut_up limit x).rest ++ y)
settled_on limit x y = grind (arith, common_steps, cut_on, map-append)

pub parts_on : (limit : Limit) (x y : List ℕ)
    → parts limit (x ++ y) ≡ (cut_up limit x).full ++ parts limit ((cut_up limit x).rest ++ y)
parts_on limit x y = grind (arith, common_steps, cut_on, append_assoc)

-- a text with a full part has it as its first part
pub cut_first : (limit : Limit) (x : List ℕ) → is_full limit x ≡ true
    → cut_up limit x ≡ cut_so (first_part limit x ∷ (cut_up limit (after_first limit x)).full)
    (cut_up limit (after_first limit x)).rest
cut_first limit x full = cut_once _ (goes x _ _ full (cuts_up))

rest_begins_by : (limit : Limit) (rest y : List ℕ) (full : Bool) → is_full limit (rest ++ y) ≡ full
    → is_full limit rest ≡ false
    → SharesBegin (map (share Open) (unless_empty (settled_rest limit rest))) (settled_parts limit (rest ++ y))
rest_begins_by limit rest y true full short =
    rw (cut_first limit (rest ++ y) full) (in_first (settled_rest limit rest) _
    (settled_in_full limit rest y (short_some limit rest short (full_some limit (rest ++ y) full).0))) where
      in_first : (low : List ℕ) (more : List Share) → IsBeginning low (first_part limit (rest ++ y))
          → SharesBegin (map (share Open) (unless_empty low)) (share Closed (first_part limit (rest ++ y)) ∷ more)
      in_first [] more begins = tt
      in_first (byte ∷ low) more begins = (inl (refl, refl), begins, tt)
rest_begins_by limit rest y false full short = search (rules, cut_none, made_begin, settled_in_rest)

-- what is written stays
pub settled_grow : (limit : Limit) (x y : List ℕ) → SharesBegin (settled_parts limit x) (settled_parts limit (x ++ y))
settled_grow limit x y = grind (arith, common_steps, settled_on, shares_after, rest_begins_by, rest_short)

pub settled_end : (limit : Limit) (x : List ℕ) → SharesBegin (settled_parts limit x) (whole_parts limit x)
settled_end limit x = search (rules, map-append, shares_after, made_begin, settled_in_whole)

-- there are as many shares as the text has parts

unless_count : (low high : List ℕ) → (0 < length high → 0 < length low) → (0 < length low → 0 < length high)
    → length (unless_empty low) ≡ length (unless_empty high)
unless_count [] [] some back = refl
unless_count (byte ∷ low) (first ∷ high) some back = refl
unless_count low high some back = grind (arith, common_steps)

pub settled_count : (limit : Limit) (x : List ℕ) → length (settled_parts limit x) ≡ length (parts limit x)
settled_count limit x = grind (arith, common_steps, length-map, unless_count, settled_some, settled_in_whole)

-- Once names ran out, nothing more is written

pub are_named_more : (names : Naming) (count more : ℕ) → are_named names count ≡ false → count ≤ more
    → are_named names more ≡ false
are_named_more names (suc last) (suc more) none few = grind (arith, common_steps)
are_named_more names count more none few = search rules

place_nameless : (names : Naming) (limit : Limit) (x : List ℕ) → are_named names (length (parts limit x)) ≡ false
    → has_name names (0 + length (map (share Closed) (cut_up limit x).full)) ≡ false
place_nameless names limit x short = grind (arith, common_steps)

-- the files are those of the full parts alone
pub files_settled : (filing : Filing) (limit : Limit) (x y : List ℕ)
    → are_named filing.names (length (parts limit x)) ≡ false
    → named filing 0 (settled_parts limit (x ++ y)) ≡ named filing 0 (map (share Closed) (cut_up limit x).full)
files_settled filing limit x y short = grind (arith, common_steps, settled_on, named_short, place_nameless)

pub files_whole : (filing : Filing) (limit : Limit) (x y : List ℕ)
    → are_named filing.names (length (parts limit x)) ≡ false
    → named filing 0 (whole_parts limit (x ++ y)) ≡ named filing 0 (map (share Closed) (cut_up limit x).full)
files_whole filing limit x y short = grind (arith, common_steps, parts_on, map-append, named_short, place_nameless)

pub shares_fewer : (low high : List Share) → SharesBegin low high → length low ≤ length high
shares_fewer [] high begins = omega arith
shares_fewer (share ∷ low) [] begins = absurd begins
shares_fewer (share ∷ low) (whole ∷ high) begins = omega (arith, shares_fewer low high begins.2)

-- a longer text has at least as many parts
pub parts_grow : (limit : Limit) (x y : List ℕ) → length (parts limit x) ≤ length (parts limit (x ++ y))
parts_grow limit x y =
    rw (settled_count limit x, settled_count limit (x ++ y)) at (shares_fewer _ _ (settled_grow limit x y))
