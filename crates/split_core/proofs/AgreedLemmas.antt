-- What all continuations agree on, of files.
use Rattle.std.proofs.{
  lemmas.{List.{append-nil, get_or_append_left, length-map}},
  Common.{◌≡◌, ℕ, ◌+◌, ◌<◌, ◌≤◌, zero, suc, List, [], ◌∷◌, ◌++◌, length, map, Bool, true},
  Common.{false, cond, refl, sym, ap, arith, append_assoc, length-append, zero-add},
  Math.Seq.drop-append_seam,
}
use Rattle.seg_core.specs.{Line.{joined}, declared.cut.{Cut.Cut, Limit.{Limit}}, Cut.{most, IsPositive}}
use Rattle.engine_core.specs.{
  Draft.{opening_line, told_of_files},
  Written.{IsBeginning, openings_for},
  Work.{IsLawful, Work},
  Agreed.{CanCome, IsAgreed, file_bytes, output_at, outputs_of},
}
use Rattle.ports_core.specs.{
  Name.{Naming, has_name},
  Slot.Slot,
  declared.slot.State.{State, TheVariants.{Open, Closed}},
}
use Rattle.engine_core.proofs.{AgreedLemmas.{none_comes, agreed_now, beginning_short, common}}
use Rattle.split_core.specs.{
  Parts.{after_first, cut_up, unless_empty, parts, settled_rest, waiting_rest},
  inner.CutLaws.named,
  Split.{Filing, Plan, Share, share, are_named, output_by, settled_parts, split_work, dealt_files, bytes_in},
  PartsState.parts_work,
  Round.{round_plan, round_work},
  laws.{CutLaws.rest_short, ShareLaws.{cut_first, parts_on, settled_count}, WorkLaws.{parts_lawful, round_lawful}},
}
use Rattle.split_core.proofs.{SectionLemmas.{settled_list, settled_bytes, list_all}, CutLaws.{bytes_of_shares}}
use Rattle.seg_core.specs.declared.cut.Cut.TheVariants as cut
use Rattle.split_core.specs.laws.LimitLaws.{PartEnds, part_ends, settled_some, settled_then_waiting}
use Rattle.std.proofs.lemmas.List.{nil_from_length}
use Rattle.std.proofs.lemmas.Bool.{cases_lt}
use Rattle.std.proofs.Common.{inl, inr}
use Rattle.split_core.specs.Parts.{first_part, is_full}

-- The bytes of files that have names

abbrev pub named_bytes : Naming → ℕ → List (List ℕ) → List (List ℕ)
named_bytes names place [] = []
named_bytes names place (one ∷ those) = cond (has_name names place) (one ∷ named_bytes names (place + 1) those) []

pub bytes_named : (filing : Filing) (place : ℕ) (shares : List Share)
    → map (λ (file : Slot). file.written) (named filing place shares)
    ≡ named_bytes filing.names place (map (λ (file : Share). file.bytes) shares)
bytes_named filing place [] = refl
bytes_named filing place (one ∷ shares) = grind (arith, bytes_named filing (place + 1) shares)

-- further parts make further files, or none
pub named_more : (names : Naming) (place : ℕ) (front back : List (List ℕ))
    → (more : List (List ℕ)) × (named_bytes names place (front ++ back) ≡ named_bytes names place front ++ more)
named_more names place [] back = (named_bytes names place back, refl)
named_more names place (one ∷ front) back = let (more, are) = named_more names (place + 1) front back in
    (cond (has_name names place) more [], grind arith)

pub count_named : (names : Naming) (place : ℕ) (these those : List (List ℕ)) → length these ≡ length those
    → length (named_bytes names place these) ≡ length (named_bytes names place those)
count_named names place [] [] same = refl
count_named names place (one ∷ these) (two ∷ those) same =
    grind (arith, count_named names (place + 1) these those (omega arith))
count_named names place these those same = cc

named_each : (names : Naming) (place : ℕ) (one : List ℕ) (those : List (List ℕ))
    → has_name names (place + length those) ≡ true → named_bytes names place (one ∷ those) ≡ one ∷ those
named_each names place one [] is = grind arith
named_each names place one (two ∷ those) is = grind (arith, named_each names (place + 1) two those)

-- if all have names, none is left out
pub each_named : (names : Naming) (those : List (List ℕ)) → are_named names (length those) ≡ true
    → named_bytes names 0 those ≡ those
each_named names [] are = refl
each_named names (one ∷ those) are = named_each names 0 one those (rw (← zero-add (length those)) at are)

pub shared_bytes : (filing : Filing) (state : State) (those : List (List ℕ))
    → map (λ (file : Slot). file.written) (named filing 0 (map (share state) those)) ≡ named_bytes filing.names 0 those
shared_bytes filing state those = rw (bytes_named, bytes_of_shares)

-- Parts that follow one another

pub settled_files : (limit : Limit) (filing : Filing) (x : List ℕ)
    → file_bytes ((parts_work limit filing).settled x) ≡ named_bytes filing.names 0 (settled_list limit x)
settled_files limit filing x = rw (bytes_named, settled_bytes)

pub list_count : (limit : Limit) (x : List ℕ) → length (settled_list limit x) ≡ length (parts limit x)
list_count limit x = rw (← settled_bytes limit x, length-map, settled_count)

-- if all files have names, what is written and what waits are all that came in

abbrev pub settled_in : Limit → Filing → List ℕ → List ℕ
settled_in limit filing x = bytes_in ((parts_work limit filing).settled x)

pub settled_bytes_in : (limit : Limit) (filing : Filing) (x : List ℕ)
    → are_named filing.names (length (parts limit x)) ≡ true
    → settled_in limit filing x ≡ joined (settled_list limit x)
settled_bytes_in limit filing x are = grind (arith, settled_files, each_named, list_count)

pub came_in : (limit : Limit) (filing : Filing) {x : List ℕ} → are_named filing.names (length (parts limit x)) ≡ true
    → settled_in limit filing x ++ waiting_rest limit (cut_up limit x).rest ≡ x
came_in limit filing {x} are = grind (arith, settled_bytes_in, list_all)

pub waiting_is : (limit : Limit) (filing : Filing) (x : List ℕ) → are_named filing.names (length (parts limit x)) ≡ true
    → (parts_work limit filing).waiting x ≡ waiting_rest limit (cut_up limit x).rest
waiting_is limit filing x are = cc (
  came_in limit filing are,
  drop-append_seam (settled_in limit filing x) (waiting_rest limit (cut_up limit x).rest),
)

-- a continuation of which what is settled are parts, and perhaps others follow
pub record Decides (limit : Limit) (x : List ℕ) : Type 0 where
  pub y : List ℕ
  pub comes : CanCome y
  pub more : List (List ℕ)
  pub are : parts limit (x ++ y) ≡ settled_list limit x ++ more

-- no further byte decides, if nothing waits
decides_now : {limit : Limit} {x : List ℕ} → settled_rest limit (cut_up limit x).rest ≡ (cut_up limit x).rest
    → Decides limit x
decides_now {limit} {x} same = record {
  y = [];
  comes = none_comes;
  more = [];
  are = cc (append-nil x, append-nil _);
}

pub one_of : (bytes : List ℕ) → 0 < length bytes → unless_empty bytes ≡ bytes ∷ []
one_of [] some = absurd (omega arith)
one_of (byte ∷ bytes) some = refl

parts_first : (limit : Limit) (x : List ℕ) → is_full limit x ≡ true
    → parts limit x ≡ first_part limit x ∷ parts limit (after_first limit x)
parts_first limit x full = rw (cut_first limit x full) refl

-- bytes that end a part before what waits are a continuation that decides
pub decides_later : {limit : Limit} {x : List ℕ} → PartEnds limit (cut_up limit x).rest
    → 0 < length (settled_rest limit (cut_up limit x).rest) → Decides limit x
decides_later {limit} {x} ends has = let cut = cut_up limit x in let next = parts limit (after_first limit (cut.rest ++ ends.more)) in record {
  y = ends.more;
  comes = ends.come;
  more = next;
  are = rw (parts_on limit x ends.more, parts_first limit (cut.rest ++ ends.more) ends.full, ends.first_is, one_of (settled_rest limit cut.rest) has)
      (sym (append_assoc cut.full (settled_rest limit cut.rest ∷ []) _));
}

decides : (limit : Limit) → 0 < most limit → {x : List ℕ} → Decides limit x
decides limit some {x} = let rest = (cut_up limit x).rest in elim (cases_lt 0 (length (waiting_rest limit rest))) [
  | inl waits ↦ decides_later (part_ends limit rest some (rest_short limit x) waits)
      (settled_some limit rest (omega (arith, length-append (settled_rest limit rest) (waiting_rest limit rest), ap length (settled_then_waiting limit rest))))
  | inr none ↦ decides_now (cc (
    settled_then_waiting limit rest,
    nil_from_length (waiting_rest limit rest)
        (omega arith),
    append-nil (settled_rest limit rest),
  ))
]

-- One continuation shows what is agreed of files, if they are those of what is settled and perhaps further ones; another, which
-- has no further ones and on standard output what is settled, shows the rest.
agreed_files : (work : Work) (x y : List ℕ) (more : List (List ℕ)) → IsLawful work → CanCome y
    → length (file_bytes (work.whole x)) ≡ length (file_bytes (work.settled x))
    → (work.whole x).out ≡ (work.settled x).out
    → file_bytes (work.whole (x ++ y)) ≡ file_bytes (work.settled x) ++ more → IsAgreed work x (work.settled x)
agreed_files work x y more lawful come count out same = record {
  common = λ z can. common work lawful x z;
  fewest = ([], none_comes, rw (append-nil x) (ap suc count));
  longest = longest;
} where
  longest : (place : ℕ) → place < length (outputs_of (work.settled x))
      → (a : List ℕ) × (b : List ℕ) × CanCome a × CanCome b
      × ((front : List ℕ) → IsBeginning front (output_at (work.whole (x ++ a)) place)
      → IsBeginning front (output_at (work.whole (x ++ b)) place)
      → length front ≤ length (output_at (work.settled x) place))
  longest zero less = ([], [], none_comes, none_comes, λ front is also. grind (arith, append-nil, beginning_short))
  longest (suc place) less = (y, y, come, come, λ front is also. grind (arith, beginning_short, get_or_append_left))

-- as many files have as many lines
told_alike : (filing : Filing) (place : ℕ) (these those : List Share) → length these ≡ length those
    → told_of_files (output_by filing.verbose) (named filing place these)
    ≡ told_of_files (output_by filing.verbose) (named filing place those)
told_alike filing place these those same = by filing.verbose where
  lines : (line : List ℕ → List ℕ) (place : ℕ) (these those : List Share) → length these ≡ length those
      → openings_for line (named filing place these) ≡ openings_for line (named filing place those)
  lines line place [] [] same = refl
  lines line place (one ∷ these) (two ∷ those) same =
      grind (arith, lines line (place + 1) these those (omega arith))
  lines line place these those same = cc

  by : (verbose : Bool) → told_of_files (output_by verbose) (named filing place these)
      ≡ told_of_files (output_by verbose) (named filing place those)
  by false = refl
  by true = lines opening_line place these those same

parts_agreed_by : {limit : Limit} (filing : Filing) {x : List ℕ} → Decides limit x
    → IsAgreed (parts_work limit filing) x ((parts_work limit filing).settled x)
parts_agreed_by {limit} filing {x} decides =
    let further = named_more filing.names 0 (settled_list limit x) decides.more in
    agreed_files _ x decides.y further.0 (parts_lawful limit filing) decides.comes
    (cc (
      shared_bytes filing Closed _,
      count_named filing.names 0 (parts limit x) (settled_list limit x) (sym (list_count limit x)),
      settled_files limit filing x,
    ))
    (told_alike filing 0 (map (share Closed) (parts limit x)) (settled_parts limit x) (rw length-map (sym (settled_count limit x))))
    (cc (shared_bytes filing Closed (parts limit (x ++ decides.y)), settled_files limit filing x))

-- Lines that are dealt

-- All ways to cut

abbrev pub plan_by : Cut → Bool → Filing → Plan
plan_by cut elide filing = record { cut = cut; elide = elide; filing = filing }

pub agreed_at : (cut : Cut) (elide : Bool) (filing : Filing) → IsPositive cut → {x : List ℕ}
    → IsAgreed (split_work (plan_by cut elide filing)) x ((split_work (plan_by cut elide filing)).settled x)
agreed_at (cut.Parts limit) elide filing some = parts_agreed_by _ (decides _ some)
agreed_at (cut.Round n delim) elide filing some {x} = let files = dealt_files delim elide n x in
    agreed_now (split_work (round_plan delim n elide filing)) x
    (common (round_work (round_plan delim n elide filing)) (round_lawful delim n elide filing) x)
    (cc (
      told_alike filing 0 (map (share Closed) files) (map (share Open) files) (rw (length-map, length-map)),
      shared_bytes filing Closed files,
      shared_bytes filing Open files,
    ))
