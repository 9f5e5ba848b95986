-- Delimiters that were seen ahead, and gathering the lines of a piece.
use Rattle.std.proofs.{
  lemmas.Bool.{eq-eqb, eqb-true, eqb-false, ne_eqb, cases_eq, Decides.nat_tests},
  lemmas.Simd.trailing_mask_l,
  lemmas.List.{get_or-drop, get_or-take, take_min, take_more, take-append-drop, take_all, take-take, drop-take},
  lemmas.List.{drop-drop, length-take-le, length-drop, length-replicate, append-nil, ext_get_or, take-append-le},
  lemmas.List.FromFn.{length-map-range_with_len, get_or-map-range_with_len},
  lemmas.Grind.common_steps,
  lemmas.Result.on_ok_weaker,
  Common.{◌≡◌, ◌≢◌, ℕ, ◌+◌, ◌-◌, ◌*◌, ◌/◌, ◌^◌, ◌<◌, ◌≤◌, zero, suc, min, Bool, true, false, not, cond},
  Common.{eqb, List, [], ◌∷◌, ◌++◌, length, take, drop, get_or, refl, sym, ◌∙◌, ap, arith, length-append, ◌⊎◌, inl},
  Common.{inr, replicate, ◌%◌, max, set, Result, OnOk, append_assoc, rules},
  Math.Nat.{div-div-eq-div-mul, div-one, zero-div, mod-add-mod, mod-eq_of_lt, mod-mod, mod_self, mod-le},
  Math.Seq.{take-add, take-append-add},
}
use Rattle.std.specs.{List.prefix_len, Int.Count.count_trailing_zeros}
use Rattle.seg_core.{
  specs.Line.{HasNone, lines_of, delimiters, line_count},
  proofs.Delimiters.{delimiters-append, delimiters-one_yes},
  proofs.LinesOf.{lines_of-complete, lines_of-open},
  proofs.NextLine.delimiters-none,
}
use Rattle.split_core.{
  specs.inner.{Ahead.{IsFirstLine, Sees, delimiter_mask}, Dealt.{dealt_piece, Gathers}},
  specs.declared.complete_lines.Ahead.Ahead,
  specs.Parts.dealt,
  proofs.CutLaws.dealt_same,
}
use Rattle.ports_core.{
  specs.Slot.changed_at,
  proofs.SlotLemmas.{length-changed_at, set-changed, changed_there, elsewhere},
}

none_append : (delim : ℕ) (x y : List ℕ) → HasNone delim x → HasNone delim y → HasNone delim (x ++ y)
none_append delim [] y first rest = rest
none_append delim (byte ∷ x) y first rest = (first.0, none_append _ x y first.1 rest)

-- a mask without a bit
unmarked : (delim : ℕ) (x : List ℕ) → delimiter_mask delim x ≡ 0 → HasNone delim x
unmarked delim [] none = tt
unmarked delim (byte ∷ x) none = grind (arith, nat_tests, none, unmarked delim x)

-- how many bytes stand before the first delimiter
abbrev before_first : ℕ → List ℕ → ℕ
before_first delim x = prefix_len (λ byte. not (eqb byte delim)) x

-- the lowest bit is that of the first delimiter
pub record IsFirstAt (delim : ℕ) (x : List ℕ) (at : ℕ) : Type 0 where
  pub within : at < length x
  pub none : HasNone delim (take at x)
  pub here : get_or x at 0 ≡ delim

first_step : {delim : ℕ} (is : Bool) {byte : ℕ} {x : List ℕ} → eqb byte delim ≡ is
    → (0 < delimiter_mask delim x → IsFirstAt delim x (before_first delim x))
    → 0 < cond is 1 0 + 2 * delimiter_mask delim x
    → IsFirstAt delim (byte ∷ x) (cond (not is) (1 + before_first delim x) 0)
first_step true here rest some = search (rules, eqb-true)
first_step false here rest some = search (rules, eqb-false)

first_marked : {delim : ℕ} (x : List ℕ) → 0 < delimiter_mask delim x → IsFirstAt delim x (before_first delim x)
first_marked [] some = absurd (omega arith)
first_marked (byte ∷ x) some = first_step _ refl (λ more. first_marked x more) some

half : (is : Bool) {rest : ℕ} → (cond is 1 0 + 2 * rest) / 2 ≡ rest
half true = omega arith
half false = omega arith

-- the mask after a byte
mask_after : (delim at : ℕ) (x : List ℕ)
    → delimiter_mask delim x / 2 ^ at / 2 ≡ delimiter_mask delim (drop (suc at) x)
mask_after delim at [] = cc (zero-div (2 ^ at), zero-div 2)
mask_after delim zero (byte ∷ x) = ap (λ n. n / 2) (div-one _) ∙ half _
mask_after delim (suc at) (byte ∷ x) = let power : 2 ^ suc at ≡ 2 * 2 ^ at = omega arith in
    cc (power, div-div-eq-div-mul (cond (eqb byte delim) 1 0 + 2 * delimiter_mask delim x) 2 (2 ^ at), half (eqb byte delim), mask_after delim at x)

-- the first line, if the first delimiter is known
pub first_line : {delim : ℕ} {x : List ℕ} {at : ℕ} → IsFirstAt delim x at
    → IsFirstLine delim x (take (at + 1) x) (drop (at + 1) x)
first_line {delim} {x} {at} first =
    let line : take (at + 1) x ≡ take at x ++ delim ∷ [] = cc (take_more x at 0 first.within, first.here) in
    let whole : (take at x ++ delim ∷ []) ++ drop (at + 1) x ≡ x = cc (line, take-append-drop (at + 1) x) in
    let count : delimiters delim ((take at x ++ delim ∷ []) ++ drop (at + 1) x) ≡ delimiters delim (drop (at + 1) x) + 1 =
    omega (arith, delimiters-append, delimiters-one_yes delim delim (eq-eqb delim delim refl), delimiters-none delim (take at x) first.none) in
    grind (arith, common_steps, whole, line, count, first.within, lines_of-complete, length-drop, take-append-drop)

-- Looking further

-- none of the known bytes is a delimiter
all_passed : {delim : ℕ} {x : List ℕ} {ahead : Ahead} → Sees delim x ahead → ahead.mask ≡ 0
    → HasNone delim (take (ahead.passed + ahead.width) x)
all_passed sees none = search (rules, take-add, none_append, unmarked)

pub sees_further : {delim : ℕ} {x : List ℕ} {ahead : Ahead} (passed : ℕ) {width mask : ℕ} → Sees delim x ahead
    → ahead.mask ≡ 0 → passed ≡ ahead.passed + ahead.width → width ≡ min 64 (length x - passed)
    → mask ≡ delimiter_mask delim (take 64 (drop passed x))
    → Sees delim x (record { passed = passed; width = width; mask = mask })
sees_further passed sees none is wide marked = grind (arith, common_steps, all_passed, take_min, length-drop)

-- if all of the text is known and no bit is set, it has no delimiter
pub none_seen : {delim : ℕ} {x : List ℕ} {ahead : Ahead} → Sees delim x ahead → ahead.mask ≡ 0
    → ahead.passed + ahead.width ≡ length x → delimiters delim x ≡ 0
none_seen sees none all = grind (arith, common_steps, delimiters-none, take_all, all_passed)

-- the first delimiter

length-window : (k : ℕ) {n : ℕ} (x : List ℕ) → k + n ≤ length x → length (take n (drop k x)) ≡ n
length-window k {n} x inside = grind (arith, common_steps)

-- the first delimiter of the window is the first of the text
first_of_text : {delim : ℕ} {x : List ℕ} (k n : ℕ) {at : ℕ} → k + n ≤ length x → HasNone delim (take k x)
    → IsFirstAt delim (take n (drop k x)) at → IsFirstAt delim x (k + at)
first_of_text k n inside none first = search (rules, length-window, take-take, take-add, none_append, get_or-take, get_or-drop)

-- the lowest bit is that of the first delimiter
pub seen_at : {delim : ℕ} {x : List ℕ} {ahead : Ahead} → Sees delim x ahead → ahead.mask ≢ 0
    → IsFirstAt delim x (ahead.passed + count_trailing_zeros 64 ahead.mask)
    × (count_trailing_zeros 64 ahead.mask < ahead.width)
seen_at {delim} {x} {ahead} sees some =
    let lowest : count_trailing_zeros 64 ahead.mask ≡ before_first delim (take ahead.width (drop ahead.passed x)) =
    search (rules, trailing_mask_l, length-window) in
    let first : IsFirstAt delim (take ahead.width (drop ahead.passed x)) (count_trailing_zeros 64 ahead.mask) =
    rw lowest (first_marked _ (rw (← sees.marked) (omega arith))) in
    (first_of_text _ _ sees.within sees.none first, (omega (arith, first.within, length-window)))

-- if the line ends there, the rest of the mask is that of what follows
pub sees_rest : {delim : ℕ} {x : List ℕ} {ahead : Ahead} (at : ℕ) {mask : ℕ} → Sees delim x ahead → at < ahead.width
    → mask ≡ ahead.mask / 2 ^ at / 2
    → Sees delim (drop (ahead.passed + at + 1) x) (record { passed = 0; width = ahead.width - (at + 1); mask = mask })
sees_rest {x = x} {ahead} at sees inside is =
    let further : suc at + (ahead.width - (at + 1)) ≡ ahead.width = omega arith in
    let place : ahead.passed + suc at ≡ ahead.passed + at + 1 = omega arith in
    let window : drop (suc at) (take ahead.width (drop ahead.passed x))
    ≡ take (ahead.width - (at + 1)) (drop (ahead.passed + at + 1) x) = cc
    (further, drop-take (suc at) (ahead.width - (at + 1)) (drop ahead.passed x), drop-drop (suc at) ahead.passed x, place) in
    grind (arith, common_steps, sees, length-drop, mask_after, window)

-- other bytes after a text leave the mask as it is
mask_padded : (delim other : ℕ) (x : List ℕ) (n : ℕ) → eqb other delim ≡ false
    → delimiter_mask delim (x ++ replicate n other) ≡ delimiter_mask delim x
mask_padded delim other [] zero differs = refl
mask_padded delim other [] (suc n) differs = grind (arith, common_steps, mask_padded delim other [] n differs)
mask_padded delim other (byte ∷ x) n differs = cc (mask_padded delim other x n differs)

-- a text that is padded with the complement of the delimiter, which is another byte, keeps its mask
pub mask_of_padded : (delim other : ℕ) (x : List ℕ) {lanes : List ℕ} → length x < 64 → other ≡ 255 - delim → delim < 256
    → lanes ≡ x ++ replicate (64 - length x) other
    → delimiter_mask delim (take 64 lanes) ≡ delimiter_mask delim (take 64 x)
mask_of_padded delim other x {lanes} short complement small is =
    rw (take_all 64 lanes (omega (arith, ap length is, length-append {A = ℕ}, length-replicate {A = ℕ})), is, take_all 64 x (omega arith))
    (mask_padded _ _ x _ (ne_eqb other delim (λ same. omega arith)))

-- what is left of a piece is still to be gathered
pub record Dealing (delim n start : ℕ) (piece : List ℕ) (gathered : List (List ℕ)) (next reached : ℕ) (left : List ℕ)
    : Type 0 where
  pub count : length gathered ≡ n
  pub within : next < n
  pub shares : (file : ℕ) → file < n
      → get_or gathered file [] ++ dealt n file next (lines_of delim left) ≡ dealt n file start (lines_of delim piece)
  pub ends : (next + delimiters delim left) % n ≡ (start + delimiters delim piece) % n
  pub reaches : max reached (min n (next + line_count delim left)) ≡ min n (start + line_count delim piece)
  pub few : reached ≤ n
  pub over : next ≤ reached

has_none : (delim : ℕ) (x : List ℕ) → delimiters delim x ≡ 0 → HasNone delim x
has_none delim [] none = tt
has_none delim (byte ∷ x) none = grind (arith, nat_tests, none, has_none delim x)

-- a line was gathered, and the place is that of what follows
shares_next : {n : ℕ} (next place : ℕ) (gathered : List (List ℕ)) (line : List ℕ) (lines : List (List ℕ)) (file : ℕ)
    → length gathered ≡ n → next < n → file < n → dealt n file place lines ≡ dealt n file (next + 1) lines
    → get_or (changed_at next (λ had. had ++ line) gathered) file [] ++ dealt n file place lines
    ≡ get_or gathered file [] ++ dealt n file next (line ∷ lines)
shares_next next place gathered line lines file count within inside same =
    grind (arith, nat_tests, cases_eq, changed_there, elsewhere, append_assoc, mod-eq_of_lt, same)

-- all is gathered
pub ended : {delim n start : ℕ} {piece : List ℕ} {gathered : List (List ℕ)} {next reached : ℕ}
    → Dealing delim n start piece gathered next reached [] → Gathers delim n start piece gathered next reached
ended {delim} {n} {start} {piece} {gathered} so_far = record {
  gathered_is = ext_get_or [] gathered (dealt_piece delim n start piece) (grind (arith, common_steps, length-map-range_with_len))
      (λ file inside. grind (arith, common_steps, so_far.shares file, append-nil, get_or-map-range_with_len));
  next_is = grind (arith, common_steps, mod-eq_of_lt, so_far.ends);
  reached_is = omega arith;
}

module _ {delim n start : ℕ} {piece : List ℕ} {gathered : List (List ℕ)} {next reached : ℕ} {left : List ℕ}
    (so_far : Dealing delim n start piece gathered next reached left) where
  -- the place after the last is the first again: then all files are reached
  pub line_more : {now : List (List ℕ)} {place reached_now : ℕ} (line text : List ℕ) {rest : List ℕ}
      → IsFirstLine delim left line rest → text ≡ left
      → now ≡ changed_at next (λ had. had ++ take (length line) text) gathered
      → ((place ≡ next + 1) × (next + 1 < n)) ⊎ ((place ≡ 0) × (n ≤ next + 1)) → reached_now ≡ max reached (next + 1)
      → Dealing delim n start piece now place reached_now rest
  line_more {place = place} line text {rest} cut same is goes reached_is =
      let now_is = let front : take (length line) text ≡ line = grind (arith, common_steps) in rw front at is in
      let count : line_count delim left ≡ suc (line_count delim rest) = ap length cut.first in
      let at : place ≡ (next + 1) % n = elim goes [
        | inl (is, less) ↦ is ∙ sym (mod-eq_of_lt less)
        | inr (is, last) ↦ (let all : next + 1 ≡ n = omega arith in cc (is, all, mod_self n))
      ] in
      rw at (search (
        rules,
        so_far,
        length-changed_at,
        shares_next,
        dealt_same,
        mod-mod,
        mod-add-mod,
        mod-le,
        cases_eq,
        mod_self,
        count,
        mod-eq_of_lt,
      ))

  -- no complete line is left: there is nothing after the open line
  pub ends_open : {now : List (List ℕ)} {reached_now : ℕ} (text : List ℕ) → text ≡ left → delimiters delim left ≡ 0
      → eqb (length text) 0 ≡ false → now ≡ changed_at next (λ had. had ++ take (length text) text) gathered
      → reached_now ≡ max reached (next + 1) → Gathers delim n start piece now next reached_now
  ends_open text same none some put reached_is =
      let all : take (length text) text ≡ left = take_all (length text) text (omega arith) ∙ same in
      let is = rw all at put in let more : length text ≢ 0 = eqb-false (length text) 0 some in
      let one : lines_of delim left ≡ left ∷ [] = lines_of-open _ _ (omega (arith, ap length same)) (has_none _ _ none) in
      let count : line_count delim left ≡ 1 = ap length one in ended (record {
        count = rw is (length-changed_at _ _ gathered ∙ so_far.count);
        within = so_far.within;
        shares = λ file inside. rw is (shares_next next next gathered left [] file so_far.count so_far.within inside refl ∙ rw one at
            (so_far.shares file inside));
        ends = rw none at so_far.ends;
        reaches = omega arith;
        few = omega arith;
        over = omega arith;
      })

-- one member was put in its place
pub appended : (gathered : List (List ℕ)) (place : ℕ) {had : List ℕ} (now line : List ℕ) {E : Type 0}
    (result : Result (Unit {0}) E) → place < length gathered → had ≡ get_or gathered place had
    → OnOk result (now ≡ had ++ line)
    → OnOk result (set gathered place now ≡ changed_at place (λ those. those ++ line) gathered)
appended gathered place {had} now line result within at is =
    on_ok_weaker result (λ (same : now ≡ had ++ line). cc (same, set-changed gathered place (λ those. those ++ line) had within at)) is

-- the first bytes of a chunk that was copied count
pub chunk_taken : (room : List ℕ) {new : List ℕ} (text : List ℕ) (at n chunk : ℕ)
    → new ≡ take at room ++ (take chunk text ++ drop (at + chunk) room) → at ≤ length room → n ≤ chunk
    → chunk ≤ length text → take (at + n) new ≡ take at room ++ take n text
chunk_taken room text at n chunk is within few enough = grind (arith, common_steps, length-take-le, take-append-add, take-append-le, take-take)
