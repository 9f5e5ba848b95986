-- Laws that traits cite: how the lines of a text that goes on are dealt, and which files have a line.
use Rattle.std.proofs.{
  lemmas.Grind.common_steps,
  lemmas.Bool.{cases_eq, cases_lt, Decides.nat_tests},
  lemmas.List.{append-nil, FromFn.{filter_of_map_range_with_len_more, map-range_with_len_more}},
  Common.{◌≡◌, ℕ, ◌+◌, ◌%◌, ◌<◌, ◌≤◌, zero, suc, min, Bool, true, false, cond, eqb, List, [], ◌∷◌, ◌++◌, length},
  Common.{map, inl, inr, refl, ◌∙◌, ap, arith, length-append, rules},
  Math.Nat.{mod-eq_of_lt, zero-add},
}
use Rattle.std.specs.List.{filter, range_with_len, onto_first}
use Rattle.seg_core.{specs.Line.{lines_of, delimiters, line_count}, proofs.EndLines.line_count-grows}
use Rattle.split_core.specs.{
  Parts.dealt,
  Split.{has_bytes, dealt_files},
  Round.opened_by,
  inner.Dealt.{EachSome, share_of},
}

pub dealt_first : (ends : Bool) (n file place byte : ℕ) (lines : List (List ℕ))
    → dealt n file place (cond ends ((byte ∷ []) ∷ lines) (onto_first byte lines))
    ≡ cond (eqb (place % n) file) (byte ∷ dealt n file (cond ends (place + 1) place) lines)
    (dealt n file (cond ends (place + 1) place) lines)
dealt_first true n file place byte lines = refl
dealt_first false n file place byte lines = search rules

pub next_place : (ends : Bool) (place count : ℕ)
    → cond ends (place + 1) place + count ≡ place + cond ends (count + 1) count
next_place ends place count = grind (arith, nat_tests)

-- what follows is dealt on from the file of the open line
pub dealt_append : (delim n file place : ℕ) (x y : List ℕ)
    → dealt n file place (lines_of delim (x ++ y)) ≡ dealt n file place (lines_of delim x)
    ++ dealt n file (place + delimiters delim x) (lines_of delim y)
dealt_append delim n file place [] y = grind (arith, common_steps)
dealt_append delim n file place (byte ∷ x) y = let next = cond (eqb byte delim) (place + 1) place in
    dealt_first _ n _ _ _ _
    ∙ rw (dealt_append delim n file next x y, next_place, dealt_first) (grind (arith, nat_tests))

-- Which files have a line

pub dealt_none : (n file place : ℕ) (lines : List (List ℕ)) → place + length lines ≤ file → file < n
    → dealt n file place lines ≡ []
dealt_none n file place [] short within = refl
dealt_none n file place (line ∷ lines) short within =
    grind (arith, common_steps, dealt_none n file (place + 1) lines (omega arith) within)

dealt_some : (n file place : ℕ) (lines : List (List ℕ)) → EachSome lines → place ≤ file → file < place + length lines
    → file < n → 0 < length (dealt n file place lines)
dealt_some n file place [] each from before within = absurd (omega arith)
dealt_some n file place (line ∷ lines) each from before within = elim (cases_eq place file) [
  | inl here ↦ grind (arith, common_steps, mod-eq_of_lt, length-append)
  | inr other ↦ grind (
    arith,
    nat_tests,
    length-append,
    dealt_some n file
        (place + 1) lines each.1 (omega arith) (omega arith) within,
  )
]

each_step : (ends : Bool) (byte : ℕ) (lines : List (List ℕ)) → EachSome lines
    → EachSome (cond ends ((byte ∷ []) ∷ lines) (onto_first byte lines))
each_step true byte lines each = (omega arith, each)
each_step false byte lines each = search rules

each_line : (delim : ℕ) (x : List ℕ) → EachSome (lines_of delim x)
each_line delim [] = tt
each_line delim (byte ∷ x) = each_step _ _ _ (each_line _ x)

has_bytes_of : (bytes : List ℕ) → 0 < length bytes → has_bytes bytes ≡ true
has_bytes_of [] some = absurd (omega arith)
has_bytes_of (byte ∷ bytes) some = refl

pub share_none : (delim n : ℕ) (x : List ℕ) (file : ℕ) → line_count delim x ≤ file → file < n
    → share_of delim n x file ≡ []
share_none delim n x file short within = dealt_none n _ 0 _ (omega arith) within

share_some : (delim n : ℕ) (x : List ℕ) (file : ℕ) → file < line_count delim x → file < n
    → has_bytes (share_of delim n x file) ≡ true
share_some delim n x file before within = grind (arith, common_steps, has_bytes_of, dealt_some, each_line)

-- if the lists before place `end` have bytes and those from it on have none, the filter leaves the lists before `end`
filter_first : (f : ℕ → List ℕ) (n end : ℕ) → ((file : ℕ) → file < n → file < end → has_bytes (f file) ≡ true)
    → ((file : ℕ) → file < n → end ≤ file → f file ≡ [])
    → filter has_bytes (map f (range_with_len 0 n)) ≡ map f (range_with_len 0 (min n end))
filter_first f zero end some none = grind (arith, common_steps)
filter_first f (suc n) end some none =
    let before = filter_first f n _ (λ file within. some file (omega arith))
    (λ file within. none file (omega arith)) in
    let next : suc n ≡ n + 1 = omega arith in
    ap (λ k. filter has_bytes (map f (range_with_len 0 k))) next ∙ filter_of_map_range_with_len_more has_bytes f 0 n n
    (zero-add n) ∙ elim (cases_lt n end) [
      | inl less ↦ (let all : min (suc n) end ≡ n + 1 = omega arith in let low : min n end ≡ n = omega arith in
          cc (before, some n (omega arith) less, map-range_with_len_more f 0 n n (zero-add n)))
      | inr past ↦ (let all : min (suc n) end ≡ min n end = omega arith in
          cc (before, none n (omega arith) past, append-nil (map f (range_with_len 0 (min n end)))))
    ]

-- the files that have a line are the first files
pub dealt_files_are : (delim : ℕ) (elide : Bool) (n : ℕ) (x : List ℕ)
    → dealt_files delim elide n x ≡ map (share_of delim n x) (range_with_len 0 (opened_by delim elide n x))
dealt_files_are delim true n x = grind (arith, common_steps, filter_first, share_some, share_none)
dealt_files_are delim false n x = refl

-- a longer text opens at least as many files

pub opened_by-grows : (delim : ℕ) (elide : Bool) (n : ℕ) (x y : List ℕ)
    → opened_by delim elide n x ≤ opened_by delim elide n (x ++ y)
opened_by-grows delim elide n x y = grind (arith, nat_tests, line_count-grows)
