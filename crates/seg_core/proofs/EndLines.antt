-- The last lines of a text, and of a text that goes on.
use Rattle.std.proofs.{
  lemmas.{Grind.common_steps, List.{drop_all, drop-drop, drop-append-le}},
  Common.{◌≡◌, ℕ, zero, suc, ◌<◌, ◌≤◌, List, [], ◌∷◌, ◌++◌, ap, arith},
}
use Rattle.seg_core.{
  specs.{Line.{joined, lines_of, delimiters, line_count, after_lines}, inner.Lines.last_lines},
  proofs.{
    FirstLines.{first_lines-full, length-first_lines-le, after_lines-is_drop, lines_of-after_lines},
    LineCounts.{line_count-some, line_count-front, line_count_near},
    Carried.line_count-last,
  },
}

-- once n lines are complete, what follows the text is added to what stands after them
pub after_lines-append : (delim n : ℕ) (x y : List ℕ) → n ≤ delimiters delim x
    → after_lines delim n x ++ y ≡ after_lines delim n (x ++ y)
after_lines-append delim n x y enough = grind (arith, common_steps, after_lines-is_drop, drop-append-le, length-first_lines-le, first_lines-full)

-- a text that goes on has no fewer lines
pub line_count-grows : (delim : ℕ) (x y : List ℕ) → line_count delim x ≤ line_count delim (x ++ y)
line_count-grows delim x [] = grind (arith, common_steps)
line_count-grows delim x (byte ∷ y) = grind (arith, common_steps, line_count-front, line_count-some, line_count_near)

pub after_lines-past : (delim n : ℕ) (x : List ℕ) → delimiters delim x < n → after_lines delim n x ≡ []
after_lines-past delim n x past = ap joined (drop_all n (lines_of delim x) (omega (arith, (line_count_near delim x).1)))

-- the last lines of a text that goes on are among its last lines and what follows
pub last_lines-append : (delim n : ℕ) (x y : List ℕ)
    → last_lines delim n (x ++ y) ≡ last_lines delim n (last_lines delim n x ++ y)
last_lines-append delim zero x y = grind (arith, common_steps)
last_lines-append delim (suc n) x y = grind (arith, common_steps, line_count_near, line_count-grows, after_lines-append, lines_of-after_lines, drop-drop)

-- there are no more lines among the last than were asked for
pub count_last : (delim n : ℕ) (x : List ℕ) → line_count delim (last_lines delim n x) ≤ n
count_last delim n x = omega (arith, line_count-last delim n x)
