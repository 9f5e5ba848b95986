-- The last lines of a text that goes on: what stood before them is never needed again.
use Rattle.std.proofs.{
  lemmas.{Grind.common_steps, List.{length-append, length-drop, drop-append-le}},
  Common.{◌≡◌, ℕ, ◌+◌, ◌-◌, ◌≤◌, min, List, [], ◌++◌, length, drop, sym, ap, ◌∙◌, arith},
  Math.Seq.drop-append-add,
}
use Rattle.seg_core.{
  specs.{Line.{line_count, but_last_lines}, inner.Lines.last_lines},
  proofs.{FirstLines.{length-first_lines-le, after_lines-is_drop, lines_of-after_lines}, LastLines.but_last_lines-few},
}

-- the last n lines are n lines, or all there are
pub line_count-last : (delim n : ℕ) (x : List ℕ) → line_count delim (last_lines delim n x) ≡ min n (line_count delim x)
line_count-last delim n x = grind (arith, common_steps, lines_of-after_lines, length-drop)

-- the last n lines are the end of the text
pub last_lines-is_drop : (delim n : ℕ) (x : List ℕ) → drop (length (but_last_lines delim n x)) x ≡ last_lines delim n x
last_lines-is_drop delim n x = sym (after_lines-is_drop delim (line_count delim x - n) x)

-- nothing stands before the last n lines of the last n lines
pub but_last_lines-last : (delim n : ℕ) (x : List ℕ) → but_last_lines delim n (last_lines delim n x) ≡ []
but_last_lines-last delim n x = but_last_lines-few delim n (last_lines delim n x) (omega (arith, line_count-last delim n x))

-- what a window that holds `held` keeps of it and a piece: the end of what is held, and the piece
pub left_after : (delim n : ℕ) (held piece : List ℕ) (over : ℕ) → over ≡ length (but_last_lines delim n (held ++ piece))
    → over ≤ length held → drop over held ++ piece ≡ last_lines delim n (held ++ piece)
left_after delim n held piece over is within =
    sym (drop-append-le over held piece within) ∙ ap (λ k. drop k (held ++ piece)) is ∙ last_lines-is_drop delim n (held ++ piece)

-- a window may keep only the end of the piece
pub left_alone : (delim n : ℕ) (held piece : List ℕ) (over more : ℕ)
    → over ≡ length (but_last_lines delim n (held ++ piece)) → over ≡ length held + more
    → drop more piece ≡ last_lines delim n (held ++ piece)
left_alone delim n held piece over more is beyond = grind (arith, common_steps, drop-append-add, last_lines-is_drop)

-- a window has room for the piece, or for its end, once what is over has left at the front
pub fits_after : (delim n : ℕ) (held piece : List ℕ) (over : ℕ) → over ≡ length (but_last_lines delim n (held ++ piece))
    → over ≤ length held → but_last_lines delim n (drop over held ++ piece) ≡ []
fits_after delim n held piece over is within = ap (but_last_lines delim n) (left_after delim n held piece over is within) ∙ but_last_lines-last delim n (held ++ piece)

pub fits_alone : (delim n : ℕ) (held piece : List ℕ) (over more : ℕ)
    → over ≡ length (but_last_lines delim n (held ++ piece)) → over ≡ length held + more
    → but_last_lines delim n (drop more piece) ≡ []
fits_alone delim n held piece over more is beyond = ap (but_last_lines delim n) (left_alone delim n held piece over more is beyond) ∙ but_last_lines-last delim n (held ++ piece)

pub over-le-length : (delim n : ℕ) (held piece : List ℕ)
    → length (but_last_lines delim n (held ++ piece)) ≤ length held + length piece
over-le-length delim n held piece = grind (arith, common_steps, length-first_lines-le, length-append)
