-- The laws of what `csplit` makes of an input.
use Rattle.std.proofs.{
  Common.{rules, ◌≡◌, ℕ, ◌≤◌, List, ◌++◌, map, take, drop, sym, ◌∙◌, ap, arith},
  lemmas.{List.{map-append, take-append-drop}, Bool.false≢true},
}
use Rattle.seg_core.{
  specs.Line.{lines_of, delimiters},
  proofs.{Delimiters.delimiters-append, FirstLines.{first_lines-full, lines_of-first_lines}},
}
use Rattle.engine_core.specs.{Written.Begins, Work.IsLawful}
use Rattle.csplit_core.specs.{
  Operand.{Operand, Line},
  Output.Style,
  Csplit.{settled_by, whole_by, csplit_work},
  Input.{newline, marked, all_lines, complete_lines},
  laws.SectionLaws.{take_begins, grows, ends_with},
}

same_lines : (x y : List ℕ) → take (delimiters newline x) (lines_of newline (x ++ y))
    ≡ take (delimiters newline x) (lines_of newline x)
same_lines x y = sym (search (rules, lines_of-first_lines))
    ∙ ap (lines_of newline) (first_lines-full newline (delimiters newline x) x y (omega arith))
    ∙ lines_of-first_lines newline (delimiters newline x) x

pub complete_grow : (x y : List ℕ) → (more : List Line) × (complete_lines (x ++ y) ≡ complete_lines x ++ more)
complete_grow x y =
    let less : delimiters newline x ≤ delimiters newline (x ++ y) =
    omega (arith, delimiters-append newline x y) in
    let rest = take_begins (delimiters newline x) (delimiters newline (x ++ y)) (lines_of newline (x ++ y)) less in (
      map marked rest.0,
      ap (map marked) (search (rules, same_lines))
          ∙ map-append marked (take (delimiters newline x) (lines_of newline x)) rest.0,
    )

pub all_grow : (x : List ℕ) → (more : List Line) × (all_lines x ≡ complete_lines x ++ more)
all_grow x = (
  map marked (drop (delimiters newline x) (lines_of newline x)),
  ap (map marked)
      (search (rules, take-append-drop))
      ∙ map-append marked (take (delimiters newline x) (lines_of newline x))
      (drop (delimiters newline x) (lines_of newline x)),
)

pub settled_grows : (style : Style) (operands : List Operand) (x y : List ℕ)
    → Begins (settled_by style operands x) (settled_by style operands (x ++ y))
settled_grows style operands x y =
    let more = complete_grow x y in rw (← more.1) at (grows style operands (complete_lines x) more.0)

pub settled_ends : (style : Style) (operands : List Operand) (x : List ℕ)
    → Begins (settled_by style operands x) (whole_by style operands x)
settled_ends style operands x =
    let more = all_grow x in rw (← more.1) at (ends_with style operands (complete_lines x) more.0)

pub lawful : (style : Style) (operands : List Operand) → IsLawful (csplit_work style operands)
lawful style operands = record {
  grows = settled_grows style operands;
  ends = settled_ends style operands;
  stays = λ x y never. absurd (false≢true never);
}
