-- What a tool that is called by its own name says, in words, of a rule that a word breaks. The rules of operands and
-- patterns of `csplit` have numbers, which `cutters csplit` prints.
use Rattle.std.specs.Prelude.{ℕ, List, [], codes, ◌==◌, if◌then◌else◌}
use Rattle.ports_core.specs.declared.fault.UsageKind.{
  UsageKind,
  TheVariants.{PatternTooLarge, BadSeparator, BadSuffix, BadMode, BadFormat},
}

-- What is wrong with an operand, by the rule's number. The numbers 1, 7 and 9 stand in no message: no operand at all, a
-- pattern that can't be read, and want of memory.
abbrev pub operand_rule : ℕ → List ℕ
operand_rule rule =
    if rule == 2 then codes "no closing delimiter"
    else (if rule == 3 then codes "offset is no number up to 9223372036854775807"
    else (if rule == 4 then codes "line number is zero"
    else (if rule == 5 then codes "nothing to repeat"
    else (if rule == 6 then codes "repetition is neither {NUMBER}, up to 9223372036854775807, nor {*}"
    else (if rule == 8 then codes "line number is smaller than the one before it"
    else (if rule == 10 then codes "neither a pattern nor a line number up to 9223372036854775807"
    else codes "invalid"))))))

-- what is wrong with a pattern, at one of its bytes, by the rule's number
abbrev pub pattern_rule : ℕ → List ℕ
pattern_rule rule =
    if rule == 1 then codes "empty pattern"
    else (if rule == 2 then codes "back-reference"
    else (if rule == 3 then codes "unknown escape"
    else (if rule == 4 then codes "\\( is not closed"
    else (if rule == 5 then codes "\\) closes nothing"
    else (if rule == 6 then codes "invalid repetition"
    else (if rule == 7 then codes "invalid bracket expression"
    else (if rule == 8 then codes "invalid range"
    else (if rule == 9 then codes "unknown class"
    else codes "invalid"))))))))

-- what is wrong with a whole pattern or with the value of an option, or what values the option can have
abbrev pub value_rule : UsageKind → List ℕ
value_rule PatternTooLarge = codes ": too large"
value_rule BadSeparator = codes ": one byte, or \\0"
value_rule BadSuffix = codes ": it has a /"
value_rule BadMode = codes ": warn, warn-nopipe, exit or exit-nopipe"
value_rule BadFormat = codes ": one conversion, such as %03d"
value_rule kind = []
