use Rattle.std.{proofs.Common.{◌≡◌, drop}, specs.{Char.is_ascii_digit, List.list_all}}
use Rattle.words_core.proofs.value.are_digits.Given as goal

abbrev pub invariant-loop-byte : goal.invariant-loop-byte
invariant-loop-byte l = list_all is_ascii_digit (drop l.byte-index l.text) ≡ list_all is_ascii_digit l.text
