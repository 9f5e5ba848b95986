use Rattle.std.{proofs.Common.{◌≡◌, ◌-◌, ◌^◌, min, take, drop}, specs.{Char.is_digit, List.list_all, Str.Parse.digits_value}}
use Rattle.words_core.proofs.value.read_hex.Given as goal

abbrev pub invariant-loop-byte : goal.invariant-loop-byte
invariant-loop-byte l = record {
  held : l.number ≡ min (digits_value 16 (take l.byte-index l.text)) (2 ^ 64 - 1);
  digits : list_all (λ byte. is_digit byte 16) (drop l.byte-index l.text) ≡ list_all (λ byte. is_digit byte 16) l.text;
}
