use Rattle.std.{proofs.Common.{◌≡◌, ◌-◌, ◌^◌, ◌<◌, ℕ, true, min, take, get_or}, specs.Char.is_ascii_digit}
use Rattle.seg_core.specs.Count.{value_of}
use Rattle.seg_core.proofs.digits.leading_number.Given as goal

abbrev pub invariant-loop-place : goal.invariant-loop-place
invariant-loop-place l = record {
  held : l.value ≡ min (value_of (take l.place l.text)) (2 ^ 64 - 1);
  digits : (k : ℕ) → k < l.place → is_ascii_digit (get_or l.text k 0) ≡ true;
}
