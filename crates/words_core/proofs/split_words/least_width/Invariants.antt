use Rattle.std.proofs.Common.{◌≡◌, ◌<◌, ◌≤◌, ◌-◌, ℕ}
use Rattle.ports_core.specs.Name.{name_count}
use Rattle.words_core.specs.SplitWords.{least_from, least_width}
use Rattle.words_core.proofs.split_words.least_width.Given as goal

abbrev pub invariant-loop-width : goal.invariant-loop-width
invariant-loop-width l = record {
  some : 2 ≤ l.width;
  few : l.width ≤ 23;
  left : least_from l.alphabet l.count (23 - l.width) l.width ≡ least_width l.alphabet l.count;
  least : (width : ℕ) → 2 ≤ width → width < l.width → name_count l.alphabet width < l.count;
}
