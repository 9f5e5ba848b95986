use Rattle.std.proofs.{lemmas.{Grind.common_steps, List.Sums.prefix_len_is}, Common.{◌<◌, arith, sym, length}}
use Rattle.words_core.specs.Format.{is_flag}
use Rattle.words_core.proofs.format.count_flags.Goals as goal

pub returns-then-not-is_flag : goal.returns-then-not-is_flag
returns-then-not-is_flag c = grind (arith, common_steps, prefix_len_is)

pub returns : goal.returns
returns c =
    let text = c.args.text.now in
    sym (prefix_len_is is_flag text (length text) 0 (omega arith) (λ k h. c.loop-place.invariant k (omega arith))
    (λ (h : length text < length text). absurd (omega arith)))
