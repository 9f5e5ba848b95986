use Rattle.std.proofs.{lemmas.{Grind.common_steps, List.Sums.prefix_len-le-length}, Common.arith}
use Rattle.words_core.proofs.FormatLemmas.{after_drop, after_slice, some_too}
use Rattle.words_core.proofs.format.read_conversion.Goals as goal

pub split_at-requires : goal.split_at-requires
split_at-requires c = grind (arith, common_steps, prefix_len-le-length)

pub returns-clause-after : goal.returns-clause-after
returns-clause-after c =
    some_too c.read_width.result (λ read is. after_slice 1 c.args.text.now
    (after_drop c.count_flags.result _ (rw c.split_at.ensures.back at is))) c.read_width.ensures.after
