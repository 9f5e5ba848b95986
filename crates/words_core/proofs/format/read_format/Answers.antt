use Rattle.std.proofs.{lemmas.Grind.common_steps, Common.arith}
use Rattle.words_core.proofs.FormatLemmas.{conversion_begins, is_format, rest_ends}
use Rattle.words_core.proofs.format.read_format.Goals as goal

pub overflow_sub-bytes : goal.overflow_sub-bytes
overflow_sub-bytes c = grind (arith, common_steps, conversion_begins)

pub range-requires-clause-end_boundary : goal.range-requires-clause-end_boundary
range-requires-clause-end_boundary c = grind (arith, common_steps, conversion_begins)

pub overflow_sub-bytes-2 : goal.overflow_sub-bytes-2
overflow_sub-bytes-2 c =
    let ends = rest_ends c.args.text.now c.as_bytes-bytes.ensures.value c.after_text-conversion.ensures c.utf8.text c.in_ok-form.ensures.after in
    omega arith

pub range_from-requires : goal.range_from-requires
range_from-requires c =
    let ends = rest_ends c.args.text.now c.as_bytes-bytes.ensures.value c.after_text-conversion.ensures c.utf8.text c.in_ok-form.ensures.after in
    λ _. rw c.as_bytes-bytes.ensures.len ends.1

pub returns : goal.returns
returns c =
    is_format c.args.text.now c.as_bytes-bytes.ensures.value c.after_text-conversion.ensures
    (rest_ends c.args.text.now c.as_bytes-bytes.ensures.value c.after_text-conversion.ensures c.utf8.text c.in_ok-form.ensures.after)
    c.in_ok-form.ensures.value (grind (arith, common_steps)) c.range.ensures.value c.range_from.ensures.value
