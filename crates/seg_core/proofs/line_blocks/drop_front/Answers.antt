use Rattle.std.proofs.Common.{◌+◌, ◌∙◌, ap, arith}
use Rattle.seg_core.{
  specs.Blocks.text_of,
  proofs.{
    Delimiters.{delimiters-le-length, delimiters-take-le},
    BlockLemmas.{all_counted, rest_goes, rest_counted, rest_have_counts},
  },
}
use Rattle.seg_core.proofs.line_blocks.drop_front.Goals as goal

pub drop_whole-left-requires : goal.drop_whole-left-requires
drop_whole-left-requires c =
    let items = c.args.queue.now.items in
    omega (arith, all_counted c.args.delim items c.requires.each, delimiters-le-length c.args.delim (text_of items))

pub drop_within-requires-clause-each : goal.drop_within-requires-clause-each
drop_within-requires-clause-each c = rest_have_counts c.args.delim c.drop_whole-left.ensures.gone c.requires.each

pub returns-clause-left : goal.returns-clause-left
returns-clause-left c = c.drop_within.ensures.left ∙ rest_goes c.drop_whole-left.ensures.gone

pub returns-clause-delimiters : goal.returns-clause-delimiters
returns-clause-delimiters c =
    ap (λ k. c.drop_whole-left.result.delimiters + k) c.drop_within.ensures.delimiters
    ∙ rest_counted c.args.delim c.drop_whole-left.ensures.gone c.requires.each

pub overflow_add-result : goal.overflow_add-result
overflow_add-result c =
    let text = text_of c.args.queue.now.items in
    let all = rest_counted c.args.delim c.drop_whole-left.ensures.gone c.requires.each in
    let part = delimiters-take-le c.args.delim c.args.n text in
    omega (arith, delimiters-le-length c.args.delim text)
