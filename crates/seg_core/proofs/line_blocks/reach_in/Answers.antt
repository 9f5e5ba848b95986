use Rattle.std.proofs.{
  lemmas.Grind.common_steps,
  Common.{◌≡◌, ◌+◌, ◌<◌, ◌≤◌, ◌++◌, ℕ, List, drop, length, arith, length-append},
}
use Rattle.seg_core.{
  specs.{Line.{delimiters, first_lines}, Blocks.text_of},
  proofs.{
    Delimiters.delimiters-append,
    FirstLines.{first_lines-full, length-first_lines-le},
    BlockLemmas.{counted_at, text_from, lines_pass},
  },
}
use Rattle.seg_core.proofs.line_blocks.reach_in.Goals as goal

-- the lines end in this block
ends_here : (delim : ℕ) {wanted : ℕ} (passed left end : ℕ) {rest : List ℕ} (block after : List ℕ)
    → rest ≡ block ++ after → wanted ≡ passed + length (first_lines delim left rest) → left ≤ delimiters delim block
    → end ≡ length (first_lines delim left block)
    → passed + end ≡ wanted
ends_here delim passed left end block after is place enough of = grind (arith, common_steps, first_lines-full)

pub overflow_add-result : goal.overflow_add-result
overflow_add-result c = grind (arith, common_steps, text_from, length-append, length-first_lines-le)

pub returns-then-left-delimiters : goal.returns-then-left-delimiters
returns-then-left-delimiters c =
    let items = c.args.queue.now.items in
    let here : c.loop-i.i < length items = let t = c.loop-i-test.true in let e = c.len-i-end.ensures in omega arith in
    let enough : c.loop-i.left ≤ delimiters c.args.delim c.index-block.result.now.bytes = let counted =
    counted_at c.args.delim items c.loop-i.i here c.index-block.ensures c.requires.each in let t =
    c.if-left-delimiters.true in omega arith in
    ends_here c.args.delim c.loop-i.passed c.loop-i.left c.end_of.result c.index-block.result.now.bytes (text_of (drop (c.loop-i.i + 1) items))
    (text_from items c.loop-i.i c.index-block.result.now here c.index-block.ensures) c.loop-i.invariant.place enough c.end_of.ensures

pub loop-i-preserved : goal.loop-i-preserved
loop-i-preserved c = grind (arith, common_steps, text_from, counted_at, delimiters-append, length-append, lines_pass)
