use Rattle.std.proofs.{Common.{arith, sym, rules}, lemmas.{Grind.common_steps, List.take_rest}}
use Rattle.operand_core.{specs.Reading.no_memory, proofs.ReadingLemmas.{no_operand, ends_at, reads_next}}
use Rattle.operand_core.proofs.operands.read_operands.Goals as goal

pub returns-then-is_empty-clause-err : goal.returns-then-is_empty-clause-err
returns-then-is_empty-clause-err c = no_operand c.args.calling c.args.words.now (sym c.if-is_empty.ensures)

pub returns-in-Err-clause-err : goal.returns-in-Err-clause-err
returns-in-Err-clause-err c = search (rules, ends_at)

pub returns-in-Err-keep-clause-err : goal.returns-in-Err-keep-clause-err
returns-in-Err-keep-clause-err c = rw c.in-Err-keep.ensures.err (no_memory _)

pub loop-left-preserved : goal.loop-left-preserved
loop-left-preserved c = grind (arith, common_steps, reads_next, take_rest)

pub loop-left-init : goal.loop-left-init
loop-left-init c = grind (arith, common_steps)

pub returns-clause-ok : goal.returns-clause-ok
returns-clause-ok c = grind (arith, common_steps)
