use Rattle.std.proofs.{
  lemmas.{Grind.common_steps, Result.on_ok_weaker},
  Common.{◌≡◌, ◌+◌, ◌-◌, ℕ, length, refl, arith, deque_len},
}
use Rattle.seg_core.proofs.BlockLemmas.{grown_counts, text_set}
use Rattle.seg_core.proofs.line_blocks.fill.Goals as goal

pub returns-in-Some-clause-ok : goal.returns-in-Some-clause-ok
returns-in-Some-clause-ok c = grind (arith, common_steps, on_ok_weaker, text_set)

pub returns-in-Some-clause-each : goal.returns-in-Some-clause-each
returns-in-Some-clause-each c =
    let blocks = c.args.queue.now in
    let last : deque_len blocks - 1 + 1 ≡ length blocks.items = let v = c.in-Some.ensures.variant.0 refl in omega arith in
    on_ok_weaker c.append.result
    (λ grown (delim : ℕ) counted each. grown_counts delim (deque_len blocks - 1) c.args.count blocks.items c.args.part.now last c.in-Some.ensures.value grown counted each)
    c.append.ensures.ok
