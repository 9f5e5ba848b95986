use Rattle.std.proofs.{Common.{arith, max, suc, ◌≡◌, ◌-◌}, lemmas.List.take_rest}
use Rattle.split_core.proofs.CutterLemmas.{cut_lines}
use Rattle.split_core.proofs.chunk_cut.next_cut.Goals as goal

pub returns-in-Lines-clause-cut : goal.returns-in-Lines-clause-cut
returns-in-Lines-clause-cut c = let e : suc (c.max-in-Lines.result - 1) ≡ max c.args.skip 1 = omega arith in
    rw (c.in-Lines.is, ← e) (cut_lines _ _ _ _ _
    c.before-whole.ensures.within c.before-whole.ensures.few c.before-whole.ensures.all
    (take_rest c.args.text.now c.before-whole.result)
    c.next_line.ensures.joined c.next_line.ensures.first)
