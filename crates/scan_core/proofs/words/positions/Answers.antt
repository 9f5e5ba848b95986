use Rattle.std.proofs.Common.{rules, ◌<◌, ◌^◌, ℕ, length, get_or, ap, ◌∙◌, arith}
use Rattle.scan_core.proofs.Countings.{ones_below, positions_are}
use Rattle.scan_core.proofs.words.positions.Goals as goal

pub returns : goal.returns
returns c =
    let fits : (n : ℕ) → n < length c.args.words.now → get_or c.args.words.now n 0 < 2 ^ 64 = λ n h. search (rules, c.type_inv.words) in
    c.loop-at.invariant.exact ∙ ap (ones_below c.args.words.now c.args.counts.now) (omega arith) ∙ positions_are _ _ c.requires.size c.requires.counts fits
