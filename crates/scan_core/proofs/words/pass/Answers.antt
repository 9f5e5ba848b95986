use Rattle.std.proofs.{Common.{◌<◌, ◌+◌, ◌*◌, ◌^◌, length, refl, arith, rules, slice_index_or}, lemmas.Nat.and_le_l}
use Rattle.scan_core.proofs.Countings.{takes_word, passing_more, passing_ends}
use Rattle.scan_core.proofs.words.pass.Goals as goal

pub loop-at-preserved : goal.loop-at-preserved
loop-at-preserved c =
    let f : slice_index_or c.loop-at.words c.loop-at.at 0 < 2 ^ 64 = search rules in
    let takes = takes_word _ c.requires.takes c.requires.size (omega arith) (omega arith) in
    let l = and_le_l (slice_index_or c.loop-at.words c.loop-at.at 0) (slice_index_or c.args.takes.now (c.args.byte * length c.args.words.now + c.loop-at.at) 0) in
    passing_more _ c.loop-at.invariant takes (omega arith) refl (omega arith) refl

pub returns-clause-exact : goal.returns-clause-exact
returns-clause-exact c = passing_ends c.loop-at.invariant (omega arith) c.requires.size c.requires.base
