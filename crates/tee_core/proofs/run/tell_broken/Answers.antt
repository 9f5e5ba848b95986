use Rattle.std.proofs.Common.{◌≡◌, arith, length}
use Rattle.tee_core.proofs.TellLemmas.{error_open, tells_next, tells_none, told_all}
use Rattle.tee_core.proofs.run.tell_broken.Goals as goal

pub loop-n-init : goal.loop-n-init
loop-n-init g c = tells_none c.requires.streams

pub tell_one-requires : goal.tell_one-requires
tell_one-requires g c = error_open c.requires.streams c.loop-n.invariant

pub loop-n-preserved : goal.loop-n-preserved
loop-n-preserved g c =
    tells_next c.requires.streams c.loop-n.invariant _ c.requires.known
    (omega arith) c.output_name-name.ensures
    (rw c.output_slot.ensures at c.tell_one.ensures.stands)
    (λ is. rw c.output_slot.ensures at (c.tell_one.ensures.told is))
    c.tell_one.ensures.quiet

pub returns-clause-said : goal.returns-clause-said
returns-clause-said g c =
    rw (let all : length c.args.known.now ≡ c.loop-n.n = omega arith in all) c.loop-n.invariant.said

pub returns-clause-seen : goal.returns-clause-seen
returns-clause-seen g c = told_all c.requires.streams c.loop-n.invariant c.requires.known (omega arith)
