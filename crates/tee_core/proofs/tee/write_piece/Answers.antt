use Rattle.std.proofs.Common.{rules}
use Rattle.tee_core.proofs.ChangeLemmas.{left_out, written_whole, written_short}
use Rattle.tee_core.proofs.tee.write_piece.Goals as goal

pub returns-then-broken : goal.returns-then-broken
returns-then-broken g c = record { turned = left_out g.O.Outs.visible (cc); few = search rules }

pub returns-in-Ok : goal.returns-in-Ok
returns-in-Ok g c =
    record { turned = written_whole c.requires (cc) g.O.Outs.visible c.in-Ok.ensures.whole; few = search rules }

pub returns-in-Err : goal.returns-in-Err
returns-in-Err g c =
    record { turned = written_short c.requires (cc) g.O.Outs.visible c.in-Err.ensures.cut; few = search rules }
