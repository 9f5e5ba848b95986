use Rattle.scan_core.proofs.{Enterings.node_here, Needles.is_byte_needle}
use Rattle.std.proofs.Common.{arith}
use Rattle.scan_core.proofs.rarest.byte_needle.Goals as goal

pub returns-in-Take : goal.returns-in-Take
returns-in-Take c = is_byte_needle c.args.nodes.now c.in-Take.set c.of.result c.requires
    (node_here c.args.nodes.now (omega arith) c.in-Take.is c.index-nodes-number.is) c.of.ensures
