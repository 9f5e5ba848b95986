use Rattle.scan_core.proofs.{Enterings.node_here, Needles.other_node}
use Rattle.scan_core.proofs.rarest.Rarest.with.Goals as goal

pub with_bytes-requires-clause-takes : goal.with_bytes-requires-clause-takes
with_bytes-requires-clause-takes c =
    let here = node_here _ c.requires.within c.in-Take.is c.index-nodes-at.is in
    other_node c.args.nodes.now c.args.at here (λ skip same. cc)
