use Rattle.std.proofs.Common.{refl, sym, ◌∙◌, arith}
use Rattle.scan_core.proofs.Enterings.{at_once, node_here, pass_least, pass_found}
use Rattle.scan_core.proofs.masks.passes.Goals as goal

pub returns-in-Take-clause-yes : goal.returns-in-Take-clause-yes
returns-in-Take-clause-yes c = λ h. (c.in-Take.set, node_here _ c.if-number-nodes.true c.in-Take.is c.index-nodes-number.is, sym c.contains.ensures ∙ h, refl)

pub returns-in-Take-clause-no : goal.returns-in-Take-clause-no
returns-in-Take-clause-no c = λ to p. c.contains.ensures ∙ pass_found _ _ _ (node_here _ c.if-number-nodes.true c.in-Take.is c.index-nodes-number.is) p

pub returns-in_default-clause-no : goal.returns-in_default-clause-no
returns-in_default-clause-no c = λ to p. absurd
    (c.in_default.not-Take p.0 (at_once c.args.nodes.now c.args.number
    (node_here c.args.nodes.now c.if-number-nodes.true refl c.index-nodes-number.is) p.1))

pub returns-else-number-nodes-clause-no : goal.returns-else-number-nodes-clause-no
returns-else-number-nodes-clause-no c = λ to p. let l = pass_least c.args.nodes.now p in absurd (omega arith)
