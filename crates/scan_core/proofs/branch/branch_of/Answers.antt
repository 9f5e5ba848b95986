use Rattle.std.proofs.Common.{rules}
use Rattle.scan_core.{
  specs.declared.node.Node.TheVariants.Back,
  proofs.Enterings.{node_here, target_in, way_is, way_nowhere},
}
use Rattle.scan_core.proofs.branch.branch_of.Goals as goal

pub returns-then-number-nodes : goal.returns-then-number-nodes
returns-then-number-nodes c = way_nowhere c.if-number-nodes.true

pub returns-in-Take : goal.returns-in-Take
returns-in-Take c = way_is _ c.requires (node_here _ c.if-number-nodes.false c.in-Take.is c.index-nodes-number.is)

pub returns-in-First : goal.returns-in-First
returns-in-First c = way_is _ c.requires (node_here _ c.if-number-nodes.false c.in-First.is c.index-nodes-number.is)

pub returns-in-Last : goal.returns-in-Last
returns-in-Last c = way_is _ c.requires (node_here _ c.if-number-nodes.false c.in-Last.is c.index-nodes-number.is)

pub overflow_add-result-in-Choose-2 : goal.overflow_add-result-in-Choose-2
overflow_add-result-in-Choose-2 c =
    let t = target_in _ _ c.requires (node_here _ c.if-number-nodes.false c.in-Choose.is c.index-nodes-number.is) in
    search (rules, t)

pub returns-in-Choose : goal.returns-in-Choose
returns-in-Choose c = way_is _ c.requires (node_here _ c.if-number-nodes.false c.in-Choose.is c.index-nodes-number.is)

pub overflow_sub-to : goal.overflow_sub-to
overflow_sub-to c = c.requires.fits c.args.number (Back _) (node_here _ c.if-number-nodes.false c.in-Back.is c.index-nodes-number.is)

pub returns-in-Back : goal.returns-in-Back
returns-in-Back c = way_is _ c.requires (node_here _ c.if-number-nodes.false c.in-Back.is c.index-nodes-number.is)
