use Rattle.std.proofs.Common.{◌≡◌, arith}
use Rattle.scan_core.{specs.inner.Words.width, proofs.Enterings.{each_more, each_to}}
use Rattle.scan_core.proofs.closures.closures_of.Goals as goal

pub loop-at-preserved : goal.loop-at-preserved
loop-at-preserved c = each_more c.loop-at.invariant c.leading.ensures c.in_ok-push.ensures.items

pub returns-clause-ok : goal.returns-clause-ok
returns-clause-ok c =
    let nodes = c.args.nodes.now in
    let all : c.loop-at.at ≡ width nodes = omega arith in
    let value = c.as_slice-begun.ensures.value in
    record {
      base = c.in_ok-base.ensures.ok;
      leads = rw value at (each_to c.loop-at.invariant all);
      inside = c.in_ok-inside.ensures.ok;
      hops = rw value at c.in_ok-hops.ensures.ok;
      plain = c.has_anchors.ensures;
    }
