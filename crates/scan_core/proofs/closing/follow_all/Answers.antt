use Rattle.std.proofs.{Common.{◌≡◌, ◌<◌, length, ◌∙◌, arith}, lemmas.List.get_or_default}
use Rattle.scan_core.{specs.inner.Hops.no_hop, proofs.Closings.following_more}
use Rattle.scan_core.proofs.closing.follow_all.Goals as goal

pub follow-over-requires-clause-hop : goal.follow-over-requires-clause-hop
follow-over-requires-clause-hop c =
    let hops = c.args.closures.now.hops.onward.items in
    let inside : c.loop-place.place < length hops = omega arith in
    rw (← (c.index-hop.ensures ∙ get_or_default hops c.loop-place.place _ no_hop inside)) at (c.requires.closures.hops.onward.each c.loop-place.place inside)

pub loop-place-preserved : goal.loop-place-preserved
loop-place-preserved c =
    let hops = c.args.closures.now.hops.onward.items in
    let inside : c.loop-place.place < length hops = omega arith in
    following_more c.loop-place.invariant c.follow-over.ensures (c.index-hop.ensures ∙ get_or_default hops c.loop-place.place _ no_hop inside)

pub returns : goal.returns
returns c =
    let all : c.loop-place.place ≡ length c.args.closures.now.hops.onward.items = omega arith in
    rw all at c.loop-place.invariant
