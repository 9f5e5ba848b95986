use Rattle.std.proofs.Common.{rules, ◌≡◌, ◌<◌, ◌^◌, length, get_or, refl, ◌∙◌, arith}
use Rattle.scan_core.{
  specs.inner.Hops.no_hop,
  proofs.Closings.{landing_more, led_is},
}
use Rattle.scan_core.proofs.closing.land.Goals as goal

pub loop-place-preserved : goal.loop-place-preserved
loop-place-preserved c =
    let hop = get_or c.args.landings.now c.loop-place.place no_hop in
    let is = c.requires.landings.each c.loop-place.place c.loop-place-test.true in
    let s = c.loop-place.invariant in
    let fits : get_or c.loop-place.words (get_or c.args.landings.now c.loop-place.place no_hop).at 0 < 2 ^ 64 = search rules in
    let high : get_or c.loop-place.words (get_or c.args.landings.now c.loop-place.place no_hop).word 0 < 2 ^ 64 = search rules in
    landing_more s is (led_is is.leads (s.adds.size ∙ c.requires.size) fits high refl refl) refl

pub returns : goal.returns
returns c =
    let all : c.loop-place.place ≡ length c.args.landings.now = omega arith in
    rw all at c.loop-place.invariant
