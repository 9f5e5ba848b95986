use Rattle.std.proofs.Common.{rules, ◌+◌, ◌/◌, ◌≤◌, length, ap, ◌∙◌, arith, length-take}
use Rattle.bre_core.specs.Pattern.{positions_of}
use Rattle.scan_core.proofs.Codes.{is_code, enough_room}
use Rattle.scan_core.proofs.bre.Bre.search.Goals as goal

pub slice_bounds-search-end : goal.slice_bounds-search-end
slice_bounds-search-end c =
    omega (arith, enough_room _ c.self.invariant.1, ap length c.self.invariant.0, ap positions_of c.self.view_is)

pub slice_bounds-search-end-2 : goal.slice_bounds-search-end-2
slice_bounds-search-end-2 c =
    let h : c.len.result / 64 + 1 ≤ length c.args.words.now =
    omega (arith, enough_room _ c.self.invariant.1, ap length c.self.invariant.0, ap positions_of c.self.view_is) in
    search (rules, h)

pub search-requires-clause-code : goal.search-requires-clause-code
search-requires-clause-code c = rw (← (c.deref.ensures.value ∙ c.self.invariant.0)) at (is_code _ c.self.invariant.1)

pub search-requires-clause-room : goal.search-requires-clause-room
search-requires-clause-room c =
    let h : c.len.result / 64 + 1 ≤ length c.args.words.now =
    omega (arith, enough_room _ c.self.invariant.1, ap length c.self.invariant.0, ap positions_of c.self.view_is) in
    search (rules, length-take, h)
