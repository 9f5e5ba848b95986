use Rattle.csplit_core.proofs.StretchLemmas.{starts_found, starts_next}
use Rattle.csplit_core.proofs.line_cutter.LineCutter.next_size.Goals as goal

pub returns-in-Some-clause-some : goal.returns-in-Some-clause-some
returns-in-Some-clause-some c some = (c.is_past.ensures.live c.if-is_past.false, starts_found c.requires.whole (rw c.in-Some.is at c.requires.found))

pub returns-in-None-clause-some : goal.returns-in-None-clause-some
returns-in-None-clause-some c some = (
  c.is_past.ensures.live c.if-is_past.false,
  starts_next c.next_line.result.0.now c.next_line.result.1.now c.requires.whole c.next_line.ensures.joined c.next_line.ensures.first c.next_line.ensures.last some,
)
