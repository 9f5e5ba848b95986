use Rattle.std.proofs.Common.{◌∙◌, sym}
use Rattle.tools_core.proofs.follow.follow_asked.Goals as goal

pub returns-in-Some : goal.returns-in-Some
returns-in-Some g c visible inputs = rw (c.in-Tail.is, sym c.followed_by.ensures ∙ c.in-Some.is) (c.follow_tail.ensures visible inputs)
