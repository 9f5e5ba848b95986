use Rattle.csplit_core.proofs.LineLemmas.{all_lines-line}
use Rattle.csplit_core.specs.laws.SectionLaws.{ends_as}
use Rattle.csplit_core.proofs.TryLemmas.{above_cuts, lines_are, search_past}
use Rattle.csplit_core.specs.Input.{all_lines, marked}
use Rattle.std.proofs.lemmas.Grind.{common_steps}
use Rattle.std.proofs.Common.{arith}
use Rattle.csplit_core.{proofs.TryLemmas.{next_stays, next_tries}}
use Rattle.csplit_core.proofs.line_cutter.LineCutter.try_line.Goals as goal

pub returns-then-self-past_last-clause-tries : goal.returns-then-self-past_last-clause-tries
returns-then-self-past_last-clause-tries c x whole counted ends =
    next_stays c.args.line.now c.requires.sound.fit counted ends whole c.requires.line c.in-Above.is
    (omega (arith, c.past_last.ensures, c.if-self-past_last.true))

pub returns-else-self-past_last-clause-tries : goal.returns-else-self-past_last-clause-tries
returns-else-self-past_last-clause-tries c x whole counted ends =
    let both = above_cuts (all_lines x) (marked c.args.line.now) ends.ending (lines_are x counted) (ends_as ends.runs)
    (rw c.in-Above.is at ends.aims) (omega (arith, c.past_last.ensures, c.if-self-past_last.false)) (omega (arith, c.requires.few)) in (
      rw (all_lines-line c.args.line.now whole c.requires.line) both.0,
      omega (arith, both.1, search_past c.args.self.now.style.suppress c.in-Above.cut),
    )

pub returns-in-Missed-clause-tries : goal.returns-in-Missed-clause-tries
returns-in-Missed-clause-tries c = grind (arith, common_steps, next_tries)

pub returns-in-UsedUp-clause-tries : goal.returns-in-UsedUp-clause-tries
returns-in-UsedUp-clause-tries c x whole counted ends = next_stays c.args.line.now c.requires.sound.fit counted ends whole c.requires.line c.in-UsedUp.is tt
