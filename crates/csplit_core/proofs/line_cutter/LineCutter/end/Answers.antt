use Rattle.ports_core.proofs.HandedOn.{handed_on}
use Rattle.csplit_core.proofs.StageLemmas.{end_goes, end_short}
use Rattle.csplit_core.proofs.line_cutter.LineCutter.end.Goals as goal

pub returns-in_err-write_front : goal.returns-in_err-write_front
returns-in_err-write_front g c = rw (handed_on _ _ c.from_residual.ensures.1)
    (end_short c.requires.sound.fit c.len-held.ensures.len c.in_err-write_front.ensures.goes)

pub returns : goal.returns
returns g c = end_goes c.write_front.new.window c.requires.sound.fit c.len-held.ensures.len c.in_ok-write_front.ensures.goes c.end.ensures.goes
