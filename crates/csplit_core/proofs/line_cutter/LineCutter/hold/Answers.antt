use Rattle.csplit_core.proofs.{CutterLemmas.hold_goes, StretchLemmas.{hold_settles, past_settles}}
use Rattle.engine_core.proofs.FileWriterLemmas.{well_in}
use Rattle.csplit_core.proofs.line_cutter.LineCutter.hold.Goals as goal

pub returns-then-is_past : goal.returns-then-is_past
returns-then-is_past g c = past_settles (c.is_past.ensures.past c.if-is_past.true) c.len.ensures.len c.drop_front.ensures

pub returns : goal.returns
returns g c = let differs = c.is_past.ensures.live c.if-is_past.false in
    hold_settles differs (hold_goes c.requires.fit differs c.hold_last.ensures.goes
    (well_in _ c.hold_last.result c.hold_last.ensures.window) (well_in _ c.hold_last.result c.hold_last.ensures.size))
