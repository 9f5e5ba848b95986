use Rattle.seg_core.proofs.NextLine.{cut_after, cut_at_end}
use Rattle.seg_core.proofs.line.next_line.Goals as goal

pub returns-in-Some : goal.returns-in-Some
returns-in-Some c =
    let found = c.in-Some.ensures in
    let cut = cut_after _ found.0.high found.1 found.0.before c.split_at.ensures.front c.split_at.ensures.back in
    record { joined = c.split_at.ensures.by_index.0; first = cut.first; some = cut.some; count = cut.count; last = cut.last }

pub returns-in-None : goal.returns-in-None
returns-in-None c =
    let cut = cut_at_end _ c.in-None.ensures c.split_at-in-None.ensures.front c.split_at-in-None.ensures.back in
    record { joined = c.split_at-in-None.ensures.by_index.0; first = cut.first; some = cut.some; count = cut.count; last = cut.last }
