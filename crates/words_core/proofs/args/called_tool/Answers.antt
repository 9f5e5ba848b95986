use Rattle.std.proofs.Common.{sym}
use Rattle.words_core.proofs.CalledLemmas.{no_tool}
use Rattle.words_core.proofs.args.called_tool.Goals as goal

pub returns-in-Err : goal.returns-in-Err
returns-in-Err c = sym (rw (← c.last_part.ensures, ← c.without_hyphen.ensures) (no_tool _ c.in-Err.ensures.cases.0))
