use Rattle.csplit_core.proofs.TryLemmas.{tries_cut, tries_none}
use Rattle.csplit_core.proofs.line_cutter.LineCutter.attempt_last.Goals as goal

pub returns-in-Some-clause-tries : goal.returns-in-Some-clause-tries
returns-in-Some-clause-tries c = λ line finds x looked. tries_cut line _ c.requires.fit finds
    c.attempt-attempt.ensures.says x looked c.in-Some.cut c.in-Some.ensures.some

pub returns-in-None-clause-tries : goal.returns-in-None-clause-tries
returns-in-None-clause-tries c = λ line finds x looked. tries_none line _ c.requires.fit finds
    c.attempt-attempt.ensures.says x looked c.in-None.ensures.none
