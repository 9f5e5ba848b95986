use Rattle.std.proofs.{Common.{sym, ◌∙◌}, lemmas.Bool.false≢true}
use Rattle.scan_core.{proofs.Insides.{grows_none, grows_by}}
use Rattle.scan_core.proofs.worklist.visit.Goals as goal

pub returns-then-not-has : goal.returns-then-not-has
returns-then-not-has c = grows_none (λ to led. absurd (false≢true (sym c.if-not-has.true ∙ c.has.ensures.1 led.0)))

pub returns : goal.returns
returns c =
    let nodes = c.args.nodes.now in
    grows_by c.lead.ensures
    (λ to f. (c.has.ensures.0 c.if-not-has.false, f)) (λ to led. led.1)
