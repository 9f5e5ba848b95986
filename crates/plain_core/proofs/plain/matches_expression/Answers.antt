use Rattle.std.proofs.{Common.{ap, sym, ◌∙◌}, lemmas.List.at_drop_all}
use Rattle.bre_core.specs.{Flat.read_on, Search.contains}
use Rattle.plain_core.proofs.Tables.{found_is}
use Rattle.plain_core.proofs.plain.matches_expression.Goals as goal

pub returns-clause-exact : goal.returns-clause-exact
returns-clause-exact c =
    let over = c.loop-token.invariant in
    c.has_any.ensures ∙ found_is c.args.line.now over.current (c.in_ok-settle.ensures.before over.current over.means.frame)
    ∙ ap (λ pattern. contains pattern c.args.line.now)
    (sym (over.left ∙ at_drop_all (read_on over.current over.around) _ _ c.loop-token-test.false) ∙ c.tokens-token-items.ensures.tree)
