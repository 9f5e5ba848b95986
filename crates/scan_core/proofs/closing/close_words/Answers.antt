use Rattle.std.proofs.{Common.{rules, ◌<◌, ◌^◌, get_or, refl, sym, ap, ◌∙◌, arith, bit_and}, lemmas.List.get_or_default}
use Rattle.scan_core.{
  specs.inner.Words.width,
  proofs.{
    Closings.{apart_skip, apart_more},
    Insides.is_within,
    closing.close_words.Goals.{then-word-index-ne0, else-word-index-ne0},
  },
}
use Rattle.scan_core.proofs.closing.close_words.Goals as goal

pub loop-at-preserved : goal.loop-at-preserved
loop-at-preserved c =
    let closures = c.args.closures.now in
    let at = c.loop-at.at in
    let now = c.loop-at.words in
    let fits : get_or now at 0 < 2 ^ 64 = search rules in
    let inside : at < width c.args.nodes.now = omega (arith, c.requires.size, c.loop-at-test.true) in
    let leads = c.index.ensures ∙ get_or_default _ at _ 0 (omega (arith, c.requires.closures.leads.size)) in
    elim c.if-word-index-ne0.branch [
      | then-word-index-ne0 w ↦
          rw (← w.words-is) at (apart_more c.loop-at.invariant c.requires.closures c.requires.begun inside
          c.requires.size w.looked_up.ensures fits (search rules) refl)
      | else-word-index-ne0 w ↦ rw (← w.words-is) at (apart_skip c.loop-at.invariant c.requires.closures c.requires.begun inside (ap (bit_and (get_or now at 0)) (sym leads) ∙ w.if-word-index-ne0.false))
    ]

pub returns-clause-apart : goal.returns-clause-apart
returns-clause-apart c = λ start to k flow. c.loop-at.invariant.done start to (omega (arith, is_within _ k, c.loop-at-test.false)) k flow
