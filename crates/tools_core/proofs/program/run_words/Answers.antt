use Rattle.std.proofs.Common.{◌∙◌, map, sym}
use Rattle.run_core.proofs.InputLemmas.{fresh_counts, fresh_is}
use Rattle.tools_core.{specs.{Outcome.names_read, Run.OfWatch}, proofs.RunLemmas.{program_follows, program_refuses, program_runs}}
use Rattle.tools_core.proofs.program.run_words.Goals as goal

-- files are followed

pub returns-then-follows-clause-ends : goal.returns-then-follows-clause-ends
returns-then-follows-clause-ends g c =
    let sources = g.I.Inputs.sources c.args.inputs.now in
    program_follows _ _ c.in-Ok.settings c.in-Ok.ensures.ok c.is_fed-fed.ensures (sym c.follows.ensures ∙ c.if-follows.true)
    c.looks.ensures (fresh_is c.requires.inputs) (c.follow_asked.ensures g.I.Inputs.visible (g.I.Inputs.laid c.args.inputs.now, sources, sources))

pub returns-then-follows-clause-opened : goal.returns-then-follows-clause-opened
returns-then-follows-clause-opened g c = fresh_counts (names_read c.args.calling (map (λ word. word.now) c.args.words.now)) c.requires.inputs

-- a tool runs over its inputs

pub returns-in-Ok-clause-ends : goal.returns-in-Ok-clause-ends
returns-in-Ok-clause-ends g c =
    let old = c.args.watch.now in
    let watch : OfWatch = (g.W.Watch.fed old, g.W.Watch.shows old, g.W.Watch.seen old, g.W.Watch.watched old) in
    program_runs _ _ c.in-Ok.settings c.in-Ok.ensures.ok c.is_fed-fed.ensures (sym c.follows.ensures ∙ c.if-follows.false)
    (c.requires.unseen, c.requires.unwatched) (c.run_tool.ensures.ends _ c.args.words.now watch)

-- words that are refused

pub returns-clause-ends : goal.returns-clause-ends
returns-clause-ends g c =
    program_refuses _ _ (fresh_is c.requires.inputs) (c.requires.unseen, c.requires.unwatched) c.in-Err.ensures.err
    c.refuse_words.ensures

pub returns-clause-opened : goal.returns-clause-opened
returns-clause-opened g c = fresh_counts (names_read c.args.calling (map (λ word. word.now) c.args.words.now)) c.requires.inputs
