use Rattle.std.proofs.{lemmas.Grind.common_steps, Common.{◌∙◌, ap, arith, refl, None, Some}}
use Rattle.watch_core.specs.Snapshot.{latest}
use Rattle.follow_core.{
  specs.{
    declared.visitor.Stop.TheVariants.Over,
    Look.sound,
    Reading.not_begun,
  },
  proofs.CallGivesLemmas.{follows_from, gives_over, header_only, opened_there, puts_can},
  proofs.LookGivesLemmas.{first_gave, first_long, first_missing, first_started, first_unopened, gave_fails},
  proofs.LookGivesLemmas.gave_through,
}
use Rattle.follow_core.proofs.visitor.Visitor.first.Goals as goal

pub returns-then-by_name-clause-visits : goal.returns-then-by_name-clause-visits
returns-then-by_name-clause-visits g c first =
    first_missing (rw c.if-by_name.true refl) c.in-Ok-false.ensures.ok c.in-Ok-false.field-0-test c.requires.name c.requires.watchable
    (rw c.reopen.ensures.seen at c.reason.ensures.missing) c.say_failure.ensures

pub returns-else-by_name-clause-visits : goal.returns-else-by_name-clause-visits
returns-else-by_name-clause-visits g c first =
    first_missing (rw c.if-by_name.false refl) c.in-Ok-false.ensures.ok c.in-Ok-false.field-0-test c.requires.name c.requires.watchable
    (rw c.reopen.ensures.seen at c.reason.ensures.missing) c.say_failure.ensures

pub returns-in-Err-clause-visits : goal.returns-in-Err-clause-visits
returns-in-Err-clause-visits g c first = first_unopened c.requires.name c.requires.watchable c.in-Err.ensures.err.0 c.in-Err.ensures.err.1
    c.in-Err.ensures.breaks c.reason-why.ensures.broke c.stop.ensures.tells

pub returns-in-Err-put-clause-visits : goal.returns-in-Err-put-clause-visits
returns-in-Err-put-clause-visits g c first = gave_fails sound (Over c.in-Err-put.fault) c.requires.name c.requires.watchable
    (c.in-Ok-true.ensures.ok.file, c.in-Ok-true.ensures.ok.names)
    (first_gave c.self.view_is c.in-Ok-true.ensures.ok c.in-Ok-true.field-0-test c.requires.name
    (gives_over (λ events are. rw are not_begun) (header_only (Some c.in-Err-put.fault) c.in-Err-put.ensures.puts)))
    (λ broke. refl) (refl, refl)

pub write_start-requires-clause-readable : goal.write_start-requires-clause-readable
write_start-requires-clause-readable g c = grind (arith, common_steps, opened_there)

pub write_start-requires-clause-can : goal.write_start-requires-clause-can
write_start-requires-clause-can g c = puts_can None c.in_default.ensures.puts c.requires.can

pub returns-in-Ok-clause-visits : goal.returns-in-Ok-clause-visits
returns-in-Ok-clause-visits g c first = gave_through c.in-Ok.ensures.starts.fate c.requires.name c.requires.watchable
    (follows_from _ _ _ c.in-Ok.ensures.starts.fate None c.in-Ok-true.ensures.ok.names
    (λ none t. c.in-Ok-true.ensures.ok.leads t ∙ ap
    (latest (g.W.Watch.seen c.args.watch.now)).leads c.requires.name) c.in-Ok.ensures.starts.keeps)
    (first_started c.self.view_is c.in-Ok-true.ensures.ok c.in-Ok-true.field-0-test c.requires.name c.requires.watchable
    (ap latest c.reopen.ensures.seen) (header_only None c.in_default.ensures.puts) c.in-Ok.ensures.starts)
    (first_long g.W.Watch.visible c.args.by_name (latest (g.W.Watch.seen c.args.watch.now)) c.in-Ok.len
    c.in-Ok-true.ensures.ok c.in-Ok-true.field-0-test c.requires.watchable c.in-Ok.ensures.starts.keeps
    (rw c.reopen.ensures.seen at c.in-Ok.ensures.long))

pub returns-in-Err-write_start-clause-visits : goal.returns-in-Err-write_start-clause-visits
returns-in-Err-write_start-clause-visits g c first = gave_fails c.in-Err-write_start.ensures.starts.fate c.in-Err-write_start.stop
    c.requires.name c.requires.watchable
    (follows_from {visible = g.W.Watch.visible} {led = (latest (g.W.Watch.seen c.args.watch.now)).leads c.args.name.now} _ _ _
    c.in-Err-write_start.ensures.starts.fate (Some c.in-Err-write_start.stop) c.in-Ok-true.ensures.ok.names
    (λ none. absurd (cc)) c.in-Err-write_start.ensures.starts.keeps)
    (first_started c.self.view_is c.in-Ok-true.ensures.ok c.in-Ok-true.field-0-test c.requires.name c.requires.watchable
    (ap latest c.reopen.ensures.seen) (header_only None c.in_default.ensures.puts) c.in-Err-write_start.ensures.starts)
    c.reason-in-Err-write_start.ensures.broke c.stop-in-Err-write_start.ensures.tells

pub returns-in-Err-put-clause-can : goal.returns-in-Err-put-clause-can
returns-in-Err-put-clause-can g c = puts_can (Some c.in-Err-put.fault) c.in-Err-put.ensures.puts c.requires.can
