use Rattle.std.proofs.Common.{ap, max}
use Rattle.words_core.specs.declared.tail_words.TailSettings.{TailSettings}
use Rattle.tools_core.{specs.Following.{method_of, pause_by}, proofs.RunLemmas.{ends_names, shows_by-waiting}}
use Rattle.tools_core.proofs.follow.follow_tail.Goals as goal

pub returns : goal.returns
returns g c visible inputs =
    let process = ap (λ (those : TailSettings). those.process) c.settings.view_is in
    let pause = ap (λ (those : TailSettings). those.pause) c.settings.view_is in
    let names = ends_names c.deref.ensures.value (ap (λ (those : TailSettings). those.ends) c.settings.view_is) in
    rw (
      c.method_of.ensures,
      c.start_of.ensures,
      c.has_headers.ensures,
      names,
      c.wait_at_most.ensures.shows,
      c.pause_by.ensures,
      process,
      pause,
      shows_by-waiting c.args.calling (method_of c.args.followed)
          (max (pause_by c.args.calling c.args.settings.now.pause) 1) (g.W.Watch.shows c.args.watch.now),
    ) at c.follow_files.ensures
