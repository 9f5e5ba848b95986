use Rattle.ports_core.{proofs.Runs.as_status, specs.declared.reason.Reason.TheVariants.Other}
use Rattle.std.proofs.Common.{arith, ◌∙◌, ap, sym, refl, if◌then◌else◌}
use Rattle.follow_core.{
  specs.Ending.{stopped, looked, unread, no_room, shows_by},
  proofs.LookedLemmas.{most_made, open_holds, watched_are},
}
use Rattle.follow_core.proofs.run.follow_files.Goals as goal

pub returns-in-Ok-Looked : goal.returns-in-Ok-Looked
returns-in-Ok-Looked g c =
    let (most, are, gave) = rw (c.in-Ok-Looked.is, c.in-Ok-Looked.field-0-is, c.treat_by.ensures.shows) at c.make_looks.ensures.ends in
    let all = gave _
    (open_holds c.args.method c.is_by_name-by_name.ensures c.in-Ok.ensures.ok (c.treat_by.ensures.watched ∙ c.requires.unwatched) c.requires.outputs) in (
      most,
      are,
      looked all.looks all.holds.shares all.observed (watched_are all.holds) all.made all.within all.over all.holds.found
          (record {
            wrote = all.holds.shared.slots;
            status_is = c.from.ensures ∙ as_status c.failed.result ∙ ap (λ those. if those then 1 else 0) (c.failed.ensures ∙ sym all.holds.failed);
          }),
    )

pub returns-in-Ok-Unread : goal.returns-in-Ok-Unread
returns-in-Ok-Unread g c =
    let own = c.make_looks.ensures.unread (rw c.in-Ok-Unread.field-0-is at c.in-Ok-Unread.is) in
    let (most, are, gave) = rw (c.in-Ok-Unread.is, c.in-Ok-Unread.field-0-is, c.treat_by.ensures.shows) at c.make_looks.ensures.ends in
    let found = gave _
    (open_holds c.args.method c.is_by_name-by_name.ensures c.in-Ok.ensures.ok (c.treat_by.ensures.watched ∙ c.requires.unwatched) c.requires.outputs) in (
      most,
      are,
      unread found.looks found.holds.shares found.before own found.observed (watched_are found.holds) found.made found.fewer
          found.alive found.holds.found found.holds.shared.slots found.broke refl,
    )

pub returns : goal.returns
returns g c =
    let (most, are, stops) = rw c.treat_by.ensures.shows at c.in-Err-make_looks.ensures.ends in
    let tells = c.tell-in-Err-make_looks.ensures in
    let holds =
    open_holds c.args.method c.is_by_name-by_name.ensures c.in-Ok.ensures.ok (c.treat_by.ensures.watched ∙ c.requires.unwatched) c.requires.outputs in
    (most, are, stopped (g.O.Outs.slots c.make_looks.new.outs) c.in-Err-make_looks.fault (stops _ holds) tells.told tells.status)

pub returns-in-Err : goal.returns-in-Err
returns-in-Err g c =
    let (most, are, above) = most_made g.W.Watch.visible c.args.limits.process
    (shows_by c.args.calling c.args.method (g.W.Watch.shows c.args.watch.now)) c.args.limits.looks 0 (omega arith)
    (λ t. omega arith) in
    let tells = rw (c.in-Err.ensures.err, c.requires.outputs) at c.tell.ensures in
    (most, are, no_room Other c.requires.unseen c.requires.unwatched tells.told tells.status)
