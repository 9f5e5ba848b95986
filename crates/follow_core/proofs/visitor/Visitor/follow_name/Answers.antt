use Rattle.std.proofs.{Common.{◌∙◌, arith, refl, sym}, lemmas.Grind.common_steps}
use Rattle.watch_core.specs.{declared.watch.Broken.TheVariants.{Look, Open}, Snapshot.latest}
use Rattle.follow_core.{
  proofs.{
    CallGivesLemmas.{broke_at, gives_at, gives_failed, gives_over, opened_there, opens_same},
    CatchLemmas.{change_seen, leads_opened, leads_same},
  },
  specs.{Look.{sound, unled, unopened}, Reading.{not_led, not_opened, not_told}},
}
use Rattle.follow_core.proofs.visitor.Visitor.follow_name.Goals as goal

pub returns-in-Err-clause-leads : goal.returns-in-Err-clause-leads
returns-in-Err-clause-leads g c = record {
  fate = unled;
  ends = gives_failed unled (not_led refl c.in-Err.ensures.breaks);
  long = λ known. tt;
  follows = broke_at (λ file. Look) refl refl c.in-Err.ensures.err.0 c.in-Err.ensures.err.1;
}

pub returns-in_default-clause-leads : goal.returns-in_default-clause-leads
returns-in_default-clause-leads g c =
    let (led, saw, is) = change_seen (latest (g.W.Watch.seen c.args.watch.now)) c.args.place c.change_of.ensures c.open_id.ensures
    c.in-Ok.ensures.same c.in-Ok.ensures.ok c.in-Ok.ensures.found in
    leads_same c.requires.name saw (is ∙ c.in_default.is) c.in-Ok.ensures.same

pub returns-in-Err-tell-clause-leads : goal.returns-in-Err-tell-clause-leads
returns-in-Err-tell-clause-leads g c =
    let (led, saw, is) = change_seen (latest (g.W.Watch.seen c.args.watch.now)) c.args.place c.change_of.ensures c.open_id.ensures
    c.in-Ok.ensures.same c.in-Ok.ensures.ok c.in-Ok.ensures.found in record {
      fate = sound;
      ends = gives_over (λ events are. rw are (not_told refl (record { led = led; saw = saw; is = is ∙ c.in-Some.is })))
          (gives_at (c.in-Err-tell.ensures.ends (g.W.Watch.watched c.args.watch.now) c.args.self.now));
      long = λ known. tt;
      follows = (_, c.in-Ok.ensures.same ∙ sym (opens_same _ c.args.place));
    }

-- the change was reported, and the file to which the name leads couldn't be opened
pub returns-in-Err-reopen-clause-leads : goal.returns-in-Err-reopen-clause-leads
returns-in-Err-reopen-clause-leads g c =
    let (led, saw, is) = change_seen (latest (g.W.Watch.seen c.args.watch.now)) c.args.place c.change_of.ensures c.open_id.ensures
    c.in-Ok.ensures.same c.in-Ok.ensures.ok c.in-Ok.ensures.found in
    let told = c.in_default-tell.ensures.ends (g.W.Watch.watched c.args.watch.now) c.args.self.now in record {
      fate = unopened;
      ends = record {
        events = told.events;
        given = rw told.given (not_opened refl (record { led = led; saw = saw; is = is ∙ c.in-Some.is })
            (rw (c.look.ensures.seen, c.in-Ok.ensures.same) at c.in-Err-reopen.ensures.breaks));
        came = told.came;
      };
      long = λ known. tt;
      follows = broke_at (λ file. Open) refl c.in-Ok.ensures.same c.in-Err-reopen.ensures.err.0 c.in-Err-reopen.ensures.err.1;
    }

pub catch_up-requires-clause-watchable : goal.catch_up-requires-clause-watchable
catch_up-requires-clause-watchable g c =
    let reopens = rw (c.look.ensures.seen, c.in-Ok.ensures.same) at c.in_default-reopen.ensures.ok in
    grind (arith, common_steps, opened_there)

pub returns-clause-leads : goal.returns-clause-leads
returns-clause-leads g c =
    let (led, saw, is) = change_seen (latest (g.W.Watch.seen c.args.watch.now)) c.args.place c.change_of.ensures c.open_id.ensures
    c.in-Ok.ensures.same c.in-Ok.ensures.ok c.in-Ok.ensures.found in
    leads_opened c.requires.watchable c.requires.name (record { led = led; saw = saw; is = is ∙ c.in-Some.is })
    (gives_at (c.in_default-tell.ensures.ends (g.W.Watch.watched c.args.watch.now) c.args.self.now))
    (rw (c.look.ensures.seen, c.in-Ok.ensures.same) at c.in_default-reopen.ensures.ok)
    (rw (c.reopen.ensures.seen, c.look.ensures.seen) at c.catch_up.ensures.adds)
