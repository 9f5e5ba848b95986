use Rattle.std.proofs.{
  Common.{◌≡◌, ◌<◌, ◌≤◌, ◌+◌, length, ap, refl, replicate, [], sym, ◌∙◌, subst, arith},
  lemmas.List.{length-set, get_or_default, length-replicate},
}
use Rattle.watch_core.specs.Watched.{opens}
use Rattle.follow_core.{
  proofs.{
    CallGivesLemmas.keeps_others,
    FollowLemmas.{next_ready, same_length, texts_set, visited_more, nothing_shared, visited_short},
  },
  specs.{Standing.no_state, Look.sound_visit, Reading.no_names},
}
use Rattle.follow_core.proofs.name.visit_all.Goals as goal

pub loop-place-init : goal.loop-place-init
loop-place-init g c = record {
  within = omega arith;
  same = refl;
  ready = c.requires.ready;
  visited = λ from looks stood. record {
    visits = replicate from sound_visit;
    shares = [];
    count = length-replicate from sound_visit ∙ omega arith;
    found = λ all front. no_names;
    is_failed = refl;
    shared = nothing_shared;
    done = λ all front other below. absurd (omega arith);
    rest = λ other above within. stood.stand other within;
  };
  count = refl;
  others = λ number other. refl;
  can = c.requires.can;
  seen = refl;
  shows = refl;
}

pub returns-in-Err-clause-visits : goal.returns-in-Err-clause-visits
returns-in-Err-clause-visits g c =
    let l = c.loop-place in
    let test : l.place < length l.names = c.loop-place-test.true in
    let many : length c.args.names.now ≡ length l.names = same_length c.args.names.now l.names l.invariant.same in
    let halts = (c.in-Err.ensures.visits c.args.first).halts in
    let others = keeps_others (opens halts.0) halts.1 in
    record {
      visited = tt;
      same = tt;
      stopped = λ from looks stood. rw l.invariant.same at (visited_short test
          (rw (
            l.invariant.seen,
            get_or_default l.names l.place c.index-names-place.result no_state test,
            stood.numbered (omega arith),
          ) at (c.in-Err.ensures.visits from))
          (l.invariant.visited from looks stood) (others.count ∙ l.invariant.count ∙ stood.many ∙ ap (λ n. from + n) many));
      ready = tt;
      count = others.count ∙ l.invariant.count;
      others = λ number other. others.others number (other l.place (omega arith)) ∙ l.invariant.others number other;
      can = tt;
      error = c.in-Err.ensures.can;
    }

pub loop-place-preserved : goal.loop-place-preserved
loop-place-preserved g c =
    let l = c.loop-place in
    let test : l.place < length l.names = c.loop-place-test.true in
    let many : length c.args.names.now ≡ length l.names = same_length c.args.names.now l.names l.invariant.same in
    let visits = c.in-Ok.ensures.visits c.args.first in
    let here = get_or_default l.names l.place c.index-names-place.result no_state test in
    record {
      within = subst (λ n. l.place + 1 ≤ n) (sym (length-set l.names l.place c.visit.new.self)) (omega arith);
      same = texts_set l.names c.index-names-place.result c.visit.new.self test c.visit.ensures.same ∙ l.invariant.same;
      ready = next_ready c.args.first l.names c.visit.new.self test l.invariant.ready visits.others (rw c.visit.ensures.same visits.ready);
      visited = λ from looks stood. visited_more test
          (rw (l.invariant.seen, here, stood.numbered (omega arith)) at (c.in-Ok.ensures.visits from)) (rw here at c.visit.ensures.same)
          (l.invariant.visited from looks stood);
      count = visits.others.count ∙ l.invariant.count;
      others = λ number other. visits.others.others number (other l.place (omega arith)) ∙ l.invariant.others number other;
      can = c.in-Ok.ensures.can;
      seen = c.visit.ensures.seen ∙ l.invariant.seen;
      shows = c.visit.ensures.shows ∙ l.invariant.shows;
    }

pub returns-clause-visits : goal.returns-clause-visits
returns-clause-visits g c =
    let l = c.loop-place in
    let end : l.place ≡ length c.args.names.now =
    (let many = same_length c.args.names.now l.names l.invariant.same in let past = c.loop-place-test.false in
    let within = l.invariant.within in omega arith) in
    record {
      same = l.invariant.same;
      visited = λ from looks stood. rw end at (l.invariant.visited from looks stood);
      stopped = tt;
      ready = l.invariant.ready;
      count = l.invariant.count;
      others = l.invariant.others;
      can = l.invariant.can;
      error = tt;
    }
