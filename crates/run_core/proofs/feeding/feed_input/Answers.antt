use Rattle.std.proofs.{
  lemmas.{List.{length-take-le, take_at}, Bool.{false≢true, not-false}},
  Common.{◌&&◌, not, Err, inl, inr, ◌≡◌, ◌≤◌, drop, length, ◌++◌, ◌∙◌, [], true, false, sym, ap, refl, take, arith},
  Common.{append_assoc, append-nil, length-append},
}
use Rattle.ports_core.proofs.InputsLemmas.{passed_at}
use Rattle.engine_core.{
  proofs.SpareLemmas.{complete_used, spare_within, none_spare},
  specs.{Work.{Work, IsSettled}, Engine.{EndsWith, is_verdict}},
}
use Rattle.ports_core.{
  proofs.InputsLemmas.{came_broken, came_sound, changed_source, ended_now, sound_at, read_none_more, keeps_again},
  proofs.InputsLemmas.{keeps_others, read_broken, still_readable, read_more, read_failed, read_to_end, asked_again},
  proofs.InputsLemmas.{asked_at_end, broken_now},
  specs.Source.{gets_back, Source, source_at},
}
use Rattle.run_core.{
  specs.Feeding.{IsUntaken, broke_off, closes, enough, feeds, is_stop, to_end},
  proofs.FeedingLemmas.{OfVerdict, of_more, of_read, read_to_used, told_by_complete, alike_after, alike_itself},
  proofs.FeedingLemmas.{judges, goes_on, stopped_feeding, ended, needed_more, piece_within, ends_sound},
  proofs.FeedingLemmas.{needed_within, read_used, takes_more, uses_all, uses_judged, uses_part, needed_front},
}
use Rattle.run_core.proofs.feeding.feed_input.Goals as goal

-- what was taken in before the first piece

pub pieces-init : goal.pieces-init
pieces-init g c =
    let loads = c.load.ensures.loads in
    let took = loads.keeps in
    let passed = passed_at _ _ _ _ c.requires.input loads.passed in record {
      fed = loads.front;
      feeds = record {
        same = took.same;
        holds = record { live = c.load.ensures.live; count = c.load.ensures.fed ∙ loads.long; within = took.holds };
        owns = λ first own. took.owns first _ own;
        outputs = λ before begun. rw took.same (rw took.idle begun.1);
        bound = omega arith;
      };
      readable = rw (passed, c.requires.input);
      others = keeps_others _ _ _ _ loads.passed;
      read = λ visible. record { bytes = loads.there visible; breaks_off = rw passed };
      took = λ visible. record {
        taken = rw (passed, loads.there visible, loads.long, take_at loads.front _ (length loads.front) refl);
        far = λ unread. omega (arith, ap (λ (source : Source). source.reached) passed);
      };
      last = λ visible. needed_front took.going;
      -- all that is taken in without a read is used
      few = λ standard n spare. elim took.going [
        | inl none ↦ omega (arith, ap length none, ap length spare.joined ∙ length-append spare.used spare.rest)
        | inr going ↦ omega (arith, none_spare _ loads.front n (g.met.S.Stage.lawful _ _ c.requires.fresh.within) going spare)
      ];
      room = refl;
      needed = needed_front took.going;
      asked = λ within. omega (arith, ap (λ (source : Source). source.asked) passed);
      laid = c.load.ensures.laid;
      ready = took.ready _ c.requires.output;
    }

-- the read broke off

pub returns-in-Err : goal.returns-in-Err
returns-in-Err g c =
    let so_far = c.pieces.invariant in
    let work = g.S.Stage.terms.work c.pieces.engine.stage in
    let going = sym (c.done.ensures.complete so_far.fed so_far.feeds.holds) ∙ c.pieces-test.true in record {
      ends = λ before opening begun.
          of_read g.I.Inputs.visible _ so_far.fed true _ _ (λ visible. read_broken _ _ _ _ (so_far.read visible) (c.in-Err.ensures.break_off visible))
          (λ content. came_broken g.I.Inputs.visible _ _ _ _ so_far.readable c.in-Err.ensures.err)
          (λ content is bytes breaks came. (
            rw (← so_far.feeds.same)
                (broke_off breaks (ap work.is_complete bytes ∙ going)
                (g.O.Outs.slots c.pieces.outs) (rw bytes (so_far.feeds.outputs before begun))
                (c.abandon.ensures.sweeps.swept (length before) (so_far.feeds.owns (length before) begun.0))),
            λ ends sound going. absurd (false≢true (sym sound ∙ breaks)),
          ));
      others = keeps_again _ _ _ _ so_far.others (keeps_others _ _ _ _ c.in-Err.ensures.err.1);
      reads = λ visible. (so_far.fed, so_far.needed, read_failed _ _ _ _ _ _ (so_far.read visible) so_far.readable c.in-Err.ensures.err);
      used = λ visible ends unread.
          let failed = c.in-Err.ensures.err in
          uses_all (read_failed _ _ _ _ _ _ (so_far.read visible) so_far.readable failed)
          (ap (λ (source : Source). source.left.bytes) (changed_source _ _ _ _ so_far.readable failed.1) ∙ (c.in-Err.ensures.break_off visible).no_more)
          so_far.needed (ap (λ (those : Work). those.is_complete so_far.fed) (sym so_far.feeds.same) ∙ going)
          (rw (ap (λ (source : Source). source.reached) (changed_source _ _ _ _ so_far.readable failed.1)) ((so_far.took visible).far unread));
      asked = λ within. asked_at_end _ _ _ _ _ so_far.readable c.in-Err.ensures.err (omega arith) (so_far.asked within);
      broke = λ is. broken_now _ _ _ _ so_far.readable c.in-Err.ensures.err;
      laid = c.read_part.ensures.kept ∙ so_far.laid;
    }

-- the input ended

pub returns-then-n-eq0 : goal.returns-then-n-eq0
returns-then-n-eq0 g c =
    let so_far = c.pieces.invariant in
    let now = g.I.Inputs.sources c.read_part.new.inputs in
    let going = sym (c.done.ensures.complete so_far.fed so_far.feeds.holds) ∙ c.pieces-test.true in
    let can = still_readable _ _ _ _ c.in-Ok.n c.in-Ok.ensures.rest so_far.readable in
    let left = λ (visible : g.I.Inputs.visible ≡ true).
    read_none_more _ _ _ _ _ _ c.in-Ok.n (so_far.read visible) so_far.readable c.if-n-eq0.true c.in-Ok.ensures.rest in
    let nothing = ap (λ k. take k c.read_part.new.buffer) c.if-n-eq0.true in
    let at_end = ended_now _ _ c.in-Ok.n _ _ so_far.readable c.in-Ok.ensures.rest c.if-n-eq0.true c.piece_size-size.ensures.some in
    let far : g.I.Inputs.visible ≡ true → IsUntaken (source_at (g.I.Inputs.sources c.args.inputs.now) c.args.slot) →
    (source_at now c.args.slot).reached ≤ length so_far.fed
    = λ visible unread. rw (ap (λ more. so_far.fed ++ more) nothing ∙ append-nil so_far.fed) at
    ((takes_more _ (so_far.took visible) so_far.readable (c.in-Ok.ensures.bytes visible) c.in-Ok.ensures.rest).far unread) in record {
      ends = λ before opening begun.
          of_read g.I.Inputs.visible _ so_far.fed false _ _
          (λ visible. let at_end = (c.in-Ok.ensures.bytes visible).ended c.if-n-eq0.true (omega arith) in let all =
          read_to_end _ _ _ _ (so_far.read visible) at_end.0 at_end.1 in (all.1, all.0))
          (λ content. came_sound g.I.Inputs.visible _ c.args.slot can)
          (λ content is bytes sound came. (
            ended so_far.feeds g.met.S.Stage.lawful _ begun (sound, going, bytes) alike_itself (
              rw (← so_far.feeds.same) (closes so_far.fed (to_end sound bytes) (rw so_far.feeds.same so_far.needed)),
              record {
                came = came;
                sound = sound_at now c.args.slot can;
                ended = λ _. at_end;
                joined = λ visible. is visible ∙ left visible;
              },
              λ visible unread standard. rw going (omega (arith, far visible unread)),
            ) c.end.ensures,
            λ ends sound going. at_end,
          ));
      others = keeps_again _ _ _ _ so_far.others (keeps_others _ _ _ _ c.in-Ok.ensures.rest);
      reads = λ visible. (so_far.fed, so_far.needed, left visible);
      used = λ visible ends unread.
          let gave = c.in-Ok.ensures.bytes visible in
          let none = (gave.ended c.if-n-eq0.true (omega arith)).0 in
          let after = changed_source _ _ _ _ so_far.readable c.in-Ok.ensures.rest in
          uses_all (left visible)
          (ap (λ (source : Source). source.left.bytes) after ∙ ap (drop c.in-Ok.n) none ∙ ap (λ k. drop k []) c.if-n-eq0.true)
          so_far.needed (ap (λ (work : Work). work.is_complete so_far.fed) (sym so_far.feeds.same) ∙ going)
          (far visible unread);
      asked = λ within. asked_again _ _ _ _ _ _ so_far.readable c.in-Ok.ensures.rest (omega arith) (so_far.asked within);
      broke = ends_sound _ _ _ (inl refl) c.end.ensures;
      laid = c.read_part.ensures.kept ∙ so_far.laid;
    }

-- the engine took the piece

pub pieces-preserved : goal.pieces-preserved
pieces-preserved g c =
    let so_far = c.pieces.invariant in
    let piece = take c.in-Ok.n c.read_part.new.buffer in
    let going = sym (c.done.ensures.complete so_far.fed so_far.feeds.holds) ∙ c.pieces-test.true in
    let from_start = ap (λ (work : Work). work.is_complete so_far.fed) (sym so_far.feeds.same) ∙ going in record {
      fed = so_far.fed ++ piece;
      feeds = goes_on so_far.feeds piece c.in-Ok-feed.ensures.passes c.in-Ok-feed.ensures.holds c.in-Ok-feed.ensures.bound;
      readable = still_readable _ _ _ _ c.in-Ok.n c.in-Ok.ensures.rest so_far.readable;
      others = keeps_again _ _ _ _ so_far.others (keeps_others _ _ _ _ c.in-Ok.ensures.rest);
      read = λ visible. read_more _ _ _ _ _ _ _ _ _ (so_far.read visible) so_far.readable (c.in-Ok.ensures.bytes visible) c.in-Ok.ensures.rest;
      took = λ visible. takes_more _ (so_far.took visible) so_far.readable (c.in-Ok.ensures.bytes visible) c.in-Ok.ensures.rest;
      last = λ visible. needed_more so_far.fed c.read_part.new.buffer from_start (omega (
        arith,
        ap (λ (source : Source). source.last)
            (changed_source _ _ _ _ so_far.readable c.in-Ok.ensures.rest),
        length-take-le c.in-Ok.n _
            (c.in-Ok.ensures.bytes visible).within,
      ));
      few = λ standard n spare. rw (← so_far.feeds.same)
          (c.wanted.ensures.few so_far.fed piece c.feed.new.self.stage n so_far.feeds.holds.within
          going
          (omega (arith, piece_within c.read_part.new.buffer c.in-Ok.ensures.bound, c.piece_size-size.ensures.few standard))
          c.in-Ok-feed.ensures.passes.same (c.in-Ok-feed.ensures.holds so_far.fed so_far.feeds.holds).within
          (rw so_far.feeds.same spare));
      room = c.read_part.ensures.room ∙ so_far.room;
      needed = needed_more so_far.fed c.read_part.new.buffer from_start (omega (arith, c.in-Ok.ensures.bound, c.piece_size-size.ensures.within, c.pieces.invariant.room));
      asked = λ within. asked_again _ _ _ _ _ _ so_far.readable c.in-Ok.ensures.rest (omega arith) (so_far.asked within);
      laid = c.read_part.ensures.kept ∙ so_far.laid;
      ready = c.in-Ok-feed.ensures.passes.ready;
    }

-- the engine failed

pub returns-in-Err-feed : goal.returns-in-Err-feed
returns-in-Err-feed g c =
    let so_far = c.pieces.invariant in
    let now = g.I.Inputs.sources c.read_part.new.inputs in
    let piece = take c.in-Ok.n c.read_part.new.buffer in
    let work = g.S.Stage.terms.work c.pieces.engine.stage in
    let going = sym (c.done.ensures.complete so_far.fed so_far.feeds.holds) ∙ c.pieces-test.true in
    let needed = needed_more so_far.fed c.read_part.new.buffer going
    (omega (arith, c.in-Ok.ensures.bound, c.piece_size-size.ensures.within, so_far.room)) in
    let can = still_readable _ _ _ _ c.in-Ok.n c.in-Ok.ensures.rest so_far.readable in
    let more = λ (visible : g.I.Inputs.visible ≡ true).
    (read_more _ _ _ _ _ _ _ _ _ (so_far.read visible) so_far.readable (c.in-Ok.ensures.bytes visible) c.in-Ok.ensures.rest).bytes in
    let far = λ (visible : g.I.Inputs.visible ≡ true).
    (takes_more _ (so_far.took visible) so_far.readable (c.in-Ok.ensures.bytes visible) c.in-Ok.ensures.rest).far in
    let settles : is_stop (Err c.given_up.result) ≡ false → OfVerdict c.in-Err-feed.fault
    (IsSettled work (so_far.fed ++ piece))
    = λ ends. let (verdict, is, settled) = judges work.means _
    (EndsWith g.S.Stage.terms piece c.pieces.engine.stage)
    (ap is_verdict (sym c.given_up.ensures.same) ∙ not-false (is_verdict c.given_up.result) ends) c.in-Err-feed.ensures.passes.met in
    (verdict, is, settled so_far.fed so_far.feeds.holds.within) in record {
      ends = λ before opening begun.
          let within : length piece ≤ length c.args.buffer.now = piece_within c.read_part.new.buffer
          (omega (arith, c.in-Ok.ensures.bound, c.piece_size-size.ensures.within, so_far.room)) in
          of_more g.I.Inputs.visible _ (so_far.fed ++ piece) _ _ _ more
          (λ content. came_sound g.I.Inputs.visible _ c.args.slot can)
          (λ content is rest bytes came. (
            rw c.given_up.ensures.same (stopped_feeding so_far.feeds g.met.S.Stage.lawful c.feed.new.self _
                piece rest begun bytes (
                  rw (← so_far.feeds.same) (feeds so_far.fed piece rest bytes within going),
                  record {
                    came = came;
                    sound = sound_at now c.args.slot can;
                    ended = λ ends. absurd (cc);
                    joined = λ visible. is visible ∙ more visible;
                  },
                  λ visible unread standard. omega (arith, far visible unread),
                )
                c.in-Err-feed.ensures.passes c.given_up.ensures.judged c.given_up.ensures.swept),
            λ ends. rw (← so_far.feeds.same) (told_by_complete content (source_at now c.args.slot) rest
                (g.met.S.Stage.lawful _ _ so_far.feeds.holds.within) (settles ends).2.0 bytes),
          ));
      others = keeps_again _ _ _ _ so_far.others (keeps_others _ _ _ _ c.in-Ok.ensures.rest);
      reads = λ visible. (
        so_far.fed ++ piece,
        rw (← so_far.feeds.same) needed,
        more visible,
      );
      used = λ visible ends unread.
          rw (← so_far.feeds.same)
          (uses_judged (more visible) needed (settles ends).2 (far visible unread));
      asked = λ within. asked_again _ _ _ _ _ _ so_far.readable c.in-Ok.ensures.rest (omega arith) (so_far.asked within);
      broke = tt;
      laid = c.read_part.ensures.kept ∙ so_far.laid;
    }

-- nothing more can follow

pub give_back-requires-clause-within : goal.give_back-requires-clause-within
give_back-requires-clause-within g c visible =
    let so_far = c.pieces.invariant in
    spare_within _ _ _ so_far.fed (g.met.S.Stage.lawful _ _ so_far.feeds.holds.within) (rw so_far.feeds.same (so_far.last visible))
    (c.unused-unused.ensures so_far.fed so_far.feeds.holds)

pub returns : goal.returns
returns g c =
    let so_far = c.pieces.invariant in
    let now = g.I.Inputs.sources c.give_back.new.self in
    let work = g.S.Stage.terms.work c.pieces.engine.stage in
    let done = sym (c.done.ensures.complete so_far.fed so_far.feeds.holds) ∙ c.pieces-test.false in
    let spare = c.unused-unused.ensures so_far.fed so_far.feeds.holds in
    let few : c.args.slot ≡ 0 → c.unused-unused.result ≤ work.ahead = λ standard. rw so_far.feeds.same
    (so_far.few standard _ (rw so_far.feeds.same at spare)) in
    let back = c.give_back.ensures.rest in record {
      broke = ends_sound _ _ _ (inr refl) c.end-2.ensures;
      ends = λ before opening begun.
          let used = complete_used _ so_far.fed _ spare done in
          let readable = ap (λ (source : Source). source.is_open && not source.is_broken) (changed_source _ (gets_back _) _ _ so_far.readable back)
          ∙ so_far.readable in
          of_more g.I.Inputs.visible _ so_far.fed _ _ _ (λ visible. (so_far.read visible).bytes)
          (λ content. came_sound g.I.Inputs.visible now c.args.slot readable)
          (λ content is rest bytes came. (
            ended so_far.feeds g.met.S.Stage.lawful _ begun (done, (rest, bytes))
                (alike_after spare.rest (g.met.S.Stage.lawful _ _ so_far.feeds.holds.within) used spare.joined) (
                  rw (← so_far.feeds.same) (closes spare.used (enough (spare.rest ++ rest) (bytes ∙ ap (λ those. those ++ rest) spare.joined ∙ append_assoc spare.used spare.rest rest) used)
                      (needed_within c.requires.room spare.needed)),
                  record {
                    came = came;
                    sound = sound_at now c.args.slot readable;
                    ended = λ ends. absurd (false≢true (sym (ap not used) ∙ ends));
                    joined = λ visible. is visible ∙ read_used spare (so_far.read visible) (so_far.took visible) so_far.readable back;
                  },
                  λ visible unread. rw used (read_to_used spare few (so_far.took visible) unread so_far.readable back),
                ) c.end-2.ensures,
            λ ends. rw (← so_far.feeds.same) (told_by_complete content (source_at now c.args.slot) rest
                (g.met.S.Stage.lawful _ _ so_far.feeds.holds.within) done bytes),
          ));
      reads = λ visible. (
        spare.used,
        rw (← so_far.feeds.same) (needed_within c.requires.room spare.needed),
        read_used spare (so_far.read visible) (so_far.took visible) so_far.readable back,
      );
      used = λ visible ends unread.
          rw (← so_far.feeds.same)
          (uses_part spare (read_used spare (so_far.read visible) (so_far.took visible) so_far.readable back) c.requires.room
          (complete_used _ so_far.fed _ spare done)
          few
          (so_far.took visible) unread so_far.readable back);
      others = keeps_again _ _ _ _ so_far.others (keeps_others _ _ _ _ back);
      asked = λ within. rw (ap (λ (source : Source). source.asked) (changed_source _ _ _ _ so_far.readable back)) (so_far.asked within);
      laid = c.give_back.ensures.kept ∙ so_far.laid;
    }
