use Rattle.std.proofs.{Common.{◌≡◌, arith, false, refl}, lemmas.{Grind.common_steps, Bool.and_parts, Result.IfOk-weaker}}
use Rattle.watch_core.specs.{Snapshot.latest, Watched.watched_at, declared.watch.Broken.TheVariants.{Len, Read}}
use Rattle.follow_core.{
  specs.{Look.{unmeasured, unsought}, Reading.{begun, first_unmeasured, first_unsought}},
  proofs.CallGivesLemmas.{broke_at, ends_can, gives_failed, gives_so, is_held},
}
use Rattle.follow_core.proofs.visitor.Visitor.write_start.Goals as goal

pub returns-in-Err-clause-starts : goal.returns-in-Err-clause-starts
returns-in-Err-clause-starts g c = record {
  fate = unmeasured _;
  ends = gives_failed (unmeasured _) (first_unmeasured c.in-Err.ensures.breaks);
  keeps = (broke_at (λ file. Len file) refl refl c.in-Err.ensures.err.0 c.in-Err.ensures.err.1, refl);
}

pub returns-in-Err-find-clause-starts : goal.returns-in-Err-find-clause-starts
returns-in-Err-find-clause-starts g c = let (from, broken) = c.in-Err-find.ensures.err.1 in rw c.self.view_is (record {
  fate = unsought _ from;
  ends = gives_failed (unsought _ from) (first_unsought c.in-Err-find.ensures.sought
      (rw (c.open_len.ensures.seen, c.in-Ok.ensures.same) at c.in-Err-find.ensures.breaks));
  keeps = (broke_at (λ file. Read file from) refl c.in-Ok.ensures.same c.in-Err-find.ensures.err.0 broken, refl);
})

pub invariant_of-self : goal.invariant_of-self
invariant_of-self g c = grind (arith, common_steps)

pub invariant_of-self-2 : goal.invariant_of-self-2
invariant_of-self-2 g c = grind (arith, common_steps)

pub returns-clause-long : goal.returns-clause-long
returns-clause-long g c = IfOk-weaker c.copy.result (λ n. n ≡ c.in-Ok.len) _ (λ n whole. rw whole
    (is_held false (latest (g.W.Watch.seen c.args.watch.now)) _
    (watched_at (g.W.Watch.watched c.args.watch.now) c.args.place).opened
    (and_parts _ _ c.requires.readable).0 (c.in-Ok.ensures.found, c.in-Ok.ensures.ok))) c.copy.ensures.len

pub returns-clause-starts : goal.returns-clause-starts
returns-clause-starts g c =
    let copies = rw (c.self.view_is, c.find.ensures.seen, c.open_len.ensures.seen, c.in-Ok-find.ensures.same, c.in-Ok.ensures.same) at
    c.copy.ensures.copies in record {
      fate = copies.fate;
      ends = gives_so (λ reach events. begun (c.in-Ok.ensures.found, c.in-Ok.ensures.ok)
          (λ t. rw (c.open_len.ensures.seen, c.in-Ok.ensures.same) at (c.in-Ok-find.ensures.part t))) copies.ends;
      keeps = copies.keeps;
    }

pub returns-clause-can : goal.returns-clause-can
returns-clause-can g c = ends_can c.copy.ensures.copies.ends c.requires.can
