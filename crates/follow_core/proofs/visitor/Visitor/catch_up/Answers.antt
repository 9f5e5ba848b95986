use Rattle.std.proofs.{
  Common.{◌∙◌, ap, refl, sym, arith, is_some, false, ◌≡◌},
  lemmas.{Grind.common_steps, Bool.false≢true, List.append-nil, Result.IfOk-weaker},
}
use Rattle.follow_core.proofs.CallGivesLemmas.{
  broke_at,
  ends_can,
  gives_at,
  gives_both,
  gives_failed,
  gives_none,
  gives_over,
  is_held,
}
use Rattle.watch_core.specs.{Snapshot.latest, Watched.watched_at, declared.watch.Broken.TheVariants.Len}
use Rattle.follow_core.specs.{
  Event.notes_past,
  Reading.{not_open, measured, not_measured, read_none},
  Look.{sound, unmeasured},
}
use Rattle.follow_core.proofs.visitor.Visitor.catch_up.Goals as goal

pub returns-in_default-clause-adds : goal.returns-in_default-clause-adds
returns-in_default-clause-adds g c = let is = sym c.open_id.ensures ∙ c.in_default.is in record {
  fate = sound;
  ends = gives_none sound (not_open is);
  long = rw is (λ no. absurd (false≢true no));
  keeps = refl;
}

pub returns-in-Err-clause-adds : goal.returns-in-Err-clause-adds
returns-in-Err-clause-adds g c = record {
  fate = unmeasured _;
  ends = gives_failed (unmeasured _) (not_measured (ap is_some (sym c.open_id.ensures ∙ c.in-Some.is)) c.in-Err.ensures.breaks);
  long = tt;
  keeps = (broke_at (λ file. Len file) refl refl c.in-Err.ensures.err.0 c.in-Err.ensures.err.1, refl);
}

-- no line could be written about a file that is shorter; nothing was read of it
pub returns-in-Err-begin_at-clause-adds : goal.returns-in-Err-begin_at-clause-adds
returns-in-Err-begin_at-clause-adds g c = record {
  fate = sound;
  ends = gives_over (λ events are. rw are (rw (← append-nil (notes_past c.args.position c.in-Ok.len))
      (measured (ap is_some (sym c.open_id.ensures ∙ c.in-Some.is)) (c.in-Ok.ensures.found, c.in-Ok.ensures.ok) read_none)))
      (gives_at (c.in-Err-begin_at.ensures.ends (g.W.Watch.watched c.args.watch.now) c.args.self.now));
  long = tt;
  keeps = c.in-Ok.ensures.same;
}

pub invariant_of-self : goal.invariant_of-self
invariant_of-self g c = grind (arith, common_steps)

-- the line that the file is shorter, and then the bytes from the front; or the bytes from the position on
pub returns-clause-adds : goal.returns-clause-adds
returns-clause-adds g c =
    let some = ap is_some (sym c.open_id.ensures ∙ c.in-Some.is) in
    let copies = rw (c.open_len.ensures.seen, c.in-Ok.ensures.same, c.in-Ok-begin_at.ensures.from) at c.copy.ensures.copies in
    rw (← c.self.view_is) (record {
      fate = copies.fate;
      ends = gives_both (λ reach events more are read. rw are (measured some (c.in-Ok.ensures.found, c.in-Ok.ensures.ok) read))
          (c.in-Ok-begin_at.ensures.ends (g.W.Watch.watched c.args.watch.now) c.self.inside.printer) copies.ends;
      long = IfOk-weaker c.copy.result (λ n. n ≡ c.in-Ok.len) _ (λ n whole. rw whole (is_held false (latest (g.W.Watch.seen c.args.watch.now)) _
          (watched_at (g.W.Watch.watched c.args.watch.now) c.args.place).opened some (c.in-Ok.ensures.found, c.in-Ok.ensures.ok))) c.copy.ensures.len;
      keeps = copies.keeps;
    })

pub returns-clause-can : goal.returns-clause-can
returns-clause-can g c = ends_can c.copy.ensures.copies.ends c.in-Ok-begin_at.ensures.can
