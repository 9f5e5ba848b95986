use Rattle.std.proofs.{lemmas.Grind.common_steps, Common.{arith, length-drop}}
use Rattle.ports_core.proofs.HandedOn.{handed_on}
use Rattle.csplit_core.proofs.{
  StretchLemmas.{settles_all, taking_none, taking_within, waits_fit},
  TakeLemmas.took_past,
}
use Rattle.csplit_core.proofs.line_cutter.LineCutter.take_lines.Goals as goal

pub returns-then-is_past : goal.returns-then-is_past
returns-then-is_past g c = took_past (c.is_past.ensures.past c.if-is_past.true) c.requires.sound c.requires.ready

pub stretches-init : goal.stretches-init
stretches-init g c = taking_none c.requires.sound c.requires.ready (c.is_past.ensures.live c.if-is_past.false) c.requires.start c.requires.none

pub take_next-requires : goal.take_next-requires
take_next-requires g c =
    let so_far = c.stretches.invariant in
    let next = so_far.next (omega arith) in record {
      within = taking_within so_far (omega arith);
      start = next.1;
      found = so_far.found;
      lines = grind (arith, common_steps);
      fits = grind (arith, common_steps);
      sound = so_far.waits.sound;
      live = next.0;
      ready = so_far.waits.keeps.writer.ready;
    }

pub returns-in_err-stretch : goal.returns-in_err-stretch
returns-in_err-stretch g c = rw (handed_on _ _ c.from_residual.ensures.1) (c.in_err-stretch.ensures.taken _ _ c.stretches.invariant.waits)

pub stretches-smaller : goal.stretches-smaller
stretches-smaller g c = let on = c.in_ok-stretch.ensures in let next = (c.stretches.invariant.next (omega arith)).1 in
    omega (arith, on.more, next.within, length-drop c.stretches.stretch.end c.args.text.now)

pub stretches-preserved : goal.stretches-preserved
stretches-preserved g c = c.in_ok-stretch.ensures.taken _ _ c.stretches.invariant.waits

pub hold-requires : goal.hold-requires
hold-requires g c = let so_far = c.stretches.invariant in
    record { fits = waits_fit c.stretches.stretch so_far c.requires.fits; fit = so_far.waits.sound.fit; ready = so_far.waits.keeps.writer.ready }

pub returns : goal.returns
returns g c = settles_all c.stretches.stretch c.stretches.invariant (omega arith) c.hold.ensures
