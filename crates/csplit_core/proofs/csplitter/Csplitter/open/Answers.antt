use Rattle.std.proofs.Common.{List, [], length, refl, ap, arith}
use Rattle.seg_core.specs.Line.{delimiters}
use Rattle.engine_core.{
  specs.Written.{OutputsAt, StoppedBetween, nothing},
  proofs.{WrittenLemmas.stopped_in_turn, ShareLemmas.nothing_told},
}
use Rattle.ports_core.{specs.Slot.Slot, proofs.HandedOn.fault_is}
use Rattle.csplit_core.{specs.{Output.sizes_wanted, Csplit.settled_by, Input.newline}, proofs.StageLemmas.none_stands}
use Rattle.csplit_core.proofs.csplitter.Csplitter.open.Goals as goal

pub returns-clause-holds : goal.returns-clause-holds
returns-clause-holds g c =
    let empty = c.new.ensures.items in
    rw c.new-2.ensures (record {
      live = refl;
      count = refl;
      within = record
          { stands = c.in_ok-cutter.ensures.stands; live = λ differs. empty; past = λ below. empty };
    })

pub returns-clause-ready : goal.returns-clause-ready
returns-clause-ready g c =
    let empty = c.new.ensures.items in
    let opened = c.in_ok-cutter.ensures in
    rw c.new-2.ensures (record {
      writer = opened.ready;
      output = opened.output c.requires.output;
      manner = rw opened.asked opened.manner;
      sound = opened.sound;
      unbroken = ap (delimiters newline) empty;
      room = (omega (arith, ap length empty));
      few =
          omega arith;
    })

pub returns-clause-owns : goal.returns-clause-owns
returns-clause-owns g c = rw c.new-2.ensures (record { writer = c.in_ok-cutter.ensures.owns; all = c.in_ok-cutter.ensures.all })

pub returns-clause-outputs : goal.returns-clause-outputs
returns-clause-outputs g c before at = rw c.as_slice.ensures at (c.in_ok-cutter.ensures.reaches.there before
    (none_stands g.O.Outs.visible c.args.style c.requires.streams at)).outputs

pub returns-in_err-cutter-clause-cut : goal.returns-in_err-cutter-clause-cut
returns-in_err-cutter-clause-cut g c = fault_is c.from_residual.result
    (λ fault. (before : List Slot) → OutputsAt g.O.Outs.visible before nothing _ → StoppedBetween
    (sizes_wanted c.args.style) g.O.Outs.visible before nothing (settled_by c.args.style c.args.operands.now []) fault _) _ c.from_residual.ensures.1
    (λ before at. rw c.as_slice.ensures at (stopped_in_turn (sizes_wanted c.args.style) g.O.Outs.visible before nothing _ _ _
    (nothing_told (sizes_wanted c.args.style)) (c.in_err-cutter.ensures.reaches.there before
    (none_stands g.O.Outs.visible c.args.style c.requires.streams at))))
