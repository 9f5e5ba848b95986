use Rattle.std.proofs.{
  lemmas.{Grind.common_steps, Result.{on_ok_weaker, IfErr-weaker}},
  Common.{◌<◌, sym, subst, arith},
}
use Rattle.engine_core.{specs.{Work.IsSpare, Engine.{EndsWith, MayGet}}, proofs.SlotSteps.written_writable}
use Rattle.ends_core.{
  specs.{Stage.{terms, work}, inner.Stage.{due, due_at_end}},
  proofs.EndsLemmas.{ends_cut, ends_met, well_there, on_ok_each, same_work, takes_in, puts_out, cuts_off, lacks_kept},
  proofs.EndsLemmas.{met, went_out, rest_out, loads, full_is, done_is_exact, may_get, spare_here, wants_some},
}
use Rattle.ends_core.proofs.ends.PortionStage.TheImpl.Goals as goal

pub pass-tells : goal.pass-tells
pass-tells g c =
    let ends = c.args.self.now in
    let piece = c.args.piece.now in record {
      same = same_work c.ensures.same;
      size = c.ensures.bound;
      holds = on_ok_each c.result (λ left waits full. takes_in ends piece c.ensures.same c.ensures.past c.ensures.missing left waits full) c.ensures.left c.ensures.waits c.ensures.full;
      outputs = on_ok_weaker c.result (puts_out g.O.Outs.visible ends (due ends piece) (went_out ends piece)) c.ensures.wrote.out;
      ready = on_ok_weaker c.result (λ wrote. written_writable _ _ 0 0 _ c.requires.ready wrote) c.ensures.wrote.out;
      owns = λ first own. tt;
      there = λ are. tt;
      cut = IfErr-weaker c.result _ _ (λ fault stops. cuts_off g.O.Outs.visible ends (due ends piece) (went_out ends piece) stops) c.ensures.wrote.cut;
      met = IfErr-weaker c.result _ _ (λ fault stops. met g.O.Outs.visible ends (λ means. means.feeding) _ (EndsWith terms piece ends)
          (λ lacking. (lacks_kept ends lacking, lacking)) c.requires.ready stops) c.ensures.wrote.cut;
    }

pub finish-tells : goal.finish-tells
finish-tells g c =
    let ends = c.args.self.now in record {
      same = same_work c.ensures.same;
      size = c.ensures.bound;
      well = on_ok_weaker c.result (λ none x. well_there ends x none) c.ensures.whole;
      outputs = on_ok_weaker c.result (puts_out g.O.Outs.visible ends (due_at_end ends) (rest_out ends)) c.ensures.out;
      writable = on_ok_weaker c.result (λ wrote output. written_writable _ _ 0 0 _ c.requires.ready wrote) c.ensures.out;
      owns = λ first own. tt;
      there = λ are. tt;
      cut = IfErr-weaker c.result _ _ (λ fault. ends_cut g.O.Outs.visible ends) c.ensures.cut;
      met = IfErr-weaker c.result _ _ (λ fault. ends_met g.O.Outs.visible ends c.requires.ready) c.ensures.cut;
    }

pub load-tells : goal.load-tells
load-tells g c = record {
  loads = loads g.I.Inputs.visible c.requires.fresh c.requires.none c.ensures.passes;
  laid = c.ensures.laid;
}

pub is_done-tells : goal.is_done-tells
is_done-tells c = grind (arith, common_steps, full_is, done_is_exact)

pub wanted-tells : goal.wanted-tells
wanted-tells c = record {
  some = λ x holds going. subst (λ n. 0 < n) (sym c.ensures) (wants_some c.args.self.now holds going);
  few = subst (MayGet terms c.args.self.now) (sym c.ensures) (may_get c.args.self.now);
}

pub unused-tells : goal.unused-tells
unused-tells c x holds = subst (IsSpare (work c.args.self.now) x) (sym c.ensures) (spare_here c.args.self.now holds)
