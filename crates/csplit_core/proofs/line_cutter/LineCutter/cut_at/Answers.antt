use Rattle.std.proofs.{Common.{◌∙◌, Err, ap, arith, refl}, lemmas.Grind.common_steps}
use Rattle.ports_core.proofs.HandedOn.{fault_is}
use Rattle.engine_core.proofs.{FileWriterLemmas.can_count, WriterSteps.{goes_or_lacks, stops_among}}
use Rattle.csplit_core.{
  specs.{Cutter.{CutterState, kept_next}, Output.{Style, opening_of}},
  proofs.CutterLemmas.{cut_put_stopped, cut_next_stopped, cut_done, goes_both, goes_held},
}
use Rattle.csplit_core.proofs.line_cutter.LineCutter.cut_at.Goals as goal

pub returns-in_err-write_front-clause-err : goal.returns-in_err-write_front-clause-err
returns-in_err-write_front-clause-err g c = fault_is _ _ _ c.from_residual.ensures.1
    (λ line. cut_put_stopped c.requires.fit c.requires.cuts refl refl
    (stops_among c.args.self.now.window.held c.args.before.now (goes_held c.len-waiting.ensures.len c.in_err-write_front.ensures.goes)))

pub put-requires : goal.put-requires
put-requires g c = record {
  ready = c.in_ok-write_front.ensures.goes.leaves.ready;
  fits = can_count _ _ _ (grind (arith, common_steps));
}

pub returns-in_err-put-clause-err : goal.returns-in_err-put-clause-err
returns-in_err-put-clause-err g c = fault_is _ _ _ c.from_residual-in_err-put.ensures.1
    (λ line. cut_put_stopped c.requires.fit c.requires.cuts refl refl
    (goes_both c.args.self.now.window.held c.len-waiting.ensures.len c.in_ok-write_front.ensures.goes c.in_err-put.ensures.goes))

pub returns-in_err-pass-clause-err : goal.returns-in_err-pass-clause-err
returns-in_err-pass-clause-err g c = fault_is _ _ _ c.from_residual-in_err-pass.ensures.1
    (λ line. let lacks = c.in_err-pass.ensures in
    cut_put_stopped c.requires.fit c.requires.cuts lacks.2 lacks.3
    (rw (← lacks.1) at (goes_or_lacks (Err _) (goes_both c.args.self.now.window.held c.len-waiting.ensures.len c.in_ok-write_front.ensures.goes c.in_ok-put.ensures.goes) lacks.0)))

pub returns-in_err-next-clause-err : goal.returns-in_err-next-clause-err
returns-in_err-next-clause-err g c = fault_is _ _ _ c.from_residual-in_err-next.ensures.1
    (λ line. cut_next_stopped c.requires.fit c.requires.cuts
    (goes_both c.args.self.now.window.held c.len-waiting.ensures.len c.in_ok-write_front.ensures.goes c.in_ok-put.ensures.goes)
    c.in_ok-pass.ensures (c.opening_of-opening.ensures
    ∙ ap (λ (s : Style). opening_of s c.is_kept-is_kept.result) c.style-style.ensures
    ∙ ap (opening_of c.pass.new.self.style) (c.is_kept-is_kept.ensures ∙ ap kept_next c.next_operand.ensures)) c.in_err-next.ensures.goes)

pub returns-clause-ok : goal.returns-clause-ok
returns-clause-ok g c line =
    let suppress = ap (λ (s : Style). s.suppress) (c.style.view_is ∙ c.style-style.ensures
    ∙ ap (λ (cutter : CutterState). cutter.style) c.in_ok-pass.ensures.same) in
    cut_done c.requires.fit c.requires.cuts
    (rw suppress at c.skip_line.ensures.first) (rw suppress at c.skip_line.ensures.none)
    (goes_both c.args.self.now.window.held c.len-waiting.ensures.len c.in_ok-write_front.ensures.goes c.in_ok-put.ensures.goes)
    c.in_ok-pass.ensures
    (c.opening_of-opening.ensures
    ∙ ap (λ (s : Style). opening_of s c.is_kept-is_kept.result) c.style-style.ensures
    ∙ ap (opening_of c.pass.new.self.style) (c.is_kept-is_kept.ensures
    ∙ ap kept_next c.next_operand.ensures)) c.in_ok-next.ensures.goes c.in_ok-next.ensures.size c.skip_line.ensures.shorter
