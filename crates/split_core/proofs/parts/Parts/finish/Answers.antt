use Rattle.ports_core.{
  proofs.HandedOn.handed_on,
  specs.declared.{fault.Fault.TheVariants.{Verdict, Write}, verdict.Verdict.TheVariants.Suffixes},
}
use Rattle.engine_core.{
  proofs.{ShareLemmas.{bytes_begin, next_begins}, WriterSteps.{goes_again, goes_wider}},
  specs.{FileWriter.is_file, declared.file_writer.Opening.TheVariants.Never},
}
use Rattle.std.proofs.Common.{◌≡◌, refl, ap, sym, inl, ◌∙◌}
use Rattle.split_core.{specs.PartsState.PartsState, proofs.PartsLemmas.{closed_so, finishes_none, some_broke}}
use Rattle.split_core.proofs.parts.Parts.finish.Goals as goal

pub returns-then-not-is_open : goal.returns-then-not-is_open
returns-then-not-is_open g c = finishes_none _ _ c.requires
    (c.if-not-is_open.ensures ∙ ap (λ (parts : PartsState). is_file parts.writer.current) c.self.view_is)

pub returns-in_err-put_waiting : goal.returns-in_err-put_waiting
returns-in_err-put_waiting g c = let broke = c.in_err-put_waiting.ensures.broke (sym c.if-not-is_open.ensures) in
    rw (handed_on _ _ c.from_residual.ensures.1, ← c.self.view_is)
    (closed_so _ refl (goes_wider _ (λ manner draft. next_begins manner Never _)
    (inl (λ short. let e : Write broke.0 ≡ Verdict Suffixes = sym broke.1 ∙ short in cc)) c.in_err-put_waiting.ensures.goes) broke)

pub returns : goal.returns
returns g c = rw (← c.self.view_is) (closed_so _ refl (goes_again _ (λ draft. refl) (λ manner draft. bytes_begin manner _ draft)
    c.in_ok-put_waiting.ensures.goes c.end.ensures.goes) (some_broke _ c.end.ensures.broke))
