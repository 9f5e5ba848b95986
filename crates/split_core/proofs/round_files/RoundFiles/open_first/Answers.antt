use Rattle.std.proofs.Common.{◌≡◌, ◌+◌, [], refl, arith, ap}
use Rattle.split_core.{
  specs.{Split.Filing, inner.Sharing.Opens},
  proofs.FilesLemmas.{adds_then, adds_wider, cannot_later},
}
use Rattle.ports_core.proofs.HandedOn.{result_is}
use Rattle.split_core.proofs.round_files.RoundFiles.open_first.Goals as goal

pub returns-in_err-reach : goal.returns-in_err-reach
returns-in_err-reach g c = result_is (Opens _ _ _ _ _) _ _ c.from_residual.ensures.1 (record {
  adds = adds_wider (c.loop-place.place + 1) c.args.count (λ place. [])
      (adds_then _ c.loop-place.invariant c.in_err-reach.ensures.adds (omega arith) (omega arith) (λ i. refl))
      (λ i. refl) (λ i out. refl) (omega arith) (omega arith) (omega arith);
  caused = cannot_later _ _ _ _ _
      (ap (λ (filing : Filing). filing.verbose) c.loop-place.invariant.filing) c.loop-place.invariant.sound c.in_err-reach.ensures.caused;
})

pub loop-place-preserved : goal.loop-place-preserved
loop-place-preserved g c = adds_then _ c.loop-place.invariant c.in_ok-reach.ensures.adds (omega arith) (omega arith) (λ i. refl)

pub returns : goal.returns
returns g c = let all : c.loop-place.place ≡ c.args.count = omega arith in
    record { adds = rw all at c.loop-place.invariant; caused = tt }
