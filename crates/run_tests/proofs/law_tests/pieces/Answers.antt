use Rattle.std.proofs.Common.{◌≡◌, [], ◌∷◌, map, drop, refl, ap}
use Rattle.seg_core.specs.Line.{joined}
use Rattle.ports_core.specs.Slot.{Slot}
use Rattle.words_core.specs.declared.settings.Settings.TheVariants.{Split}
use Rattle.run_tests.{
  specs.inner.Calls.{in_pipe, run_of},
  proofs.{CallLemmas.{pipe_given, weaker}},
}
use Rattle.run_tests.proofs.law_tests.pieces.Goals as goal

pub returns : goal.returns
returns c asked n read only cut =
    weaker c.left_of.result _ (λ outs. joined (map (λ (file : Slot). file.written) (drop 2 outs)) ≡ c.args.bytes.now)
    (λ outs (rest, does).
    let one = run_of _ _ (in_pipe c.args.bytes.now) rest outs 0 in
    let has = pipe_given one (Split asked) c.args.bytes.now refl read (ap (λ name. name ∷ []) only) in
    (c.split_loses_nothing.ensures.bytes one asked n c.args.bytes.now does has cut).all)
    (c.left_of.ensures (Split asked) read refl refl)
