use Rattle.std.proofs.Common.{◌≡◌, drop, refl}
use Rattle.ports_core.specs.Slot.{slot_at}
use Rattle.words_core.specs.declared.settings.Settings.TheVariants.{Tee}
use Rattle.promises_core.specs.Promises.{AreCopies}
use Rattle.run_tests.{
  specs.inner.Calls.{in_pipe, run_of},
  proofs.{CallLemmas.{pipe_given, weaker}},
}
use Rattle.run_tests.proofs.law_tests.copied.Goals as goal

pub returns : goal.returns
returns c asked read strict =
    weaker c.left_of.result _ (λ outs. ((slot_at outs 0).written ≡ c.args.bytes.now) × AreCopies asked.mode asked.names c.args.bytes.now (drop 2 outs))
    (λ outs (rest, does).
    let one = run_of _ _ (in_pipe c.args.bytes.now) rest outs 0 in
    let has = pipe_given one (Tee asked) c.args.bytes.now refl read refl in
    (c.tee_copies.ensures.output one asked c.args.bytes.now does has, c.tee_copies.ensures.files one asked c.args.bytes.now does has))
    (c.left_of.ensures (Tee asked) read refl strict)
