use Rattle.std.proofs.Common.{[], ◌∷◌, refl, ap}
use Rattle.words_core.specs.declared.settings.Settings.TheVariants.{Split}
use Rattle.promises_core.specs.Promises.{in_full}
use Rattle.run_tests.{
  specs.inner.Calls.{in_file, run_of},
  proofs.{CallLemmas.{file_given, showing, shown_as, weaker}},
}
use Rattle.run_tests.proofs.law_calls.split_of.Goals as goal

pub returns : goal.returns
returns c asked read only long =
    let bytes = c.args.bytes.now in
    let shown = c.args.shown.now in
    weaker c.left_over.result _ _ (λ outs (rest, does).
    let one = run_of _ _ (in_file bytes shown) rest outs 0 in
    let has = file_given one (Split asked) (showing bytes shown) bytes refl read (ap (λ name. name ∷ []) only)
    (in_full refl refl (shown_as (Split asked) bytes shown refl long)) in
    (rest, record { does = does; has = has; is = refl }))
    (rw c.in_ok-inputs.ensures at (c.left_over.ensures (Split asked) read refl refl))
