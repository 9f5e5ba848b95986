use Rattle.std.proofs.Common.{◌≡◌, ◌<◌, [], ◌∷◌, List, ℕ, length, Some, inr, arith, refl, sym, ◌∙◌, ap}
use Rattle.mem_core.specs.MemInState.{shown_by}
use Rattle.words_core.specs.{
  SplitWords.SplitAsked,
  declared.settings.Settings.TheVariants.{Split},
}
use Rattle.promises_core.specs.Promises.{ShowAlike, at_first}
use Rattle.run_tests.{
  specs.inner.Calls.{in_file, run_of},
  proofs.{CallLemmas.{file_given, showing, shown_some, weaker}},
}
use Rattle.run_tests.proofs.law_calls.chunk_of_grown.Goals as goal

-- a text that a file shows is as good to `split` as any of this length
as_long : (asked : SplitAsked) (shown first : List ℕ) → 0 < length first → length shown ≡ length first
    → ShowAlike (Split asked) (shown_by shown) (Some first)
as_long asked shown first some long =
    rw (shown_some shown (omega (arith, some, long))) (λ looks. inr (refl, ap Some long))

pub returns : goal.returns
returns c asked place chunks first more read only way takes some long grows =
    let bytes = c.args.bytes.now in
    let shown = c.args.shown.now in
    let is_chunk = c.split_loses_nothing.ensures.chunk in
    weaker c.left_over.result _ _ (λ outs (rest, does) other same splits.
    let one = run_of _ _ (in_file bytes shown) rest outs 0 in
    let has = file_given one (Split asked) (showing bytes shown) first refl read (ap (λ name. name ∷ []) only)
    (at_first more grows takes (as_long asked shown first some long)) in
    is_chunk one asked place chunks first (record { does = does; has = has; is = way })
    ∙ sym (is_chunk other same place chunks first splits))
    (rw c.in_ok-inputs.ensures at (c.left_over.ensures (Split asked) read refl refl))
