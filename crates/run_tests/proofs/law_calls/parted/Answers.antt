use Rattle.std.proofs.Common.{◌≡◌, ◌++◌, [], ◌∷◌, not, inl, refl, sym, ◌∙◌, ap, subst}
use Rattle.seg_core.specs.declared.count.Sign.TheVariants.{Minus, Plain}
use Rattle.words_core.specs.{
  EndsWords.EndsAsked,
  declared.{settings.Settings.TheVariants.{Head, Tail}, tail_words.TailSettings.TailSettings},
}
use Rattle.promises_core.specs.Promises.{Does, at_first, counted, output_of}
use Rattle.tools_core.specs.Run.{Run}
use Rattle.words_core.specs.EndsWords.{is_plus}
use Rattle.run_tests.{
  specs.inner.Calls.{in_file, run_of},
  proofs.{CallLemmas.{file_given, showing, shown_some}},
}
use Rattle.run_tests.proofs.law_calls.parted.Goals as goal

-- a `tail` that followed nothing, by what it counts
tails : {run : Run} (asked : TailSettings) {ends : EndsAsked} → asked.ends ≡ ends → Does run (Tail asked)
    → Does run (Tail (record asked { ends = ends }))
tails {run = run} asked is does = subst (λ ends. Does run (Tail (record asked { ends = ends }))) is does

pub returns : goal.returns
returns c first rest asked n more read read_too is none alike only only_too some grows =
    let bytes = c.args.bytes.now in
    let shown = c.args.shown.now in
    let there = showing bytes shown in
    let settings = Head (counted first Minus n) in
    let (any, does) = rw (c.in-Some.is, c.in_ok-inputs.ensures) at (c.in_ok-front.ensures settings read refl refl) in
    let (any_too, does_too) = rw (c.in-Some-2.is, c.in_ok-again.ensures) at (c.in_ok-back.ensures (Tail asked) read_too none refl) in
    let head = run_of _ _ (in_file bytes shown) any c.in-Some.front 0 in
    let tail = run_of _ _ (in_file bytes shown) any_too c.in-Some-2.back 0 in
    let shows = shown_some shown some in
    c.in_ok-extend_from_slice.ensures.items
    ∙ ap (λ front. front ++ c.bytes-2.result.now) (c.in_ok-all.ensures.items ∙ c.bytes.ensures)
    ∙ ap (λ back. output_of head ++ back) c.bytes-2.ensures
    ∙ c.head_and_tail_meet.ensures.last head tail first rest n shown alike does
    (asked.followed, asked.looks, asked.pause, asked.process, tails asked is does_too)
    (file_given head settings there shown refl read only (at_first more grows refl (λ looks. inl shows)))
    (file_given tail (Tail asked) there shown refl read_too (ap (λ (ends : EndsAsked). ends.names) is ∙ only_too)
    (at_first more grows (ap (λ (ends : EndsAsked). not (is_plus ends.count.sign)) is) (λ looks. inl shows)))
