use Rattle.std.proofs.{
  Common.{◌≡◌, ℕ, ◌<◌, ◌++◌, List, sym, ◌∙◌, ap, arith, subst},
  lemmas.List.append-nil,
}
use Rattle.std.specs.List.{flat_map, range_with_len}
use Rattle.seg_core.specs.declared.cut.{Chunks.Chunks, Way.TheVariants.Chunk}
use Rattle.words_core.specs.SplitWords.{SplitAsked}
use Rattle.promises_core.specs.Promises.{Splits, output_of}
use Rattle.run_tests.{
  specs.inner.Calls.{in_file, run_of},
  proofs.{CallLemmas.{below_two, one_or}},
}
use Rattle.run_tests.proofs.law_calls.halves.Goals as goal
use Rattle.tools_core.specs.Run.{Run}

-- the law, of all runs that write one chunk each
abbrev MeetAll : Type 0
MeetAll = (runs : ℕ → Run) (asked : ℕ → SplitAsked) (chunks : Chunks) (input : List ℕ) → 0 < chunks.count
    → ((place : ℕ) → place < chunks.count → Splits (runs place) (asked place) (Chunk place chunks) input)
    → flat_map (λ place. output_of (runs place)) (range_with_len 0 chunks.count) ≡ input

meet : MeetAll → (one other : Run) (asked asked_too : SplitAsked) (chunks : Chunks) (input : List ℕ) → chunks.count ≡ 2
    → Splits one asked (Chunk 0 chunks) input → Splits other asked_too (Chunk 1 chunks) input
    → output_of one ++ output_of other ≡ input
meet law one other asked asked_too chunks input two first second =
    ap (λ back. output_of one ++ back) (sym (append-nil (output_of other)))
    ∙ ap (λ count. flat_map (λ place. output_of (one_or one other place)) (range_with_len 0 count)) (sym two)
    ∙ law (one_or one other) (one_or asked asked_too) chunks input (omega (arith, two))
    (λ place within. below_two (λ place. Splits (one_or one other place) (one_or asked asked_too place) (Chunk place chunks) input)
    first second place (subst (λ count. place < count) two within))

pub returns : goal.returns
returns c asked asked_too chunks two read read_too only only_too first second long =
    let (rest, splits) = rw c.in-Some.is at (c.in_ok-front.ensures asked read only long) in
    let (rest_too, splits_too) = rw c.in-Some-2.is at (c.in_ok-back.ensures asked_too read_too only_too long) in
    let found = in_file c.args.bytes.now c.args.shown.now in
    let one = run_of _ _ found rest c.in-Some.front 0 in
    let other = run_of _ _ found rest_too c.in-Some-2.back 0 in
    c.in_ok-extend_from_slice.ensures.items
    ∙ ap (λ front. front ++ c.bytes-2.result.now) (c.in_ok-all.ensures.items ∙ c.bytes.ensures)
    ∙ ap (λ back. output_of one ++ back) c.bytes-2.ensures
    ∙ meet c.split_loses_nothing.ensures.together one other asked asked_too chunks c.args.bytes.now two
    (record { does = splits.does; has = splits.has; is = splits.is ∙ first })
    (record { does = splits_too.does; has = splits_too.has; is = splits_too.is ∙ second })
