use Rattle.std.proofs.Common.{ℕ, ◌<◌, [], ◌∷◌, List, false, map, refl, ap, arith}
use Rattle.std.specs.List.{range_with_len}
use Rattle.seg_core.specs.declared.cut.Way.TheVariants.{Turn}
use Rattle.words_core.specs.{SplitWords.SplitAsked, declared.settings.Settings.TheVariants.Split}
use Rattle.promises_core.specs.Promises.{AreDealt, Splits, output_of}
use Rattle.run_tests.{
  specs.inner.Calls.{in_pipe, run_of},
  proofs.{CallLemmas.{below_two, one_or, pipe_given}},
}
use Rattle.run_tests.proofs.law_calls.dealt.Goals as goal
use Rattle.tools_core.specs.Run.{Run}

-- the law, of all runs that write the lines of one file each
abbrev DealAll : Type 0
DealAll = (runs : ℕ → Run) (asked : ℕ → SplitAsked) (n delim : ℕ) (input : List ℕ) → 0 < n
    → ((place : ℕ) → place < n → Splits (runs place) (asked place) (Turn place n delim) input)
    → AreDealt delim n false input (map (λ place. output_of (runs place)) (range_with_len 0 n))

deal : DealAll → (one other : Run) (asked asked_too : SplitAsked) (delim : ℕ) (input : List ℕ)
    → Splits one asked (Turn 0 2 delim) input → Splits other asked_too (Turn 1 2 delim) input
    → AreDealt delim 2 false input (output_of one ∷ output_of other ∷ [])
deal law one other asked asked_too delim input first second =
    law (one_or one other) (one_or asked asked_too) 2 delim input (omega arith)
    (below_two (λ place. Splits (one_or one other place) (one_or asked asked_too place) (Turn place 2 delim) input) first second)

pub returns : goal.returns
returns c asked asked_too delim read read_too only only_too first second =
    let (rest, does) = rw c.in-Some.is at (c.in_ok-one.ensures (Split asked) read refl refl) in
    let (rest_too, does_too) = rw c.in-Some-2.is at (c.in_ok-other.ensures (Split asked_too) read_too refl refl) in
    let bytes = c.args.bytes.now in
    let one = run_of _ _ (in_pipe bytes) rest c.in-Some.one 0 in
    let other = run_of _ _ (in_pipe bytes) rest_too c.in-Some-2.other 0 in
    deal c.split_loses_nothing.ensures.turns one other asked asked_too delim bytes
    (record { does = does; has = pipe_given one (Split asked) bytes refl read (ap (λ name. name ∷ []) only); is = first })
    (record { does = does_too; has = pipe_given other (Split asked_too) bytes refl read_too (ap (λ name. name ∷ []) only_too); is = second })
