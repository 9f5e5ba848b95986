use Rattle.std.proofs.Common.{◌≡◌, ℕ, ◌+◌, ◌++◌, [], ◌∷◌, false, codes, Option, None, Some, refl, ◌∙◌, ap}
use Rattle.seg_core.specs.declared.count.Sign.TheVariants.{Plain, Plus}
use Rattle.ports_core.specs.declared.calling.Calling.TheVariants.{Cutters}
use Rattle.words_core.specs.{
  EndsWords.EndsAsked,
  Words.follows,
  declared.{settings.Settings.TheVariants.{Head, Tail}, value.Followed.Followed},
}
use Rattle.promises_core.specs.Promises.{counted, output_of}
use Rattle.run_tests.{
  specs.inner.Calls.{in_pipe, run_of},
  proofs.{CallLemmas.pipe_given},
}
use Rattle.run_tests.proofs.law_tests.met.Goals as goal

-- after `cutters` standard input isn't followed
unfollowed : (ends : EndsAsked) (followed : Option Followed) (looks pause : ℕ) → ends.names ≡ codes "-" ∷ []
    → follows Cutters false (Tail (record { ends = ends; followed = followed; looks = looks; pause = pause; process = None })) ≡ false
unfollowed ends None looks pause only = refl
unfollowed ends (Some how) looks pause only = rw only refl

pub returns : goal.returns
returns c first rest followed n looks pause read read_too alike only only_too =
    let settings = Head (counted first Plain n) in
    let settings_too = Tail (record { ends = counted rest Plus (n + 1); followed = followed; looks = looks; pause = pause; process = None }) in
    let (any, does) = rw c.in-Some.is at (c.in_ok-front.ensures settings read refl refl) in
    let none = unfollowed (counted rest Plus (n + 1)) followed looks pause only_too in
    let (any_too, does_too) = rw c.in-Some-2.is at (c.in_ok-back.ensures settings_too read_too none refl) in
    let head = run_of _ _ (in_pipe c.args.bytes.now) any c.in-Some.front 0 in
    let tail = run_of _ _ (in_pipe c.args.bytes.now) any_too c.in-Some-2.back 0 in
    c.in_ok-extend_from_slice.ensures.items
    ∙ ap (λ front. front ++ c.bytes-2.result.now) (c.in_ok-all.ensures.items ∙ c.bytes.ensures)
    ∙ ap (λ back. output_of head ++ back) c.bytes-2.ensures
    ∙ c.head_and_tail_meet.ensures.first head tail first rest n c.args.bytes.now alike does (followed, looks, pause, None, does_too)
    (pipe_given head settings c.args.bytes.now refl read only) (pipe_given tail settings_too c.args.bytes.now refl read_too only_too)
