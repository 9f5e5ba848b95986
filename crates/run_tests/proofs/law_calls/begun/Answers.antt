use Rattle.std.proofs.{
  Common.{◌≡◌, ◌<◌, ◌^◌, List, [], ◌∷◌, ◌++◌, Some, codes, length, refl, sym, ◌∙◌, ap, arith},
  lemmas.Result.IfOk-weaker,
}
use Rattle.ports_core.specs.Source.{Content}
use Rattle.run_core.specs.Input.{Input, inputs_at, standard_input}
use Rattle.words_core.specs.declared.settings.Settings.{Settings}
use Rattle.promises_core.specs.Promises.{HasLong}
use Rattle.tools_core.specs.Tasks.{names_of}
use Rattle.run_tests.{specs.inner.Calls.{in_pipe, run_of}}
use Rattle.run_tests.proofs.law_calls.begun.Goals as goal
use Rattle.tools_core.specs.Run.{Run}

only_one : {A : Type 0} (x y : A) (before after : List A) → x ∷ [] ≡ before ++ y ∷ after → x ≡ y
only_one x y [] after same = cc
only_one x y (one ∷ []) after same = absurd (cc)
only_one x y (one ∷ other ∷ before) after same = absurd (cc)

-- standard input alone has no more than a tool takes
not_long : (run : Run) (asked : Settings) → names_of asked ≡ codes "-" ∷ [] → length run.world.standard.bytes < 2 ^ 63
    → HasLong run asked → ⊥
not_long run asked only few (input, content, (before, after, is), has, long) =
    let same : standard_input run.world.standard ≡ input = only_one _ _ before after (ap (inputs_at run.world) (sym only) ∙ is) in
    let held : Some run.world.standard ≡ Some content = ap (λ (input : Input). input.content) same ∙ has in
    let is_it : run.world.standard ≡ content = cc in
    omega (arith, few, long, ap (λ (content : Content). length content.bytes) is_it)

pub returns : goal.returns
returns c asked read only none operands few =
    IfOk-weaker c.ran_over.result _ _
    (λ status (rest, ran).
    let one = run_of _ _ (in_pipe c.args.bytes.now) rest c.ran_over.new.outs status in
    let (well, find, whole) = c.faults_leave_a_beginning.ensures.beside one asked ran operands (not_long one asked only few) in
    (one, well, refl, find, whole, c.faults_leave_a_beginning.ensures.begins one well asked ran whole find))
    (c.ran_over.ensures asked read none)
