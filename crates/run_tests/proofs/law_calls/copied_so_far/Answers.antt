use Rattle.std.proofs.{Common.{◌≡◌, ◌++◌, List, ℕ, refl, ◌∙◌, ap, append_assoc}, lemmas.Result.IfOk-weaker}
use Rattle.engine_core.specs.Written.{IsBeginning}
use Rattle.ports_core.specs.Slot.{slot_at}
use Rattle.words_core.specs.declared.settings.Settings.TheVariants.{Tee}
use Rattle.run_tests.{
  specs.inner.Calls.{in_pipe, run_of},
}
use Rattle.run_tests.proofs.law_calls.copied_so_far.Goals as goal

begins_all : (front before rest all : List ℕ) → IsBeginning front before → all ≡ before ++ rest → IsBeginning front all
begins_all front before rest all (more, is) same = (more ++ rest, same ∙ ap (λ before. before ++ rest) is ∙ append_assoc front more rest)

pub returns : goal.returns
returns c = record {
  ends = λ asked read few.
      IfOk-weaker c.ran_over.result _ _
      (λ status (rest, ran).
      (rest, c.tee_copies.ensures.stops (run_of _ _ (in_pipe c.args.bytes.now) rest c.ran_over.new.outs status) asked ran few))
      (c.ran_over.ensures (Tee asked) read refl);
  begins = λ asked place read few not_error within.
      IfOk-weaker c.ran_over.result _ (λ status. IsBeginning (slot_at c.ran_over.new.outs place).written c.args.bytes.now)
      (λ status (rest, ran).
      let ends = c.tee_copies.ensures.stops (run_of _ _ (in_pipe c.args.bytes.now) rest c.ran_over.new.outs status) asked ran few in
      begins_all _ (ends.before ++ ends.last) ends.rest c.args.bytes.now (ends.outputs place not_error within).no_more ends.read)
      (c.ran_over.ensures (Tee asked) read refl);
}
