use Rattle.std.proofs.Common.{◌≡◌, ◌+◌, ◌-◌, arith}
use Rattle.ends_core.specs.laws.EndsLaws.{ends_together, first_then_after}
use Rattle.promises_core.proofs.PromiseLemmas.{head_output, tail_alike}
use Rattle.promises_core.proofs.promises.head_and_tail_meet.Goals as goal

pub returns : goal.returns
returns c = record {
  first = λ head tail first rest n input alike one other has has_too.
      let same : n + 1 - 1 ≡ n = omega arith in
      rw (head_output first alike.bare.0 one has, tail_alike alike other has_too, same)
      (first_then_after first.delim first.unit n input);
  last = λ head tail first rest n input alike one other has has_too.
      rw (head_output first alike.bare.0 one has, tail_alike alike other has_too) (ends_together first.delim first.unit n input);
}
