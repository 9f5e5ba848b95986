use Rattle.engine_core.{
  specs.Agreed.GoesBy,
  proofs.AgreedLemmas.{alike_differ, one_is_agreed, one_is_undecided, one_waits, same_there},
}
use Rattle.engine_core.proofs.laws.one_is_agreed.Goals as goal

pub returns : goal.returns
returns c = record {
  outputs = one_is_agreed;
  states = same_there;
  waits = λ spots_of others x one other alike waits also. one_is_undecided (GoesBy others) x one other
      (alike_differ (GoesBy spots_of) (GoesBy others) alike waits) also;
  least = one_waits;
}
