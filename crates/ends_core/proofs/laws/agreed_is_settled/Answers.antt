use Rattle.ends_core.proofs.{
  AgreedLemmas.{head_agreed, head_least, head_placed, head_undecided, tail_agreed, tail_least, tail_placed},
  AgreedLemmas.tail_undecided,
}
use Rattle.ends_core.proofs.laws.agreed_is_settled.Goals as goal

pub returns : goal.returns
returns c = record {
  head = λ but_last n x. head_agreed c.args.delim c.args.unit but_last n;
  head_waits = λ but_last n x. head_undecided c.args.delim c.ranges.delim.fits c.args.unit but_last n;
  tail = λ from_nth n x. tail_agreed c.args.delim c.ranges.delim.fits c.args.unit from_nth n;
  tail_waits = λ from_nth n x. tail_undecided c.args.delim c.ranges.delim.fits c.args.unit from_nth n;
  head_placed = head_placed c.args.delim c.args.unit;
  tail_placed = tail_placed c.args.delim c.args.unit;
  head_least = head_least c.args.delim c.ranges.delim.fits c.args.unit;
  tail_least = tail_least c.args.delim c.ranges.delim.fits c.args.unit;
}
