use Rattle.ends_core.{
  specs.{Shown.place_of, laws.WorkLaws.fewer_came},
  proofs.ShownLemmas.{between_agreed, between_done, between_placed, between_undecided, verdict-head_shown},
  proofs.ShownLemmas.{verdict-tail_shown, whole-head_shown, whole-tail_shown},
}
use Rattle.std.proofs.Common.{length}
use Rattle.ends_core.proofs.laws.shown_is_settled.Goals as goal

pub returns : goal.returns
returns c = let delim = c.args.delim in let unit = c.args.unit in record {
  head = λ n text. between_agreed 0 (place_of delim unit n text);
  head_waits = λ n text. between_undecided 0 (place_of delim unit n text);
  head_placed = λ n text. between_placed 0 (place_of delim unit n text);
  head_whole = λ n text more. (whole-head_shown delim unit n text more, verdict-head_shown delim unit n text more);
  tail = λ n text. between_agreed (place_of delim unit n text) (length text);
  tail_waits = λ n text. between_undecided (place_of delim unit n text) (length text);
  tail_placed = λ n text. between_placed (place_of delim unit n text) (length text);
  tail_whole = λ n text more. (whole-tail_shown delim unit n text more, verdict-tail_shown delim unit n text more);
  short = λ n text x. (fewer_came (place_of delim unit n text) x, fewer_came (length text) x);
  done = λ n text x. (between_done 0 (place_of delim unit n text) x, between_done (place_of delim unit n text) (length text) x);
}
