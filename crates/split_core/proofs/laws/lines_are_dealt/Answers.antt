use Rattle.std.proofs.{Common.arith, lemmas.{Grind.common_steps, List.FromFn.length-map-range_with_len}}
use Rattle.split_core.{specs.laws.DealLaws.dealt_append, proofs.SectionLemmas.{line_at, all_dealt, first_files}}
use Rattle.split_core.proofs.laws.lines_are_dealt.Goals as goal

pub returns : goal.returns
returns c = grind (arith, common_steps, line_at, all_dealt, length-map-range_with_len, dealt_append, first_files)
