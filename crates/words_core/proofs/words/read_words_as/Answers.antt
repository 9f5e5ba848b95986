use Rattle.words_core.proofs.{LimitLemmas.read-can, WordsLemmas.returned}
use Rattle.words_core.proofs.words.read_words_as.Goals as goal

pub returns : goal.returns
returns c =
    let there =
    returned c.args.calling _ _ c.settle.result c.in-len1-up.len_at_least c.all_tools.ensures c.in-Some.ensures c.in_ok-spelled.ensures
    c.settle.ensures.ok c.settle.ensures.err in record {
      ok = there.0;
      err = there.1;
      can = read-can c.args.calling _ _ c.settle.result c.all_tools.ensures c.in-Some.ensures c.in_ok-spelled.ensures c.settle.ensures.ok;
      operands = c.settle.ensures.operands;
    }
