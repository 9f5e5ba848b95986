use Rattle.std.proofs.Common.{ap, ◌∙◌}
use Rattle.words_core.{specs.Called.{calling_of, words_of}, proofs.CalledLemmas.{one_list}}
use Rattle.words_core.proofs.laws.words_are_the_arguments.Goals as goal

pub returns : goal.returns
returns c arguments words calling is =
    let all = one_list arguments 0 is.arguments is.given in
    (is.called ∙ ap calling_of all, is.read ∙ ap words_of all)
