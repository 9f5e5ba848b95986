use Rattle.std.proofs.Common.{refl}
use Rattle.engine_tests.proofs.follow_tests.examples.Goals as goal

pub returns-clause-by_name : goal.returns-clause-by_name
returns-clause-by_name c = refl

pub returns-clause-that_appears : goal.returns-clause-that_appears
returns-clause-that_appears c = refl

pub returns-clause-that_comes_again : goal.returns-clause-that_comes_again
returns-clause-that_comes_again c = refl

pub returns-clause-that_is_left : goal.returns-clause-that_is_left
returns-clause-that_is_left c = refl

pub returns-clause-that_is_missing : goal.returns-clause-that_is_missing
returns-clause-that_is_missing c = refl

pub returns-clause-that_is_truncated : goal.returns-clause-that_is_truncated
returns-clause-that_is_truncated c = refl

pub returns-clause-of_two_names : goal.returns-clause-of_two_names
returns-clause-of_two_names c = refl

pub returns-clause-of_one_that_breaks : goal.returns-clause-of_one_that_breaks
returns-clause-of_one_that_breaks c = refl

pub returns-clause-that_cannot_be_opened : goal.returns-clause-that_cannot_be_opened
returns-clause-that_cannot_be_opened c = refl

pub returns-clause-that_cannot_be_read : goal.returns-clause-that_cannot_be_read
returns-clause-that_cannot_be_read c = refl

pub returns-clause-that_is_barred : goal.returns-clause-that_is_barred
returns-clause-that_is_barred c = refl

pub returns-clause-that_is_barred_unseen : goal.returns-clause-that_is_barred_unseen
returns-clause-that_is_barred_unseen c = refl
