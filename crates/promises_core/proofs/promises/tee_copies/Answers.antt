use Rattle.promises_core.proofs.{PromiseLemmas.is_copied, TeePromises.tee_stops}
use Rattle.promises_core.proofs.promises.tee_copies.Goals as goal

pub returns-clause-files : goal.returns-clause-files
returns-clause-files c tee asked input does has = (is_copied does has).files

pub returns-clause-stops : goal.returns-clause-stops
returns-clause-stops c = tee_stops

pub returns-clause-output : goal.returns-clause-output
returns-clause-output c tee asked input does has = (is_copied does has).output
