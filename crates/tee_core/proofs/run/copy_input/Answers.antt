use Rattle.std.proofs.Common.{◌∙◌}
use Rattle.ports_core.proofs.InputsLemmas.{fresh_asks}
use Rattle.tee_core.proofs.StartLemmas.{is_tee_of}
use Rattle.tee_core.proofs.run.copy_input.Goals as goal

pub returns-in_err-known-clause-asked : goal.returns-in_err-known-clause-asked
returns-in_err-known-clause-asked g c = fresh_asks _ _ c.requires.fresh

pub copy_all-requires-clause-tee : goal.copy_all-requires-clause-tee
copy_all-requires-clause-tee g c =
    is_tee_of c.args.job.now.names.now c.requires.outputs c.in_ok-tee.ensures.live c.in_ok-tee.ensures.files.0 c.in_ok-tee.ensures.files.1

pub copy_all-requires-clause-opened : goal.copy_all-requires-clause-opened
copy_all-requires-clause-opened g c = rw c.requires.outputs at c.in_ok-tee.ensures.opens

pub returns-clause-copied : goal.returns-clause-copied
returns-clause-copied g c = c.copy_all.ensures.copied

pub copy_all-requires-clause-room : goal.copy_all-requires-clause-room
copy_all-requires-clause-room g c = c.deref_mut.ensures.len ∙ c.in_ok-buffer.ensures.len
