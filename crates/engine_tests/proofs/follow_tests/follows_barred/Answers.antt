use Rattle.std.proofs.Common.{refl}
use Rattle.engine_tests.proofs.follow_tests.follows_barred.Goals as goal

pub follow_files-status-requires-clause-unseen : goal.follow_files-status-requires-clause-unseen
follow_files-status-requires-clause-unseen g c = rw (c.fail_for.ensures, c.requires.unturned) refl
