use Rattle.std.proofs.Common.{map, rules}
use Rattle.words_core.{specs.Table.row_seen, proofs.LetteredLemmas.start_known}
use Rattle.words_core.proofs.spelling.read_first.Goals as goal

pub read_lettered-requires-in-Some-eq43-default : goal.read_lettered-requires-in-Some-eq43-default
read_lettered-requires-in-Some-eq43-default c = rw c.as_bytes-in-Some-eq43-default.ensures.value
    (start_known c.args.calling (map row_seen c.args.rows.now) c.args.letters c.in-Some-eq43-default.text.now (search rules))
