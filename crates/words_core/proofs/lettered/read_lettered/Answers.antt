use Rattle.std.proofs.Common.{map}
use Rattle.words_core.{specs.Table.row_seen, proofs.LetteredLemmas.adds_count}
use Rattle.words_core.proofs.lettered.read_lettered.Goals as goal

pub returns-in_ok-add_option-in-Ok : goal.returns-in_ok-add_option-in-Ok
returns-in_ok-add_option-in-Ok c = adds_count (map row_seen c.args.rows.now) c.args.sign c.args.place c.args.text.now
    c.unit_in-unit.result c.times.result c.args.spelled.now c.add_option.new.self c.add_switches.new.spelled
    c.add_switches.result (rw c.after_digits-letters.ensures.value at c.unit_in-unit.ensures) c.times.ensures
    c.in-Ok.is c.in_ok-add_option-in-Ok.ensures.ok (rw c.after_digits-letters.ensures.value at c.add_switches.ensures)
