use Rattle.std.proofs.{lemmas.Bool.Decides.nat_tests, Common.{◌+◌, ◌≤◌, ◌∙◌, ap, length, arith}}
use Rattle.ports_core.specs.Source.{gives}
use Rattle.mem_core.proofs.MemInLemmas.{read_on}
use Rattle.mem_core.proofs.mem_in.MemSource.read.Goals as goal

pub returns-clause-rest : goal.returns-clause-rest
returns-clause-rest c =
    let s = c.self.inside in
    let within : s.given + c.min-n.result ≤ length s.bytes.items = omega arith in
    read_on _ _ s.bytes.items s.given c.min-n.result (length c.args.buffer.now) s.reached s.asked s.last _ _ _ s.ended
    s.reads within (omega arith) (omega arith) (grind (arith, nat_tests)) (grind (arith, nat_tests))
    ∙ ap (gives (length c.args.buffer.now) c.min-n.result) c.self.view_is
