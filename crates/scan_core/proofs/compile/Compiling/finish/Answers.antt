use Rattle.std.proofs.Common.{ap, ◌∙◌}
use Rattle.scan_core.proofs.Compiled.{begun_wider, finish_more, finish_ends, popped_begun}
use Rattle.scan_core.proofs.compile.Compiling.finish.Goals as goal

pub write_out-requires : goal.write_out-requires
write_out-requires c = (popped_begun c.loop-duplication.self c.next_duplication.new.self c.in-Some.duplication c.in-Some.ensures c.loop-duplication.invariant.begun).0

pub loop-duplication-preserved : goal.loop-duplication-preserved
loop-duplication-preserved c = record {
  so_far = λ final f. c.loop-duplication.invariant.so_far final
      (rw c.in-Some.ensures.0 at (finish_more _ _ _ c.in-Some.ensures.2 c.in_ok-write_out.ensures.ok f));
  begun = begun_wider c.next_duplication.new.self.pending.items c.in_ok-write_out.ensures.more (popped_begun c.loop-duplication.self c.next_duplication.new.self c.in-Some.duplication c.in-Some.ensures c.loop-duplication.invariant.begun).1;
  passing = c.in-Some.ensures.1 ∙ c.loop-duplication.invariant.passing;
}

pub returns-clause-ok : goal.returns-clause-ok
returns-clause-ok c =
    let h = c.in_default.ensures in
    let same = h.0 in
    c.loop-duplication.invariant.so_far c.next_duplication.new.self
    (finish_ends h.1 (record {
      nodes = ap (λ s. s.nodes.items) same;
      pending = ap (λ s. s.pending.items) same;
      passing = ap (λ s. s.passing) same ∙ c.loop-duplication.invariant.passing;
    }))
