use Rattle.std.proofs.{Common.{◌∙◌, arith, sym}, lemmas.{Grind.common_steps, List.length-map}}
use Rattle.tee_core.{
  specs.inner.Steps.run_for,
  proofs.{
    CopyLemmas.{stands_of, stands_ready, stands_said, stands_streams, standings_said},
    EndLemmas.ends_copied,
    StartLemmas.{length-names, opened_streams, starts},
  },
}
use Rattle.tee_core.proofs.run.copy_all.Goals as goal

pub tell_broken-requires-clause-streams : goal.tell_broken-requires-clause-streams
tell_broken-requires-clause-streams g c = rw (length-map c.args.job.now.names.now _) at (opened_streams c.requires.opened)

pub tell_broken-requires-clause-known : goal.tell_broken-requires-clause-known
tell_broken-requires-clause-known g c = grind (arith, common_steps)

pub copy_pieces-fault-requires-clause-started : goal.copy_pieces-fault-requires-clause-started
copy_pieces-fault-requires-clause-started g c =
    starts (run_for g.O.Outs.visible c.args.job.now) c.requires.opened (length-names _ c.requires.unknown)
    c.tell_broken.ensures.said

pub copy_pieces-fault-requires-clause-known : goal.copy_pieces-fault-requires-clause-known
copy_pieces-fault-requires-clause-known g c =
    c.tell_broken.ensures.seen ∙ sym (standings_said c.tell_broken.ensures.said (opened_streams c.requires.opened))

pub tell_input-requires : goal.tell_input-requires
tell_input-requires g c = (_, stands_streams (stands_of c.copy_pieces-fault.ensures.copies.2.0.copied))

pub close_all-requires-clause-ready : goal.close_all-requires-clause-ready
close_all-requires-clause-ready g c =
    rw c.copy_pieces-fault.ensures.same (stands_ready (stands_said (stands_of c.copy_pieces-fault.ensures.copies.2.0.copied)
    c.tell_input.ensures) c.requires.tee)

pub close_all-requires-clause-streams : goal.close_all-requires-clause-streams
close_all-requires-clause-streams g c =
    stands_streams (stands_said (stands_of c.copy_pieces-fault.ensures.copies.2.0.copied) c.tell_input.ensures)

pub close_all-requires-clause-known : goal.close_all-requires-clause-known
close_all-requires-clause-known g c =
    c.copy_pieces-fault.ensures.known ∙ sym (standings_said c.tell_input.ensures
    (stands_streams (stands_of c.copy_pieces-fault.ensures.copies.2.0.copied)))

pub returns-clause-copied : goal.returns-clause-copied
returns-clause-copied g c =
    let (content, is, (read, breaks)) = c.copy_pieces-fault.ensures.copies in (
      content,
      is,
      (
        ends_copied c.status_for.ensures c.close_all.ensures.known read c.tell_input.ensures
            c.close_all.ensures.closes,
        breaks,
      ),
    )
