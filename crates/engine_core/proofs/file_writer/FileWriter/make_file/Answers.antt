use Rattle.std.proofs.Common.{refl, sym, ◌∙◌}
use Rattle.ports_core.proofs.{HandedOn.handed_on, SlotLemmas.length-changed_at}
use Rattle.engine_core.specs.Names.{no_memory}
use Rattle.engine_core.proofs.file_writer.FileWriter.make_file.Goals as goal

pub returns-in_err-make_room : goal.returns-in_err-make_room
returns-in_err-make_room g c = rw (handed_on _ _ c.from_residual.ensures.1, c.in_err-make_room.ensures.same)
    (record { same = refl; naming = refl; none = no_memory refl })

pub returns-in_err-slot : goal.returns-in_err-slot
returns-in_err-slot g c = rw (handed_on _ _ c.from_residual-in_err-slot.ensures.1, c.in_ok-make_room.ensures.same)
    (record { same = refl; naming = c.in_err-slot.ensures.same; none = c.in_err-slot.ensures.err })

pub returns : goal.returns
returns g c = rw (c.keep.ensures, c.in_ok-make_room.ensures.same, c.in_ok-slot.ensures.drew)
    (record {
      few = c.in_ok-slot.ensures.few;
      named = c.in_ok-slot.ensures.named;
      place = c.in_ok-slot.ensures.slot
          ∙ sym (length-changed_at 0 _ _);
      added = c.in_ok-slot.ensures.opened;
      same = refl;
    })
