use Rattle.std.proofs.Common.{◌-◌, ap, arith, false, subst, sym, true}
use Rattle.split_core.{specs.inner.{Chunker.TakesFront, Seen.seen_aim}, proofs.FrontLemmas.{takes_bytes, takes_lines}}
use Rattle.split_core.proofs.chunker.Chunker.front.Goals as goal

pub returns-in-Bytes : goal.returns-in-Bytes
returns-in-Bytes c = subst (λ start. TakesFront c.args.self.now (start, c.in-Output.chunk, false))
    (sym c.chunk_start-start.ensures) (rw (← c.self.view_is) (takes_bytes (record {
      said = c.in_ok-size.was;
      aim = ap seen_aim c.in-Output.is;
      fresh = rw (← c.self.view_is) at c.requires;
    }) c.in-Bytes.is
    (omega arith)))

pub returns-in-Lines : goal.returns-in-Lines
returns-in-Lines c = subst (λ start. TakesFront c.args.self.now (start - 1, 0, true))
    (sym c.chunk_start-start.ensures) (rw (← c.self.view_is) (takes_lines (record {
      said = c.in_ok-size.was;
      aim = ap seen_aim c.in-Output.is;
      fresh = rw (← c.self.view_is) at c.requires;
    }) c.in-Lines.is
    (omega arith)))
