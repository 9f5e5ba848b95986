use Rattle.std.proofs.{Common.{◌∙◌, refl, sym, ◌∷◌, [], Some}, lemmas.Option.none-some, Math.Bool.and-false}
use Rattle.follow_core.{
  proofs.CallLemmas.{no_memory, wrote_line, wrote_text},
  specs.{Event.{begins_none, notes}, Telling.found},
}
use Rattle.ports_core.specs.declared.fault.Fault.TheVariants as fault
use Rattle.follow_core.proofs.visitor.tell.Goals as goal

pub returns-in-Ok-clause-ends : goal.returns-in-Ok-clause-ends
returns-in-Ok-clause-ends g c watched printer = record {
  events = notes c.args.found ∷ [];
  given = refl;
  came = record {
    printer_is = λ none. rw (and-false printer.headers) refl;
    slots = rw (and-false printer.headers) (wrote_line g.O.Outs.visible printer.calling (found c.args.found c.args.name.now) (λ output error others are.
        let said = c.print.ensures output error others are in
        (said.0, rw (c.deref.ensures.value ∙ c.in-Ok.ensures.ok) at said.1, said.2)));
  };
}

-- there was no memory for the first line
pub returns-in-Err-clause-ends : goal.returns-in-Err-clause-ends
returns-in-Err-clause-ends g c watched printer = rw c.in-Err.ensures.err (record {
  events = [];
  given = (notes c.args.found ∷ [], refl, begins_none);
  came = record {
    printer_is = λ none. absurd (none-some _ (sym none));
    slots = wrote_text g.O.Outs.visible printer.calling _ _ (Some fault.Memory) no_memory;
  };
})
