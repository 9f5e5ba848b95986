use Rattle.std.proofs.Common.{◌∙◌, rules}
use Rattle.ports_core.proofs.PlaceLemmas.{no_line, place_found, place_said}
use Rattle.ports_core.proofs.input_place.place_in.Goals as goal

pub returns-in_err-digits-clause-said : goal.returns-in_err-digits-clause-said
returns-in_err-digits-clause-said c place small said =
    absurd (no_line c.in_ok-name.name c.in_ok-name.after c.in_ok-name.ensures.cases c.in_err-digits.ensures.cases said)

pub returns-clause-only : goal.returns-clause-only
returns-clause-only c =
    rw c.ok.ensures.value (place_said c.in_ok-name.name c.in_ok-name.after c.in_ok-digits.digits c.in_ok-digits.field-0-1
    c.parse.result (search rules) c.in_ok-name.ensures.cases c.in_ok-digits.ensures.cases c.parse.ensures.value.0)

pub returns-clause-said : goal.returns-clause-said
returns-clause-said c place small said =
    c.ok.ensures.value ∙ place_found c.in_ok-name.name c.in_ok-name.after c.in_ok-digits.digits c.in_ok-digits.field-0-1
    c.parse.result c.in_ok-name.ensures.cases c.in_ok-digits.ensures.cases c.parse.ensures.value.0 said small
