use Rattle.std.proofs.{Common.{◌∙◌, sym, arith}, lemmas.Grind.common_steps}
use Rattle.run_core.proofs.{
  InputLemmas.{of_missing, of_no_room, opens_missing, took_opened, took_standard, takes_file, takes_missing},
}
use Rattle.run_core.proofs.inputs.take_name.Goals as goal

-- the name is `-`

pub returns-then-is_dash-clause-took : goal.returns-then-is_dash-clause-took
returns-then-is_dash-clause-took g c had =
    took_standard c.args.progress (g.I.Inputs.laid c.args.inputs.now) c.args.name.now (g.I.Inputs.sources c.args.inputs.now) had c.standard_source-source.ensures (sym c.is_dash.ensures ∙ c.if-is_dash.true) (c.take_input.ensures.took had)

-- the file was opened

pub returns-in-Ok-clause-took : goal.returns-in-Ok-clause-took
returns-in-Ok-clause-took g c had =
    took_opened had (sym c.is_dash.ensures ∙ c.if-is_dash.false) c.in-Ok.ensures.ok (c.take_input-in-Ok.ensures.took had)

pub returns-in-Ok-clause-takes : goal.returns-in-Ok-clause-takes
returns-in-Ok-clause-takes g c = takes_file (sym c.is_dash.ensures ∙ c.if-is_dash.false) c.requires.some c.in-Ok.ensures.ok c.take_input-in-Ok.ensures.others c.take_input-in-Ok.ensures.asked

-- the file can't be opened

pub returns-in-Open-clause-took : goal.returns-in-Open-clause-took
returns-in-Open-clause-took g c had =
    of_missing had (sym c.is_dash.ensures ∙ c.if-is_dash.false) c.in-Err.ensures.err c.in-Open.is c.say_why.ensures

pub returns-in-Open-clause-takes : goal.returns-in-Open-clause-takes
returns-in-Open-clause-takes g c = takes_missing (sym c.is_dash.ensures ∙ c.if-is_dash.false) c.requires.some c.in-Err.ensures.err

-- there is no room for it

pub returns-in_default : goal.returns-in_default
returns-in_default g c = record {
  took = λ had. of_no_room c.args.progress had (sym c.is_dash.ensures ∙ c.if-is_dash.false) c.in-Err.ensures.err c.in_default.not-Open;
  takes = takes_missing (sym c.is_dash.ensures ∙ c.if-is_dash.false) c.requires.some c.in-Err.ensures.err;
  opens = tt;
  laid = c.open.ensures.kept;
}

pub take_input-requires-in-Ok-clause-unread : goal.take_input-requires-in-Ok-clause-unread
take_input-requires-in-Ok-clause-unread g c = grind (arith, common_steps)

pub take_input-requires-in-Ok-clause-input : goal.take_input-requires-in-Ok-clause-input
take_input-requires-in-Ok-clause-input g c = grind (arith, common_steps)

pub returns-in-Ok-clause-opens : goal.returns-in-Ok-clause-opens
returns-in-Ok-clause-opens g c = grind (arith, common_steps)

pub returns-in-Open-clause-opens : goal.returns-in-Open-clause-opens
returns-in-Open-clause-opens g c = opens_missing (sym c.is_dash.ensures ∙ c.if-is_dash.false) c.in-Err.ensures.err c.in-Open.is
