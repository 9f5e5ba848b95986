use Rattle.std.proofs.{lemmas.Grind.common_steps, Common.{arith, sym, ap}}
use Rattle.operand_core.{specs.Reading.aim_of, proofs.AimLemmas.{goes_wrong, no_target}}
use Rattle.operand_core.proofs.target.read_target.Goals as goal

pub returns-in_err-number : goal.returns-in_err-number
returns-in_err-number c = goes_wrong _ c.in_err-number.field-0.0 c.from_residual.result (ap (aim_of c.args.calling c.args.least) (sym c.in_err-number.ensures)) c.from_residual.ensures.1

pub returns-in-Again : goal.returns-in-Again
returns-in-Again c = no_target c.args.calling c.args.least c.in_ok-number.field-0 c.args.word.now c.in-Again.field-0 c.in_ok-number.ensures c.in-Again.is

pub returns-in-Number : goal.returns-in-Number
returns-in-Number c = let at = c.in_order.ensures c.args.calling in grind (arith, common_steps)
