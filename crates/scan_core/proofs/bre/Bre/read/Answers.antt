use Rattle.std.proofs.{Common.{Ok, Err, IsErrOf, length, ap, ◌∙◌, arith}, lemmas.Result.err_from_is_err_and}
use Rattle.bre_core.specs.{declared.fault.BreFault.{BreFault, TheVariants.{Memory, TooLarge}}, Pattern.Pattern}
use Rattle.scan_core.proofs.Codes.{is_code, enough_room}
use Rattle.scan_core.proofs.bre.Bre.read.Goals as goal

no_fault : {bre : Pattern} → IsErrOf {T = Pattern} {E = BreFault} (Ok bre) TooLarge → ⊥
no_fault e = cc

other_fault : IsErrOf {T = Pattern} {E = BreFault} (Err Memory) TooLarge → ⊥
other_fault e = cc

pub closures_of-requires : goal.closures_of-requires
closures_of-requires c =
    let o = c.in_ok-code.ensures.order in
    let e = c.as_slice-nodes.ensures.value ∙ c.in_ok-code.ensures.ok in
    record { code = rw (← e) at (is_code _ o); short = let l = ap length e in let r = enough_room _ o in omega (arith, l, r, c.in_ok-expression.ensures.size) }

pub build-requires-clause-code : goal.build-requires-clause-code
build-requires-clause-code c = rw (← (c.as_slice-nodes.ensures.value ∙ c.in_ok-code.ensures.ok)) at (is_code _ c.in_ok-code.ensures.order)

pub needle_of-requires : goal.needle_of-requires
needle_of-requires c = rw (← (c.as_slice-nodes.ensures.value ∙ c.in_ok-code.ensures.ok)) at (is_code _ c.in_ok-code.ensures.order)

pub returns-in_err-shifts : goal.returns-in_err-shifts
returns-in_err-shifts c =
    let p = err_from_is_err_and c.from_residual-in_err-shifts.result c.from_residual-in_err-shifts.ensures.1 in
    rw (p.1, p.2, c.in_err-shifts.ensures.err) (record { reads = tt; groups = tt; size = tt; refused = λ h. absurd h; large = λ e. absurd (other_fault e) })

pub returns-in_err-needle : goal.returns-in_err-needle
returns-in_err-needle c =
    let p = err_from_is_err_and c.from_residual-in_err-needle.result c.from_residual-in_err-needle.ensures.1 in
    rw (p.1, p.2, c.in_err-needle.ensures.err) (record { reads = tt; groups = tt; size = tt; refused = λ h. absurd h; large = λ e. absurd (other_fault e) })
