use Rattle.std.proofs.Common.{◌≡◌, ◌+◌, ◌*◌, ◌/◌, ◌%◌, ◌^◌, ◌-◌, ◌<◌, ℕ, drop, ◌∙◌, arith, get_or-take, get_or-drop}
use Rattle.scan_core.proofs.Insides.{closes_none, join_more}
use Rattle.scan_core.proofs.closures.looked_up.Goals as goal

pub loop-eight-init : goal.loop-eight-init
loop-eight-init c = let none : c.args.word % 1 ≡ 0 = omega arith in rw none (closes_none _ _)

pub loop-eight-preserved : goal.loop-eight-preserved
loop-eight-preserved c =
    let place : ℕ = c.loop-eight.eight * 256 + c.args.word / 2 ^ (c.loop-eight.eight * 8) % 256 in
    let within : place < c.args.at * 2048 + 2048 - c.args.at * 2048 = omega arith in
    join_more _ c.loop-eight.invariant c.requires.inside c.requires.at c.loop-eight-test.true
    (get_or-take _ (drop (c.args.at * 2048) c.args.inside.now) place 0 within ∙ get_or-drop (c.args.at * 2048) c.args.inside.now place 0)

pub returns : goal.returns
returns c =
    let all : c.loop-eight.eight ≡ 8 = omega arith in
    let whole : c.args.word % 2 ^ 64 ≡ c.args.word = omega arith in
    rw whole at (rw all at c.loop-eight.invariant)
