use Rattle.std.proofs.Common.{rules, ◌<◌, ◌^◌, get_or, refl}
use Rattle.scan_core.proofs.Closings.{led_is, follows_none, follows_more}
use Rattle.scan_core.proofs.closing.follow.Goals as goal

pub returns-then-led-ne0 : goal.returns-then-led-ne0
returns-then-led-ne0 c =
    let fits : get_or c.args.words.now c.args.hop.now.at 0 < 2 ^ 64 = search rules in
    let high : get_or c.args.words.now c.args.hop.now.word 0 < 2 ^ 64 = search rules in
    follows_more c.requires.hop c.requires.size high c.requires.apart (led_is c.requires.hop c.requires.size fits high refl refl) refl
    c.requires.closures c.requires.begun c.if-led-ne0.true c.looked_up.ensures (search rules) refl

pub returns-else-led-ne0 : goal.returns-else-led-ne0
returns-else-led-ne0 c =
    let fits : get_or c.args.words.now c.args.hop.now.at 0 < 2 ^ 64 = search rules in
    let high : get_or c.args.words.now c.args.hop.now.word 0 < 2 ^ 64 = search rules in
    follows_none c.requires.hop c.requires.size high c.requires.apart (led_is c.requires.hop c.requires.size fits high refl refl) refl
    c.if-led-ne0.false
