use Rattle.std.proofs.{Common.{rules, ◌≡◌, ◌/◌, ◌<◌, ◌^◌, min, refl, sym, ◌∙◌, slice_index_or}, lemmas.Bool.false≢true}
use Rattle.scan_core.proofs.Insides.{grows_one}
use Rattle.scan_core.proofs.words.enter.Goals as goal

pub returns : goal.returns
returns c =
    let m : c.min.result ≡ min c.args.on c.args.number = search rules in
    let f : slice_index_or c.args.words.now (c.args.number / 64) 0 < 2 ^ 64 = search rules in
    grows_one c.requires (λ h. false≢true (sym c.if-has.false ∙ c.has.ensures.1 h)) refl f refl m
