use Rattle.std.proofs.Common.{◌≡◌, ◌++◌, [], map, drop}
use Rattle.words_core.specs.Help.{listed}
use Rattle.words_core.proofs.help.names_of.Given as goal

abbrev pub invariant-loop-name : goal.invariant-loop-name
invariant-loop-name l =
    l.text.items ++ listed l.before (map (λ name. name.now) (drop l.name-index l.names)) ≡ listed []
    (map (λ name. name.now) l.names)
