-- What private calls say: the texts that the tools print beside their output.
use Rattle.std.specs.Prelude.{ℕ, Bool, List, ◌++◌, codes, decimal, Option, Some, None, if◌then◌else◌}
use Rattle.ports_core.specs.Text.{in_quotes}

-- the number of a rule, and where in a pattern it is broken
abbrev pub rule_at : ℕ → Option ℕ → List ℕ
rule_at rule None = decimal rule
rule_at rule (Some place) = decimal rule ++ codes " at " ++ decimal place

-- what is wrong, and the word that this is about, if it is about a word
abbrev pub said : List ℕ → Bool → List ℕ → List ℕ
said words is_about word = if is_about then words ++ in_quotes word else words
