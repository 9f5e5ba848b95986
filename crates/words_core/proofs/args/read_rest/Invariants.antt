use Rattle.std.proofs.Common.{◌≡◌, ℕ, List, ◌++◌, map, string_bytes}
use Rattle.words_core.specs.Called.{AreGiven, MayBegin, word_of}
use Rattle.words_core.proofs.args.read_rest.Given as goal

-- the words so far are the first words and those of the arguments read; with any arguments that may follow from here
-- on, these may be given, or may come first
abbrev pub invariant-loop-place : goal.invariant-loop-place
invariant-loop-place g l = let gives = g.A.Arguments.gives l.arguments in (read : List (List ℕ))
    × (map string_bytes l.words.items ≡ map string_bytes l.fn.first.words.items ++ map (word_of l.tool) read)
    × ((rest : List (List ℕ)) → AreGiven gives l.place rest → AreGiven gives 1 (read ++ rest))
    × ((rest : List (List ℕ)) → MayBegin gives l.place rest → MayBegin gives 1 (read ++ rest))
