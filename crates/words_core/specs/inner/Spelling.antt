-- What private calls say of what words spell: options with their values, and operands.
use Rattle.std.specs.Prelude.{◌≡◌, ℕ, nat_lt, List, [], ◌∷◌, ◌⊎◌, Option, Some, None, Result, Ok, Err, if◌then◌else◌}
use Rattle.ports_core.specs.declared.fault.Fault.{Fault, TheVariants.Memory}
use Rattle.words_core.specs.{declared.spelling.State.State, Given.Given, Spelling.{Meaning, before}}

-- A cluster: letters, each of which names an option. If an option takes a value, that is the rest of the word, or the
-- next word.

-- the first letter of a text and what follows it; letters are ASCII
abbrev pub first_letter : List ℕ → Option (ℕ × List ℕ)
first_letter [] = None
first_letter (byte ∷ bytes) = if nat_lt byte 128 then Some (byte, bytes) else None

-- a call added what was meant to what was given before, or returned the fault; or memory was refused
abbrev pub Adds : (meant : Result Meaning Fault) → (old new : Given) → (result : Result State Fault) → Type 0
Adds meant old new (Ok next) = before old meant ≡ Ok (record { given = new; next = next })
Adds meant old new (Err fault) = (fault ≡ Memory) ⊎ (before old meant ≡ Err fault)
