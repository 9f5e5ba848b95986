-- What private calls say of the values of options that have names.
use Rattle.std.specs.Prelude.{ℕ, List}
use denote.Ref.{Bor}

-- a value with its text, of which only the bytes count
abbrev pub value_seen : {A : Type 0} → Bor (List ℕ) × A → List ℕ × A
value_seen value = (value.0.now, value.1)
