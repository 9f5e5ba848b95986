-- What private calls say of formats.
use Rattle.std.specs.Prelude.{◌≡◌, ℕ, ◌<◌, ◌==◌, List, [], ◌∷◌, ◌++◌, if◌then◌else◌}

-- the rest is what follows an ASCII letter in the text
abbrev pub AfterLetter : (text rest : List ℕ) → Type 0
AfterLetter text rest = (front : List ℕ) × (letter : ℕ) × (letter < 128) × (text ≡ front ++ letter ∷ rest)

-- a text without the `%` (37) at its front, if it has one
abbrev pub without_percent : List ℕ → List ℕ
without_percent [] = []
without_percent (byte ∷ text) = if byte == 37 then text else byte ∷ text
