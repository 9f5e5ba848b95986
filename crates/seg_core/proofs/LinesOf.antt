-- `lines_of` is the one way to cut a text into lines.
use Rattle.std.{
  proofs.{
    lemmas.{Grind.common_steps, Bool.cases_eq},
    Common.{rules, ◌≡◌, ◌≢◌, ℕ, ◌<◌, Bool, true, false, cond, eqb, List, [], ◌∷◌, ◌++◌, inl, inr, length, refl, sym},
    Common.{ap, ◌∙◌, arith, append-nil},
  },
  specs.List.onto_first,
}
use Rattle.seg_core.specs.Line.{ends_with, joined, HasNone, IsComplete, AreLines, IsLines, lines_of}

joined_step : (is_delim : Bool) {byte : ℕ} (lines : List (List ℕ))
    → joined (cond is_delim ((byte ∷ []) ∷ lines) (onto_first byte lines)) ≡ byte ∷ joined lines
joined_step true lines = refl
joined_step false [] = refl
joined_step false (line ∷ lines) = refl

pub joined-lines_of : (delim : ℕ) (x : List ℕ) → joined (lines_of delim x) ≡ x
joined-lines_of delim [] = refl
joined-lines_of delim (byte ∷ x) = joined_step (eqb byte delim) (lines_of delim x) ∙ ap (λ z. byte ∷ z) (joined-lines_of delim x)

complete_first : (delim : ℕ) (lines : List (List ℕ)) → AreLines delim lines → AreLines delim ((delim ∷ []) ∷ lines)
complete_first delim [] each = inl ([], refl, tt)
complete_first delim (line ∷ lines) each = (([], refl, tt), each)

complete_cons : {delim byte : ℕ} (line : List ℕ) → byte ≢ delim → IsComplete delim line → IsComplete delim (byte ∷ line)
complete_cons {byte} line other (text, whole, none) = (byte ∷ text, ap (λ z. byte ∷ z) whole, (other, none))

other_first : (delim byte : ℕ) (lines : List (List ℕ)) → byte ≢ delim → AreLines delim lines
    → AreLines delim (onto_first byte lines)
other_first delim byte [] other each = search rules
other_first delim byte (line ∷ []) other (inl complete) = inl (complete_cons line other complete)
other_first delim byte (line ∷ []) other (inr (some, none)) = search rules
other_first delim byte (line ∷ next ∷ lines) other (complete, each) = (complete_cons line other complete, each)

lines_of-delimiter : {delim byte : ℕ} (x : List ℕ) → byte ≡ delim
    → lines_of delim (byte ∷ x) ≡ (byte ∷ []) ∷ lines_of delim x
lines_of-delimiter {delim} {byte} x e = grind (arith, common_steps)

lines_of-other : (delim byte : ℕ) (x : List ℕ) → byte ≢ delim
    → lines_of delim (byte ∷ x) ≡ onto_first byte (lines_of delim x)
lines_of-other delim byte x other = grind (arith, common_steps)

pub AreLines-lines_of : (delim : ℕ) (x : List ℕ) → AreLines delim (lines_of delim x)
AreLines-lines_of delim [] = tt
AreLines-lines_of delim (byte ∷ x) = elim (cases_eq byte delim) [
  | inl e ↦ rw (lines_of-delimiter x e) (rw e (complete_first delim (lines_of delim x) (AreLines-lines_of delim x)))
  | inr other ↦ rw (lines_of-other delim byte x other) (other_first delim byte (lines_of delim x) other (AreLines-lines_of delim x))
]

pub IsLines-lines_of : {delim : ℕ} {x : List ℕ} → IsLines delim x (lines_of delim x)
IsLines-lines_of {delim} {x} = record { whole = joined-lines_of delim x; each = AreLines-lines_of delim x }

-- the text begins with a complete line
pub lines_of-complete : (delim : ℕ) (text rest : List ℕ) → HasNone delim text
    → lines_of delim ((text ++ delim ∷ []) ++ rest) ≡ (text ++ delim ∷ []) ∷ lines_of delim rest
lines_of-complete delim [] rest none = search rules
lines_of-complete delim (byte ∷ text) rest (other, none) =
    lines_of-other delim byte ((text ++ delim ∷ []) ++ rest) other ∙ ap (onto_first byte) (lines_of-complete delim text rest none)

-- the text is one open line
pub lines_of-open : (delim : ℕ) (line : List ℕ) → 0 < length line → HasNone delim line → lines_of delim line ≡ line ∷ []
lines_of-open delim [] some none = absurd (omega arith)
lines_of-open delim (byte ∷ []) some (other, none) = search rules
lines_of-open delim (byte ∷ next ∷ line) some (other, none) =
    lines_of-other delim byte (next ∷ line) other ∙ ap (onto_first byte) (lines_of-open delim (next ∷ line) (omega arith) none)

line_first : {delim : ℕ} (line rest : List ℕ) → IsComplete delim line
    → lines_of delim (line ++ rest) ≡ line ∷ lines_of delim rest
line_first {delim} line rest (text, whole, none) = grind (arith, common_steps, lines_of-complete)

pub lines_of-joined : (delim : ℕ) (lines : List (List ℕ)) → AreLines delim lines → lines_of delim (joined lines) ≡ lines
lines_of-joined delim [] each = refl
lines_of-joined delim (line ∷ []) (inl complete) = line_first line [] complete
lines_of-joined delim (line ∷ []) (inr (some, none)) = ap (lines_of delim) (append-nil line) ∙ lines_of-open delim line some none
lines_of-joined delim (line ∷ next ∷ lines) (complete, each) =
    line_first line (joined (next ∷ lines)) complete ∙ ap (λ ls. line ∷ ls) (lines_of-joined delim (next ∷ lines) each)

pub lines_of-only : {delim : ℕ} {x : List ℕ} (lines : List (List ℕ)) → IsLines delim x lines → lines ≡ lines_of delim x
lines_of-only {delim} lines are = sym (lines_of-joined delim lines are.each) ∙ ap (lines_of delim) are.whole

append_step : (is_delim : Bool) (byte : ℕ) {next : ℕ} {rest : List ℕ} (front back : List (List ℕ))
    → joined front ≡ next ∷ rest
    → cond is_delim ((byte ∷ []) ∷ (front ++ back)) (onto_first byte (front ++ back))
    ≡ cond is_delim ((byte ∷ []) ∷ front) (onto_first byte front) ++ back
append_step true byte front back some = refl
append_step false byte [] back some = absurd (cc)
append_step false byte (line ∷ front) back some = refl

-- a text that ends with a delimiter and goes on: its lines, and those of what follows
pub lines_of-append : (delim : ℕ) (x y : List ℕ) → ends_with delim x ≡ true
    → lines_of delim (x ++ y) ≡ lines_of delim x ++ lines_of delim y
lines_of-append delim [] y ends = cc
lines_of-append delim (byte ∷ []) y ends = search rules
lines_of-append delim (byte ∷ next ∷ x) y ends =
    ap (λ ls. cond (eqb byte delim) ((byte ∷ []) ∷ ls) (onto_first byte ls)) (lines_of-append delim (next ∷ x) y ends)
    ∙ append_step (eqb byte delim) byte (lines_of delim (next ∷ x)) (lines_of delim y) (joined-lines_of delim (next ∷ x))
