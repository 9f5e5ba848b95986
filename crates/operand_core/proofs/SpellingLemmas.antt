-- Words whose patterns are read ask for the same, however the tool is called.
use Rattle.std.proofs.Common.{◌≡◌, ℕ, ◌+◌, ◌==◌, Bool, List, [], ◌∷◌, drop, Option, Some, None, refl, sym, ◌∙◌, ap, subst}
use Rattle.std.proofs.Common.{Result, Ok, Err}
use Rattle.ports_core.specs.declared.calling.Calling.TheVariants.{Cutters, OwnName}
use Rattle.bre_core.proofs.GnuSpelling.{read_text}
use Rattle.operand_core.{
  specs.{
    Operand.{Offset, Target, Number, Search, Times, Operand},
    Word.{Spelling, search, unescaped, spelling},
    Reading.{Aim, match, aim_of, Words, IsTarget, AreRead, Asks, least_after, posix_text, times_by},
    Reading.{with_operand, words_from},
    inner.Repeating.{SayTimes, no_word, again, other},
    declared.operand_fault.OperandFaultKind.OperandFaultKind,
  },
  proofs.ReadingLemmas.{step_over, stop_at},
}

same_text : (kept : Bool) {text : List ℕ} (offset : Offset) (target : Target) → IsTarget (match kept text offset) target
    → posix_text OwnName text ≡ text
same_text kept {text} offset (Search pattern kept' offset') is = read_text text pattern is.0.reads
same_text kept offset (Number n) is = absurd is

same_aim : (least : ℕ) (spelled : Spelling) (aim : Aim) (target : Target) → aim_of Cutters least spelled ≡ Ok aim
    → IsTarget aim target → aim_of OwnName least spelled ≡ Ok aim
same_aim least (search delimiter text offset) aim target is hits =
    let same : match (delimiter == 47) (unescaped delimiter text) offset ≡ aim = cc in
    ap (λ t. Ok (match (delimiter == 47) t offset)) (same_text (delimiter == 47) offset target (subst (λ a. IsTarget a target) (sym same) hits)) ∙ is
same_aim least spelled aim target is hits = is

same_fault : (least : ℕ) (spelled : Spelling) {what : OperandFaultKind} → aim_of Cutters least spelled ≡ Err what
    → aim_of OwnName least spelled ≡ Err what
same_fault least (search delimiter text offset) is = cc
same_fault least spelled is = is

-- these words ask for the same by both callings, if they are read; `index` is the index of the first word
abbrev AreAlike : ℕ → List (List ℕ) → Type 0
AreAlike index words = (least : ℕ) (operands : List Operand) → AreRead (words_from Cutters index least words).operands operands
    → words_from OwnName index least words ≡ words_from Cutters index least words

one_more : (index : ℕ) (word : List ℕ) {words : List (List ℕ)} {times : Times} {said : ℕ} → SayTimes words times said
    → AreAlike (index + (1 + said)) (drop said words) → AreAlike index (word ∷ words)
one_more index word {words} {times} {said} says alike least operands read = by_aim (aim_of Cutters least (spelling word)) refl
  where
    taken : (aim : Aim) (operands : List Operand) → aim_of Cutters least (spelling word) ≡ Ok aim
        → AreRead (with_operand index aim times
        (words_from Cutters (index + (1 + said)) (least_after least aim) (drop said words))).operands operands
        → words_from OwnName index least (word ∷ words) ≡ words_from Cutters index least (word ∷ words)
    taken aim (operand ∷ more) is are =
        step_over OwnName index least word (same_aim least (spelling word) aim operand.target is are.0.target) says
        ∙ ap (with_operand index aim times) (alike (least_after least aim) more are.1)
        ∙ sym (step_over Cutters index least word is says)
    taken aim [] is are = absurd are

    by_aim : (aimed : Result Aim OperandFaultKind) → aim_of Cutters least (spelling word) ≡ aimed
        → words_from OwnName index least (word ∷ words) ≡ words_from Cutters index least (word ∷ words)
    by_aim (Err what) is =
        stop_at OwnName least word words (same_fault least (spelling word) is) ∙ sym (stop_at Cutters least word words is)
    by_aim (Ok aim) is =
        taken aim operands is (subst (λ (w : Words). AreRead w.operands operands) (step_over Cutters index least word is says) read)

all_alike : (index : ℕ) (words : List (List ℕ)) → AreAlike index words
all_alike index [] = λ least operands read. refl
all_alike index (word ∷ []) = one_more index word no_word (λ least operands read. refl)
all_alike index (word ∷ next ∷ words) = by_times (times_by (spelling next)) refl (all_alike (index + 2) words) (all_alike (index + 1) (next ∷ words))
  where
    by_times : (says : Option Times) → times_by (spelling next) ≡ says → AreAlike (index + 2) words
        → AreAlike (index + 1) (next ∷ words) → AreAlike index (word ∷ next ∷ words)
    by_times (Some times) is after before = one_more index word (again next words times is) after
    by_times None is after before = one_more index word (other next words is) before

pub asks_alike : (words : List (List ℕ)) (operands : List Operand) → Asks Cutters words operands
    → Asks OwnName words operands
asks_alike [] operands asks = record { well = asks.well; read = asks.read }
asks_alike (word ∷ words) operands asks =
    let same = all_alike 0 (word ∷ words) 0 operands asks.read in
    record { well = ap (λ (w : Words). w.fault) same ∙ asks.well; read = subst (λ (w : Words). AreRead w.operands operands) (sym same) asks.read }
