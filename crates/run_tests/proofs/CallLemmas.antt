-- Lemmas that the callers in `law_tests` and `law_calls` share.
use Rattle.std.proofs.{
  Common.{◌≡◌, ◌⊎◌, ◌<◌, ℕ, zero, suc, List, [], ◌∷◌, true, false, codes, Option, Some, None, Result, Ok, inl, inr},
  Common.{refl, ◌∙◌, ap, arith, subst, length, IfOk, IfSome},
  lemmas.{Option.IfSome_then, Result.IfOk-weaker},
}
use Rattle.ports_core.specs.Source.{Content, unshown}
use Rattle.mem_core.specs.MemInState.{shown_by}
use Rattle.words_core.specs.{Words.settings_of, declared.settings.Settings.Settings}
use Rattle.tools_core.specs.{Outcome.names_at, Tasks.names_of}
use Rattle.promises_core.specs.{
  Promises.{Completes, FindAlike, Gives, HasInput, IsSilent, IsStopped, LeaveAlike, Ran, ShowAlike, in_full},
  Promises.looks_at_length,
}
use Rattle.tools_core.specs.Run.{Run}
use Rattle.run_tests.specs.inner.Calls.{IsCutShort}

-- what is true of what was left may be replaced by what follows from it
pub weaker : {A E : Type 0} (result : Result (Option A) E) (P Q : A → Type 0) → ((left : A) → P left → Q left)
    → IfOk result (λ left. IfSome left P) → IfOk result (λ left. IfSome left Q)
weaker result P Q more = IfOk-weaker result (λ left. IfSome left P) (λ left. IfSome left Q) (λ left holds. IfSome_then left holds more)

-- standard input that shows nothing gives its bytes to a run that reads it alone
pub pipe_given : (run : Run) (asked : Settings) (bytes : List ℕ) → run.world.standard ≡ unshown bytes
    → settings_of run.calling run.words ≡ Ok asked → names_of asked ≡ codes "-" ∷ [] → HasInput run bytes
pipe_given run asked bytes same read only = record {
  name = codes "-";
  only = ap (λ (meant : Result Settings _). names_at meant) read ∙ only;
  content = unshown bytes;
  holds = ap Some same;
  gives = λ asked read. in_full refl refl (inl refl);
}

-- a text of this length that a file shows is the same to a tool that looks at the length alone, and none matters to none
pub shown_as : (asked : Settings) (bytes shown : List ℕ) → looks_at_length asked ≡ true → length shown ≡ length bytes
    → (shown_by shown ≡ None) ⊎ ShowAlike asked (shown_by shown) (Some bytes)
shown_as asked bytes [] at_length long = inl refl
shown_as asked bytes (byte ∷ shown) at_length long = inr (λ looks. inr (at_length, ap Some long))

pub shown_some : (text : List ℕ) → 0 < length text → shown_by text ≡ Some text
shown_some [] some = absurd (omega (arith, some))
shown_some (byte ∷ text) some = refl

same_asked : {E : Type 0} {one other : Settings} {meant : Result Settings E} → meant ≡ Ok one → meant ≡ Ok other
    → one ≡ other
same_asked is is_too = cc

-- so does a file with this content to a run that reads it alone
pub file_given : (run : Run) (asked : Settings) (content : Content) (bytes : List ℕ)
    → run.world.laid 1 (codes "f") ≡ Some content → settings_of run.calling run.words ≡ Ok asked
    → names_of asked ≡ codes "f" ∷ [] → Gives asked content.shown content bytes → HasInput run bytes
file_given run asked content bytes lies read only gives = record {
  name = codes "f";
  only = ap (λ (meant : Result Settings _). names_at meant) read ∙ only;
  content = content;
  holds = lies;
  gives = λ other read_too. subst (λ those. Gives those content.shown content bytes) (same_asked read read_too) gives;
}

-- what a file has that shows a text and doesn't break off
abbrev pub showing : (bytes shown : List ℕ) → Content
showing bytes shown = record { bytes = bytes; breaks_off = false; shown = shown_by shown }

-- of two values the first for 0, and the second for all other numbers
abbrev pub one_or : {A : Type 0} → A → A → ℕ → A
one_or one other zero = one
one_or one other (suc place) = other

-- what is true of 0 and 1 is true of each number below 2
pub below_two : (P : ℕ → Type 0) → P 0 → P 1 → (place : ℕ) → place < 2 → P place
below_two P first second zero within = first
below_two P first second (suc zero) within = second
below_two P first second (suc (suc place)) within = absurd (omega (arith, within))

-- both laws of runs that a fault may stop

abbrev pub EndsSo : Type 0
EndsSo = (run : Run) (asked : Settings) → Ran run asked → Completes run asked ⊎ IsStopped run asked ⊎ IsSilent run asked

abbrev pub LeaveSo : Type 0
LeaveSo = (one other : Run) (asked : Settings) → Completes one asked → Completes other asked → FindAlike asked one other
    → LeaveAlike asked one other

-- two runs over inputs that are alike leave the same, unless one of them was cut short
pub alike_ends : EndsSo → LeaveSo → (one other : Run) (asked : Settings) → Ran one asked → Ran other asked
    → FindAlike asked one other
    → LeaveAlike asked one other ⊎ IsCutShort one asked ⊎ IsCutShort other asked
alike_ends ends same one other asked ran ran_too find = elim (ends one asked ran) [
  | inl whole ↦ elim (ends other asked ran_too) [
    | inl whole_too ↦ inl (same one other asked whole whole_too find)
    | inr short ↦ inr (inr short)
  ]
  | inr short ↦ inr (inl short)
]
