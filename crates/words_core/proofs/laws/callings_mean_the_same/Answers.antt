use Rattle.std.proofs.Common.{◌≡◌, ap, refl, ◌∙◌, ◌⊎◌, inl, inr, ℕ, List, ◌∷◌, codes, Result, Err, false}
use Rattle.ports_core.specs.declared.{
  calling.Calling.TheVariants.{Cutters, OwnName},
  fault.{Fault.{Fault, TheVariants.Usage}, UsageKind.{UsageKind, TheVariants.{BadFollow, BadMode}}},
}
use Rattle.seg_core.specs.declared.unit.Unit.TheVariants.{Lines}
use Rattle.words_core.specs.{
  declared.{
    choice.Kind.TheVariants.{Amount, LinesEach},
    spelling.State.TheVariants.{First, Reading},
    table.Letters.TheVariants.{Never, OfHead, OfTail},
  },
  Given.Given,
  Laws.{HasShortValue, say_nothing},
  Refusal.word_at,
  Spelling.spelled,
  Table.{csplit_table, head_table, row_named, split_table, tail_table, tee_table, tools},
  Value.{follow_values, on_broken_values, then_check},
  Words.settings_for,
}
use Rattle.words_core.proofs.{
  CallingLemmas.{begins_head, begins_never, left_open, own_csplit, own_tail, row_named-tool, same_tee, same_unknown},
  CallingLemmas.same_words,
  ShortLemmas.{alike_after, follow_alike, on_broken_alike, own_follow, own_on_broken},
}
use Rattle.ports_core.specs.declared.tool.Tool.TheVariants as tool
use Rattle.words_core.proofs.laws.callings_mean_the_same.Goals as goal

-- what words spell is the same by both ways to call the program, or `cutters` refuses a value that is cut short
abbrev Alike : {A B : Type 0} → List (List ℕ × A) → UsageKind → List (List ℕ) → Result B Fault → Result B Fault → Type 0
Alike values bad words own cutters = (own ≡ cutters)
    ⊎ ((place : ℕ) × (cutters ≡ Err (Usage bad place)) × HasShortValue values (word_at words place))

tail_alike : (words : List (List ℕ)) (own cutters : Result Given Fault)
    → Alike follow_values BadFollow words own cutters
    → (then_check own (settings_for OwnName tool.Tail) ≡ then_check cutters (settings_for Cutters tool.Tail))
    ⊎ ((then_check cutters (settings_for Cutters tool.Tail) ≡ Err (Usage BadFollow 0))
    ⊎ ((place : ℕ) × (then_check cutters (settings_for Cutters tool.Tail) ≡ Err (Usage BadFollow place))
    × HasShortValue follow_values (word_at words place)))
tail_alike words own cutters (inl same) = elim (own_tail cutters) [
  | inl rest ↦ inl (ap (λ given. then_check given (settings_for OwnName tool.Tail)) same ∙ rest)
  | inr bad ↦ inr (inl bad)
]
tail_alike words own cutters (inr (place, bad, short)) =
    inr (inr (place, ap (λ given. then_check given (settings_for Cutters tool.Tail)) bad, short))

tee_alike : (words : List (List ℕ)) (own cutters : Result Given Fault)
    → Alike on_broken_values BadMode words own cutters
    → say_nothing cutters ≡ false
    → Alike on_broken_values BadMode words (then_check own (settings_for OwnName tool.Tee))
    (then_check cutters (settings_for Cutters tool.Tee))
tee_alike words own cutters (inl same) said =
    inl (ap (λ given. then_check given (settings_for OwnName tool.Tee)) same ∙ same_tee cutters said)
tee_alike words own cutters (inr (place, bad, short)) said =
    inr (place, ap (λ given. then_check given (settings_for Cutters tool.Tee)) bad, short)

pub returns : goal.returns
unfolding tools
returns c = record {
  none = refl;
  unknown = λ name words none. same_unknown name words (row_named (tools OwnName) name)
      (row_named (tools Cutters) name) (row_named-tool OwnName name ∙ none) none;
  head = λ words. ap (λ given. then_check given (settings_for Cutters tool.Head))
      (same_words head_table (Amount Lines) OfHead words (begins_head head_table words));
  tail = λ words other. rw (same_words (tail_table OwnName) (Amount Lines) OfTail words other)
      (tail_alike (codes "tail" ∷ words) _ _ (alike_after follow_values own_follow BadFollow follow_alike (tail_table Cutters)
      (codes "tail") words (First Cutters (Amount Lines) OfTail)));
  split = λ words. ap (λ given. then_check given (settings_for Cutters tool.Split))
      (same_words split_table LinesEach Never words (begins_never split_table words));
  csplit = λ words. own_csplit (spelled csplit_table words 1 Reading);
  tee = λ words said. tee_alike (codes "tee" ∷ words) _ _ (alike_after on_broken_values own_on_broken BadMode on_broken_alike
      (tee_table Cutters) (codes "tee") words Reading) said;
  left_open = left_open;
}
