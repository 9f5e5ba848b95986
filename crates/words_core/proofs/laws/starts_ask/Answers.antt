use Rattle.std.proofs.Common.{◌≡◌, ◌≤◌, ◌-◌, ◌^◌, ℕ, List, false, true, append_assoc, refl, arith, ◌*◌, [], ◌∷◌, ◌++◌}
use Rattle.std.specs.Char.{is_ascii_digit}
use Rattle.seg_core.specs.{declared.{count.Sign.TheVariants.{Plain, Plus}}, Count.{is_number, value_of}}
use Rattle.ports_core.specs.declared.calling.Calling.{Calling, TheVariants.{Cutters, OwnName}}
use Rattle.words_core.{
  specs.{
    declared.{choice.Choice.TheVariants.Follow, value.Followed.TheVariants.Descriptor},
    Given.{nothing, one_option},
    Laws.NumberAsks,
    Lettered.unit_in,
    Spelling.foremost,
    Table.{tail_table, tools},
  },
  proofs.{
    CallingLemmas.plus_is_name,
    StartLemmas.{Fit, digits_count, digits_start, letters_last, letters_start, no_number, sized_large, sized_so},
  },
}
use Rattle.words_core.proofs.laws.starts_ask.Goals as goal

-- what digits and letters ask for, also with an `f` at the end
letters_ask : (letter : ℕ) (digits : List ℕ) {amount : ℕ}
    → ((calling : Calling) → Fit calling (letter ∷ []) nothing)
    → ((calling : Calling) → Fit calling (letter ∷ 102 ∷ []) (one_option (Follow Descriptor) 1))
    → is_ascii_digit letter ≡ false → is_number digits ≡ true → value_of digits * (unit_in (letter ∷ [])).1 ≡ amount
    → amount ≤ 2 ^ 63 - 1 → NumberAsks (digits ++ letter ∷ []) (unit_in (letter ∷ [])).0 amount
unfolding tools
letters_ask letter digits {amount} alone followed other number is most =
    let end : (digits ++ letter ∷ []) ++ 102 ∷ [] ≡ digits ++ letter ∷ 102 ∷ [] = append_assoc digits (letter ∷ []) (102 ∷ []) in (
      λ calling. (
        rw (letters_last calling digits (letter ∷ []) amount number (alone calling) is most (no_number digits letter [] other)) refl,
        rw (
          end,
          letters_last calling digits (letter ∷ 102 ∷ []) amount number (followed calling) is most
              (no_number digits letter (102 ∷ []) other),
        ) refl,
      ),
      (
        rw (letters_start OwnName digits (letter ∷ []) amount number (alone OwnName) is most refl) refl,
        rw (end, letters_start OwnName digits (letter ∷ 102 ∷ []) amount number (followed OwnName) is most refl) refl,
      ),
    )

f_fits : (calling : Calling) → Fit calling (102 ∷ []) (one_option (Follow Descriptor) 1)
f_fits calling = (refl, refl, refl, refl)

pub returns-clause-number : goal.returns-clause-number
unfolding tools foremost
returns-clause-number c digits number most = (
  λ calling. (
    rw (number, digits_count digits number, sized_so Plain (value_of digits) most) refl,
    rw (letters_last calling digits (102 ∷ []) (value_of digits) number (f_fits calling) (omega arith) most (no_number digits 102 [] refl)) refl,
  ),
  (
    rw (digits_start digits number, sized_so Plus (value_of digits) most) refl,
    rw (letters_start OwnName digits (102 ∷ []) (value_of digits) number (f_fits OwnName) (omega arith) most refl) refl,
  ),
)

pub returns-clause-bytes : goal.returns-clause-bytes
returns-clause-bytes c digits number most =
    letters_ask 99 digits (λ calling. (refl, refl, refl, refl)) (λ calling. (refl, refl, refl, refl)) refl number (omega arith) most

pub returns-clause-blocks : goal.returns-clause-blocks
returns-clause-blocks c digits number most =
    letters_ask 98 digits (λ calling. (refl, refl, refl, refl)) (λ calling. (refl, refl, refl, refl)) refl number refl most

pub returns-clause-lines : goal.returns-clause-lines
returns-clause-lines c digits number most =
    letters_ask 108 digits (λ calling. (refl, refl, refl, refl)) (λ calling. (refl, refl, refl, refl)) refl number (omega arith) most

pub returns-clause-too_large : goal.returns-clause-too_large
unfolding tools
returns-clause-too_large c digits words number large = rw (digits_start digits number, sized_large (value_of digits) large) refl

pub returns-clause-cutters : goal.returns-clause-cutters
unfolding tools foremost
returns-clause-cutters c text = rw (plus_is_name (tail_table Cutters) 1 text)
