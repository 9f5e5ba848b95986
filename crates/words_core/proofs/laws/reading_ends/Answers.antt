use Rattle.std.proofs.{
  Common.{◌≡◌, ℕ, ◌+◌, ◌⊎◌, List, [], ◌∷◌, ◌++◌, length, Result, Ok, Err, inl, inr, refl, rules, sym, ap, ◌∙◌, arith},
  Common.append_assoc,
  lemmas.Grind.common_steps,
}
use Rattle.ports_core.specs.declared.fault.Fault.{Fault}
use Rattle.words_core.specs.{
  declared.{
    spelling.State.{State, TheVariants.{Reading, Ended}},
    choice.Choice.TheVariants.About,
    settings.Topic.Topic,
    table.Takes.TheVariants.Last,
  },
  Table.{OptionRow, csplit_table, head_table, program_table, split_table, tail_table, tee_table, tools},
  Given.{Given, joined, nothing, one_option},
  Laws.{IsLong, LeaveTheRest},
  Spelling.{Meaning, foremost, given_before, meaning_of, onward, spelled},
}
use Rattle.words_core.proofs.ValueLemmas.{long_name}
use Rattle.words_core.proofs.laws.reading_ends.Goals as goal

-- Nothing given first changes nothing, and two things given in turn are the two things joined.

before_nothing : (meant : Result Given Fault) → given_before nothing meant ≡ meant
before_nothing meant = search rules

before_both : (first next : Given) (meant : Result Given Fault)
    → given_before first (given_before next meant) ≡ given_before (joined first next) meant
before_both first next (Ok given) = grind (arith, common_steps, append_assoc)
before_both first next (Err fault) = refl

module _ (rows : List OptionRow) where
  leaves : (first : List (List ℕ)) (place : ℕ) (meant : Result Meaning Fault)
      → ((next : State) → LeaveTheRest (record { rows = rows; place = place + 1; state = next }) first)
      → ((fault : Fault) × ((more : List (List ℕ))
      → onward (spelled rows (first ++ more) (place + 1)) meant ≡ Err fault))
      ⊎ ((given : Given) × (next : State)
      × ((more : List (List ℕ))
      → onward (spelled rows (first ++ more) (place + 1)) meant
      ≡ given_before given (spelled rows more (place + 1 + length first) next)))
  leaves first place (Err fault) rest = inl (fault, λ more. refl)
  leaves first place (Ok meaning) rest = elim (rest meaning.next) [
    | inl (fault, is) ↦ inl (fault, λ more. ap (given_before meaning.given) (is more))
    | inr (given, next, is) ↦ inr (
      joined meaning.given given,
      next,
      λ more. ap (given_before meaning.given)
          (is more) ∙ before_both meaning.given given (spelled rows more (place + 1 + length first) next),
    )
  ]

  leave_the_rest : (first : List (List ℕ)) (place : ℕ) (state : State)
      → LeaveTheRest (record { rows = rows; place = place; state = state }) first
  leave_the_rest [] place state = inr (
    nothing,
    state,
    λ more.
        let here : place ≡ place + 0 = omega arith in
        ap (λ at. spelled rows more at state) here ∙ sym (before_nothing (spelled rows more (place + 0) state)),
  )
  leave_the_rest (word ∷ first) place state =
      let here : place + 1 + length first ≡ place + length (word ∷ first) = omega arith in
      rw here at (leaves first place (meaning_of rows state place word) (λ next. leave_the_rest first (place + 1) next))

nothing_more : (rows : List OptionRow) (words : List (List ℕ)) (place : ℕ) → spelled rows words place Ended ≡ Ok nothing
nothing_more rows [] place = refl
nothing_more rows (word ∷ words) place = ap (given_before nothing) (nothing_more rows words (place + 1))

last_ends : (rows : List OptionRow) (name : List ℕ) (topic : Topic) (words : List (List ℕ)) (place : ℕ)
    → IsLong rows name (Ok (Last topic))
    → spelled rows ((45 ∷ 45 ∷ name) ∷ words) place Reading ≡ Ok (one_option (About topic) place)
last_ends rows name topic words place is = rw (long_name name place is, nothing_more rows words (place + 1))

pub returns : goal.returns
unfolding tools foremost program_table
returns c = record {
  left = λ start first. leave_the_rest start.rows first start.place start.state;
  last = last_ends;
  head = λ calling words. rw (nothing_more head_table words 2) (refl, refl);
  tail = λ calling words. rw (nothing_more (tail_table calling) words 2) (refl, refl);
  split = λ calling words. rw (nothing_more split_table words 2) (refl, refl);
  csplit = λ calling words. rw (nothing_more csplit_table words 2) (refl, refl);
  tee = λ calling words. rw (nothing_more (tee_table calling) words 2) (refl, refl);
  program = λ calling words. (refl, refl);
}
