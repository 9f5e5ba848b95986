-- `head` and `tail` of an input that shows its bytes: they are lawful and keep nothing back, and if the text comes that was shown, they end
-- as those that know nothing of it do.
use Rattle.std.proofs.{
  lemmas.{
    Bool.{cases_lt, le-leb, leb-true, le-ltb, lt-ltb},
    List.{drop_all, drop-take, length-drop, length-take, take-append-drop, take-append-le},
  },
  Common.{◌≡◌, ℕ, ◌-◌, ◌<◌, ◌≤◌, ◌+◌, ◌↔◌, List, [], ◌∷◌, ◌++◌, length, take, drop, nat_lt, None, true},
  Common.{false, inl, inr, refl, sym, ◌∙◌, ap, arith, cond, length-append},
  Math.Seq.take-append_seam,
}
use Rattle.seg_core.specs.declared.unit.Unit.{Unit as Counted}
use Rattle.engine_core.{
  specs.{Agreed.{ArePlaced, IsAgreed, IsUndecided, Spot, spot, spots_from}, Written.only_out},
  proofs.AgreedLemmas.{IsStretch, agreed_now, common, same_spots, spot_in, spot_past, stretch_placed},
}
use Rattle.ends_core.specs.{
  Ends.{last_of, but_last_of},
  Head.head_work,
  Tail.tail_work,
  Shown.{between_work, bytes_between, head_shown, place_of, tail_shown},
  Place.between_spots,
  laws.{EndsLaws.ends_together, WorkLaws.{between_lawful, enough_came}},
}
use Rattle.ends_core.proofs.KeptLemmas.{but_last_is_take, last_is_drop}

module _ (from end : ℕ) where
  pub between_agreed : (x : List ℕ) → IsAgreed (between_work from end) x ((between_work from end).settled x)
  between_agreed x = agreed_now (between_work from end) x (common (between_work from end) (between_lawful from end) x) refl

  length-bytes_between : (x : List ℕ) → length (bytes_between from end x) ≡ length (take end x) - from
  length-bytes_between x = length-drop from (take end x)

  -- where a byte goes that came
  abbrev goes : ℕ → List Spot
  goes i = cond (nat_lt i from) [] (cond (nat_lt i end) (spot 0 (i - from) ∷ []) [])

  spots_are : (x : List ℕ) (i : ℕ) → i < length x → between_spots from end x i ≡ goes i
  spots_are x i came = elim (cases_lt i from) [
    | inl before ↦ rw (lt-ltb i from before) refl
    | inr past ↦ rw (le-ltb i from past) (elim (cases_lt i end) [
      | inl within ↦ rw (lt-ltb i end within)
          (spot_in 0 (i - from) (bytes_between from end x) [] (omega (arith, length-bytes_between x, length-take end x)))
      | inr after ↦ rw (le-ltb i end after)
          (spot_past 0 (i - from) (bytes_between from end x) [] (omega (arith, length-bytes_between x, length-take end x)))
    ])
  ]

  between_decided : (x : List ℕ) (i : ℕ) → i < length x → (y z : List ℕ)
      → between_spots from end (x ++ y) i ≡ between_spots from end (x ++ z) i
  between_decided x i came y z =
      spots_are (x ++ y) i (omega (arith, length-append x y)) ∙ sym (spots_are (x ++ z) i (omega (arith, length-append x z)))

  pub between_undecided : (x : List ℕ) → IsUndecided (between_spots from end) x []
  between_undecided x = same_spots (between_spots from end) (between_decided x)

  bytes_are : (x : List ℕ) → bytes_between from end x ≡ take (end - from) (drop from x)
  bytes_are x = elim (cases_lt end from) [
    | inl less ↦
        let none : end - from ≡ 0 = omega arith in
        rw none (drop_all from (take end x) (omega (arith, length-take end x)))
    | inr past ↦
        let all : end ≡ from + (end - from) = omega arith in
        ap (λ last. drop from (take last x)) all ∙ drop-take from (end - from) x
  ]

  -- an input that ends before the first of them has none
  spots_none : (x : List ℕ) (i : ℕ) → length x ≤ from → spots_from 0 (bytes_between from end x ∷ []) i ≡ []
  spots_none x i few =
      spot_past 0 i (bytes_between from end x) [] (omega (arith, length-bytes_between x, length-take end x))

  there : (x : List ℕ) (i : ℕ) → length (take from x) ≤ i
      → between_spots from end x i ≡ spots_from 0 (bytes_between from end x ∷ []) (i - length (take from x))
  there x i past = elim (cases_lt (length x) from) [
    | inl short ↦ elim (cases_lt i from) [
      | inl before ↦ rw (lt-ltb i from before) (sym (spots_none x (i - length (take from x)) (omega arith)))
      | inr after ↦ rw (le-ltb i from after)
          (spots_none x (i - from) (omega arith) ∙ sym (spots_none x (i - length (take from x)) (omega arith)))
    ]
    | inr long ↦
        let all : length (take from x) ≡ from = omega (arith, length-take from x) in
        rw (all, le-ltb i from (omega arith)) refl
  ]

  between_stretch : IsStretch (between_work from end).whole (between_spots from end) 0
      (λ x. bytes_between from end x ∷ [])
  between_stretch = record {
    before = take from;
    rest = drop from;
    parts = λ x. sym (take-append-drop from x);
    front = λ x. (
      drop (end - from) (drop from x),
      sym (ap (λ bytes. bytes ++ drop (end - from) (drop from x)) (bytes_are x) ∙ take-append-drop (end - from) (drop from x)),
      tt,
    );
    are = λ x. refl;
    nowhere = λ x i less. rw (lt-ltb i from (omega (arith, length-take from x))) refl;
    there = there;
  }

  pub between_placed : ArePlaced (between_work from end) (between_spots from end)
  between_placed = stretch_placed (between_work from end) 0 between_stretch

  -- the output is complete with the last of them
  pub between_done : (x : List ℕ) → (between_work from end).is_complete x ≡ true ↔ end ≤ length x
  between_done x = (leb-true end (length x), le-leb end (length x))

module _ (delim : ℕ) (unit : Counted) (n : ℕ) (text : List ℕ) where
  -- as many bytes stand before the last n as those have
  pub place_of-length : place_of delim unit n text ≡ length (but_last_of delim unit n text)
  place_of-length = omega (
    arith,
    sym (length-append (but_last_of delim unit n text) (last_of delim unit n text)) ∙ ap length (ends_together delim unit n text),
  )

  pub place_of-le-length : place_of delim unit n text ≤ length text
  place_of-le-length = omega arith

  pub whole-head_shown : (more : List ℕ)
      → (head_shown delim unit n text).whole (text ++ more) ≡ (head_work delim unit true n).whole text
  whole-head_shown more = ap only_out
      (take-append-le (place_of delim unit n text) text more place_of-le-length
      ∙ rw place_of-length (sym (but_last_is_take delim unit n text)))

  pub whole-tail_shown : (more : List ℕ)
      → (tail_shown delim unit n text).whole (text ++ more) ≡ (tail_work delim unit false n).whole text
  whole-tail_shown more = ap only_out
      (ap (drop (place_of delim unit n text)) (take-append_seam text more)
      ∙ ap (λ k. drop k text) place_of-length ∙ sym (last_is_drop delim unit n text))

  pub head_shown-enough : (more : List ℕ) → (head_shown delim unit n text).is_complete (text ++ more) ≡ true
  head_shown-enough more = le-leb (place_of delim unit n text) (length (text ++ more))
      (omega (arith, place_of-le-length, length-append text more))

  pub tail_shown-enough : (more : List ℕ) → (tail_shown delim unit n text).is_complete (text ++ more) ≡ true
  tail_shown-enough more = le-leb (length text) (length (text ++ more)) (omega (arith, length-append text more))

  pub verdict-head_shown : (more : List ℕ) → (head_shown delim unit n text).verdict (text ++ more) ≡ None
  verdict-head_shown more =
      enough_came (place_of delim unit n text) (text ++ more) (omega (arith, place_of-le-length, length-append text more))

  pub verdict-tail_shown : (more : List ℕ) → (tail_shown delim unit n text).verdict (text ++ more) ≡ None
  verdict-tail_shown more = enough_came (length text) (text ++ more) (omega (arith, length-append text more))
