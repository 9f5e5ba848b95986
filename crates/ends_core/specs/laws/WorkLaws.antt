-- The laws of the work of `head` and of `tail`.
use Rattle.std.proofs.{
  lemmas.{Grind.common_steps, Bool.{cases_lt, leb-true, le-leb, le-ltb, lt-ltb}, List.{drop_all, take_all, take-append-le}},
  Common.{◌≡◌, ℕ, ◌-◌, ◌<◌, ◌≤◌, ◌&&◌, zero, suc, not, List, [], ◌++◌, length, Bool, true, false, Some, None},
  Common.{cond, nat_le, refl, sym, ◌∙◌, ap, arith, rules, drop, take, inl, inr, length-append},
}
use Rattle.engine_core.{
  specs.{Written.{nothing, only_out, Begins}, Work.{IsComplete, IsLawful}},
  proofs.WrittenLemmas.{out_begins, part_begins_itself},
}
use Rattle.ports_core.specs.declared.verdict.Verdict.TheVariants.{Changed}
use Rattle.seg_core.specs.declared.unit.Unit.{Unit as Counted, TheVariants.Bytes}
use Rattle.ends_core.specs.{
  declared.ends.Portion.{Portion, TheVariants.{First, ButLast, FromNth, Last, Between}},
  Ends.{measure, first_of, after_of, last_of, but_last_of, head_of, tail_of},
  Head.head_work,
  Tail.tail_work,
  Shown.{between_work, bytes_between, changed_below},
  Stage.{count_of, delim_of, unit_of, work},
  laws.EndsLaws.{measure-append, first_of-append, first_of-full, but_last_of-append, after_of-append},
}

-- the head of a longer text begins with the head of the text
pub head_of-grows : (delim : ℕ) (unit : Counted) (but_last : Bool) (n : ℕ) (x y : List ℕ) → (rest : List ℕ)
    × (head_of delim unit but_last n (x ++ y) ≡ head_of delim unit but_last n x ++ rest)
head_of-grows delim unit false n x y =
    (first_of delim unit (n - measure delim unit x) y, first_of-append delim unit n x y)
head_of-grows delim unit true n x y =
    (but_last_of delim unit n (last_of delim unit n x ++ y), but_last_of-append delim unit n x y)

pub full_head : (delim : ℕ) (unit : Counted) (but_last : Bool) (n : ℕ) (x y : List ℕ)
    → (not but_last && nat_le n (measure delim unit x)) ≡ true
    → ((not but_last && nat_le n (measure delim unit (x ++ y))) ≡ true)
    × (head_of delim unit but_last n (x ++ y) ≡ head_of delim unit but_last n x)
full_head delim unit true n x y full = cc
full_head delim unit false n x y full = grind (arith, common_steps, leb-true, le-leb, measure-append, first_of-full)

-- an input that showed n bytes hasn't changed if as many came, and has if fewer came
pub enough_came : (n : ℕ) (x : List ℕ) → n ≤ length x → changed_below n x ≡ None
enough_came zero x enough = refl
enough_came (suc n) x enough = grind (arith, common_steps, le-ltb)

pub fewer_came : (n : ℕ) (x : List ℕ) → length x < n → changed_below n x ≡ Some Changed
fewer_came zero x few = absurd (omega arith)
fewer_came (suc n) x few = grind (arith, common_steps, lt-ltb)

-- a head is lawful
module _ (delim : ℕ) (unit : Counted) (but_last : Bool) (n : ℕ) where
  stays : (x y : List ℕ) → (head_work delim unit but_last n).is_complete x ≡ true
      → IsComplete (head_work delim unit but_last n) x y
  stays x y full = let more = full_head delim unit but_last n x y full in record {
    still = more.0;
    settled_stays = ap only_out more.1;
    whole_stays = ap only_out more.1;
    verdict_stays = refl;
  }

  pub head_lawful : IsLawful (head_work delim unit but_last n)
  head_lawful = search (rules, out_begins, head_of-grows, part_begins_itself, stays)

tail_grows : (delim : ℕ) (unit : Counted) (from_nth : Bool) (n : ℕ) (x y : List ℕ)
    → Begins (cond from_nth (only_out (tail_of delim unit true n x)) nothing)
    (cond from_nth (only_out (tail_of delim unit true n (x ++ y))) nothing)
tail_grows delim unit true n x y = out_begins _ _
    (after_of delim unit (n - 1 - measure delim unit x) y, after_of-append delim unit (n - 1) x y)
tail_grows delim unit false n x y = search rules

tail_ends : (delim : ℕ) (unit : Counted) (from_nth : Bool) (n : ℕ) (x : List ℕ)
    → Begins (cond from_nth (only_out (tail_of delim unit true n x)) nothing)
    (only_out (tail_of delim unit from_nth n x))
tail_ends delim unit true n x = grind (arith, common_steps)
tail_ends delim unit false n x = grind (arith, common_steps)

-- a tail is never complete
pub tail_lawful : (delim : ℕ) (unit : Counted) (from_nth : Bool) (n : ℕ) → IsLawful (tail_work delim unit from_nth n)
tail_lawful delim unit from_nth n = record {
  grows = tail_grows delim unit from_nth n;
  ends = tail_ends delim unit from_nth n;
  stays = λ x y never. absurd (cc);
}

-- Bytes between two places

drop_of-nil : (n : ℕ) → drop {A = ℕ} n [] ≡ []
drop_of-nil n = drop_all n [] (omega arith)

-- the bytes of a longer text: those of the text, and of what follows as many as are missing
pub bytes_between-append : (from end : ℕ) (x y : List ℕ)
    → bytes_between from end (x ++ y)
    ≡ bytes_between from end x ++ bytes_between (from - length x) (end - length x) y
bytes_between-append from end x y =
    ap (drop from) (first_of-append 0 Bytes end x y)
    ∙ after_of-append 0 Bytes from (take end x) (take (end - length x) y)
    ∙ ap (λ rest. bytes_between from end x ++ rest) after where
      after : drop (from - length (take end x)) (take (end - length x) y)
          ≡ drop (from - length x) (take (end - length x) y)
      after = elim (cases_lt (length x) end) [
        | inl short ↦ ap (λ z. drop (from - length z) (take (end - length x) y)) (take_all end x (omega arith))
        | inr full ↦ let none : end - length x ≡ 0 = omega arith in rw none (drop_of-nil _ ∙ sym (drop_of-nil _))
      ]

-- once all these bytes came, what follows adds nothing
pub between_full : (from end : ℕ) (x y : List ℕ) → end ≤ length x
    → bytes_between from end (x ++ y) ≡ bytes_between from end x
between_full from end x y full = ap (drop from) (take-append-le end x y full)

pub between_lawful : (from end : ℕ) → IsLawful (between_work from end)
between_lawful from end = record {
  grows = λ x y. out_begins _ _ (bytes_between (from - length x) (end - length x) y, bytes_between-append from end x y);
  ends = λ x. part_begins_itself _;
  stays = λ x y full. (let all = leb-true end (length x) full in record {
    still = le-leb end (length (x ++ y)) (omega (arith, length-append x y));
    settled_stays = ap only_out (between_full from end x y all);
    whole_stays = ap only_out (between_full from end x y all);
    verdict_stays = enough_came end (x ++ y) (omega (arith, length-append x y)) ∙ sym (enough_came end x all);
  });
}

pub lawful : (ends : Portion) → IsLawful (work ends)
lawful (First count front) = head_lawful front.delim front.unit false count
lawful (ButLast kept) = head_lawful (delim_of (ButLast kept)) (unit_of (ButLast kept)) true (count_of (ButLast kept))
lawful (FromNth count front) = tail_lawful front.delim front.unit true count
lawful (Last kept) = tail_lawful (delim_of (Last kept)) (unit_of (Last kept)) false (count_of (Last kept))
lawful (Between span) = between_lawful span.from span.end
