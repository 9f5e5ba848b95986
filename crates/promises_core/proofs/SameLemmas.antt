-- Lemmas on inputs that give what they showed: what is made of them is what is made of inputs that show nothing.
use Rattle.std.proofs.{
  Common.{◌≡◌, ◌⊎◌, ℕ, ◌&&◌, Bool, true, false, not, List, [], ◌∷◌, ◌++◌, Option, Some, None, inl, inr, refl, sym, ◌∙◌, ap, length},
  Common.{option_map, ◌+◌, ◌-◌, arith, nat_lt},
  Math.{Bool.or-true, Seq.{take-append_seam, take-length}},
  lemmas.{Bool.{eq-eqb, le-leb, ltb-true}, List.{append-nil, length-append, length-drop}},
}
use Rattle.ports_core.specs.Source.{Content, unshown}
use Rattle.engine_core.specs.Work.{IsLawful, Work}
use Rattle.seg_core.specs.declared.{unit.Unit.{Unit as Counted, TheVariants.{Bytes, Lines}}, cut.{Chunks.Chunks, Way.Way}}
use Rattle.ends_core.{
  specs.{
    Shown.{between_work, head_in, place_of, tail_in},
    Head.head_work,
    Tail.tail_work,
    laws.WorkLaws.{between_lawful, head_lawful, tail_lawful},
  },
  proofs.ShownLemmas.{head_shown-enough, tail_shown-enough, verdict-head_shown, verdict-tail_shown},
  proofs.ShownLemmas.{whole-head_shown, whole-tail_shown},
}
use Rattle.split_core.specs.{
  Chunks.{has_ended, is_as_said},
  ChunkWork.{is_written, way_work},
  Split.Filing,
  laws.ChunkLaws.start_within,
}
use Rattle.run_core.specs.{Input.Input, Task.{Task, Outcome, is_missing, joined, of_content, of_input, of_inputs}}
use Rattle.words_core.specs.{
  EndsWords.EndsAsked,
  SplitWords.SplitAsked,
  declared.{settings.Settings.{Settings, TheVariants.{Head, Tail, Split}}, tail_words.TailSettings.TailSettings},
}
use Rattle.promises_core.specs.{
  Promises.{AllAlike, AreAlike, Gives, GivesBytes, are_same, at_first, give_same, hold_same, in_full, ShowAlike},
  Promises.{is_bytes, is_chunked, is_one_chunk, looks, takes_shown},
}
use Rattle.words_core.specs.EndsWords.{is_minus, is_plus}
use Rattle.seg_core.specs.declared.cut.Way.TheVariants as way

-- A work makes the same of each text, whether its input shows the text first or shows nothing. What inputs show that is
-- the same to the tool doesn't matter.
pub record KnowsNoMore (asked : Settings) (work : Option (List ℕ) → Work) : Type 0 where
  pub same : (one other : Option (List ℕ)) → ShowAlike asked one other → work one ≡ work other
  pub whole : (text : List ℕ) → (work (Some text)).whole text ≡ (work None).whole text
  pub verdict : (text : List ℕ) → (work (Some text)).verdict text ≡ (work None).verdict text
  pub clears : (text : List ℕ) → (work (Some text)).clears ≡ (work None).clears
  -- if the tool takes what is shown alone, what comes after it doesn't matter
  pub enough : (text more : List ℕ) → takes_shown asked ≡ true
      → ((work (Some text)).is_complete (text ++ more) ≡ true)
      × ((work (Some text)).whole (text ++ more) ≡ (work None).whole text)
      × ((work (Some text)).verdict (text ++ more) ≡ (work None).verdict text)

-- a work that is the same whatever is shown
pub shows_none : (asked : Settings) (work : Work) → takes_shown asked ≡ false → KnowsNoMore asked (λ shown. work)
shows_none asked work none = record {
  same = λ one other alike. refl;
  whole = λ text. refl;
  verdict = λ text. refl;
  clears = λ text. refl;
  enough = λ text more is. absurd (cc);
}

-- If bytes are counted, only the length of what is shown matters.

by_length : (work : Option (List ℕ) → Work)
    → ((one other : List ℕ) → length one ≡ length other → work (Some one) ≡ work (Some other))
    → (one other : Option (List ℕ)) → option_map length one ≡ option_map length other → work one ≡ work other
by_length work same None None long = refl
by_length work same None (Some other) long = absurd (cc)
by_length work same (Some one) None long = absurd (cc)
by_length work same (Some one) (Some other) long = same one other (cc)

place_by_length : (delim n : ℕ) (one other : List ℕ) → length one ≡ length other
    → place_of delim Bytes n one ≡ place_of delim Bytes n other
place_by_length delim n one other long =
    omega (arith, long, length-drop (length one - n) one, length-drop (length other - n) other)

head_by_length : (delim : ℕ) (unit : Counted) (n : ℕ) → is_bytes unit ≡ true → (one other : Option (List ℕ))
    → option_map length one ≡ option_map length other → head_in delim unit true n one ≡ head_in delim unit true n other
head_by_length delim Lines n bytes = absurd (cc)
head_by_length delim Bytes n bytes = by_length (head_in delim Bytes true n)
    (λ one other long. ap (between_work 0) (place_by_length delim n one other long))

tail_by_length : (delim : ℕ) (unit : Counted) (n : ℕ) → is_bytes unit ≡ true → (one other : Option (List ℕ))
    → option_map length one ≡ option_map length other
    → tail_in delim unit false n one ≡ tail_in delim unit false n other
tail_by_length delim Lines n bytes = absurd (cc)
tail_by_length delim Bytes n bytes = by_length (tail_in delim Bytes false n)
    (λ one other long. ap (λ place. between_work place (length one)) (place_by_length delim n one other long)
    ∙ ap (between_work (place_of delim Bytes n other)) long)

-- The works of `head` and `tail` if nothing is shown.

pub head_in-None : (delim : ℕ) (unit : Counted) (but_last : Bool) (n : ℕ)
    → head_in delim unit but_last n None ≡ head_work delim unit but_last n
head_in-None delim unit true n = refl
head_in-None delim unit false n = refl

pub tail_in-None : (delim : ℕ) (unit : Counted) (from_nth : Bool) (n : ℕ)
    → tail_in delim unit from_nth n None ≡ tail_work delim unit from_nth n
tail_in-None delim unit true n = refl
tail_in-None delim unit false n = refl

-- The works of `head` and `tail` are lawful, whatever is shown.

pub head_in_lawful : (delim : ℕ) (unit : Counted) (but_last : Bool) (n : ℕ) (shown : Option (List ℕ))
    → IsLawful (head_in delim unit but_last n shown)
head_in_lawful delim unit true n (Some text) = between_lawful 0 (place_of delim unit n text)
head_in_lawful delim unit true n None = head_lawful delim unit true n
head_in_lawful delim unit false n shown = head_lawful delim unit false n

pub tail_in_lawful : (delim : ℕ) (unit : Counted) (from_nth : Bool) (n : ℕ) (shown : Option (List ℕ))
    → IsLawful (tail_in delim unit from_nth n shown)
tail_in_lawful delim unit false n (Some text) = between_lawful (place_of delim unit n text) (length text)
tail_in_lawful delim unit false n None = tail_lawful delim unit false n
tail_in_lawful delim unit true n shown = tail_lawful delim unit true n

head_knows_by : (asked : EndsAsked) (but_last : Bool) → takes_shown (Head asked) ≡ but_last
    → KnowsNoMore (Head asked) (head_in asked.delim asked.unit but_last asked.count.amount)
head_knows_by asked true is = record {
  same = λ one other alike. elim (alike is) [
    | inl all ↦ rw all refl
    | inr (bytes, long) ↦ head_by_length asked.delim asked.unit asked.count.amount bytes one other long
  ];
  whole = λ text. rw append-nil at (whole-head_shown asked.delim asked.unit asked.count.amount text []);
  verdict = λ text. rw append-nil at (verdict-head_shown asked.delim asked.unit asked.count.amount text []);
  clears = λ text. refl;
  enough = λ text more looks. (
    head_shown-enough asked.delim asked.unit asked.count.amount text more,
    whole-head_shown asked.delim asked.unit asked.count.amount text more,
    verdict-head_shown asked.delim asked.unit asked.count.amount text more,
  );
}
head_knows_by asked false is = shows_none (Head asked) _ is

pub head_knows : (asked : EndsAsked)
    → KnowsNoMore (Head asked) (head_in asked.delim asked.unit (is_minus asked.count.sign) asked.count.amount)
head_knows asked = head_knows_by asked (is_minus asked.count.sign) refl

tail_knows_by : (asked : TailSettings) (from_nth : Bool) → takes_shown (Tail asked) ≡ not from_nth
    → KnowsNoMore (Tail asked) (tail_in asked.ends.delim asked.ends.unit from_nth asked.ends.count.amount)
tail_knows_by asked false is = record {
  same = λ one other alike. elim (alike is) [
    | inl all ↦ rw all refl
    | inr (bytes, long) ↦ tail_by_length asked.ends.delim asked.ends.unit asked.ends.count.amount bytes one other long
  ];
  whole = λ text. rw append-nil at (whole-tail_shown asked.ends.delim asked.ends.unit asked.ends.count.amount text []);
  verdict = λ text. rw append-nil at (verdict-tail_shown asked.ends.delim asked.ends.unit asked.ends.count.amount text []);
  clears = λ text. refl;
  enough = λ text more looks. (
    tail_shown-enough asked.ends.delim asked.ends.unit asked.ends.count.amount text more,
    whole-tail_shown asked.ends.delim asked.ends.unit asked.ends.count.amount text more,
    verdict-tail_shown asked.ends.delim asked.ends.unit asked.ends.count.amount text more,
  );
}
tail_knows_by asked true is = shows_none (Tail asked) _ is

pub tail_knows : (asked : TailSettings)
    → KnowsNoMore (Tail asked)
    (tail_in asked.ends.delim asked.ends.unit (is_plus asked.ends.count.sign) asked.ends.count.amount)
tail_knows asked = tail_knows_by asked (is_plus asked.ends.count.sign) refl

-- a text has the length that it showed
said_so : (text : List ℕ) → is_as_said (Some (length text)) text ≡ true
said_so text = eq-eqb (length text) (length text) refl

-- what comes after the text that an input showed is in no chunk, and each chunk has ended before it
chunk_ended : (place : ℕ) (chunks : Chunks) (text more : List ℕ) → nat_lt place chunks.count ≡ true
    → has_ended chunks (length text) (text ++ more) place ≡ true
chunk_ended place chunks text more is =
    let within = ltb-true place chunks.count is in
    rw (le-leb (length text) (length (text ++ more)) (omega (arith, length-append text more))) (le-leb _ _
    (start_within chunks.count (length text) (place + 1) (omega (arith, within)) (omega (arith, within))))

way_knows : (asked : SplitAsked) (way : Way) (filing : Filing) → looks (Split asked) ≡ is_chunked way
    → takes_shown (Split asked) ≡ is_one_chunk way
    → KnowsNoMore (Split asked) (λ shown. way_work way asked.elide filing (option_map length shown))
way_knows asked (way.Cut cut) filing is takes = shows_none (Split asked) _ takes
way_knows asked (way.Chunks chunks) filing is takes = record {
  same = λ one other alike. elim (alike is) [ inl all ↦ rw all refl | inr (at, long) ↦ rw long refl ];
  whole = λ text. refl;
  verdict = λ text. rw (said_so text);
  clears = λ text. refl;
  enough = λ text more looks. absurd (cc);
}
way_knows asked (way.Chunk place chunks) filing is takes = record {
  same = λ one other alike. elim (alike is) [ inl all ↦ rw all refl | inr (at, long) ↦ rw long refl ];
  whole = λ text. refl;
  verdict = λ text. rw (said_so text, or-true (is_written place chunks (Some (length text)) text));
  clears = λ text. refl;
  enough = λ text more does.
      let ended = chunk_ended place chunks text more (sym takes ∙ does) in
      (ended, rw (take-append_seam text more, take-length text) refl, rw ended refl);
}
way_knows asked (way.Turn place count delim) filing is takes = shows_none (Split asked) _ takes

pub split_knows : (asked : SplitAsked) (filing : Filing)
    → KnowsNoMore (Split asked) (λ shown. way_work asked.way asked.elide filing (option_map length shown))
split_knows asked filing = way_knows asked asked.way filing refl refl

-- what is made of an input, by its fields
of_fields : Task → Work → Bool → List ℕ → List ℕ → Bool → Outcome
of_fields task work is_first name bytes breaks_off =
    of_content task work is_first name (Some (record { bytes = bytes; breaks_off = breaks_off; shown = None }))

module _ (asked : Settings) (task : Task) (knows : KnowsNoMore asked task.work) (is_first : Bool)
    (name bytes : List ℕ) where
  -- a text that was shown and came in full makes the same as if nothing was shown
  shown_too : (shown : Option (List ℕ)) → (shown ≡ None) ⊎ ShowAlike asked shown (Some bytes)
      → of_fields task (task.work shown) is_first name bytes false
      ≡ of_fields task (task.work None) is_first name bytes false
  unfolding of_fields
  shown_too shown (inl none) = rw none refl
  shown_too shown (inr alike) =
      rw (knows.same shown (Some bytes) alike, knows.whole bytes, knows.verdict bytes, knows.clears bytes) refl

  -- what comes after the bytes that were shown doesn't matter if the tool takes them alone
  shown_first : (more : List ℕ) (breaks_off : Bool) → takes_shown asked ≡ true
      → of_fields task (task.work (Some bytes)) is_first name (bytes ++ more) breaks_off
      ≡ of_fields task (task.work None) is_first name bytes false
  unfolding of_fields
  shown_first more breaks_off is =
      let all = knows.enough bytes more is in
      rw (all.0, or-true (not breaks_off), all.1, all.2, knows.clears bytes) refl

  given : (shown : Option (List ℕ)) (content : Content) → Gives asked shown content bytes
      → of_content task (task.work shown) is_first name (Some content)
      ≡ of_content task (task.work None) is_first name (Some (unshown bytes))
  unfolding of_fields
  given shown content (in_full all ends alike) = rw (all, ends) (shown_too shown alike)
  given shown content (at_first more all takes alike) =
      rw (knows.same shown (Some bytes) alike, all) (shown_first more content.breaks_off takes)

  -- what is made of an input that gives these bytes, as if it showed nothing
  pub steady_made : (input : Input) → input.name ≡ name → GivesBytes asked input bytes
      → of_input task is_first input ≡ of_content task (task.work None) is_first name (Some (unshown bytes))
  steady_made input named gives = rw (named, gives.is) (given input.shown gives.content gives.gives)

-- of two inputs that are alike, both are missing or none is
missing_alike : (asked : Settings) (one other : Input) → AreAlike asked one other
    → is_missing one.content ≡ is_missing other.content
missing_alike asked one other (are_same is) = rw is
missing_alike asked one other (give_same bytes named gives gives_too) = rw (gives.is, gives_too.is)
missing_alike asked one other (hold_same content shown alike named is is_too) = rw (is, is_too)

alike_made : (asked : Settings) (task : Task) → KnowsNoMore asked task.work → (is_first : Bool) (one other : Input)
    → AreAlike asked one other
    → of_input task is_first one ≡ of_input task is_first other
alike_made asked task knows is_first one other (are_same is) = rw is
alike_made asked task knows is_first one other (give_same bytes named gives gives_too) =
    steady_made asked task knows is_first other.name bytes one named gives
    ∙ sym (steady_made asked task knows is_first other.name bytes other refl gives_too)
alike_made asked task knows is_first one other (hold_same content shown alike named is is_too) =
    rw (named, is, is_too, knows.same one.shown other.shown alike) refl

-- what is made of inputs that are alike is the same
pub all_made_alike : (asked : Settings) (task : Task) → KnowsNoMore asked task.work → (is_first : Bool)
    (ones others : List Input) → AllAlike asked ones others
    → of_inputs task is_first ones ≡ of_inputs task is_first others
all_made_alike asked task knows is_first [] [] alike = refl
all_made_alike asked task knows is_first (one ∷ ones) [] alike = absurd alike
all_made_alike asked task knows is_first [] (other ∷ others) alike = absurd alike
all_made_alike asked task knows is_first (one ∷ ones) (other ∷ others) alike =
    ap (λ made. joined made (of_inputs task (is_first && is_missing one.content) ones)) (alike_made asked task knows is_first one other alike.0)
    ∙ ap (joined (of_input task is_first other)) (rw (missing_alike asked one other alike.0)
    (all_made_alike asked task knows (is_first && is_missing other.content) ones others alike.1))

-- inputs are like themselves
pub all_alike : (asked : Settings) (inputs : List Input) → AllAlike asked inputs inputs
all_alike asked [] = tt
all_alike asked (input ∷ inputs) = (are_same refl, all_alike asked inputs)
