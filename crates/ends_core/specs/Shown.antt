-- `head` of all except the last, and `tail` of the last, if an input shows its bytes before they are read: what is
-- written begins and ends where it does in the text that was shown. So nothing waits. What comes may be another text,
-- or more.
use Rattle.std.specs.{
  Prelude.{◌≡◌, ℕ, ◌-◌, zero, suc, nat_le, nat_lt, Bool, true, false, Option, Some, None, List, []},
  Prelude.{length, take, drop, if◌then◌else◌},
}
use Rattle.seg_core.specs.declared.unit.Unit.{Unit as Counted}
use Rattle.engine_core.specs.{Written.only_out, Work.{Work, on_output}}
use Rattle.ports_core.specs.{Source.Content, declared.verdict.Verdict.{Verdict, TheVariants.Changed}}
use Rattle.ends_core.specs.{declared.find.Found.Found, Ends.last_of, Head.head_work, Tail.tail_work}

-- an input that showed n bytes and ends with fewer has changed
abbrev pub changed_below : ℕ → List ℕ → Option Verdict
changed_below zero x = None
changed_below (suc n) x = if nat_lt (length x) (suc n) then Some Changed else None

-- how many bytes of a text stand before its last n lines or bytes
abbrev pub place_of : ℕ → Counted → ℕ → List ℕ → ℕ
place_of delim unit n text = length text - length (last_of delim unit n text)

-- the bytes of an input from one place up to another
abbrev pub bytes_between : ℕ → ℕ → List ℕ → List ℕ
bytes_between from end x = drop from (take end x)

-- The work of the bytes from one place up to another, of an input that showed them all: each is written as it comes.
-- With the last the output is complete. An input that ends before has changed.
abbrev pub between_work : ℕ → ℕ → Work
between_work from end = record {
  settled = λ x. only_out (bytes_between from end x);
  whole = λ x. only_out (bytes_between from end x);
  waiting = λ x. [];
  is_complete = λ x. nat_le end (length x);
  verdict = changed_below end;
  clears = false;
  means = on_output false;
  ahead = 0;
}

-- `head` of all except the last n, of an input that showed this text: as many bytes as stand before the last n of what
-- was shown
abbrev pub head_shown : ℕ → Counted → ℕ → List ℕ → Work
head_shown delim unit n text = between_work 0 (place_of delim unit n text)

-- `tail` of the last n, of an input that showed this text: the bytes from where these begin to the text's end
abbrev pub tail_shown : ℕ → Counted → ℕ → List ℕ → Work
tail_shown delim unit n text = between_work (place_of delim unit n text) (length text)

-- the work of `head`, by the text that the input shows, if any
abbrev pub head_in : ℕ → Counted → Bool → ℕ → Option (List ℕ) → Work
head_in delim unit true n (Some text) = head_shown delim unit n text
head_in delim unit but_last n shown = head_work delim unit but_last n

-- the work of `tail`, by the text that the input shows, if any
abbrev pub tail_in : ℕ → Counted → Bool → ℕ → Option (List ℕ) → Work
tail_in delim unit false n (Some text) = tail_shown delim unit n text
tail_in delim unit from_nth n shown = tail_work delim unit from_nth n

-- What was found of the last n lines or bytes of an input: where they begin, and how many bytes the text has that it
-- shows. If bytes aren't visible, that is some text.
pub record SeenLast (visible : Bool) (left : Content) (delim : ℕ) (unit : Counted) (n : ℕ) (found : Found)
    : Type 0 where
  pub text : List ℕ
  pub shown : visible ≡ true → left.shown ≡ Some text
  pub place : found.place ≡ place_of delim unit n text
  pub len : found.len ≡ length text
