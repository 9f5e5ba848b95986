-- What a word spells and Ok at, and how deep counts go.
use Rattle.std.proofs.{
  Common.{◌≡◌, ℕ, suc, ◌+◌, ◌-◌, take, drop, add-one, ◌<◌, ◌&&◌, Bool, true, false, not, cond, List, [], ◌∷◌, ◌++◌},
  Common.{Option, Some, None, refl, sym, ◌∙◌, ap, arith, rules, ◌≤◌, subst, Result, Ok, Err, zero, inl, inr},
  Common.{append_assoc, append-nil, eq-eqb, ne_eqb, lt-ltb, le-ltb, ◌==◌, ◌≢◌, option_map, length, IfSome, IsErrAnd},
  Common.{IfOk, IfErr, IsErrOf},
  lemmas.{List.take_rest, Result.err_from_is_err_and},
}
use Rattle.operand_core.specs.{
  Operand.{Offset, Target, Number, Search, Times},
  Word.{is_escape, closing, before_brace, closed_at, searched, offset_of, number, spelling},
  inner.{Seen.seen, Aiming.{IsAimed, IsReadAs, is_target, is_wrong, is_refused, no_memory}},
  Reading.{Aim, line, match, aim_of, IsPattern},
  Aiming.refusal_of,
  declared.{word.Word.Word, operand_fault.OperandFaultKind.OperandFaultKind},
}
use Rattle.bre_core.specs.{
  Pattern.{Pattern, Reads, depth_of, positions_of, nothing, append, Item, set, front, end, group, repeat, written},
  Pattern.{written_item, depth_after, depth_of_item},
  Fault.number_of,
  Refusal.{IsOfText, IsTooLarge},
  declared.{
    fault.BreFault.{BreFault, TheVariants.{TooLarge, Memory}},
    token.{Context.TheVariants.Opening, Token.{Token, TheVariants.{Open, Close, Repeat}}},
  },
  Token.ReadsToken,
}
use Rattle.ports_core.specs.declared.calling.Calling.{Calling}
use Rattle.bre_core.proofs.{Chains.left_of_way, Existence.one_tree_alone, Tokens.{tokens_decided, end_stuck}}
use Rattle.operand_core.specs.declared.word.Word.TheVariants as word_is
use Rattle.operand_core.specs.declared.operand_fault.OperandFaultKind.TheVariants as kind

-- Lemmas on what a word spells.

-- the last place that was found, if the text from `place` on is still to be looked at
abbrev pub last_of : (last : Option ℕ) (place : ℕ) → Option ℕ → Option ℕ
last_of last place None = last
last_of last place (Some further) = Some (place + further)

within_next : (count : ℕ) (here : Bool) (rest : Option ℕ) → IfSome rest (λ place. place < count)
    → IfSome (elim rest [ Some place ↦ Some (suc place) | None ↦ cond here (Some 0) None ]) (λ place. place < suc count)
within_next count here (Some place) less = omega arith
within_next count true None less = omega arith
within_next count false None less = tt

pub closing_within : (delimiter : ℕ) (escaped : Bool) (text : List ℕ)
    → IfSome (closing delimiter escaped text) (λ place. place < length text)
closing_within delimiter escaped [] = tt
closing_within delimiter escaped (byte ∷ text) =
    within_next (length text) (byte == delimiter && not escaped) (closing delimiter (is_escape escaped byte) text) (closing_within delimiter (is_escape escaped byte) text)

one_more : (first : ℕ) (inner : List ℕ) (is : Bool)
    → option_map (λ those. first ∷ those) (cond is (Some inner) None) ≡ cond is (Some (first ∷ inner)) None
one_more first inner true = refl
one_more first inner false = refl

before_brace_at : (inner : List ℕ) (byte : ℕ) → before_brace (inner ++ byte ∷ []) ≡ cond (byte == 125) (Some inner) None
before_brace_at [] byte = refl
before_brace_at (first ∷ []) byte = search rules
before_brace_at (first ∷ next ∷ inner) byte =
    ap (option_map (λ those. first ∷ those)) (before_brace_at (next ∷ inner) byte) ∙ one_more first (next ∷ inner) (byte == 125)

pub is_brace : (inner : List ℕ) {byte : ℕ} → byte ≡ 125 → before_brace (inner ++ byte ∷ []) ≡ Some inner
is_brace inner {byte} is = before_brace_at inner byte ∙ ap (λ b. cond b (Some inner) None) (eq-eqb byte 125 is)

pub is_no_brace : (inner : List ℕ) (byte : ℕ) → byte ≢ 125 → before_brace (inner ++ byte ∷ []) ≡ None
is_no_brace inner byte differ = before_brace_at inner byte ∙ ap (λ b. cond b (Some inner) None) (ne_eqb byte 125 differ)

-- a closing delimiter was found: the pattern stands before it, and the offset after it
pub search_closed : (delimiter : ℕ) (text : List ℕ) {place : ℕ} {found : Option ℕ} {offset now : Option Offset}
    → found ≡ closing delimiter false text
    → found ≡ Some place → offset ≡ offset_of (take (length text - (place + 1)) (drop (place + 1) text)) → offset ≡ now
    → searched delimiter (take place text) now ≡ closed_at delimiter text (closing delimiter false text)
search_closed delimiter text {place} is at read then =
    let after = take_rest text (place + 1) ∙ ap (λ n. drop n text) (add-one place) in
    ap (searched delimiter (take place text)) (sym then ∙ read ∙ ap offset_of after) ∙ ap (closed_at delimiter text) (sym at ∙ is)

-- What a word Ok at.

pub below_last : (calling : Calling) (least n : ℕ) → n < least
    → IsAimed (aim_of calling least (number n)) (Err kind.LineOrder)
below_last calling least n less = is_wrong kind.LineOrder (ap (λ b. cond b (Err kind.LineOrder) (Ok (line n))) (lt-ltb n least less))

pub not_below : (calling : Calling) (least n : ℕ) → least ≤ n
    → IsAimed (aim_of calling least (number n)) (Ok (Number n))
not_below calling least n more = is_target (line n) (Number n) (ap (λ b. cond b (Err kind.LineOrder) (Ok (line n))) (le-ltb n least more)) refl

-- reading ends with a `?` for want of memory

pub lacks : (aimed : Result Aim OperandFaultKind) (result : Result Target OperandFaultKind)
    → IsErrAnd result (λ e. e ≡ kind.Memory) → IsAimed aimed result
lacks aimed result ends = let at = err_from_is_err_and result ends in subst (IsAimed aimed) (sym (at.1 ∙ ap Err at.2)) no_memory

pub goes_wrong : (aimed : Result Aim OperandFaultKind) (what : OperandFaultKind)
    (result : Result Target OperandFaultKind)
    → aimed ≡ Err what → IsErrAnd result (λ e. e ≡ what) → IsAimed aimed result
goes_wrong aimed what result is ends = let at = err_from_is_err_and result ends in subst (IsAimed aimed) (sym (at.1 ∙ ap Err at.2)) (is_wrong what is)

pub posix_read : {text : List ℕ} (result : Result Pattern BreFault) → IfOk result (Reads text)
    → IfOk result (λ pattern. depth_of pattern ≤ 255) → IfOk result (λ pattern. positions_of pattern ≤ 65535)
    → IfErr result (λ fault. IsOfText fault → (pattern : Pattern) → Reads text pattern → ⊥)
    → (IsErrOf result TooLarge → IsTooLarge text) → IsReadAs text result
posix_read (Ok pattern) reads groups size none large = record { reads = reads; groups = groups; size = size }
posix_read (Err TooLarge) reads groups size none large = large refl
posix_read (Err Memory) reads groups size none large = tt
posix_read (Err fault) reads groups size none large = none tt

-- a fault at another place in the text has the same reason
pub read_elsewhere : (text : List ℕ) (fault other : BreFault) → number_of other ≡ number_of fault
    → IsReadAs text (Err fault) → IsReadAs text (Err other)
read_elsewhere text TooLarge TooLarge same is = is
read_elsewhere text fault Memory same is = tt
read_elsewhere text TooLarge other same is = absurd (omega arith)
read_elsewhere text Memory other same is = absurd (omega arith)
read_elsewhere text fault TooLarge same is = absurd (omega arith)
read_elsewhere text fault other same is = is

refused_so : {kept : Bool} {text : List ℕ} {offset : Offset} (fault : BreFault) → IsReadAs text (Err fault)
    → IsAimed (Ok (match kept text offset)) (Err (refusal_of fault))
refused_so {kept} {text} {offset} TooLarge is = is_refused (match kept text offset) TooLarge refl is
refused_so Memory is = no_memory
refused_so {kept} {text} {offset} fault is = is_refused (match kept text offset) fault refl is

pub is_refused_so : {kept : Bool} {text : List ℕ} {offset : Offset} (fault : BreFault)
    (result : Result Target OperandFaultKind) → IsReadAs text (Err fault) → IsErrAnd result (λ e. e ≡ refusal_of fault)
    → IsAimed (Ok (match kept text offset)) result
is_refused_so {kept} {text} {offset} fault result is ends =
    let at = err_from_is_err_and result ends in
    subst (IsAimed (Ok (match kept text offset))) (sym (at.1 ∙ ap Err at.2)) (refused_so fault is)

pub is_read : (kept : Bool) (text : List ℕ) (offset : Offset) (pattern : Pattern) → IsReadAs text (Ok pattern)
    → IsAimed (Ok (match kept text offset)) (Ok (Search pattern kept offset))
is_read kept text offset pattern is = is_target (match kept text offset) (Search pattern kept offset) refl (is, refl, refl)

pub no_target : (calling : Calling) (least : ℕ) (word : Word) (text : List ℕ) (times : Times)
    → seen word ≡ spelling text → word ≡ word_is.Again times
    → IsAimed (aim_of calling least (spelling text)) (Err kind.RepeatFirst)
no_target calling least word text times is at =
    is_wrong kind.RepeatFirst (ap (aim_of calling least) (sym is ∙ ap seen at))

-- A pattern that is too large isn't read: after any of its first tokens no more groups are open than its tree has
-- within one another.

-- at most `most` groups are open at any of these tokens, and after them
abbrev Stays : ℕ → ℕ → List Token → Type 0
Stays most depth [] = depth ≤ most
Stays most depth (Open ∷ tokens) = (depth ≤ most) × Stays most (suc depth) tokens
Stays most zero (Close ∷ tokens) = Unit {0}
Stays most (suc depth) (Close ∷ tokens) = (suc depth ≤ most) × Stays most depth tokens
Stays most depth (token ∷ tokens) = Stays most depth tokens

stays_now : {most : ℕ} (depth : ℕ) (tokens : List Token) → Stays most depth tokens → depth ≤ most
stays_now depth [] stays = stays
stays_now depth (Open ∷ tokens) stays = stays.0
stays_now zero (Close ∷ tokens) stays = omega arith
stays_now (suc depth) (Close ∷ tokens) stays = stays.0
stays_now depth (token ∷ tokens) stays = stays_now depth tokens stays

within : {most : ℕ} (depth : ℕ) {n : ℕ} (first rest : List Token) → Stays most depth (first ++ rest)
    → depth_after depth first ≡ Some n → n ≤ most
within depth {n} [] rest stays is = let now = stays_now depth rest stays in let e : depth ≡ n = cc in omega arith
within depth (Open ∷ first) rest stays is = within (suc depth) first rest stays.1 is
within zero (Close ∷ first) rest stays is = cc
within (suc depth) (Close ∷ first) rest stays is = within depth first rest stays.1 is
within depth (token ∷ first) rest stays is = within depth first rest stays is

mutual
  stays_written : (pattern : Pattern) {most : ℕ} (depth : ℕ) (tokens : List Token) → depth + depth_of pattern ≤ most
      → Stays most depth tokens → Stays most depth (written pattern ++ tokens)
  stays_written nothing depth tokens few stays = stays
  stays_written (append pattern item) {most} depth tokens few stays =
      subst (Stays most depth) (sym (append_assoc (written pattern) (written_item item) tokens))
      (stays_written pattern depth (written_item item ++ tokens) (omega arith) (stays_written_item item most depth tokens (omega arith) stays))

  stays_written_item : (item : Item) (most depth : ℕ) (tokens : List Token) → depth + depth_of_item item ≤ most
      → Stays most depth tokens → Stays most depth (written_item item ++ tokens)
  stays_written_item (set bytes) most depth tokens few stays = stays
  stays_written_item front most depth tokens few stays = stays
  stays_written_item end most depth tokens few stays = stays
  stays_written_item (group pattern) most depth tokens few stays = (
    omega arith,
    subst (Stays most (suc depth)) (sym (append_assoc (written pattern) (Close ∷ []) tokens))
        (stays_written pattern {most = most} (suc depth) (Close ∷ tokens) (omega arith) (omega arith, stays)),
  )
  stays_written_item (repeat item low high) most depth tokens few stays =
      subst (Stays most depth) (sym (append_assoc (written_item item) (Repeat low high ∷ []) tokens))
      (stays_written_item item most depth (Repeat low high ∷ tokens) few stays)

pub read_or_too_large : {text : List ℕ} {pattern : Pattern} → IsPattern text pattern → IsTooLarge text → ⊥
read_or_too_large {text} {pattern} is (inl large) =
    let same = ap positions_of (one_tree_alone text pattern large.pattern is.reads large.reads) in omega arith
read_or_too_large {text} {pattern} is (inr opens) =
    let left = left_of_way ReadsToken tokens_decided (Opening, text) (opens.context, opens.rest) (is.reads.tokens.0, []) opens.tokens (written pattern) opens.way is.reads.tokens.1 (end_stuck is.reads.tokens.0) in
    let all : Stays 255 0 (written pattern ++ []) = stays_written pattern 0 [] (let few = is.groups in omega arith) (omega arith) in
    let many : 256 ≤ 255 = within 0 opens.tokens left.0 (subst (Stays 255 0) left.1 (subst (Stays 255 0) (append-nil (written pattern)) all)) opens.depth in
    omega arith
