-- A text is read as a bracket list exactly if it is spelled as one.
use Rattle.std.proofs.{
  Common.{◌≡◌, ℕ, ◌+◌, ◌-◌, ◌*◌, ◌<◌, ◌≤◌, true, List, [], ◌∷◌, length, get_or, drop, Some, None, ap, ◌∙◌, arith},
  Common.{rules, ◌≢◌, ◌↔◌, ◌⊎◌, inl, inr, false, cond, ◌++◌, Option, refl, sym, subst, append_assoc, Bool, ◌&&◌, eqb},
  Common.{map, fold, option_map, option_and_then, nat_le},
  lemmas.Bool.{cond-true, cond-false, cond_both, le-leb, lt-leb, and_from as both, and_right, cases_Bool, and_parts},
  lemmas.Bool.{and_from, eqb-true, leb-true, false≢true, and_left, or_from},
  lemmas.List.at_drop_more,
  lemmas.Option.{none-some, same_Some, cond_some, option_and_then_some},
}
use Rattle.std.specs.List.{list_all}
use Rattle.bre_core.specs.{
  Class.{is_between, class_named},
  Interval.{number_from, number_at, begins_with_digit, after_close, high_at, bounds_at, interval_at},
  declared.token.{Context.{Context, TheVariants.Inner}, Token.{Token, TheVariants.Repeat}},
  declared.class.Class.{Class, TheVariants.Upper},
  declared.member.{
    Element.{Element, TheVariants.{Point, Same, Named}},
    Member.{Member, TheVariants.{Range, Class as InClass}},
  },
  Bracket.{begins_with, IsBracket, ReadsMember, after_complement, class_at, element_at, enclosed, inner_at},
  Bracket.{is_dash_inside, matched_bytes, member_at, member_from, name_at, range_to},
  Spelled.{IsNumber, AreBounds, exactly, at_least, between, IsInterval, Spelling, plain, symbol, Part, single, range},
  Spelled.{equivalents, class, byte_of, member_of, name_of, byte_before, part_before, parts_before, list_before},
  Spelled.{is_opening, BeginsInterval, IsItself, MayBegin, ReadsAs, Stand, IsBracketList, IsSpelled, in_symbols},
  Spelled.is_ordered,
  Token.{BeginsWithToken, has_item},
  Steps.Steps,
}
use Rattle.bre_core.proofs.{Chains.one_way, Tokens.{members_decided, closed_stuck, bracket_decided}}

-- A number, read digit by digit.

pub digit_taken : (text : List ℕ) (number k : ℕ) → k < length text → is_between 48 57 (get_or text k 0) ≡ true
    → number_from number (drop k text) ≡ number_from (10 * number + (get_or text k 0 - 48)) (drop (k + 1) text)
digit_taken text number k h e = at_drop_more (number_from number) text k 0 h ∙ cond-true _ _ _ e

-- the number only grows
pub number_grows : (text : List ℕ) (number : ℕ) → number ≤ (number_from number text).0
number_grows [] number = omega arith
number_grows (byte ∷ text) number =
    cond_both (is_between 48 57 byte) (number_from (10 * number + (byte - 48)) text) (number, byte ∷ text) (λ found. number ≤ found.0)
    (λ _. omega (arith, number_grows text (10 * number + (byte - 48)))) (λ _. omega arith)

-- a number that is at most 255
pub number_fits : (text : List ℕ) → begins_with_digit text ≡ true → {found : ℕ × List ℕ} → number_from 0 text ≡ found
    → found.0 ≤ 255 → number_at text ≡ Some found
number_fits text d e h = cond-true _ _ _ (both _ _ d (le-leb _ _ (omega (arith, ap (λ f. f.0) e)))) ∙ ap Some e

-- a number that is above 255
pub number_too_large : (text : List ℕ) (number : ℕ) (rest : List ℕ) → number_from 0 text ≡ number_from number rest
    → 255 < number → number_at text ≡ None
number_too_large text number rest e h = search (rules, cond-false, and_right, begins_with_digit, lt-leb, number_grows)

-- A text is read as an interval exactly if it is spelled as one.

-- a number and one more digit
abbrev step : ℕ → ℕ → ℕ
step value digit = 10 * value + (digit - 48)

abbrev close : List ℕ → List ℕ
close rest = 92 ∷ 125 ∷ rest

number_stops : (number : ℕ) (text : List ℕ) → begins_with_digit text ≡ false → number_from number text ≡ (number, text)
number_stops number [] e = refl
number_stops number (byte ∷ text) e = cond-false _ _ _ e

digits_read : (number : ℕ) (digits : List ℕ) {text : List ℕ} → list_all (is_between 48 57) digits ≡ true
    → begins_with_digit text ≡ false → number_from number (digits ++ text) ≡ (fold step number digits, text)
digits_read number [] {text} all e = number_stops number text e
digits_read number (digit ∷ digits) all e =
    let parts = and_parts (is_between 48 57 digit) (list_all (is_between 48 57) digits) all in
    cond-true _ _ _ parts.0 ∙ digits_read (step number digit) digits parts.1 e

digit_first : (digits text : List ℕ) → digits ≢ [] → list_all (is_between 48 57) digits ≡ true
    → begins_with_digit (digits ++ text) ≡ true
digit_first [] text some all = absurd (some refl)
digit_first (digit ∷ digits) text some all = (and_parts (is_between 48 57 digit) (list_all (is_between 48 57) digits) all).0

number_read : {digits text : List ℕ} (number : ℕ) → IsNumber digits number → begins_with_digit text ≡ false
    → number_at (digits ++ text) ≡ Some (number, text)
number_read {digits} {text} number n e = search (rules, number_fits, digit_first, digits_read)

-- the digits at the front of a text, what follows them, and the number that they go on
record Front (number : ℕ) (text : List ℕ) (found : ℕ × List ℕ) : Type 0 where
  digits : List ℕ
  all : list_all (is_between 48 57) digits ≡ true
  whole : text ≡ digits ++ found.1
  value : found.0 ≡ fold step number digits

front : (number : ℕ) (text : List ℕ) → Front number text (number_from number text)
front number [] = record { digits = []; all = refl; whole = refl; value = refl }
front number (byte ∷ text) =
    cond_both (is_between 48 57 byte) (number_from (step number byte) text) (number, byte ∷ text) (Front number (byte ∷ text))
    (λ e. let more = front (step number byte) text in record { digits = byte ∷ more.digits; all = and_from _ _ e more.all; whole = ap (λ t. byte ∷ t) more.whole; value = more.value })
    (λ e. record { digits = []; all = refl; whole = refl; value = refl })

front_some : (text : List ℕ) (number : ℕ) {rest : List ℕ} → begins_with_digit text ≡ true
    → number_from 0 text ≡ (number, rest) → number ≤ 255
    → (digits : List ℕ) × IsNumber digits number × (text ≡ digits ++ rest)
front_some [] number e f h = absurd (false≢true e)
front_some (byte ∷ text) number e f h =
    let more = subst (Front (step 0 byte) text) (sym (cond-true _ _ _ e) ∙ f) (front (step 0 byte) text) in
    (byte ∷ more.digits, record { some = λ g. cc; are_digits = and_from _ _ e more.all; value = more.value; within = h }, ap (λ t. byte ∷ t) more.whole)

number_found : {text : List ℕ} (number : ℕ) {rest : List ℕ} → number_at text ≡ Some (number, rest)
    → (digits : List ℕ) × IsNumber digits number × (text ≡ digits ++ rest)
number_found {text} number {rest} e =
    let found = cond_some _ (number_from 0 text) (number, rest) e in
    let tests = and_parts (begins_with_digit text) (nat_le (number_from 0 text).0 255) found.0 in
    let within = leb-true (number_from 0 text).0 255 tests.1 in
    front_some text number tests.0 found.1 (omega (arith, ap (λ f. f.0) found.1))

closed : (text : List ℕ) {rest : List ℕ} → after_close text ≡ Some rest → text ≡ close rest
closed (byte ∷ brace ∷ text) {rest} e = search rules
closed text e = absurd (none-some _ e)

-- bounds that are spelled are read
pub bounds_read : {text rest : List ℕ} {low : ℕ} {high : Option ℕ} → AreBounds text low high
    → interval_at (text ++ close rest) ≡ Some ((low, high), rest)
bounds_read (exactly digits number n) = ap (option_and_then (λ m. bounds_at m.0 m.1)) (number_read number n refl)
bounds_read {rest} (at_least digits number n) =
    ap interval_at (append_assoc digits (44 ∷ []) (close rest)) ∙ ap (option_and_then (λ m. bounds_at m.0 m.1)) (number_read number n refl)
bounds_read {rest} (between first second least most m n ordered) =
    ap interval_at (append_assoc first (44 ∷ second) (close rest)) ∙ ap (option_and_then (λ k. bounds_at k.0 k.1)) (number_read least m refl)
    ∙ ap (option_map (λ h. ((least, h.0), h.1))) (cond-true _ _ _ (digit_first second (close rest) n.some n.are_digits)
    ∙ ap (option_and_then (λ h. cond (nat_le least h.0) (option_map (λ r. (Some h.0, r)) (after_close h.1)) None)) (number_read most n refl)
    ∙ cond-true _ _ _ (le-leb least most ordered))

-- what a mapped value was found from
pub mapped : {A B : Type 0} (f : A → B) (o : Option A) {y : B} → option_map f o ≡ Some y
    → (x : A) × (o ≡ Some x) × (f x ≡ y)
mapped f None {y} e = absurd (none-some y e)
mapped f (Some x) e = (x, refl, same_Some _ _ e)

-- a text that begins with a byte
pub begun : {byte : ℕ} (text : List ℕ) → begins_with byte text ≡ true → text ≡ byte ∷ drop 1 text
begun [] e = absurd (false≢true e)
begun {byte} (other ∷ text) e = ap (λ b. b ∷ text) (eqb-true other byte e)

-- bounds that a text spells before a `\}` and the rest
record Found (text : List ℕ) (low : ℕ) (high : Option ℕ) (rest : List ℕ) : Type 0 where
  inner : List ℕ
  bounds : AreBounds inner low high
  whole : text ≡ inner ++ close rest

second_found : {digits : List ℕ} {low : ℕ} → IsNumber digits low
    → (text : List ℕ) {high : Option ℕ} {rest : List ℕ} {most : ℕ} {after : List ℕ}
    → number_at text ≡ Some (most, after)
    → cond (nat_le low most) (option_map {U = Option ℕ × List ℕ} (λ r. (Some most, r)) (after_close after)) None
    ≡ Some (high, rest) → Found (digits ++ (44 ∷ text)) low high rest
second_found {digits} {low} n text {high} {rest} {most} {after} e f = go (cases_Bool (nat_le low most))
  where
    go : (nat_le low most ≡ true) ⊎ (nat_le low most ≡ false) → Found (digits ++ (44 ∷ text)) low high rest
    go (inl ordered) =
        let second = number_found most e in
        let end = mapped {B = Option ℕ × List ℕ} (λ r. (Some most, r)) (after_close after) (sym (cond-true _ _ _ ordered) ∙ f) in
        let closes : after ≡ close rest = closed after (end.1 ∙ ap (λ p. Some p.1) end.2) in
        record {
          inner = digits ++ (44 ∷ second.0);
          bounds = subst (AreBounds (digits ++ (44 ∷ second.0)) low) (ap (λ p. p.0) end.2) (between digits second.0 low most n second.1 (leb-true low most ordered));
          whole = ap (λ t. digits ++ (44 ∷ t)) (second.2 ∙ ap (λ b. second.0 ++ b) closes) ∙ sym (append_assoc digits (44 ∷ second.0) (close rest));
        }
    go (inr e) = absurd (none-some _ (sym (cond-false _ _ _ e) ∙ f))

high_found : {digits : List ℕ} {low : ℕ} → IsNumber digits low → (text : List ℕ) {high : Option ℕ} {rest : List ℕ}
    → high_at low text ≡ Some (high, rest) → Found (digits ++ (44 ∷ text)) low high rest
high_found {digits} {low} n text {high} {rest} e = go (cases_Bool (begins_with_digit text))
  where
    go : (begins_with_digit text ≡ true) ⊎ (begins_with_digit text ≡ false)
        → Found (digits ++ (44 ∷ text)) low high rest
    go (inl digit) =
        option_and_then_some _ (number_at text) (high, rest) (sym (cond-true _ _ _ digit) ∙ e) (λ found is ends. second_found n text is ends)
    go (inr none) =
        let end = mapped {B = Option ℕ × List ℕ} (λ r. (None, r)) (after_close text) (sym (cond-false _ _ _ none) ∙ e) in
        record {
          inner = digits ++ (44 ∷ []);
          bounds = subst (AreBounds (digits ++ (44 ∷ [])) low) (ap (λ p. p.0) end.2) (at_least digits low n);
          whole = ap (λ t. digits ++ (44 ∷ t)) (closed text (end.1 ∙ ap (λ p. Some p.1) end.2)) ∙ sym (append_assoc digits (44 ∷ []) (close rest));
        }

after_number : {digits : List ℕ} (number : ℕ) → IsNumber digits number
    → (text : List ℕ) {low : ℕ} {high : Option ℕ} {rest : List ℕ}
    → bounds_at number text ≡ Some ((low, high), rest) → Found (digits ++ text) low high rest
after_number {digits} number n text {low} {high} {rest} e = go (cases_Bool (begins_with 44 text))
  where
    go : (begins_with 44 text ≡ true) ⊎ (begins_with 44 text ≡ false) → Found (digits ++ text) low high rest
    go (inl comma) =
        let end = mapped {B = (ℕ × Option ℕ) × List ℕ} (λ h. ((number, h.0), h.1)) (high_at number (drop 1 text)) (sym (cond-true _ _ _ comma) ∙ e) in
        let same : number ≡ low = ap (λ p. p.0.0) end.2 in
        let goes : high_at number (drop 1 text) ≡ Some (high, rest) = end.1 ∙ ap (λ p. Some (p.0.1, p.1)) end.2 in
        let found = high_found n (drop 1 text) goes in
        record {
          inner = found.inner;
          bounds = subst (λ l. AreBounds found.inner l high) same found.bounds;
          whole = ap (λ t. digits ++ t) (begun text comma) ∙ found.whole;
        }
    go (inr other) =
        let end = mapped {B = (ℕ × Option ℕ) × List ℕ} (λ r. ((number, Some number), r)) (after_close text) (sym (cond-false _ _ _ other) ∙ e) in
        record {
          inner = digits;
          bounds = subst (λ p. AreBounds digits p.0 p.1) (ap (λ p. p.0) end.2) (exactly digits number n);
          whole = ap (λ t. digits ++ t) (closed text (end.1 ∙ ap (λ p. Some p.1) end.2));
        }

-- bounds that are read are spelled
bounds_found : {text : List ℕ} {low : ℕ} {high : Option ℕ} {rest : List ℕ} → interval_at text ≡ Some ((low, high), rest)
    → Found text low high rest
bounds_found {text} {low} {high} {rest} e =
    option_and_then_some _ (number_at text) ((low, high), rest) e (λ found is ends.
    let first = number_found found.0 is in
    subst (λ t. Found t low high rest) (sym first.2) (after_number found.0 first.1 found.1 ends))

interval_found : (context : Context) {text rest : List ℕ} {token : Token}
    → BeginsWithToken context (92 ∷ 123 ∷ text) token rest → (context ≡ Inner) × IsInterval text token rest
interval_found Inner {text} e =
    let read = mapped {B = Token × List ℕ} (λ found. (Repeat found.0.0 found.0.1, found.1)) (interval_at text) e in
    let found = bounds_found (read.1 ∙ ap (λ p. Some (read.0.0, p.1)) read.2) in
    (refl, record { inner = found.inner; low = read.0.0.0; high = read.0.0.1; bounds = found.bounds; whole = found.whole; repeats = sym (ap (λ p. p.0) read.2) })
interval_found context e = absurd (none-some _ e)

-- after `\{`
pub interval_read : (context : Context) (text rest : List ℕ) (token : Token)
    → BeginsInterval context text token rest ↔ ((context ≡ Inner) × IsInterval text token rest)
interval_read context text rest token = search (rules, interval_found, cond-true, has_item, interval_at, bounds_read)

-- WHAT IS SPELLED IS READ

element_read : (spelling : Spelling) {text : List ℕ} → is_opening spelling text ≡ false
    → element_at (byte_before spelling text) ≡ Some (Point (byte_of spelling), text)
element_read (symbol byte) e = refl
element_read (plain byte) {text} e = search rules

named_read : (name : Class) {text : List ℕ} → element_at (part_before (class name) text) ≡ Some (Named name, text)
named_read Upper = refl
named_read name = refl

part_read : (part : Part) {text : List ℕ} → IsItself part text
    → option_and_then (λ found. member_from found.0 found.1) (element_at (part_before part text))
    ≡ Some (member_of part, text)
part_read (single spelling) itself = ap (option_and_then (λ found. member_from found.0 found.1)) (element_read spelling itself.0) ∙ cond-false _ _ _ itself.1
part_read (range low high) {text} itself = search rules
part_read (equivalents byte) itself = refl
part_read (class name) itself = ap (option_and_then (λ found. member_from found.0 found.1)) (named_read name)

at_place : (first : Bool) (text : List ℕ) → MayBegin first text
    → member_at first text ≡ option_and_then (λ found. member_from found.0 found.1) (element_at text)
at_place true text may = refl
at_place false text may = cond-false _ _ _ (or_from _ _ may.0 may.1)

one_read : (first : Bool) (part : Part) (text : List ℕ) → MayBegin first (part_before part text) → IsItself part text
    → ReadsMember (first, part_before part text) (member_of part) (false, text)
one_read first part text may itself = (at_place first (part_before part text) may ∙ part_read part itself, refl)

others_read : (parts : List Part) (text : List ℕ) → Stand false parts text
    → Steps ReadsMember (false, parts_before parts text) (map member_of parts) (false, text)
others_read [] text stand = refl
others_read (part ∷ parts) text stand = ((false, parts_before parts text), one_read false part (parts_before parts text) stand.0 stand.1, others_read parts text stand.2)

parts_read : (parts : List Part) (text : List ℕ) → parts ≢ [] → Stand true parts text
    → Steps ReadsMember (true, parts_before parts text) (map member_of parts) (false, text)
parts_read [] text some stand = absurd (some refl)
parts_read (part ∷ parts) text some stand = ((false, parts_before parts text), one_read true part (parts_before parts text) stand.0 stand.1, others_read parts text stand.2)

after_caret : (complemented : Bool) {parts : List Part} {rest : List ℕ} → IsBracketList complemented parts rest
    → after_complement (list_before complemented parts rest) ≡ parts_before parts (93 ∷ rest)
after_caret true list = refl
after_caret false list = cond-false _ _ _ list.caret

-- a list that is spelled by the rules is read as its members
pub list_read : (complemented : Bool) (parts : List Part) (rest : List ℕ) → IsBracketList complemented parts rest
    → ReadsAs (list_before complemented parts rest) complemented (map member_of parts) rest
list_read complemented parts rest list = (
  record {
    members = map member_of parts;
    way = subst (λ t. Steps ReadsMember (true, t) (map member_of parts) (false, 93 ∷ rest)) (sym (after_caret complemented list)) (parts_read parts (93 ∷ rest) list.some list.stand);
    bytes = ap (λ b. matched_bytes b (map member_of parts)) (sym list.caret);
  },
  refl,
)

-- ANY LIST OF MEMBERS

symbols_stand : (first : Bool) (members : List Member) (rest : List ℕ) → list_all is_ordered members ≡ true
    → Stand first (map in_symbols members) (93 ∷ rest)
symbols_stand first [] rest ordered = tt
symbols_stand first (Range low high ∷ members) rest ordered =
    let parts = and_parts (nat_le low high) (list_all is_ordered members) ordered in
    (may first, (leb-true low high parts.0, refl, refl), symbols_stand false members rest parts.1)
  where
    may : (place : Bool) → MayBegin place (parts_before (map in_symbols (Range low high ∷ members)) (93 ∷ rest))
    may true = tt
    may false = (refl, refl)
symbols_stand first (InClass name ∷ members) rest ordered = (may first, tt, symbols_stand false members rest ordered)
  where
    may : (place : Bool) → MayBegin place (parts_before (map in_symbols (InClass name ∷ members)) (93 ∷ rest))
    may true = tt
    may false = (refl, refl)

no_caret : (complemented : Bool) (members : List Member) (rest : List ℕ) → members ≢ []
    → begins_with 94 (list_before complemented (map in_symbols members) rest) ≡ complemented
no_caret false [] rest some = absurd (some refl)
no_caret false (Range low high ∷ members) rest some = refl
no_caret complemented members rest some = refl

some_parts : (members : List Member) → members ≢ [] → map in_symbols members ≢ []
some_parts [] some e = some refl
some_parts (member ∷ members) some e = cc

same_members : (members : List Member) → map member_of (map in_symbols members) ≡ members
same_members [] = refl
same_members (Range low high ∷ members) = ap (λ ms. Range low high ∷ ms) (same_members members)
same_members (InClass name ∷ members) = ap (λ ms. InClass name ∷ ms) (same_members members)

pub any_list : (complemented : Bool) (members : List Member) (rest : List ℕ) → members ≢ []
    → list_all is_ordered members ≡ true
    → ReadsAs (list_before complemented (map in_symbols members) rest) complemented members rest
any_list complemented members rest some ordered =
    let list : IsBracketList complemented (map in_symbols members) rest = record { some = some_parts members some; stand = symbols_stand true members rest ordered; caret = no_caret complemented members rest some } in
    let same = same_members members in
    subst (λ ms. ReadsAs (list_before complemented (map in_symbols members) rest) complemented ms rest) same
    (list_read complemented (map in_symbols members) rest list)

-- WHAT IS READ IS SPELLED

-- the spelling of an element before the rest
abbrev ElementIs : Element → List ℕ → List ℕ → Type 0
ElementIs (Point byte) text rest = (spelling : Spelling) × (byte_of spelling ≡ byte) × (text ≡ byte_before spelling rest) × (is_opening spelling rest ≡ false)
ElementIs (Same byte) text rest = text ≡ part_before (equivalents byte) rest
ElementIs (Named name) text rest = text ≡ part_before (class name) rest

enclosed_found : {mark : ℕ} (text : List ℕ) {byte : ℕ} {rest : List ℕ} → enclosed mark text ≡ Some (byte, rest)
    → text ≡ byte ∷ mark ∷ 93 ∷ rest
enclosed_found {mark} (first ∷ second ∷ third ∷ text) {byte} {rest} e = search rules
enclosed_found text e = absurd (none-some _ e)

name_found : (text : List ℕ) {name rest : List ℕ} → name_at text ≡ Some (name, rest) → text ≡ name ++ (58 ∷ 93 ∷ rest)
name_found [] e = absurd (none-some _ e)
name_found (byte ∷ text) {name} {rest} e = go (cases_Bool (eqb byte 58 && begins_with 93 text)) (λ n r f. name_found text f)
  where
    go : ((eqb byte 58 && begins_with 93 text) ≡ true) ⊎ ((eqb byte 58 && begins_with 93 text) ≡ false)
        → ((n r : List ℕ) → name_at text ≡ Some (n, r) → text ≡ n ++ (58 ∷ 93 ∷ r))
        → byte ∷ text ≡ name ++ (58 ∷ 93 ∷ rest)
    go (inl here) more =
        let tests = and_parts (eqb byte 58) (begins_with 93 text) here in
        let ends : ◌≡◌ {A = List ℕ × List ℕ} ([], drop 1 text) (name, rest) = same_Some _ _ (sym (cond-true _ _ _ here) ∙ e) in
        ap (λ b. b ∷ text) (eqb-true byte 58 tests.0) ∙ ap (λ t. 58 ∷ t) (begun text tests.1) ∙ ap (λ p. p.0 ++ (58 ∷ 93 ∷ p.1)) ends
    go (inr later) more =
        let found = mapped {B = List ℕ × List ℕ} (λ f. (byte ∷ f.0, f.1)) (name_at text) (sym (cond-false _ _ _ later) ∙ e) in
        ap (λ t. byte ∷ t) (more found.0.0 found.0.1 found.1) ∙ ap (λ p. p.0 ++ (58 ∷ 93 ∷ p.1)) found.2

class_is : {name : List ℕ} {found : Class} → class_named name ≡ Some found → name ≡ name_of found
class_is = search rules

class_found : {text : List ℕ} {name : Class} {rest : List ℕ} → class_at text ≡ Some (name, rest)
    → text ≡ name_of name ++ (58 ∷ 93 ∷ rest)
class_found {text} {name} {rest} e = search (rules, option_and_then_some, name_at, class_named, name_found, class_is, name_of)

inner_found : (text : List ℕ) {element : Element} {rest : List ℕ} → inner_at text ≡ Some (element, rest)
    → ElementIs element (91 ∷ text) rest
inner_found [] {element} {rest} e =
    let same : ◌≡◌ {A = Element × List ℕ} (Point 91, []) (element, rest) = same_Some _ _ e in
    subst (λ p. ElementIs p.0 (91 ∷ []) p.1) same (plain 91, refl, refl, refl)
inner_found (mark ∷ text) {element} {rest} e = dot (cases_Bool (eqb mark 46))
  where
    plainly : eqb mark 46 ≡ false → eqb mark 61 ≡ false → eqb mark 58 ≡ false
        → ◌≡◌ {A = Option (Element × List ℕ)} (Some (Point 91, mark ∷ text)) (Some (element, rest))
        → ElementIs element (91 ∷ mark ∷ text) rest
    plainly f g h k =
        let same : ◌≡◌ {A = Element × List ℕ} (Point 91, mark ∷ text) (element, rest) = same_Some _ _ k in
        subst (λ p. ElementIs p.0 (91 ∷ mark ∷ text) p.1) same (plain 91, refl, refl, or_from _ _ (or_from _ _ f g) h)

    colon : eqb mark 46 ≡ false → eqb mark 61 ≡ false → (eqb mark 58 ≡ true) ⊎ (eqb mark 58 ≡ false)
        → ElementIs element (91 ∷ mark ∷ text) rest
    colon f g (inl is) =
        let found = mapped {B = Element × List ℕ} (λ p. (Named p.0, p.1)) (class_at text) (sym (cond-false _ _ _ f ∙ cond-false _ _ _ g ∙ cond-true _ _ _ is) ∙ e) in
        subst (λ p. ElementIs p.0 (91 ∷ mark ∷ text) p.1) found.2 (ap (λ b. 91 ∷ b ∷ text) (eqb-true mark 58 is) ∙ ap (λ t. 91 ∷ 58 ∷ t) (class_found found.1))
    colon f g (inr other) = plainly f g other (sym (cond-false _ _ _ f ∙ cond-false _ _ _ g ∙ cond-false _ _ _ other) ∙ e)

    equals : eqb mark 46 ≡ false → (eqb mark 61 ≡ true) ⊎ (eqb mark 61 ≡ false)
        → ElementIs element (91 ∷ mark ∷ text) rest
    equals f (inl is) =
        let found = mapped {B = Element × List ℕ} (λ p. (Same p.0, p.1)) (enclosed 61 text) (sym (cond-false _ _ _ f ∙ cond-true _ _ _ is) ∙ e) in
        subst (λ p. ElementIs p.0 (91 ∷ mark ∷ text) p.1) found.2 (ap (λ b. 91 ∷ b ∷ text) (eqb-true mark 61 is) ∙ ap (λ t. 91 ∷ 61 ∷ t) (enclosed_found text found.1))
    equals f (inr other) = colon f other (cases_Bool (eqb mark 58))

    dot : (eqb mark 46 ≡ true) ⊎ (eqb mark 46 ≡ false) → ElementIs element (91 ∷ mark ∷ text) rest
    dot (inl is) =
        let found = mapped {B = Element × List ℕ} (λ p. (Point p.0, p.1)) (enclosed 46 text) (sym (cond-true _ _ _ is) ∙ e) in
        subst (λ p. ElementIs p.0 (91 ∷ mark ∷ text) p.1) found.2
        (symbol found.0.0, refl, ap (λ b. 91 ∷ b ∷ text) (eqb-true mark 46 is) ∙ ap (λ t. 91 ∷ 46 ∷ t) (enclosed_found text found.1), refl)
    dot (inr other) = equals other (cases_Bool (eqb mark 61))

element_found : (text : List ℕ) {element : Element} {rest : List ℕ} → element_at text ≡ Some (element, rest)
    → ElementIs element text rest
element_found [] e = absurd (none-some _ e)
element_found (byte ∷ text) {element} {rest} e = go (cases_Bool (eqb byte 91))
  where
    go : (eqb byte 91 ≡ true) ⊎ (eqb byte 91 ≡ false) → ElementIs element (byte ∷ text) rest
    go (inl bracket) = subst (λ b. ElementIs element (b ∷ text) rest) (sym (eqb-true byte 91 bracket)) (inner_found text (sym (cond-true _ _ _ bracket) ∙ e))
    go (inr other) =
        let same : ◌≡◌ {A = Element × List ℕ} (Point byte, text) (element, rest) = same_Some _ _ (sym (cond-false _ _ _ other) ∙ e) in
        subst (λ p. ElementIs p.0 (byte ∷ text) p.1) same (plain byte, refl, refl, and_left _ _ other)

-- a member is spelled by a part before the rest
record Spells (text : List ℕ) (member : Member) (rest : List ℕ) : Type 0 where
  part : Part
  itself : IsItself part rest
  whole : text ≡ part_before part rest
  same : member ≡ member_of part

dash_inside : (text : List ℕ) → is_dash_inside text ≡ true
    → (text ≡ 45 ∷ drop 1 text) × (begins_with 93 (drop 1 text) ≡ false)
dash_inside [] e = absurd (false≢true e)
dash_inside (byte ∷ text) e = search rules

range_found : {text : List ℕ} (low : Spelling) (after : List ℕ) (element : Element) {member : Member} (left : List ℕ)
    {rest : List ℕ}
    → text ≡ byte_before low (45 ∷ after) → begins_with 93 after ≡ false → ElementIs element after left
    → range_to (byte_of low) element left ≡ Some (member, rest) → Spells text member rest
range_found low after (Point byte) {member} left {rest} whole unclosed high e =
    let found = cond_some (nat_le (byte_of low) byte) (Range (byte_of low) byte, left) (member, rest) e in
    let ends : left ≡ rest = ap (λ p. p.1) found.1 in
    let spelled : after ≡ byte_before high.0 rest = high.2 ∙ ap (byte_before high.0) ends in
    record {
      part = range low high.0;
      itself = (
        subst (λ b. byte_of low ≤ b) (sym high.1) (leb-true (byte_of low) byte found.0),
        subst (λ t. is_opening high.0 t ≡ false) ends high.3,
        subst (λ t. begins_with 93 t ≡ false) spelled unclosed,
      );
      whole = whole ∙ ap (λ t. byte_before low (45 ∷ t)) spelled;
      same = sym (ap (λ p. p.0) found.1) ∙ ap (λ b. Range (byte_of low) b) (sym high.1);
    }
range_found low after element left whole unclosed high e = absurd (none-some _ e)

from_found : {text : List ℕ} (element : Element) (after : List ℕ) {member : Member} {rest : List ℕ}
    → ElementIs element text after → member_from element after ≡ Some (member, rest) → Spells text member rest
from_found (Same byte) after {member} {rest} is e =
    let same : ◌≡◌ {A = Member × List ℕ} (Range byte byte, after) (member, rest) = same_Some _ _ e in
    record { part = equivalents byte; itself = tt; whole = is ∙ ap (part_before (equivalents byte)) (ap (λ p. p.1) same); same = sym (ap (λ p. p.0) same) }
from_found (Named name) after {member} {rest} is e =
    let same : ◌≡◌ {A = Member × List ℕ} (InClass name, after) (member, rest) = same_Some _ _ e in
    record { part = class name; itself = tt; whole = is ∙ ap (part_before (class name)) (ap (λ p. p.1) same); same = sym (ap (λ p. p.0) same) }
from_found {text} (Point byte) after {member} {rest} is e = go (cases_Bool (is_dash_inside after))
  where
    go : (is_dash_inside after ≡ true) ⊎ (is_dash_inside after ≡ false) → Spells text member rest
    go (inl dash) =
        let inside = dash_inside after dash in
        option_and_then_some _ (element_at (drop 1 after)) (member, rest) (sym (cond-true _ _ _ dash) ∙ e) (λ found ends to.
        range_found is.0 (drop 1 after) found.0 found.1 (is.2 ∙ ap (byte_before is.0) inside.0) inside.1
        (element_found (drop 1 after) ends) (ap (λ b. range_to b found.0 found.1) is.1 ∙ to))
    go (inr alone) =
        let same : ◌≡◌ {A = Member × List ℕ} (Range byte byte, after) (member, rest) = same_Some _ _ (sym (cond-false _ _ _ alone) ∙ e) in
        let ends : after ≡ rest = ap (λ p. p.1) same in
        record {
          part = single is.0;
          itself = (subst (λ t. is_opening is.0 t ≡ false) ends is.3, subst (λ t. is_dash_inside t ≡ false) ends alone);
          whole = is.2 ∙ ap (byte_before is.0) ends;
          same = sym (ap (λ p. p.0) same) ∙ ap (λ b. Range b b) (sym is.1);
        }

may_begin : (first : Bool) (text : List ℕ) {found : Member × List ℕ} → member_at first text ≡ Some found
    → MayBegin first text
may_begin true text e = tt
may_begin false text e = search rules

member_found : (first : Bool) {text : List ℕ} {member : Member} {rest : List ℕ}
    → member_at first text ≡ Some (member, rest) → Spells text member rest
member_found first {text} {member} {rest} e =
    option_and_then_some _ (element_at text) (member, rest) (sym (at_place first text (may_begin first text e)) ∙ e)
    (λ found is from. from_found found.0 found.1 (element_found text is) from)

-- members that are read are spelled by parts
record SpellsAll (first : Bool) (text : List ℕ) (members : List Member) (end : List ℕ) : Type 0 where
  parts : List Part
  stand : Stand first parts end
  whole : text ≡ parts_before parts end
  same : members ≡ map member_of parts

members_found : (first : Bool) {text : List ℕ} (members : List Member) (end : List ℕ)
    → Steps ReadsMember (first, text) members (false, end) → SpellsAll first text members end
members_found first [] end way = record { parts = []; stand = tt; whole = ap (λ s. s.1) way; same = refl }
members_found first {text} (member ∷ members) end way =
    let more = members_found false members end (subst (λ place. Steps ReadsMember (place, way.0.1) members (false, end)) way.1.1 way.2) in
    let one = member_found first way.1.0 in
    let whole : text ≡ parts_before (one.part ∷ more.parts) end = one.whole ∙ ap (part_before one.part) more.whole in
    record {
      parts = one.part ∷ more.parts;
      stand = (subst (MayBegin first) whole (may_begin first text way.1.0), subst (IsItself one.part) more.whole one.itself, more.stand);
      whole = whole;
      same = ap (λ m. m ∷ members) one.same ∙ ap (λ ms. member_of one.part ∷ ms) more.same;
    }

-- the first place doesn't follow a member
has_parts : (text : List ℕ) {members : List Member} (parts : List Part) (end : List ℕ)
    → Steps ReadsMember (true, text) members (false, end) → members ≡ map member_of parts → parts ≢ []
has_parts text {members} parts end way same none = search rules

-- a text that is read is spelled by the rules
pub list_found : (text : List ℕ) (set : List Bool) (rest : List ℕ) (found : IsBracket text set rest)
    → IsSpelled text found.members set rest
list_found text set rest found = go (cases_Bool (begins_with 94 text))
  where
    spelled : (complemented : Bool) (after : List ℕ) → begins_with 94 text ≡ complemented
        → Steps ReadsMember (true, after) found.members (false, 93 ∷ rest)
        → ((parts : List Part) → after ≡ parts_before parts (93 ∷ rest) → text ≡ list_before complemented parts rest)
        → IsSpelled text found.members set rest
    spelled complemented after caret way whole =
        let all = members_found true found.members (93 ∷ rest) way in
        let is = whole all.parts all.whole in
        record {
          complemented = complemented;
          parts = all.parts;
          list = record { some = has_parts after all.parts (93 ∷ rest) way all.same; stand = all.stand; caret = subst (λ t. begins_with 94 t ≡ complemented) is caret };
          whole = is;
          same = all.same;
          bytes = found.bytes ∙ ap (λ b. matched_bytes b found.members) caret;
        }

    way_from : (after : List ℕ) → after_complement text ≡ after
        → Steps ReadsMember (true, after) found.members (false, 93 ∷ rest)
    way_from after is = subst (λ t. Steps ReadsMember (true, t) found.members (false, 93 ∷ rest)) is found.way

    go : (begins_with 94 text ≡ true) ⊎ (begins_with 94 text ≡ false) → IsSpelled text found.members set rest
    go (inl caret) = spelled true (drop 1 text) caret (way_from (drop 1 text) (cond-true _ _ _ caret)) (λ parts whole. begun text caret ∙ ap (λ t. 94 ∷ t) whole)
    go (inr other) = spelled false text other (way_from text (cond-false _ _ _ other)) (λ parts whole. whole)

-- two readings of one text have the same members
pub same_list : (text : List ℕ) (one other : List Bool) (rest end : List ℕ) (found : IsBracket text one rest)
    (again : IsBracket text other end) → (found.members ≡ again.members) × (one ≡ other) × (rest ≡ end)
same_list text one other rest end found again = search (rules, one_way, members_decided, closed_stuck, bracket_decided)
