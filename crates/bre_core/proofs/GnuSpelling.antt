-- A text that has a tree, or no backslash, stays as it is if GNU's spelling is written as POSIX's.
use Rattle.std.proofs.{
  lemmas.{
    Grind.common_steps,
    Bool.{cond-true, cases_Bool, eqb-true, and_right, ne_eqb, MatchBool-at_true, MatchBool-at_false},
    Option.{none-some, same_Some},
  },
  Common.{◌≡◌, ◌≢◌, ◌⊎◌, inl, inr, ℕ, drop, Bool, true, false, ◌||◌, eqb, List, [], ◌∷◌, ◌++◌, Option, Some, refl, sym},
  Common.{ap, subst, ◌∙◌, arith},
}
use Rattle.std.specs.List.{list_all, list_any}
use Rattle.bre_core.specs.{
  declared.{
    class.Class.{Class, TheVariants.Upper},
    gnu_spelling.Place.{Place, TheVariants.{Outside, Escaped, Opened, First, Inside, Bracket, Named}},
    token.{Context.{Context, TheVariants.{Opening, Inner}}, Token.Token},
  },
  Bracket.{IsBracket, begins_with},
  Class.is_between,
  GnuSpelling.{after_member, escape_of, place_after, respelled, respelled_from, written_for},
  Pattern.{Pattern, Reads, written},
  Spelled.{AreBounds, exactly, at_least, between, Spelling, plain, symbol, Part, single, range, equivalents, class},
  Spelled.{name_of, byte_before, part_before, parts_before, list_before, is_opening, IsItself, Stand, IsBracketList},
  Steps.Steps,
  Token.{BeginsWithToken, ReadsToken, plain_at, escaped_at},
}
use Rattle.bre_core.proofs.Spelled.{begun, interval_read, list_found}

-- the text stays as it is from this place on
abbrev pub Stays : Place → List ℕ → Type 0
Stays place text = respelled_from place text ≡ text

-- A text without a backslash.

abbrev is_escaped : Place → Bool
is_escaped Escaped = true
is_escaped place = false

never_escaped : (place : Place) (byte : ℕ) → eqb byte 92 ≡ false → is_escaped (place_after place byte) ≡ false
never_escaped Outside byte other = grind (arith, common_steps)
never_escaped place byte other = grind (arith, common_steps)

written_plainly : (place : Place) (byte : ℕ) (text : List ℕ) → is_escaped place ≡ false → eqb byte 92 ≡ false
    → written_for place (byte ∷ text) ≡ byte ∷ []
written_plainly Outside byte text free other = grind (arith, common_steps)
written_plainly place byte text free other = grind (arith, common_steps)

plain_stays : (place : Place) (text : List ℕ) → is_escaped place ≡ false
    → list_any (λ byte. eqb byte 92) text ≡ false → Stays place text
plain_stays place [] free none = refl
plain_stays place (byte ∷ text) free none =
    grind (arith, common_steps, written_plainly, never_escaped, (plain_stays (place_after place byte) text))

pub plain_text : (text : List ℕ) → text ≢ [] → list_any (λ byte. eqb byte 92) text ≡ false → respelled text ≡ text
plain_text [] some none = absurd (some refl)
plain_text (byte ∷ text) some none = plain_stays Outside (byte ∷ text) refl none

-- Bracket expressions.

-- the place of a member
abbrev place_of : Bool → Place
place_of true = First
place_of false = Inside

-- in a later place no `]` is a member
abbrev MayStart : Bool → List ℕ → Type 0
MayStart true text = Unit {0}
MayStart false text = begins_with 93 text ≡ false

enter : (first : Bool) (byte : ℕ) {text : List ℕ} → MayStart first (byte ∷ text) → Stays (after_member byte) text
    → Stays (place_of first) (byte ∷ text)
enter true byte may stays = grind (arith, common_steps)
enter false byte may stays = grind (arith, common_steps)

-- after a `[` that begins nothing
no_mark : (text : List ℕ) → (begins_with 46 text || begins_with 61 text || begins_with 58 text) ≡ false
    → Stays Inside text → Stays Bracket text
no_mark [] none stays = refl
no_mark (byte ∷ text) none stays = grind (arith, common_steps)

-- a byte after a mark, and the mark and `]` that close it
closes : (mark byte : ℕ) {text : List ℕ} → eqb mark mark ≡ true → eqb mark 93 ≡ false → Stays Inside text
    → Stays (Named mark) (byte ∷ mark ∷ 93 ∷ text)
closes mark byte same other stays = grind (arith, common_steps)

class_stays : (name : Class) {text : List ℕ} → Stays Inside text
    → Stays Bracket (58 ∷ (name_of name ++ (58 ∷ 93 ∷ text)))
class_stays Upper stays = ap (λ t. 58 ∷ (name_of Upper ++ (58 ∷ 93 ∷ t))) stays
class_stays name stays = ap (λ t. 58 ∷ (name_of name ++ (58 ∷ 93 ∷ t))) stays

byte_stays : (first : Bool) (spelling : Spelling) {text : List ℕ} → MayStart first (byte_before spelling text)
    → is_opening spelling text ≡ false → Stays Inside text → Stays (place_of first) (byte_before spelling text)
byte_stays first (symbol byte) may opening stays = enter first 91 may (ap (λ t. 46 ∷ t) (closes 46 byte refl refl stays))
byte_stays first (plain byte) may opening stays = grind (arith, common_steps, enter, no_mark)

-- a `-` begins nothing after `[`
no_opening : (spelling : Spelling) (text : List ℕ) → is_opening spelling (45 ∷ text) ≡ false
no_opening (plain byte) text = and_right (eqb byte 91) false refl
no_opening (symbol byte) text = refl

part_stays : (first : Bool) (part : Part) {text : List ℕ} → MayStart first (part_before part text) → IsItself part text
    → Stays Inside text → Stays (place_of first) (part_before part text)
part_stays first (single spelling) may itself stays = byte_stays first spelling may itself.0 stays
part_stays first (range low high) may itself stays =
    byte_stays first low may (no_opening low _) (ap (λ t. 45 ∷ t) (byte_stays false high itself.2 itself.1 stays))
part_stays first (equivalents byte) may itself stays = enter first 91 may (ap (λ t. 61 ∷ t) (closes 61 byte refl refl stays))
part_stays first (class name) may itself stays = enter first 91 may (class_stays name stays)

others_stay : (parts : List Part) {rest : List ℕ} → Stand false parts (93 ∷ rest) → Stays Outside rest
    → Stays Inside (parts_before parts (93 ∷ rest))
others_stay [] stand stays = ap (λ t. 93 ∷ t) stays
others_stay (part ∷ parts) stand stays = part_stays false part stand.0.0 stand.1 (others_stay parts stand.2 stays)

parts_stay : (parts : List Part) {rest : List ℕ} → parts ≢ [] → Stand true parts (93 ∷ rest) → Stays Outside rest
    → Stays First (parts_before parts (93 ∷ rest))
parts_stay [] some stand stays = absurd (some refl)
parts_stay (part ∷ parts) some stand stays = part_stays true part tt stand.1 (others_stay parts stand.2 stays)

no_caret : (text : List ℕ) → begins_with 94 text ≡ false → Stays First text → Stays Opened text
no_caret [] other stays = refl
no_caret (byte ∷ text) other stays = grind (arith, common_steps)

list_stays : (complemented : Bool) (parts : List Part) {rest : List ℕ} → IsBracketList complemented parts rest
    → Stays Outside rest → Stays Opened (list_before complemented parts rest)
list_stays true parts list stays = ap (λ t. 94 ∷ t) (parts_stay parts list.some list.stand stays)
list_stays false parts list stays = no_caret _ list.caret (parts_stay parts list.some list.stand stays)

bracket_stays : {text : List ℕ} {set : List Bool} {rest : List ℕ} → IsBracket text set rest → Stays Outside rest
    → Stays Opened text
bracket_stays {text} {set} {rest} found stays =
    let spelled = list_found text set rest found in
    subst (Stays Opened) (sym spelled.whole) (list_stays spelled.complemented spelled.parts spelled.list stays)

-- Outside of bracket expressions.

outside : (byte : ℕ) {text : List ℕ} → eqb byte 92 ≡ false → eqb byte 91 ≡ false → Stays Outside text
    → Stays Outside (byte ∷ text)
outside byte no_escape no_bracket stays = grind (arith, common_steps)

-- a digit is none of these
not_digit : (digit other : ℕ) → is_between 48 57 digit ≡ true → is_between 48 57 other ≡ false → eqb digit other ≡ false
not_digit digit other is none = ne_eqb digit other (λ same. let e = ap (is_between 48 57) same in cc (e, is, none))

digits_stay : (digits : List ℕ) {text : List ℕ} → list_all (is_between 48 57) digits ≡ true → Stays Outside text
    → Stays Outside (digits ++ text)
digits_stay [] all stays = stays
digits_stay (digit ∷ digits) all stays = grind (arith, common_steps, outside, not_digit, (digits_stay digits))

bounds_stay : {inner text : List ℕ} {low : ℕ} {high : Option ℕ} → AreBounds inner low high → Stays Outside text
    → Stays Outside (inner ++ text)
bounds_stay (exactly digits number n) stays = grind (arith, common_steps, digits_stay)
bounds_stay (at_least digits low n) stays = grind (arith, common_steps, digits_stay, outside)
bounds_stay (between first second low high m n ordered) stays = grind (arith, common_steps, digits_stay, outside)

-- no interval begins with a comma
comma_none : (context : Context) (text : List ℕ) {token : Token} {rest : List ℕ}
    → escaped_at context (123 ∷ 44 ∷ text) ≡ Some (token, rest) → ⊥
comma_none Inner text is = none-some _ is
comma_none context text is = none-some _ is

no_comma : (context : Context) (text : List ℕ) {token : Token} {rest : List ℕ}
    → escaped_at context (123 ∷ text) ≡ Some (token, rest) → begins_with 44 text ≡ false
no_comma context text is = elim (cases_Bool (begins_with 44 text)) [
  | inl comma ↦ absurd (comma_none context (drop 1 text) (ap (λ t. escaped_at context (123 ∷ t)) (sym (begun text comma)) ∙ is))
  | inr other ↦ other
]

interval_stays : (context : Context) (text : List ℕ) {token : Token} {rest : List ℕ}
    → escaped_at context (123 ∷ text) ≡ Some (token, rest) → Stays Outside rest → Stays Outside (92 ∷ 123 ∷ text)
interval_stays context text {token} {rest} found stays =
    let is = ((interval_read context text rest token).0 found).1 in
    let all : Stays Outside text = subst (Stays Outside) (sym is.whole) (bounds_stay is.bounds (ap (λ t. 92 ∷ 125 ∷ t) stays)) in
    let begins : begins_with 44 text ≡ false = no_comma context text found in
    grind (arith, common_steps)

-- a token that no bracket expression and no backslash begins
one_byte : (context : Context) (byte : ℕ) (text : List ℕ) {token : Token} {rest : List ℕ} → eqb byte 92 ≡ false
    → plain_at context byte text ≡ Some (token, rest) → text ≡ rest
one_byte context byte text other is = grind (arith, common_steps, same_Some)

-- a `\` and a byte but `{` that make a token
kept : (context : Context) (byte : ℕ) (text : List ℕ) {token : Token} {rest : List ℕ} → eqb byte 123 ≡ false
    → escaped_at context (byte ∷ text) ≡ Some (token, rest) → escape_of (byte ∷ text) ≡ 92 ∷ byte ∷ []
kept context byte text other is = grind (arith, common_steps)

goes_on : (context : Context) (byte : ℕ) (text : List ℕ) {token : Token} {rest : List ℕ} → eqb byte 123 ≡ false
    → escaped_at context (byte ∷ text) ≡ Some (token, rest) → text ≡ rest
goes_on context byte text other is = grind (arith, common_steps, same_Some)

escape_stays : (context : Context) (text : List ℕ) {token : Token} {rest : List ℕ}
    → escaped_at context text ≡ Some (token, rest) → Stays Outside rest → Stays Outside (92 ∷ text)
escape_stays context [] is stays = absurd (none-some _ is)
escape_stays context (byte ∷ text) {token} {rest} is stays = by_brace (cases_Bool (eqb byte 123))
  where
    by_brace : (eqb byte 123 ≡ true) ⊎ (eqb byte 123 ≡ false) → Stays Outside (92 ∷ byte ∷ text)
    by_brace (inl brace) =
        let same = eqb-true byte 123 brace in
        let at : escaped_at context (123 ∷ text) ≡ Some (token, rest) = subst (λ b. escaped_at context (b ∷ text) ≡ Some (token, rest)) same is in
        subst (λ b. Stays Outside (92 ∷ b ∷ text)) (sym same) (interval_stays context text at stays)
    by_brace (inr other) =
        ap (λ w. w ++ respelled_from Outside text) (kept context byte text other is)
        ∙ ap (λ t. 92 ∷ byte ∷ t) (subst (Stays Outside) (sym (goes_on context byte text other is)) stays)

token_stays : (context : Context) (text : List ℕ) (token : Token) {rest : List ℕ}
    → BeginsWithToken context text token rest → Stays Outside rest → Stays Outside text
token_stays context [] token begins stays = absurd begins
token_stays context (byte ∷ text) token {rest} begins stays = bracket (cases_Bool (eqb byte 91))
  where
    escape : eqb byte 91 ≡ false → plain_at context byte text ≡ Some (token, rest)
        → (eqb byte 92 ≡ true) ⊎ (eqb byte 92 ≡ false) → Stays Outside (byte ∷ text)
    escape none is (inl backslash) =
        subst (λ b. Stays Outside (b ∷ text)) (sym (eqb-true byte 92 backslash))
        (escape_stays context text (sym (cond-true _ _ _ backslash) ∙ is) stays)
    escape none is (inr other) = outside byte other none (subst (Stays Outside) (sym (one_byte context byte text other is)) stays)

    bracket : (eqb byte 91 ≡ true) ⊎ (eqb byte 91 ≡ false) → Stays Outside (byte ∷ text)
    bracket (inl is_bracket) =
        let found = MatchBool-at_true _ _ is_bracket begins in
        subst (λ b. Stays Outside (b ∷ text)) (sym (eqb-true byte 91 is_bracket)) (ap (λ t. 91 ∷ t) (bracket_stays found.2 stays))
    bracket (inr other) = escape other (MatchBool-at_false _ _ other begins) (cases_Bool (eqb byte 92))

tokens_stay : (context : Context) (text : List ℕ) (tokens : List Token) (last : Context)
    → Steps ReadsToken (context, text) tokens (last, []) → Stays Outside text
tokens_stay context text [] last way = subst (Stays Outside) (sym (ap (λ s. s.1) way)) refl
tokens_stay context text (token ∷ tokens) last way =
    token_stays context text token way.1.0 (tokens_stay way.0.0 way.0.1 tokens last way.2)

pub read_text : (text : List ℕ) (pattern : Pattern) → Reads text pattern → respelled text ≡ text
read_text [] pattern reads = absurd (reads.some refl)
read_text (byte ∷ text) pattern reads = tokens_stay Opening (byte ∷ text) (written pattern) reads.tokens.0 reads.tokens.1
