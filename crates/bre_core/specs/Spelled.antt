-- Intervals and bracket lists as the author of a pattern spells them (XBD 9.3.5, 9.3.6), and what they stand for.
use Rattle.std.specs.{
  Prelude.{◌≡◌, ◌≢◌, ℕ, ◌+◌, ◌-◌, ◌*◌, ◌≤◌, Bool, true, false, ◌==◌, ◌&&◌, ◌||◌, nat_le, List, []},
  Prelude.{◌∷◌, ◌++◌, map},
  Prelude.{fold, Option, Some, None, codes, if◌then◌else◌},
  List.list_all,
}
use Rattle.bre_core.specs.{
  declared.class.Class.{
    Class,
    TheVariants.{Upper, Lower, Alpha, Digit, Alnum, Xdigit, Blank, Space, Cntrl, Graph, Print, Punct},
  },
  declared.member.Member.{Member, TheVariants.{Range, Class as InClass}},
  declared.token.{Context.Context, Token.{Token, TheVariants.Repeat}},
  Bracket.{IsBracket, begins_with, is_dash_inside, matched_bytes},
  Class.is_between,
  Token.BeginsWithToken,
}

-- one or more digits that write a number in base 10, 255 at most; zeros may lead
pub record IsNumber (digits : List ℕ) (number : ℕ) : Type 0 where
  pub some : digits ≢ []
  pub are_digits : list_all (is_between 48 57) digits ≡ true
  pub value : number ≡ fold (λ value digit. 10 * value + (digit - 48)) 0 digits
  pub within : number ≤ 255

-- What stands between `\{` and `\}`: a number; a number and a comma; or two numbers and a comma between them, the first
-- not above the second. The least count of repetitions, and the greatest if there is a bound.
pub data AreBounds : List ℕ → ℕ → Option ℕ → Type 0 where
  exactly : (digits : List ℕ) (number : ℕ) → IsNumber digits number → AreBounds digits number (Some number)
  at_least : (digits : List ℕ) (low : ℕ) → IsNumber digits low → AreBounds (digits ++ codes ",") low None
  between : (first second : List ℕ) (low high : ℕ) → IsNumber first low → IsNumber second high → low ≤ high
      → AreBounds (first ++ (codes "," ++ second)) low (Some high)

-- after `\{`: bounds, `\}` and the rest; the token repeats within these bounds
pub record IsInterval (text : List ℕ) (token : Token) (rest : List ℕ) : Type 0 where
  pub inner : List ℕ
  pub low : ℕ
  pub high : Option ℕ
  pub bounds : AreBounds inner low high
  pub whole : text ≡ inner ++ (codes "\\}" ++ rest)
  pub repeats : token ≡ Repeat low high

-- after `\{` the token is read, and the rest follows it
abbrev pub BeginsInterval : Context → (text : List ℕ) → Token → (rest : List ℕ) → Type 0
BeginsInterval context text token rest = BeginsWithToken context (codes "\\{" ++ text) token rest

-- how a byte is spelled in a bracket list: plainly, or between `[.` and `.]`
pub data Spelling : Type 0 where
  plain : ℕ → Spelling
  symbol : ℕ → Spelling

-- one part of a bracket list: a byte, a range from one byte to another, a byte between `[=` and `=]`, or a class
pub data Part : Type 0 where
  single : Spelling → Part
  range : (low high : Spelling) → Part
  equivalents : ℕ → Part
  class : Class → Part

abbrev pub byte_of : Spelling → ℕ
byte_of (plain byte) = byte
byte_of (symbol byte) = byte

-- the member that a part stands for
abbrev pub member_of : Part → Member
member_of (single spelling) = Range (byte_of spelling) (byte_of spelling)
member_of (range low high) = Range (byte_of low) (byte_of high)
member_of (equivalents byte) = Range byte byte
member_of (class name) = InClass name

abbrev pub name_of : Class → List ℕ
name_of Upper = codes "upper"
name_of Lower = codes "lower"
name_of Alpha = codes "alpha"
name_of Digit = codes "digit"
name_of Alnum = codes "alnum"
name_of Xdigit = codes "xdigit"
name_of Blank = codes "blank"
name_of Space = codes "space"
name_of Cntrl = codes "cntrl"
name_of Graph = codes "graph"
name_of Print = codes "print"
name_of Punct = codes "punct"

-- The spelling of a byte, of a part and of a list of parts, before a text.

abbrev pub byte_before : Spelling → List ℕ → List ℕ
byte_before (plain byte) text = byte ∷ text
byte_before (symbol byte) text = codes "[." ++ (byte ∷ codes ".]" ++ text)

abbrev pub part_before : Part → List ℕ → List ℕ
part_before (single spelling) text = byte_before spelling text
part_before (range low high) text = byte_before low (codes "-" ++ byte_before high text)
part_before (equivalents byte) text = codes "[=" ++ (byte ∷ codes "=]" ++ text)
part_before (class name) text = codes "[:" ++ (name_of name ++ (codes ":]" ++ text))

abbrev pub parts_before : List Part → List ℕ → List ℕ
parts_before [] text = text
parts_before (part ∷ parts) text = part_before part (parts_before parts text)

-- what follows the `[`: a `^` for the complement, the parts, `]`, and the rest
abbrev pub list_before : Bool → List Part → List ℕ → List ℕ
list_before complemented parts rest = (if complemented then codes "^" else []) ++ parts_before parts (codes "]" ++ rest)

-- whether a spelling would be read as something else before this text: a plain `[` before `.`, `=` or `:`
abbrev pub is_opening : Spelling → List ℕ → Bool
is_opening (plain byte) text = byte == 91 && (begins_with 46 text || begins_with 61 text || begins_with 58 text)
is_opening (symbol byte) text = false

-- A part before this text is read as what it is. A single byte isn't followed by a `-` that would make a range. The
-- ends of a range are in order, and its second end isn't a plain `]`, which would close the list.
abbrev pub IsItself : Part → List ℕ → Type 0
IsItself (single spelling) text = (is_opening spelling text ≡ false) × (is_dash_inside text ≡ false)
IsItself (range low high) text = (byte_of low ≤ byte_of high) × (is_opening high text ≡ false)
    × (begins_with 93 (byte_before high text) ≡ false)
IsItself (equivalents byte) text = Unit {0}
IsItself (class name) text = Unit {0}

-- A part may begin like this text. In the first place any text will do. In a later place the text begins neither with
-- `]`, nor with a `-` that isn't directly before the closing `]`.
abbrev pub MayBegin : Bool → List ℕ → Type 0
MayBegin true text = Unit {0}
MayBegin false text = (begins_with 93 text ≡ false) × (is_dash_inside text ≡ false)

-- Each part stands where it may. `first` says that the first part stands in the list's first place.
abbrev pub Stand : Bool → List Part → List ℕ → Type 0
Stand first [] text = Unit {0}
Stand first (part ∷ parts) text = MayBegin first (parts_before (part ∷ parts) text)
    × IsItself part (parts_before parts text) × Stand false parts text

-- a list that follows the rules: at least one part, each where it may stand, and a `^` at the front only for the
-- complement
pub record IsBracketList (complemented : Bool) (parts : List Part) (rest : List ℕ) : Type 0 where
  pub some : parts ≢ []
  pub stand : Stand true parts (codes "]" ++ rest)
  pub caret : begins_with 94 (list_before complemented parts rest) ≡ complemented

-- a text after a `[` is read as a list of these members, or as its complement, and the rest follows it
abbrev pub ReadsAs : (text : List ℕ) → (complemented : Bool) → List Member → (rest : List ℕ) → Type 0
ReadsAs text complemented members rest =
    (found : IsBracket text (matched_bytes complemented members) rest) × (found.members ≡ members)

-- a text after a `[` is spelled by the rules, as a list of these members that matches this set of bytes
pub record IsSpelled (text : List ℕ) (members : List Member) (set : List Bool) (rest : List ℕ) : Type 0 where
  pub complemented : Bool
  pub parts : List Part
  pub list : IsBracketList complemented parts rest
  pub whole : text ≡ list_before complemented parts rest
  pub same : members ≡ map member_of parts
  pub bytes : set ≡ matched_bytes complemented members

-- a way to spell any member: each byte as a symbol
abbrev pub in_symbols : Member → Part
in_symbols (Range low high) = range (symbol low) (symbol high)
in_symbols (InClass name) = class name

-- a range's ends are in order
abbrev pub is_ordered : Member → Bool
is_ordered (Range low high) = nat_le low high
is_ordered (InClass name) = true
