-- Lemmas on how a program was called, by the arguments that it is given.
use Rattle.std.proofs.{
  lemmas.{
    Grind.common_steps,
    List.map-append,
    Option.{get_or_from_slice_get, slice_get_cases, slice_get_within},
    Slice.Eq.bytes_eq-Decides,
    Str.{IsUtf8-from_is_utf8, IsUtf8-string_bytes, is_utf8-from_IsUtf8},
  },
  Math.{ListN.drop_of_length-le, Seq.drop-cons},
  Common.{◌≡◌, ℕ, Bool, true, false, List, [], ◌∷◌, ◌++◌, Option, Some, None, Result, Ok, Err, IfOk, if◌then◌else◌},
  Common.{codes, map, option_map, bytes_eq, string_bytes, refl, sym, ◌∙◌, ap, subst, arith, rules, ◌+◌, ◌<◌, inl, inr},
  Common.{length, drop, get_or, add-one, append_assoc},
}
use Rattle.std.specs.{List.slice_get, declared.string.String.String, Str.{IsUtf8, is_utf8, Lossy.utf8_lossy}}
use Rattle.ports_core.specs.declared.{calling.Calling.TheVariants.Cutters, tool.Tool.Tool}
use Rattle.words_core.specs.{
  declared.args.{Args.{Args}, ArgsFault.{ArgsFault, TheVariants.{Memory, NotUtf8}}},
  Called.{AreGiven, IfNotUtf8, IsCalled, IsFirstInvalid, called_by, has_slash, last_part, reads_any, text_of, tool_called},
  Called.{word_of, words_called, words_of},
  Table.{ToolRow, row_named, tools},
  Words.{tool_named},
}

-- the last part of a path, by what is left of the path and the last part so far
abbrev pub part_among : (part left : List ℕ) → List ℕ
part_among part left = if has_slash left then last_part left else part

-- before a byte was looked at, all of the path is left
pub whole_part : (path : List ℕ) → part_among path path ≡ last_part path
whole_part [] = refl
whole_part (byte ∷ rest) = grind (arith, common_steps)

-- the name of each tool is a text

abbrev AreTexts : List ToolRow → Type 0
AreTexts [] = Unit {0}
AreTexts (row ∷ rows) = IsUtf8 row.name × AreTexts rows

differ : (test : Bool) {name other : List ℕ} → IsUtf8 name → (IsUtf8 other → ⊥) → (test ≡ true → name ≡ other)
    → test ≡ false
differ true text none same = absurd (none (subst IsUtf8 (same refl) text))
differ false text none same = refl

none_of : (rows : List ToolRow) (name : List ℕ) → AreTexts rows → (IsUtf8 name → ⊥)
    → option_map (λ row. row.tool) (row_named rows name) ≡ None
none_of [] name texts none = refl
none_of (row ∷ rows) name texts none =
    rw (differ (bytes_eq row.name name) texts.0 none (bytes_eq-Decides row.name name).0)
    (none_of rows name texts.1 none)

pub no_tool : (name : List ℕ) → (IsUtf8 name → ⊥) → tool_named name ≡ None
unfolding tools lib.Utf8.encode
no_tool name none =
    none_of (tools Cutters) name (
      (codes "head", (refl, refl)),
      (
        (codes "tail", (refl, refl)),
        (
          (codes "split", (refl, refl)),
          ((codes "csplit", (refl, refl)), ((codes "tee", (refl, refl)), tt)),
        ),
      ),
    ) none

-- How an argument is read as a word.

-- an argument that is UTF-8 is read as its own text
pub text_is : (tool : Option Tool) (argument : List ℕ) → IsUtf8 argument → argument ≡ word_of tool argument
text_is tool argument text = own (reads_any tool) where
  own : (any : Bool) → argument ≡ (if any then text_of argument else argument)
  own true = rw (is_utf8-from_IsUtf8 argument text) refl
  own false = refl

no_text : (test : Bool) {argument : List ℕ} → (test ≡ true → IsUtf8 argument) → (IsUtf8 argument → ⊥) → test ≡ false
no_text test text none = search rules

-- an argument that isn't UTF-8 is marked, if such arguments are read
pub marked_is : (tool : Option Tool) (argument : List ℕ) {word : List ℕ} → reads_any tool ≡ true → (IsUtf8 argument → ⊥)
    → word ≡ utf8_lossy argument ++ 0 ∷ [] → word ≡ word_of tool argument
marked_is tool argument any none is =
    rw (any, no_text (is_utf8 argument) (IsUtf8-from_is_utf8 argument) none) is

-- a word that isn't UTF-8, if such arguments aren't read
pub invalid_is : (tool : Option Tool) (argument : List ℕ) → reads_any tool ≡ false → (IsUtf8 argument → ⊥)
    → is_utf8 (word_of tool argument) ≡ false
invalid_is tool argument own none = rw own (no_text (is_utf8 argument) (IsUtf8-from_is_utf8 argument) none)

-- it is the first such word, since those before it are strings
pub first_invalid : {Z : Type 0} (words : List (String Z)) (word : List ℕ) → is_utf8 word ≡ false
    → IsFirstInvalid (map string_bytes words ++ word ∷ []) (length words)
first_invalid [] word is = (rw is refl, omega arith)
first_invalid (text ∷ words) word is =
    let (first, within) = first_invalid words word is in
    (rw (is_utf8-from_IsUtf8 _ (IsUtf8-string_bytes text)) (omega (arith, first)), omega (arith, within))

-- if it is true of a place, so is what follows from it
pub place_is : {Before After : ℕ → Type 0} (fault : ArgsFault) → ((place : ℕ) → Before place → After place)
    → IfNotUtf8 Before fault → IfNotUtf8 After fault
place_is Memory goes is = tt
place_is (NotUtf8 place) goes is = goes place is

-- one more argument is read
pub read_on : (tool : Option Tool) (argument : List ℕ) (first read : List (List ℕ)) {words more : List (List ℕ)}
    → words ≡ first ++ map (word_of tool) read → more ≡ words ++ word_of tool argument ∷ []
    → more ≡ first ++ map (word_of tool) (read ++ argument ∷ [])
read_on tool argument first read so_far is = is ∙ ap (λ words. words ++ word_of tool argument ∷ []) so_far
    ∙ append_assoc first (map (word_of tool) read) (word_of tool argument ∷ [])
    ∙ ap (λ rest. first ++ rest) (sym (map-append (word_of tool) read (argument ∷ [])))

-- the first words and those that follow are all words, if this tool is called
pub words_so : (name : List ℕ) {tool : Option Tool} {first : List (List ℕ)} (rest : List (List ℕ))
    → tool ≡ tool_called name → first ≡ words_called tool → first ++ map (word_of tool) rest ≡ words_of (name ∷ rest)
words_so name {tool} rest is words = ap (λ before. before ++ map (word_of tool) rest) words
    ∙ ap (λ called. words_called called ++ map (word_of called) rest) is

-- if a program's own name is given and calls this tool, the first words and those that follow are all its words
pub all_words : (gives : ℕ → Option (List ℕ) → Type 0) {name : List ℕ} {tool : Option Tool} (first : Args)
    (result : Result Args ArgsFault)
    → gives 0 (Some name) → tool ≡ tool_called name
    → map string_bytes first.words.items ≡ words_called tool → first.calling ≡ called_by tool
    → IfOk result (λ args. (rest : List (List ℕ)) × AreGiven gives 1 rest
    × (map string_bytes args.words.items ≡ map string_bytes first.words.items ++ map (word_of tool) rest))
    → IfOk result (λ args. args.calling ≡ first.calling)
    → IfOk result (λ args. IsCalled gives args.calling (map string_bytes args.words.items))
all_words gives {name} first (Ok args) given is words calling rest same = record {
  arguments = name ∷ rest.0;
  given = (given, rest.1);
  called = same ∙ calling ∙ ap called_by is;
  read = rest.2 ∙ words_so name rest.0 is words;
}
all_words gives first (Err fault) given is words calling rest same = tt

-- if the arguments are one list, the arguments from a place on are what the list has from there on
pub one_list : (all : List (List ℕ)) (place : ℕ) (arguments : List (List ℕ))
    → AreGiven (λ place found. found ≡ slice_get all place) place arguments → arguments ≡ drop place all
one_list all place [] none =
    elim (slice_get_cases all place).1 [
      | inl there ↦ absurd (let is : slice_get all place ≡ Some there.0 = there.2 in cc)
      | inr past ↦ sym (drop_of_length-le all past.0)
    ]
one_list all place (argument ∷ arguments) given =
    let within : place < length all = slice_get_within all place argument (sym given.0) in
    let rest : arguments ≡ drop (place + 1) all = one_list all (place + 1) arguments given.1 in
    let here : get_or all place [] ≡ argument = get_or_from_slice_get all place argument [] (sym given.0) in
    rw (drop-cons all place [] within, here, rest, add-one) refl
