-- Reading operands, and that there is one reading.
use Rattle.std.proofs.{
  lemmas.{Grind.common_steps, List.{append-nil, drop-map}},
  Common.{◌≡◌, ℕ, ◌+◌, ◌-◌, ◌<◌, ◌≤◌, Bor, get_or, List, [], ◌∷◌, ◌++◌, map, length, drop, Option, Some, None},
  Common.{Result, Ok, Err, refl, sym, ◌∙◌, ap, subst, arith, append_assoc, rules, ◌==◌, ◌≢◌, true},
}
use Rattle.operand_core.specs.{
  Operand.{Target, Number, Search, Times, Count, Operand},
  Word.spelling,
  Reading.{Aim, line, match, Spelled, aim_of, least_after, times_by, Words, failed, with_operand},
  Reading.{words_from, words_of, IsTarget, IsRead, AreRead, IsFault, Asks, HasRefused, is_wrong, is_refused},
  Reading.no_memory,
  inner.{
    Aiming.{IsAimed, is_target, is_wrong, is_refused, no_memory},
    Repeating.{least_by, SayTimes, no_word, again, other},
  },
  declared.operand_fault.{OperandFaultKind.OperandFaultKind, OperandFault.OperandFault},
}
use Rattle.operand_core.proofs.AimLemmas.{read_or_too_large}
use Rattle.ports_core.specs.declared.calling.Calling.{Calling}
use Rattle.bre_core.{
  specs.declared.fault.BreFault.{BreFault, TheVariants.{TooLarge, Memory}},
  proofs.Existence.one_tree_alone,
}
use Rattle.operand_core.specs.Reading as reading
use Rattle.operand_core.specs.declared.operand_fault.OperandFaultKind.TheVariants as kind

-- Reading a list of words.

-- the operands before these words, and then what these words ask for
abbrev pub after_front : List Spelled → Words → Words
after_front front words = record { operands = front ++ words.operands; fault = words.fault }

-- a step over an operand and the word that says how often it is performed again, if a word says so
pub step_over : (calling : Calling) (index least : ℕ) (word : List ℕ) {words : List (List ℕ)} {aim : Aim}
    {times : Times} {said : ℕ}
    → aim_of calling least (spelling word) ≡ Ok aim → SayTimes words times said
    → words_from calling index least (word ∷ words)
    ≡ with_operand index aim times (words_from calling (index + (1 + said)) (least_after least aim) (drop said words))
step_over calling index least word is no_word = cc
step_over calling index least word is (again next rest times' says) = cc
step_over calling index least word is (other next rest says) = cc

-- a word that is wrong ends the list
pub stop_at : (calling : Calling) {index : ℕ} (least : ℕ) (word : List ℕ) (words : List (List ℕ))
    {what : OperandFaultKind}
    → aim_of calling least (spelling word) ≡ Err what → words_from calling index least (word ∷ words)
    ≡ failed what index
stop_at calling least word [] is = cc
stop_at calling least word (next ∷ words) is = cc

-- the words as texts
abbrev pub texts : List (Bor (List ℕ)) → List (List ℕ)
texts words = map (λ word. word.now) words

pub no_first : (words : List (Bor (List ℕ))) → length words < 1 → SayTimes (texts words) (Count 0) 0
no_first [] none = no_word
no_first (word ∷ words) none = search rules

pub first_says : (words : List (Bor (List ℕ))) {text : List ℕ} (default : Bor (List ℕ)) {says : Option Times}
    {times : Times} → 1 ≤ length words → text ≡ (get_or words 0 default).now
    → says ≡ times_by (spelling text) → says ≡ Some times → SayTimes (texts words) times 1
first_says [] default some is reads at = search rules
first_says (word ∷ words) default {times} some is reads at = again word.now (texts words) times (sym (ap (λ those. times_by (spelling those)) is) ∙ sym reads ∙ at)

pub first_is_other : (words : List (Bor (List ℕ))) {text : List ℕ} (default : Bor (List ℕ)) {says : Option Times}
    → 1 ≤ length words → text ≡ (get_or words 0 default).now
    → says ≡ times_by (spelling text) → says ≡ None → SayTimes (texts words) (Count 0) 0
first_is_other [] default some is reads at = search rules
first_is_other (word ∷ words) default some is reads at = other word.now (texts words) (sym (ap (λ those. times_by (spelling those)) is) ∙ sym reads ∙ at)

-- Some words were read, and the words `left` are left.
pub record Reads (calling : Calling) (words : List (Bor (List ℕ))) (read : List Operand) (least : ℕ)
    (left : List (Bor (List ℕ)))
    : Type 0 where
  pub front : List Spelled
  pub are : AreRead front read
  pub within : length left ≤ length words
  pub asks : words_of calling (texts words) ≡ after_front front
      (words_from calling (length words - length left) least (texts left))

-- what the list is if a word is no operand

abbrev pub spelled_as : ℕ → Aim → Times → Spelled
spelled_as index aim times = record { index = index; aim = aim; times = times }

-- the words after an operand say how often it is performed again
says_by : {next : List ℕ} {words : List (List ℕ)} (says : Option Times) → times_by (spelling next) ≡ says
    → (times : Times) × (said : ℕ) × SayTimes (next ∷ words) times said
says_by {next} {words} None is = (Count 0, 0, other next words is)
says_by {next} {words} (Some times) is = (times, 1, again next words times is)

says : (words : List (List ℕ)) → (times : Times) × (said : ℕ) × SayTimes words times said
says [] = (Count 0, 0, no_word)
says (next ∷ words) = says_by (times_by (spelling next)) refl

ends_by : (calling : Calling) (words : List (List ℕ)) (read : List Operand) (front : List Spelled) (index least : ℕ)
    (word : List ℕ)
    (left : List (List ℕ)) (what : OperandFaultKind)
    → AreRead front read → words_of calling words ≡ after_front front (words_from calling index least (word ∷ left))
    → IsAimed (aim_of calling least (spelling word)) (Err what)
    → IsFault calling words (record { kind = what; index = index })
ends_by calling words read front index least word left what are asks (is_wrong what' is) =
    let at : words_of calling words ≡ after_front front (failed what index) = asks ∙ ap (after_front front) (stop_at calling least word left is) in
    reading.is_wrong (record { kind = what; index = index }) read (ap (λ (w : Words). w.fault) at) (subst (λ those. AreRead those read) (sym (ap (λ (w : Words). w.operands) at ∙ append-nil front)) are)
ends_by calling words read front index least word left what are asks (is_refused aim fault is refused) =
    let said = says left in
    reading.is_refused fault front (spelled_as index aim said.0) _ read
    (ap (λ (w : Words). w.operands) (asks ∙ ap (after_front front) (step_over calling index least word is said.2))) are refused
ends_by calling words read front index least word left what are asks no_memory = reading.no_memory index

pub ends_at : {calling : Calling} {words : List (Bor (List ℕ))} {read : List Operand} {least : ℕ}
    (left : List (Bor (List ℕ)))
    {text : List ℕ} (default : Bor (List ℕ)) {result : Result Target OperandFaultKind} {what : OperandFaultKind}
    → Reads calling words read least left → 1 ≤ length left → text ≡ (get_or left 0 default).now
    → IsAimed (aim_of calling least (spelling text)) result → result ≡ Err what
    → IsFault calling (texts words) (record { kind = what; index = length words - length left })
ends_at [] default reads some is aimed at = search rules
ends_at {calling} {words} {read} {least} (word ∷ left) default {result} {what} reads some is aimed at = grind (arith, common_steps, ends_by)

pub no_operand : (calling : Calling) (words : List (Bor (List ℕ))) → (length words == 0) ≡ true
    → IsFault calling (texts words) (record { kind = kind.Missing; index = 0 })
no_operand calling [] none = reading.is_wrong (record { kind = kind.Missing; index = 0 }) [] refl tt
no_operand calling (word ∷ words) none = grind (arith, common_steps)

are_more : (front : List Spelled) (read : List Operand) {spelled : Spelled} {operand : Operand} → AreRead front read
    → IsRead spelled operand → AreRead (front ++ spelled ∷ []) (read ++ operand ∷ [])
are_more [] [] are is = (is, tt)
are_more (first ∷ front) (one ∷ read) are is = (are.0, are_more front read are.1 is)
are_more front read are is = absurd are

least_same : (least : ℕ) (aim : Aim) (target : Target) → IsTarget aim target
    → least_after least aim ≡ least_by least target
least_same least (line n) (Number m) is = sym is
least_same least (match kept text offset) (Search pattern kept' offset') is = refl
least_same least aim target is = absurd is

next_by : (calling : Calling) (words : List (List ℕ)) (read : List Operand) (front : List Spelled) (index least : ℕ)
    (word : List ℕ)
    {left : List (List ℕ)} {target : Target} {times : Times} {said : ℕ}
    → AreRead front read → words_of calling words ≡ after_front front (words_from calling index least (word ∷ left))
    → IsAimed (aim_of calling least (spelling word)) (Ok target) → SayTimes left times said
    → (front' : List Spelled) × AreRead front' (read ++ record { index = index; target = target; times = times } ∷ [])
    × (words_of calling words
    ≡ after_front front' (words_from calling (index + (1 + said)) (least_by least target) (drop said left)))
next_by calling words read front index least word {left} {target} {times} {said} are asks (is_target aim target' is hits) says = (
  front ++ spelled_as index aim times ∷ [],
  are_more front read are (record { index = refl; target = hits; times = refl }),
  asks ∙ ap (after_front front) (step_over calling index least word is says)
      ∙ ap (λ those. record { operands = those; fault = (words_from calling (index + (1 + said)) (least_after least aim) (drop said left)).fault })
      (sym (append_assoc front (spelled_as index aim times ∷ []) (words_from calling (index + (1 + said)) (least_after least aim) (drop said left)).operands))
      ∙ ap (λ n. after_front (front ++ spelled_as index aim times ∷ []) (words_from calling (index + (1 + said)) n (drop said left))) (least_same least aim target hits),
)

pub reads_next : {calling : Calling} {words : List (Bor (List ℕ))} {read : List Operand} {least : ℕ}
    (left : List (Bor (List ℕ)))
    {text : List ℕ} (default : Bor (List ℕ)) {result : Result Target OperandFaultKind} {target : Target}
    {rest : List (Bor (List ℕ))} {times : Times} {said : ℕ} {now : List Operand} {after : List (Bor (List ℕ))}
    {least' : ℕ}
    → Reads calling words read least left → 1 ≤ length left → text ≡ (get_or left 0 default).now
    → IsAimed (aim_of calling least (spelling text)) result → result ≡ Ok target
    → rest ≡ drop 1 left → SayTimes (texts rest) times said → said ≤ length rest
    → now ≡ read ++ record { index = length words - length left; target = target; times = times } ∷ []
    → after ≡ drop said rest → least' ≡ least_by least target → Reads calling words now least' after
reads_next [] default reads some is aimed at rest_is says within now_is after_is least_is = search rules
reads_next {calling} {words} {read} {least} (word ∷ left) default {result} {target} {times} {said} {after} {least'} reads some is aimed at rest_is says within now_is after_is least_is = grind (arith, common_steps, (next_by calling), says, drop-map)

-- Words are read in only one way.

target_once : (aim : Aim) (one another : Target) → IsTarget aim one → IsTarget aim another → one ≡ another
target_once (line n) (Number a) (Number b) is are = cc
target_once (match has text by) (Search pattern kept offset) (Search pattern' kept' offset') is are =
    let same = one_tree_alone text pattern pattern' is.0.reads are.0.reads in cc (is.1, is.2, are.1, are.2)
target_once (line n) (Search pattern kept offset) another is are = absurd is
target_once (match has text by) (Number a) another is are = absurd is
target_once aim one another is are = absurd are

operand_once : {spelled : Spelled} (one another : Operand) → IsRead spelled one → IsRead spelled another → one ≡ another
operand_once {spelled} one another is are =
    let same = target_once spelled.aim one.target another.target is.target are.target in
    let by : ◌≡◌ {A = Operand} (record { index = one.index; target = one.target; times = one.times }) (record { index = another.index; target = another.target; times = another.times }) = cc in by

read_once : (spelled : List Spelled) (one another : List Operand) → AreRead spelled one → AreRead spelled another
    → one ≡ another
read_once [] [] [] is are = refl
read_once (first ∷ spelled) (a ∷ one) (b ∷ another) is are = let here = operand_once a b is.0 are.0 in let rest = read_once spelled one another is.1 are.1 in cc
read_once [] (a ∷ one) another is are = absurd is
read_once (first ∷ spelled) [] another is are = absurd is
read_once spelled one another is are = absurd are

pub asks_once : (calling : Calling) (words : List (List ℕ)) (one another : List Operand) → Asks calling words one
    → Asks calling words another
    → one ≡ another
asks_once calling words one another is are = read_once (words_of calling words).operands one another is.read are.read

-- an operand that is read isn't refused

read_at : (front : List Spelled) {spelled : Spelled} (rest : List Spelled) (operands : List Operand)
    → AreRead (front ++ spelled ∷ rest) operands → (operand : Operand) × IsRead spelled operand
read_at [] rest (operand ∷ operands) are = (operand, are.0)
read_at (first ∷ front) rest (operand ∷ operands) are = read_at front rest operands are.1
read_at front rest operands are = absurd are

aim_not_both : (aim : Aim) (target : Target) (fault : BreFault) → IsTarget aim target → HasRefused aim fault → ⊥
aim_not_both (line n) target fault hits refused = refused
aim_not_both (match has text by) (Number a) fault hits refused = hits
aim_not_both (match has text by) (Search pattern kept offset) TooLarge hits large = read_or_too_large hits.0 large
aim_not_both (match has text by) (Search pattern kept offset) Memory hits refused = refused
aim_not_both (match has text by) (Search pattern kept offset) fault hits none = search rules

pub reads_or_fails : (calling : Calling) (words : List (List ℕ)) (operands : List Operand) (fault : OperandFault)
    → Asks calling words operands
    → IsFault calling words fault → fault.kind ≢ kind.Memory → ⊥
reads_or_fails calling words operands fault asks (is_wrong another read at are) is = cc (asks.well, at)
reads_or_fails calling words operands fault asks (is_refused another front refused rest read at are has) is =
    let found = read_at front rest operands (subst (λ those. AreRead those operands) at asks.read) in aim_not_both refused.aim found.0.target another found.1.target has
reads_or_fails calling words operands fault asks (no_memory index) is = is refl
