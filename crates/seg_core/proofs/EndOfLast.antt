-- Where the last delimiter of a text stands.
use Rattle.std.proofs.{
  Common.{◌≡◌, ℕ, zero, suc, ◌+◌, ◌<◌, eqb, true, [], ◌∷◌, List, length, drop, get_or, sym, ap, ◌∙◌, arith, eq-eqb},
}
use Rattle.memchr.specs.Find.{Nowhere, Passes, is_byte}
use Rattle.seg_core.{
  specs.Line.{HasNone, LastEndsAt, joined, delimiters},
  proofs.{
    Delimiters.{delimiters-take-drop, delimiters-one_yes, delimiters_more},
    NextLine.delimiters-none,
    LinesOf.joined-lines_of,
    FirstLines.{EndsAt_counted, EndsAt-rest},
  },
}

HasNone-drop : (delim k : ℕ) (x : List ℕ) → Nowhere (Passes (is_byte delim) x) k (length x) → HasNone delim (drop k x)
HasNone-drop delim zero [] none = tt
HasNone-drop delim zero (byte ∷ x) none =
    (λ e. none 0 (omega arith) (omega arith) (eq-eqb byte delim e), HasNone-drop delim zero x (λ i low high. none (suc i) (omega arith) (omega arith)))
HasNone-drop delim (suc k) [] none = tt
HasNone-drop delim (suc k) (byte ∷ x) none = HasNone-drop delim k x (λ i low high. none (suc i) (omega arith) (omega arith))

pub delimiters-after : (delim k : ℕ) (x : List ℕ) → Nowhere (Passes (is_byte delim) x) k (length x)
    → delimiters delim (drop k x) ≡ 0
delimiters-after delim k x none = delimiters-none delim (drop k x) (HasNone-drop delim k x none)

-- a delimiter after which there is no other
pub last_ends : {delim : ℕ} {x : List ℕ} (k : ℕ) → k < length x → eqb (get_or x k 0) delim ≡ true
    → Nowhere (Passes (is_byte delim) x) (k + 1) (length x) → LastEndsAt delim x (k + 1)
last_ends {delim} {x} k here is none =
    let none_after = delimiters-after delim (k + 1) x none in
    let one = delimiters-one_yes delim (get_or x k 0) is in
    let more = delimiters_more delim x k here in
    let all = delimiters-take-drop delim (k + 1) x in
    let ends = EndsAt_counted k here (omega arith) (omega arith) in
    record {
      some = omega arith;
      within = omega arith;
      delimiter = omega arith;
      complete = ends.lines;
      after = sym (joined-lines_of delim (drop (k + 1) x)) ∙ ap joined (EndsAt-rest delim (delimiters delim x) x (k + 1) ends);
      none_after = none_after;
    }
