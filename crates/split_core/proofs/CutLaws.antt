-- Laws of parts that follow one another, of what files get of them, and of lines that are dealt; and what the next bytes of a piece do
-- to the part that was begun.
use Rattle.std.proofs.{
  lemmas.{List.{take-append-drop}},
  Common.{◌≡◌, ℕ, ◌<◌, ◌≤◌, List, [], ◌∷◌, ◌++◌, true, false, refl, ap},
  Common.{arith, append_assoc, map, ◌+◌, ◌%◌, take-append-drop, ne_eqb},
  Math.{Seq.drop-append_seam, Nat.{mod-add-mod}},
}
use Rattle.seg_core.{specs.{Line.{joined}, declared.cut.Limit.{Limit}}}
use Rattle.split_core.specs.{
  Parts.{is_full, first_part, after_first, cut_up, dealt},
  laws.CutLaws.{cuts_up, cut_once},
  inner.{CutLaws.{Cuts, stops, goes, cut_so}},
  Split.{Share, share},
}
use Rattle.ports_core.specs.declared.slot.State.{State}
use Rattle.split_core.specs.laws.LimitLaws.{first_is_take}

-- whole lines

-- the first part of a text that has it in full

pub first_then_after : (limit : Limit) (x : List ℕ) → first_part limit x ++ after_first limit x ≡ x
first_then_after limit x = grind (arith, first_is_take, take-append-drop)

cuts_all : {limit : Limit} {x : List ℕ} {parts : List (List ℕ)} {rest : List ℕ} → Cuts limit x parts rest
    → joined parts ++ rest ≡ x
cuts_all (stops _ short) = refl
cuts_all {limit} {x} {rest} (goes _ parts _ full after) =
    cc (append_assoc _ _ rest, cuts_all after, first_then_after limit x)

-- nothing is lost
pub cut_all : (limit : Limit) {x : List ℕ} → joined (cut_up limit x).full ++ (cut_up limit x).rest ≡ x
cut_all limit = cuts_all cuts_up

pub cut_two : (limit : Limit) {x first : List ℕ} (next : List ℕ) → is_full limit x ≡ true → first_part limit x ≡ first
    → x ≡ first ++ next → is_full limit next ≡ false → cut_up limit x ≡ cut_so (first ∷ []) next
cut_two limit {x} {first} next full is both short =
    let rest : Cuts limit (after_first limit x) [] next = rw (is, both, drop-append_seam first next) (stops next short) in
    cut_once _ (rw is at (goes x [] next full rest))

-- the bytes of shares are those that were shared
pub bytes_of_shares : (state : State) (those : List (List ℕ))
    → map (λ (file : Share). file.bytes) (map (share state) those) ≡ those
bytes_of_shares state [] = refl
bytes_of_shares state (part ∷ those) = ap (λ rest. part ∷ rest) (bytes_of_shares _ _)

-- places that leave the same remainder are dealt alike
pub dealt_same : (n file one other : ℕ) (lines : List (List ℕ)) → one % n ≡ other % n
    → dealt n file one lines ≡ dealt n file other lines
dealt_same n file one other [] same = refl
dealt_same n file one other (line ∷ lines) same =
    cc (dealt_same n file (one + 1) (other + 1) lines (cc (mod-add-mod one n 1, mod-add-mod other n 1)))

-- if there are n files, files past the last get nothing
pub dealt_past : (n file place : ℕ) (lines : List (List ℕ)) → 0 < n → n ≤ file → dealt n file place lines ≡ []
dealt_past n file place [] some past = refl
dealt_past n file place (line ∷ lines) some past =
    cc (ne_eqb (place % n) file (λ is. omega arith), dealt_past n file (place + 1) lines some past)
