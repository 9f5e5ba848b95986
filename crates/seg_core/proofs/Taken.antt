-- Bytes that are moved out, stretch by stretch.
use Rattle.std.proofs.{
  Common.{◌≡◌, ℕ, ◌+◌, ◌≤◌, List, ◌++◌, length, take, drop, sym, ap, ◌∙◌, take-add},
  lemmas.List.{append_assoc, length-take-le, drop-drop, take_at, drop_at, take-append-le},
}

-- after the first `at` bytes of what was held, n more bytes of the stretch that follows them
pub taken_more : (held front rest before : List ℕ) {out : List ℕ} (at n : ℕ) → at ≤ length held
    → drop at held ≡ front ++ rest → n ≤ length front → out ≡ take at held ++ drop at before
    → take at out ++ (take n front ++ drop (at + n) out) ≡ take (at + n) held ++ drop (at + n) before
taken_more held front rest before {out} at n within next fits so_far =
    let long : length (take at held) ≡ at = length-take-le at held within in
    let head : take at out ≡ take at held = ap (take at) so_far ∙ take_at (take at held) (drop at before) at long in
    let tail : drop (at + n) out ≡ drop (at + n) before =
    sym (drop-drop n at out) ∙ ap (drop n) (ap (drop at) so_far ∙ drop_at (take at held) (drop at before) at long) ∙ drop-drop n at before in
    let more : take n front ≡ take n (drop at held) = sym (ap (take n) next ∙ take-append-le n front rest fits) in
    ap (λ x. x ++ (take n front ++ drop (at + n) out)) head ∙ ap (λ x. take at held ++ (take n front ++ x)) tail
    ∙ ap (λ x. take at held ++ (x ++ drop (at + n) before)) more ∙ sym (append_assoc (take at held) (take n (drop at held)) (drop (at + n) before))
    ∙ ap (λ x. x ++ drop (at + n) before) (sym (take-add at n held))
