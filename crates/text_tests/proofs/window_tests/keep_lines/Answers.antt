use Rattle.std.proofs.{
  Common.{◌≡◌, ◌+◌, ◌-◌, ◌≤◌, ◌++◌, ◌∙◌, [], List, ℕ, ap, sym, subst, length, arith},
  lemmas.{Result.on_ok_weaker, List.drop_all},
}
use Rattle.seg_core.{
  specs.{Line.but_last_lines, Window.Window},
  proofs.Carried.{left_after, left_alone, fits_after, fits_alone, over-le-length},
}
use Rattle.text_tests.proofs.window_tests.keep_lines.Goals as goal

pub put-requires : goal.put-requires
put-requires c =
    let within : c.over-over.result ≤ length c.args.window.now.held = let t = c.if-over-held.true in let e = c.len-held.ensures.len in omega arith in
    subst (λ (w : Window). but_last_lines w.delim w.most (w.held ++ c.args.piece.now) ≡ []) (sym c.drop_front.ensures)
    (fits_after c.args.window.now.delim c.args.window.now.most c.args.window.now.held c.args.piece.now c.over-over.result c.over-over.ensures within)

pub returns-then-over-held : goal.returns-then-over-held
returns-then-over-held c =
    let within : c.over-over.result ≤ length c.args.window.now.held = let t = c.if-over-held.true in let e = c.len-held.ensures.len in omega arith in
    on_ok_weaker c.put.result
    (λ is. ap (λ (w : Window). w.held) is ∙ ap (λ (w : Window). w.held ++ c.args.piece.now) c.drop_front.ensures
    ∙ left_after c.args.window.now.delim c.args.window.now.most c.args.window.now.held c.args.piece.now c.over-over.result c.over-over.ensures within)
    c.put.ensures.ok

pub split_at-requires : goal.split_at-requires
split_at-requires c =
    let is = c.over-over.ensures in
    let held = c.len-held.ensures.len in
    omega (arith, over-le-length c.args.window.now.delim c.args.window.now.most c.args.window.now.held c.args.piece.now)

pub put-requires-else-over-held : goal.put-requires-else-over-held
put-requires-else-over-held c =
    let now = c.args.window.now in
    let rest = c.split_at.result.1.now in
    let beyond : c.over-over.result ≡ length now.held + (c.over-over.result - c.len-held.result) = let t = c.if-over-held.false in let e = c.len-held.ensures.len in omega arith in
    let none = drop_all c.len-held.result now.held (let e = c.len-held.ensures.len in omega arith) in
    ap (λ (w : Window). but_last_lines w.delim w.most (w.held ++ rest)) c.drop_front-else-over-held.ensures
    ∙ ap (λ (x : List ℕ). but_last_lines now.delim now.most (x ++ rest)) none
    ∙ ap (but_last_lines now.delim now.most) c.split_at.ensures.back
    ∙ fits_alone c.args.window.now.delim now.most now.held c.args.piece.now c.over-over.result (c.over-over.result - c.len-held.result) c.over-over.ensures beyond

pub returns-else-over-held : goal.returns-else-over-held
returns-else-over-held c =
    let now = c.args.window.now in
    let rest = c.split_at.result.1.now in
    let beyond : c.over-over.result ≡ length now.held + (c.over-over.result - c.len-held.result) = let t = c.if-over-held.false in let e = c.len-held.ensures.len in omega arith in
    let none = drop_all c.len-held.result now.held (let e = c.len-held.ensures.len in omega arith) in
    on_ok_weaker c.put-else-over-held.result
    (λ is. ap (λ (w : Window). w.held) is ∙ ap (λ (w : Window). w.held ++ rest) c.drop_front-else-over-held.ensures
    ∙ ap (λ (x : List ℕ). x ++ rest) none
    ∙ c.split_at.ensures.back
    ∙ left_alone c.args.window.now.delim now.most now.held c.args.piece.now c.over-over.result (c.over-over.result - c.len-held.result) c.over-over.ensures beyond)
    c.put-else-over-held.ensures.ok
