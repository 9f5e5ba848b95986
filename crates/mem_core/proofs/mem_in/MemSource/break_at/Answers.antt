use Rattle.std.proofs.{
  Common.{◌≡◌, ap, ◌∙◌, ◌+◌, ◌≤◌, take-take, length, drop, take, arith, length-drop, true, option_map, List, ℕ},
  lemmas.List.drop-take,
}
use Rattle.ports_core.specs.Source.{Source, cut}
use Rattle.mem_core.proofs.MemInLemmas.{cut_within, seen_as}
use Rattle.mem_core.proofs.mem_in.MemSource.break_at.Goals as goal

pub returns-then-at-len : goal.returns-then-at-len
returns-then-at-len c =
    let s = c.self.inside in
    let left = drop s.given s.bytes.items in
    let cuts = c.truncate.ensures.items in
    let bytes : drop s.given c.truncate.new.self.items ≡ take c.args.at left
    = ap (drop s.given) cuts ∙ drop-take s.given c.args.at s.bytes.items in
    let front : take s.given c.truncate.new.self.items ≡ take s.given s.bytes.items
    = ap (take s.given) cuts ∙ take-take s.given (s.given + c.args.at) s.bytes.items (omega arith) in
    let enough : c.args.at ≤ length left = rw length-drop (omega arith) in
    let was = seen_as (option_map (λ v. v.items) s.shown) s.reason s.bytes.items s.given s.breaks_off s.is_open
    s.is_broken s.asked s.reached s.last s.ended s.reads in
    let cut_to : List ℕ → List ℕ → Source = λ those taken.
    record was { left = record was.left { bytes = those; breaks_off = true }; taken = taken } in
    ap (λ those. cut_to those (take s.given c.truncate.new.self.items)) bytes ∙ ap (cut_to (take c.args.at left)) front
    ∙ cut_within was enough ∙ ap (cut c.args.at) c.self.view_is
