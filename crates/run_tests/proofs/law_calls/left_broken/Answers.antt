use Rattle.std.proofs.Common.{◌≡◌, ℕ, Bool, true, false, List, [], ◌∷◌, Option, Some, None, Result, codes, length, take, refl, ◌∙◌, ap}
use Rattle.std.specs.Prelude.{if◌then◌else◌, nat_le}
use Rattle.mem_core.specs.MemInState.{shown_by, with_break}
use Rattle.ports_core.specs.Source.{Content, source_of}
use Rattle.run_core.specs.Input.{inputs_at}
use Rattle.words_core.specs.declared.settings.Settings.{Settings}
use Rattle.tools_core.specs.{Outcome.{names_at, names_read}, Run.Run}
use Rattle.promises_core.specs.Promises.{AllAlike, FindAlike, ShowAlike, hold_same}
use Rattle.run_tests.{specs.inner.Calls.{in_file, run_of}, proofs.CallLemmas.alike_ends}
use Rattle.run_tests.proofs.law_calls.left_broken.Goals as goal

-- what a file has, by whether it breaks off
abbrev broken : Bool → ℕ → Content → Content
broken breaks at content = (if breaks
    then record (source_of content) { left = record content { bytes = take at content.bytes; breaks_off = true } }
    else source_of content).left

hides : (breaks : Bool) (at : ℕ) (content : Content) (shown : Option (List ℕ))
    → broken breaks at (record content { shown = shown }) ≡ record (broken breaks at content) { shown = shown }
hides true at content shown = refl
hides false at content shown = refl

show_alike : (asked : Settings) (breaks : Bool) (at : ℕ) (one other : Content) → ShowAlike asked one.shown other.shown
    → ShowAlike asked (broken breaks at one).shown (broken breaks at other).shown
show_alike asked true at one other alike = alike
show_alike asked false at one other alike = alike

finds : (one other : Run) (asked : Settings) {names : List (List ℕ)} → names_read one.calling one.words ≡ names
    → names_read other.calling other.words ≡ names
    → AllAlike asked (inputs_at one.world names) (inputs_at other.world names) → FindAlike asked one other
finds one other asked is is_too alike = rw (is, is_too) alike

pub returns : goal.returns
returns c asked read none only alike =
    let bytes = c.args.bytes.now in
    let shown : Content = record { bytes = bytes; breaks_off = false; shown = shown_by c.args.shown.now } in
    let instead = shown_by c.args.instead.now in
    let breaks = nat_le c.args.at (length bytes) in
    let (rest, ran) = c.in_ok-ran_broken.ensures asked read none in
    let (rest_too, ran_too) = c.in_ok-ran_broken-2.ensures asked read none in
    let one = run_of _ _ (with_break 1 c.args.at (in_file bytes c.args.shown.now)) rest c.ran_broken.new.outs _ in
    let other = run_of _ _ (with_break 1 c.args.at (in_file bytes c.args.instead.now)) rest_too c.ran_broken-2.new.outs _ in
    let names = ap (λ (meant : Result Settings _). names_at meant) read ∙ only in (
      one,
      other,
      refl,
      refl,
      alike_ends c.cutting_changes_nothing.ensures.ended c.cutting_changes_nothing.ensures.alike one other asked ran ran_too
          (finds one other asked names names (
            hold_same (broken breaks c.args.at shown) instead
                (show_alike asked breaks c.args.at shown (record shown { shown = instead }) alike) refl refl
                (ap Some (hides breaks c.args.at shown instead)),
            tt,
          )),
    )
