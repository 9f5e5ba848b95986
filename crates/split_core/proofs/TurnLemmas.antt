-- Lemmas on one turn of lines that are dealt, as a stage.
use Rattle.std.proofs.{
  lemmas.{Grind.common_steps, List.FromFn.get_or-map-range_with_len},
  Common.{◌≡◌, ℕ, ◌+◌, ◌%◌, ◌<◌, Bool, IsTrue, List, [], ◌++◌, get_or, Ok, Err, Result, refl, arith},
  Math.Nat.{mod-add-mod},
}
use Rattle.seg_core.{proofs.Delimiters.delimiters-append, specs.Line.{delimiters, lines_of}}
use Rattle.engine_core.{
  specs.{Engine.cut, InTurn.fault_in, inner.Write.Wrote},
  proofs.{WrittenLemmas.{out_cut, out_more}, SlotSteps.{write_rose, written_writable}},
}
use Rattle.ports_core.specs.{Slot.{effect, Slot, is_writable}, declared.fault.Fault.{Fault, TheVariants.Memory}}
use Rattle.split_core.{
  specs.{
    inner.{Dealt.dealt_piece, Ways.{EndsAs, PassesAs}},
    Parts.dealt,
    laws.DealLaws.dealt_append,
    Turn.{Holds, TurnState, work},
  },
  proofs.{CutLaws.dealt_same, WayLemmas.passes_lacking},
}
use Rattle.engine_core.specs.inner.Write as short
use Rattle.split_core.specs.Ways as ways
use Rattle.split_core.specs.declared.splitter.Splitter.TheVariants as way
use Rattle.engine_core.specs.Engine.{PutsOut, CutsOff}

-- what a piece adds, and where it leaves the stage
abbrev pub due : TurnState → List ℕ → List ℕ
due turn piece = dealt turn.count turn.place turn.next (lines_of turn.delim piece)

abbrev pub passed : TurnState → List ℕ → TurnState
passed turn piece = record turn { next = (turn.next + delimiters turn.delim piece) % turn.count }

-- what the file has of a gathered piece
pub picked : (turn : TurnState) (piece : List ℕ) {gathered : List (List ℕ)} → turn.place < turn.count
    → gathered ≡ dealt_piece turn.delim turn.count turn.next piece → get_or gathered turn.place [] ≡ due turn piece
picked turn piece within is = grind (arith, get_or-map-range_with_len)

-- What a piece leaves

-- what is written once a piece came in
went_out : {turn : TurnState} {x : List ℕ} (piece : List ℕ) → Holds turn x
    → record ((work turn).settled x) { out = ((work turn).settled x).out ++ due turn piece }
    ≡ (work turn).settled (x ++ piece)
went_out {turn} {x} piece holds = grind (arith, dealt_append, dealt_same)

pub passes_at : (visible : Bool) (turn : TurnState) (piece : List ℕ) {before after : List Slot}
    (result : Result (Unit {0}) Fault) → IsTrue (is_writable before 0)
    → Wrote visible 0 (due turn piece) before after (fault_in result)
    → PassesAs (way.Turn turn) (way.Turn (passed turn piece)) piece (effect visible before after) result
passes_at visible turn piece {before} {after} (Ok u) can wrote =
    let outputs : PutsOut ways.terms (way.Turn turn) (λ x. (work turn).settled (x ++ piece)) (effect visible before after) =
    λ start x at. rw (went_out _ at.holds) at (out_more _ _ _ _ _ _ at.outputs wrote) in
    let ready = written_writable _ _ 0 0 _ can wrote in grind (arith, mod-add-mod, delimiters-append)
passes_at visible turn piece {before} {after} (Err why) can (short.broke n broke) =
    let cuts : CutsOff ways.terms (way.Turn turn) (λ x. (work turn).settled (x ++ piece)) (effect visible before after) why =
    λ start x at. cut refl (rw (went_out _ at.holds) at (out_cut _ _ _ _ _ _ n at.outputs broke)) in
    let rose = write_rose _ 0 _ n _ _ can broke in grind (arith, common_steps)

-- there was no room for it
pub lacks_room : {visible : Bool} (turn : TurnState) (next : ℕ) (piece : List ℕ) {slots : List Slot}
    → PassesAs (way.Turn turn) (way.Turn (record turn { next = next })) piece (effect visible slots slots) (Err Memory)
lacks_room turn next piece = passes_lacking (way.Turn turn) _ piece refl (omega arith) (λ first own. tt) refl

-- At the end nothing is left to be written.
pub finishes_by : (visible : Bool) (turn : TurnState) (slots : List Slot) → IsTrue (is_writable slots 0)
    → EndsAs (way.Turn turn) (way.Turn turn) (effect visible slots slots) (Ok tt)
finishes_by visible turn slots can = grind arith
