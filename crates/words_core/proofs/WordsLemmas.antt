-- Lemmas on what all words ask for. The first word names the tool.
use Rattle.std.proofs.{
  lemmas.Grind.common_steps,
  Common.{◌≡◌, ℕ, ◌-◌, ◌≤◌, Bor, get_or, take, drop, length, map, List, Some, Result, Ok, IfOk, IfErr, arith},
}
use Rattle.ports_core.specs.declared.{calling.Calling.Calling, fault.Fault.Fault}
use Rattle.words_core.specs.{
  declared.settings.Settings.Settings,
  Given.Given,
  Spelling.{IsRefused, given_by},
  Table.{ToolRow, row_named, tools},
  Words.{HasBadOperands, settings_for, settings_of},
}

-- the words as texts
abbrev pub texts : List (Bor (List ℕ)) → List (List ℕ)
texts words = map (λ word. word.now) words

abbrev pub after_first : List (Bor (List ℕ)) → List (List ℕ)
after_first words = texts (take (length words - 1) (drop 1 words))

-- What the words after the tool's name ask of the tool.

pub returned : (calling : Calling) (words : List (Bor (List ℕ))) (none : Bor (List ℕ)) {rows : List ToolRow}
    {row : ToolRow} {given : Given} (result : Result Settings Fault)
    → 1 ≤ length words → rows ≡ tools calling → Some row ≡ row_named rows (get_or words 0 none).now
    → given_by calling row (after_first words) ≡ Ok given
    → IfOk result (λ settings. settings_for calling row.tool given ≡ Ok settings)
    → IfErr result (IsRefused HasBadOperands (settings_for calling row.tool given))
    → IfOk result (λ settings. settings_of calling (texts words) ≡ Ok settings)
    × IfErr result (IsRefused HasBadOperands (settings_of calling (texts words)))
returned calling words none {row} {given} result some are named read is bad = grind (arith, common_steps)
