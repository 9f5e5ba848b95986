-- Lemmas on what options and operands ask of `csplit`.
use Rattle.std.proofs.{
  lemmas.Grind.common_steps,
  Common.{◌≡◌, ◌-◌, ◌≤◌, arith, get_or, take, drop, length, map, List, Result, Ok, IfOk, IfErr, ◌⊎◌},
}
use Rattle.operand_core.specs.Style.{Style}
use Rattle.ports_core.specs.declared.{calling.Calling.Calling, fault.Fault.{Fault, TheVariants.Memory}}
use Rattle.words_core.specs.{
  declared.spelled.{Chosen.Chosen, Operand.Operand},
  CsplitWords.{CsplitAsked, HasBadOperand, asked_with, csplit_asked, style_of},
  Given.{Given, operand_seen, option_seen},
  Spelling.IsRefused,
}

-- what operands ask for, if the first is the file
abbrev pub asked_first : Calling → Style → Operand → List Operand → CsplitAsked
asked_first calling style none all =
    asked_with calling style (get_or all 0 none).text.now (map operand_seen (take (length all - 1) (drop 1 all)))

-- The first operand is the file.

-- what a call returns for these options and operands is what is asked for, or the reason why it is refused
pub settled : (calling : Calling) (given : Given) (options : List Chosen) (none : Operand) (all : List Operand)
    {style : Style}
    (result : Result CsplitAsked Fault)
    → map option_seen options ≡ given.options → map operand_seen all ≡ given.operands
    → style ≡ style_of (map option_seen options)
    → 1 ≤ length all → 1 ≤ length (take (length all - 1) (drop 1 all))
    → IfOk result (λ settings. settings ≡ asked_first calling style none all)
    → IfErr result (λ fault. (fault ≡ Memory) ⊎ HasBadOperand (asked_first calling style none all) fault)
    → IfOk result (λ settings. csplit_asked calling given ≡ Ok settings)
    × IfErr result (IsRefused HasBadOperand (csplit_asked calling given))
settled calling given options none all {style} result are these is some more equal bad = grind (arith, common_steps)
