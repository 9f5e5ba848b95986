use Rattle.std.proofs.Common.{◌≡◌, ◌++◌, length, string_bytes}
use denote.{Text.Utf8, Shadow.shadow}
use Rattle.words_core.specs.Format.{plain_text}
use Rattle.words_core.proofs.format.push_plain.Given as goal

abbrev pub invariant-loop-front : goal.invariant-loop-front
invariant-loop-front l = shadow (Utf8 l.rest) × (string_bytes l.name ++ plain_text l.rest ≡ string_bytes l.fn.name ++ plain_text l.text)

abbrev pub decreases-loop-front : goal.decreases-loop-front
decreases-loop-front l = length l.rest
