use Rattle.split_core.{proofs.SectionLemmas.{line_bytes_are_parts, line_bytes_once, line_bytes_within}}
use Rattle.split_core.proofs.laws.line_byte_parts.Goals as goal

pub returns : goal.returns
returns c = record {
  are = line_bytes_are_parts;
  once = λ delim n x those some are. line_bytes_once some are (line_bytes_are_parts _ n x some);
  within = λ delim n x some. line_bytes_within _ n x _ some (line_bytes_are_parts _ n x some);
}
