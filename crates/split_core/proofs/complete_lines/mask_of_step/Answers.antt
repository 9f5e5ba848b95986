use Rattle.std.proofs.{Common.{eqb, take, arith, w8, length-take-le}, lemmas.Simd.bitmask_splat}
use Rattle.split_core.specs.declared.complete_lines.TheConstants.{STEP}
use Rattle.split_core.proofs.complete_lines.mask_of_step.Goals as goal

pub returns : goal.returns
returns c = bitmask_splat w8 eqb (take STEP c.args.bytes.now) STEP c.args.delim (length-take-le STEP c.args.bytes.now c.requires) (omega arith)
