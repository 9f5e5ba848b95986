use Rattle.std.proofs.{Common.length, lemmas.List.drop-replicate}
use Rattle.split_core.proofs.complete_lines.padded.Goals as goal

pub returns : goal.returns
returns c = cc (c.copy_from_slice.ensures.after, drop-replicate (length c.args.bytes.now) 64 c.args.other)
