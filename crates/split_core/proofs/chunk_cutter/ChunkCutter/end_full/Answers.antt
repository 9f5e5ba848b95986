use Rattle.split_core.proofs.CutterLemmas.{ends_open}
use Rattle.split_core.proofs.chunk_cutter.ChunkCutter.end_full.Goals as goal

pub returns-then-self-size : goal.returns-then-self-size
returns-then-self-size g c = ends_open c.requires.ready c.if-self.true c.if-self-size.true
