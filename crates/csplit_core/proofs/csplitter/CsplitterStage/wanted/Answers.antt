use Rattle.std.proofs.Common.{refl, ◌++◌, arith}
use Rattle.engine_core.proofs.SpareLemmas.{none_spare}
use Rattle.csplit_core.specs.laws.InputLaws.{lawful}
use Rattle.csplit_core.proofs.csplitter.CsplitterStage.wanted.Goals as goal

pub returns-clause-few : goal.returns-clause-few
returns-clause-few c x piece after n holds going within same later spare =
    omega (arith, none_spare _ (x ++ piece) n (lawful c.args.self.now.cutter.style c.args.self.now.cutter.operands) refl spare)
