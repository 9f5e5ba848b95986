use Rattle.std.{proofs.{Common.refl, lemmas.Result.on_ok_weaker}, specs.Bool.⊤}
use Rattle.ports_core.proofs.HandedOn.{fault_is}
use Rattle.engine_core.proofs.WrittenLemmas.{nothing_out}
use Rattle.tools_core.proofs.{
  AdapterLemmas.{no_memory, none_opened, only_looked_none, opened_of, opened_short, some_there, split_asked},
  AdapterLemmas.{split_halts, whatever},
}
use Rattle.tools_core.proofs.split.SplitAdapterAdapter.open.Goals as goal

pub returns-in_err-naming-clause-opens : goal.returns-in_err-naming-clause-opens
returns-in_err-naming-clause-opens g c =
    let (shown, says, alike) = c.said_by-said.ensures.said in (
      shown,
      says,
      (
        none_opened _ c.from_residual.result c.from_residual.ensures.0,
        fault_is _ _ _ c.from_residual.ensures.1 (no_memory refl c.requires.streams c.in_err-naming.ensures.err),
      ),
    )

pub returns-clause-opens : goal.returns-clause-opens
returns-clause-opens g c =
    let (shown, says, alike) = c.said_by-said.ensures.said in
    let is = split_asked _ c.args.self.now.settings.now shown c.said_by-said.result
    c.settings.view_is c.in_ok-naming.ensures.ok c.tells_for-tells.ensures alike in (
      shown,
      says,
      (
        opened_of _ _ _ _ c.open.result is c.open.ensures.holds c.open.ensures.does c.open.ensures.bound
            c.open.ensures.ready c.open.ensures.owns
            (on_ok_weaker c.open.result (λ at. at _ (nothing_out _ _ (some_there _ c.requires.streams))) c.open.ensures.outputs),
        opened_short _ _ _ c.open.result _ (λ fault. ⊤) is c.requires.streams
            (λ fault why all. split_halts _ _ _ _ _ _ _ fault why) c.open.ensures.cut c.open.ensures.refused (whatever _ c.open.result (λ fault. tt)),
      ),
    )

pub returns-clause-looked : goal.returns-clause-looked
returns-clause-looked g c = rw c.said_by-said.ensures.same (only_looked_none _ _ _)
