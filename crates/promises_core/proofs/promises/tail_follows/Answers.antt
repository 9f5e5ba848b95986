use Rattle.promises_core.proofs.FollowPromises.{tells_all, follows_text}
use Rattle.promises_core.proofs.promises.tail_follows.Goals as goal

pub returns : goal.returns
returns c = record {
  grows = λ run options n file came one.
      tells_all run options one.followed one.name came file n one.follows one.bare one.named;
  text = λ run count options one kept. (follows_text one.follows one.bare one.named (λ saw. kept)).is;
}
