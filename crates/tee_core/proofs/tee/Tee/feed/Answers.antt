use Rattle.std.proofs.{Common.{◌<◌, ◌≤◌, sym, subst, arith, rules}, lemmas.Grind.common_steps}
use Rattle.tee_core.{
  specs.TeeState.TeeState,
  proofs.ChangeLemmas.{newly_none, all_get_more, all_still_usable, fed, sound_gets},
}
use Rattle.tee_core.proofs.tee.Tee.feed.Goals as goal

pub returns-then-self-clause-broke : goal.returns-then-self-clause-broke
returns-then-self-clause-broke g c = sym (newly_none _)

pub returns : goal.returns
returns g c =
    let streams = subst (λ (tee : TeeState). 0 < tee.count → 2 ≤ tee.first) c.self.view_is c.self.invariant.1 in
    let turned = fed _ c.args.self.now _ _ streams c.write_piece-broke.ensures.turned c.write_files.ensures.turned in
    record {
      same = search rules;
      gets = λ live. turned.changes;
      sound = λ live place is still. sound_gets _ (turned.changes.each place is) still;
      so_far = λ live start x at. all_get_more _ at turned.changes;
      broke = turned.broke_are;
      ready = λ live. all_still_usable _ turned.changes (c.requires live);
      over = grind (arith, common_steps);
    }
