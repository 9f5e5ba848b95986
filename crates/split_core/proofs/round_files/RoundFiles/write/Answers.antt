use Rattle.std.proofs.{lemmas.List.take_all, Common.{◌≡◌, Ok, length, arith}}
use Rattle.ports_core.proofs.HandedOn.{result_is}
use Rattle.split_core.{specs.inner.Sharing.Adds, proofs.FilesLemmas.{sent_next, sent_stops}}
use Rattle.split_core.proofs.round_files.RoundFiles.write.Goals as goal

pub returns-in_err-send : goal.returns-in_err-send
returns-in_err-send g c = result_is (Adds _ _ _ _ _ _) _ _ c.from_residual.ensures.1 (sent_stops c.args.gathered.now
    c.loop-place.invariant c.loop-place-test.true c.index-gathered-place.is c.bytes.ensures c.in_err-send.ensures)

pub loop-place-preserved : goal.loop-place-preserved
loop-place-preserved g c = sent_next c.args.gathered.now c.loop-place.invariant c.loop-place-test.true
    c.index-gathered-place.is c.bytes.ensures (Ok tt) c.in_ok-send.ensures

pub returns : goal.returns
returns g c = let all : c.loop-place.place ≡ length c.args.gathered.now = omega arith in
    rw (all, take_all (length c.args.gathered.now) c.args.gathered.now (omega arith)) at c.loop-place.invariant
