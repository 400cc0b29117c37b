use Rattle.ndc_cluster.proofs.RoundLemmas.{sent_more}
use Rattle.std.proofs.Common.{arith}
use Rattle.ndc_cluster.proofs.fresh.fresh_from.Goals as goal

pub loop-place-preserved : goal.loop-place-preserved
loop-place-preserved g c =
    sent_more (g.C.Cell.cell c.args.cell.now).written c.loop-place.messages.items c.push.new.self.items c.loop-place.place c.in_ok-message.message _ (omega (arith, c.loop-place-test.true, c.written_len-len.ensures))
    c.in_ok-message.ensures c.in_ok-push.ensures.items c.loop-place.invariant
