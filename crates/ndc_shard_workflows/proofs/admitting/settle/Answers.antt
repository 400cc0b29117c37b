use Rattle.std.proofs.Common.{[]}
use Rattle.ndc_shard_waiting.specs.Waiting.{freed, still_put_off}
use Rattle.ndc_shard_workflows.specs.Admitting.{settled}
use Rattle.ndc_shard_workflows.proofs.SettleLemmas.{settled-step}
use Rattle.ndc_shard_workflows.proofs.admitting.settle.Goals as goal

pub loop-sent-preserved : goal.loop-sent-preserved
loop-sent-preserved g c =
    settled-step (record { known = c.loop-sent.runs; waiting = c.loop-sent.waiting; learned = c.loop-sent.done.learned.items; aside = c.loop-sent.done.aside.items })
    (record { known = c.settle_one.new.runs; waiting = c.settle_one.new.waiting; learned = c.settle_one.new.done.learned.items; aside = c.settle_one.new.done.aside.items })
    c.loop-sent.sent-iterator.rest.items c.next.new.self.rest.items c.in-Some.sent
    (settled (freed c.args.message c.args.waiting.now) (record { known = c.args.runs.now; waiting = still_put_off c.args.message c.args.waiting.now; learned = []; aside = [] }))
    c.in-Some.ensures.steps.0 c.loop-sent.invariant.0 c.loop-sent.invariant.1 c.in_ok-settle_one.ensures
