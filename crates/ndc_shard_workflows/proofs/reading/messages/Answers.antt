use Rattle.std.proofs.Common.{rules, map}
use Rattle.ndc_shard_workflows.proofs.CarriedLemmas.{none-yet}
use Rattle.ndc_shard_workflows.proofs.reading.messages.Goals as goal

pub loop-batch-init : goal.loop-batch-init
loop-batch-init c =
    none-yet c.args.workflow.now c.runs.ensures.workflow c.new-list.result.items (map (λ b. b.now) c.as_slice-batch-items.result.now) c.new-list.ensures.items (search rules)
