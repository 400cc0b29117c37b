use Rattle.std.proofs.Common.{◌∙◌}
use Rattle.ndc_shard_workflows.proofs.CarriedLemmas.{second-found}
use Rattle.ndc_shard_workflows.proofs.reading.push_message.Goals as goal

pub message_with-requires-clause-second : goal.message_with-requires-clause-second
message_with-requires-clause-second c =
    second-found c.args.workflow.now c.requires.workflow c.args.batch.now c.requires.learned c.get.result (c.get.ensures ∙ c.requires.carried c.args.batch.now.key)
