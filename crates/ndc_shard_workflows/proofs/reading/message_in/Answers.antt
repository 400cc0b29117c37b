use Rattle.std.proofs.Common.{sym, ◌∙◌, ap}
use Rattle.ndc_model_sets.specs.Learned.{learned}
use Rattle.ndc_model_sets.specs.Sets.{batch_at}
use Rattle.ndc_model_sets.proofs.SetLemmas.{found-has}
use Rattle.ndc_shard_workflows.proofs.reading.message_in.Goals as goal

pub message_with-requires-clause-learned : goal.message_with-requires-clause-learned
message_with-requires-clause-learned c =
    found-has (learned c.args.workflow.now.arrived) c.args.key c.in-Some.batch.now (sym (c.in-Some.ensures ∙ ap (batch_at c.args.key) c.runs.ensures.learned))
