use Rattle.std.proofs.Common.{◌∙◌, ap}
use Rattle.ndc_model_sets.specs.Sets.{batch_at}
use Rattle.ndc_shard_runs.proofs.runs.Runs.get.Goals as goal

pub returns : goal.returns
returns c = c.batch.ensures ∙ ap (batch_at c.args.key) c.self.view_is
