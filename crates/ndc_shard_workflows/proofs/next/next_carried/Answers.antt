use Rattle.std.proofs.Common.{◌∙◌, ap}
use Rattle.ndc_shard_workflows.specs.Messages.{key_if_carried}
use Rattle.ndc_shard_workflows.proofs.NextLemmas.{next-known}
use Rattle.ndc_shard_workflows.proofs.next.next_carried.Goals as goal

pub returns : goal.returns
returns c = c.key_if_carried.ensures ∙ ap (key_if_carried c.args.batch.now) c.batch_behind.ensures ∙ next-known c.args.batch.now c.args.runs.now c.requires
