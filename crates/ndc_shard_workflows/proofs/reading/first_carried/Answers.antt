use Rattle.std.proofs.Common.{rules, map}
use Rattle.ndc_model_cells.specs.Cells.{carries}
use Rattle.ndc_shard_workflows.proofs.FirstKeyLemmas.{least-known}
use Rattle.ndc_shard_workflows.proofs.reading.first_carried.Goals as goal

pub returns : goal.returns
returns c = least-known (carries c.args.batch.now) c.args.runs.now (map (λ b. b.now) c.as_slice.result.now) c.least_carried.result c.batches.ensures.sound.set.ordered (search rules) (search rules)
