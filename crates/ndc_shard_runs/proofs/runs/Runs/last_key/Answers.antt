use Rattle.std.proofs.Common.{List, ◌∙◌, ap}
use Rattle.std.specs.Option.{option_map}
use Rattle.ndc_event.specs.declared.batch.Batch.{Batch}
use Rattle.ndc_model_sets.specs.Last.{last_batch}
use Rattle.ndc_shard_runs.proofs.runs.Runs.last_key.Goals as goal

pub returns-clause-key : goal.returns-clause-key
returns-clause-key c = c.last_key.ensures ∙ ap (λ (l : List Batch). option_map (λ b. b.key) (last_batch l)) c.self.view_is
