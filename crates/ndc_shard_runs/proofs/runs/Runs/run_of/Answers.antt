use Rattle.std.proofs.Common.{List, ◌∙◌, ap}
use Rattle.std.specs.Option.{option_map}
use Rattle.ndc_event.specs.declared.batch.Batch.{Batch}
use Rattle.ndc_model_sets.specs.Sets.{batch_at}
use Rattle.ndc_shard_runs.specs.RunMap.{run_in}
use Rattle.ndc_shard_runs.proofs.IndexLemmas.{run-with-is}
use Rattle.ndc_shard_runs.proofs.runs.Runs.run_of.Goals as goal

pub returns-clause-run : goal.returns-clause-run
returns-clause-run c =
    c.run_of.ensures ∙ run-with-is c.self.inside.runs c.self.invariant.sound c.self.invariant.parts c.args.key
    ∙ ap (λ (l : List Batch). option_map (λ b. run_in l b.run) (batch_at c.args.key l)) c.self.view_is
