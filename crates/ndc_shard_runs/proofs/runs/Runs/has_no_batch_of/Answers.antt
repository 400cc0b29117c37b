use Rattle.std.proofs.Common.{List, ◌∙◌, ap}
use Rattle.std.specs.Prelude.{is_none}
use Rattle.ndc_event.specs.declared.batch.Batch.{Batch}
use Rattle.ndc_model_sets.specs.Last.{is_nil}
use Rattle.ndc_shard_runs.specs.RunMap.{all_of, part_of}
use Rattle.ndc_shard_runs.proofs.TipLemmas.{none-read, none-run}
use Rattle.ndc_shard_runs.proofs.runs.Runs.has_no_batch_of.Goals as goal

pub returns : goal.returns
returns c =
    none-read c.get.result c.is_none.result c.is_none.ensures ∙ ap is_none c.get.ensures
    ∙ none-run c.args.run c.self.inside.runs (all_of c.self.inside.runs) c.self.invariant.full (c.self.invariant.parts c.args.run)
    ∙ ap (λ (l : List Batch). is_nil (part_of c.args.run l)) c.self.view_is
