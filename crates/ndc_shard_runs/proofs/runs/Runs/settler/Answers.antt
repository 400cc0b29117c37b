use Rattle.std.proofs.Common.{◌∙◌, ap, sym}
use Rattle.ndc_model_sets.specs.Current.{current_state}
use Rattle.ndc_shard_runs.specs.Settled.{settled_with}
use Rattle.ndc_shard_runs.proofs.StrayLemmas.{settles-from}
use Rattle.ndc_shard_runs.proofs.runs.Runs.settler.Goals as goal

pub returns : goal.returns
returns c =
    c.settling_state.ensures ∙ ap (settled_with (current_state c.in_ok-run.run'.now.run c.in_ok-run.run'.now.batches)) c.is_current.ensures
    ∙ settles-from c.args.self.now c.run_of.ensures.sound c.args.batch.now c.requires (sym c.is_some.ensures ∙ c.if-is_some.false) c.in_ok-run.run'.now c.in_ok-run.ensures.run
