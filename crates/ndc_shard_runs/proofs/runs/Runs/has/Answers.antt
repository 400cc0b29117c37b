use Rattle.std.proofs.Common.{◌∙◌, ap}
use Rattle.std.specs.Prelude.{is_some}
use Rattle.ndc_model_sets.specs.Sets.{batch_at}
use Rattle.ndc_shard_runs.specs.RunMap.{run_in}
use Rattle.ndc_shard_runs.proofs.TipLemmas.{some-of, some-read}
use Rattle.ndc_shard_runs.proofs.runs.Runs.has.Goals as goal

pub returns : goal.returns
returns c =
    c.is_some.ensures ∙ some-read c.run_of.result ∙ ap is_some c.run_of.ensures.run
    ∙ some-of (λ b. run_in c.args.self.now b.run) (batch_at c.args.key c.args.self.now)
