use Rattle.std.proofs.Common.{List, sym, subst}
use Rattle.ndc_event.specs.declared.batch.Batch.{Batch}
use Rattle.ndc_model_sets.specs.Sets.{Rise, Has}
use Rattle.ndc_shard_runs.proofs.StrayLemmas.{item-has}
use Rattle.ndc_shard_runs.proofs.runs.Runs.settling.Goals as goal

pub settler-requires : goal.settler-requires
settler-requires c =
    subst (λ (l : List Batch). Has l c.batch-item.result.now) c.requires.all
    (item-has (λ b. b.now) c.args.batches.now c.loop-batch.batch-index c.batch-item.result (subst Rise (sym c.requires.all) c.requires.sound.set.ordered) c.loop-batch-test.true c.batch-item.is)
