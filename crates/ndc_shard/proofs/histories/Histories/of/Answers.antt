use Rattle.std.proofs.Common.{Bor, List, map, ◌∙◌, ap}
use Rattle.ndc_event.specs.declared.batch.Batch.{Batch}
use Rattle.ndc_shard.proofs.BranchLemmas.{branches-start}
use Rattle.ndc_shard.proofs.histories.Histories.of.Goals as goal

pub loop-batch-init : goal.loop-batch-init
loop-batch-init c run =
    branches-start run c.in_ok-parents.parents.keys c.args.runs.now (map (λ b. b.now) c.as_slice.result.now) (map (λ b. b.now) c.as_slice-batch-items.result.now) c.new.result.entries
    c.in_ok-batches.ensures.sound.set c.new.ensures.empty
    (ap (λ (l : List (Bor Batch)). map (λ b. b.now) l) c.as_slice.ensures.value ∙ c.in_ok-batches.ensures.list)
    (ap (λ (l : List (Bor Batch)). map (λ b. b.now) l) c.as_slice-batch-items.ensures.value ∙ c.in_ok-batches.ensures.list) c.in_ok-parents.ensures
