use Rattle.std.proofs.Common.{◌≡◌, ◌++◌, Some, map, drop}
use Rattle.std.specs.List.{AllByRecursion, filter_map}
use Rattle.ndc_model_cells.specs.Cells.{own_message}
use Rattle.ndc_model_sets.specs.Learned.{learned}
use Rattle.ndc_model_sets.specs.Sets.{batch_at}
use Rattle.ndc_shard_workflows.proofs.reading.messages.Given as goal

-- the messages so far, and those of the other batches, are all; and the others are learned
abbrev pub invariant-loop-batch : goal.invariant-loop-batch
invariant-loop-batch l =
    (l.list.items ++ filter_map (own_message (learned l.workflow.arrived) l.workflow.arrived) (map (λ b. b.now) (drop l.batch-index l.batch-items))
    ≡ filter_map (own_message (learned l.workflow.arrived) l.workflow.arrived) (learned l.workflow.arrived))
    × AllByRecursion (λ b. batch_at b.key (learned l.workflow.arrived) ≡ Some b) (map (λ b. b.now) (drop l.batch-index l.batch-items))
