use Rattle.std.proofs.Common.{◌≡◌, ◌||◌, drop, map}
use Rattle.ndc_event.specs.declared.batch.Batch.{Batch}
use Rattle.ndc_model_sets.specs.Branches.{has_child}
use Rattle.ndc_model_sets.specs.Keys.{is_key_among}
use Rattle.ndc_shard.proofs.histories.parents_of.Given as goal

-- a batch is the parent of one that was gone over, or of one that is left, where it is that of any
abbrev pub invariant-loop-batch : goal.invariant-loop-batch
invariant-loop-batch l = (b : Batch) → (is_key_among b.key l.parents.keys || has_child b (map (λ x. x.now) (drop l.batch-index l.batches))) ≡ has_child b (map (λ x. x.now) l.batches)
