use Rattle.std.proofs.Common.{◌≡◌, ◌++◌, drop, map}
use Rattle.std.specs.List.{filter_map}
use Rattle.ndc_model_cells.specs.Cells.{message_at}
use Rattle.ndc_model_cells.specs.Places.{place_of}
use Rattle.ndc_shard.proofs.serving.messages.Given as goal

-- the messages of those gone over, and those of the batches that are left, are all
abbrev pub invariant-loop-batch : goal.invariant-loop-batch
invariant-loop-batch l =
    l.list.items ++ filter_map (λ b. message_at l.workflows (place_of b)) (map (λ b. b.now) (drop l.batch-index l.batches)) ≡ filter_map (λ b. message_at l.workflows (place_of b)) (map (λ b. b.now) l.batches)
