use Rattle.std.proofs.Common.{◌≡◌, take, map}
use Rattle.ndc_model_cells.specs.Messages.{batches_of}
use Rattle.ndc_shard_waiting.proofs.NoteLemmas.{Noted}
use Rattle.ndc_shard_waiting.proofs.held.Held.all_missing.Given as goal

-- what is noted of the batches gone over
abbrev pub invariant-loop-batch : goal.invariant-loop-batch
invariant-loop-batch l = (map (λ b. b.now) l.batch-items ≡ batches_of l.self) × Noted (batches_of l.self) l.ends l.found.items (take l.batch-index (map (λ b. b.now) l.batch-items))
