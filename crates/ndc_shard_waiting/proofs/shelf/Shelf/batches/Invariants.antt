use Rattle.std.proofs.Common.{◌≡◌, ◌++◌, drop, map}
use Rattle.ndc_model_cells.specs.Messages.{batches_of}
use Rattle.ndc_shard_waiting.proofs.shelf.Shelf.batches.Given as goal

-- the batches gone over, and those of the messages to come
abbrev pub invariant-loop-sent : goal.invariant-loop-sent
invariant-loop-sent l = map (λ b. b.now) l.batches.items ++ batches_of (map (λ m. m.now) (drop l.sent-index l.sent-items)) ≡ batches_of l.self
