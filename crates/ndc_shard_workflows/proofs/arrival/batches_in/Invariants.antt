use Rattle.std.proofs.Common.{◌≡◌, ◌++◌}
use Rattle.ndc_model_cells.specs.Messages.{batches_of}
use Rattle.ndc_shard_workflows.proofs.arrival.batches_in.Given as goal

-- what is taken, and what is left
abbrev pub invariant-loop-sent : goal.invariant-loop-sent
invariant-loop-sent l = l.batches.items ++ batches_of l.sent-iterator.rest.items ≡ batches_of l.fn.messages.items
