use Rattle.std.proofs.Common.{◌≡◌, ◌++◌}
use Rattle.ndc_model.specs.Steps.{seen_at}
use Rattle.ndc_world_answers.proofs.tally.add_batches.Given as goal

-- what was added, with what is left, is the whole
abbrev pub invariant-loop-batch : goal.invariant-loop-batch
invariant-loop-batch l = l.seen.items ++ seen_at l.fn.cluster l.batch-iterator.rest.items ≡ l.fn.seen.items ++ seen_at l.fn.cluster l.fn.batches.items
