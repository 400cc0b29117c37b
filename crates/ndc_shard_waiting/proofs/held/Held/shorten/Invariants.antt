use Rattle.std.proofs.Common.{◌≡◌, Some}
use Rattle.ndc_model_cells.specs.Messages.{batches_of}
use Rattle.ndc_shard_waiting.specs.Waiting.{missing_from}
use Rattle.ndc_shard_waiting.proofs.ShortcutLemmas.{up_to}
use Rattle.ndc_shard_waiting.proofs.held.Held.shorten.Given as goal

-- from here one comes to the end, and the messages are those that there were
abbrev pub invariant-loop-up : goal.invariant-loop-up
invariant-loop-up l = (l.self ≡ l.fn.self) × (missing_from (Some l.at) (batches_of l.self) ≡ Some l.end)

abbrev pub decreases-loop-up : goal.decreases-loop-up
decreases-loop-up l = up_to (batches_of l.self) l.at
