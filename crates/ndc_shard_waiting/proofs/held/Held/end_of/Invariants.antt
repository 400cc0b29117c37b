use Rattle.std.proofs.Common.{◌≡◌, Some}
use Rattle.ndc_model_cells.specs.Messages.{batches_of}
use Rattle.ndc_shard_waiting.specs.Waiting.{missing_from}
use Rattle.ndc_shard_waiting.proofs.ShortcutLemmas.{up_to}
use Rattle.ndc_shard_waiting.proofs.held.Held.end_of.Given as goal

-- from here one comes to where one comes to from the key
abbrev pub invariant-loop-up : goal.invariant-loop-up
invariant-loop-up l = missing_from (Some l.at) (batches_of l.self) ≡ missing_from (Some l.fn.key) (batches_of l.self)

abbrev pub decreases-loop-up : goal.decreases-loop-up
decreases-loop-up l = up_to (batches_of l.self) l.at
