use Rattle.std.proofs.Common.{◌≡◌, ◌++◌, drop}
use Rattle.ndc_model_cells.specs.Jobs.{all_batches}
use Rattle.ndc_shard.proofs.asking.batches_of.Given as goal

-- those gone over, and those that are left, are all
abbrev pub invariant-loop-entry : goal.invariant-loop-entry
invariant-loop-entry l = l.batches.items ++ all_batches (drop l.entry-index l.entries) ≡ all_batches l.entries
