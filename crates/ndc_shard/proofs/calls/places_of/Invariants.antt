use Rattle.std.proofs.Common.{◌≡◌, ◌++◌, drop, map}
use Rattle.ndc_shard.specs.Answers.{names_of}
use Rattle.ndc_shard.proofs.calls.places_of.Given as goal

-- those gone over, and those that are left, are all
abbrev pub invariant-loop-batch : goal.invariant-loop-batch
invariant-loop-batch l = l.places.items ++ map names_of (drop l.batch-index l.batches) ≡ map names_of l.batches
