use Rattle.std.proofs.Common.{◌≡◌, [], drop, map}
use Rattle.ndc_shard_runs.specs.Places.{all_placed}
use Rattle.ndc_shard_runs.proofs.places.Places.of.Given as goal

-- the places so far, with those of the batches that are left, are all
abbrev pub invariant-loop-batch : goal.invariant-loop-batch
invariant-loop-batch l = all_placed l.places (map (λ b. b.now) (drop l.batch-index l.batch-items)) ≡ all_placed [] (map (λ b. b.now) l.batch-items)
