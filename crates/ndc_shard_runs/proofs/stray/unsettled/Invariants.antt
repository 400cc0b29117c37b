use Rattle.std.proofs.Common.{◌≡◌, ◌++◌, map, drop}
use Rattle.ndc_shard_runs.specs.Settled.{origins_seen, unsettled}
use Rattle.ndc_shard_runs.proofs.stray.unsettled.Given as goal

-- the signals so far, and those of the other batches, are all
abbrev pub invariant-loop-batch : goal.invariant-loop-batch
invariant-loop-batch l =
    l.list.items ++ unsettled (origins_seen (map (λ s. s.now) l.states)) (map (λ b. b.now) (drop l.batch-index l.batches)) ≡ unsettled (origins_seen (map (λ s. s.now) l.states)) (map (λ b. b.now) l.batches)
