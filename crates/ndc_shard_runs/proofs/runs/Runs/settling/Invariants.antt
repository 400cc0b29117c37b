use Rattle.std.proofs.Common.{◌≡◌, ◌++◌, map, drop}
use Rattle.std.specs.List.{flat_map}
use Rattle.ndc_shard_runs.specs.Settled.{origins_seen, settled_from}
use Rattle.ndc_shard_runs.proofs.runs.Runs.settling.Given as goal

-- what the states have seen so far, and what the runs of the other batches settle, is all
abbrev pub invariant-loop-batch : goal.invariant-loop-batch
invariant-loop-batch l = origins_seen (map (λ s. s.now) l.list.items) ++ flat_map (settled_from l.self) (map (λ b. b.now) (drop l.batch-index l.batches)) ≡ flat_map (settled_from l.self) (map (λ b. b.now) l.batches)
