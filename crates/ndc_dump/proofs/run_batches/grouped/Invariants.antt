use Rattle.std.proofs.Common.{◌≡◌, ◌++◌, drop}
use Rattle.ndc_event.specs.declared.key.RunId.{RunId}
use Rattle.ndc_dump.specs.Groups.{listed}
use Rattle.ndc_shard_runs.specs.RunMap.{part_of}
use Rattle.ndc_dump.proofs.run_batches.grouped.Given as goal

-- the batches so far are listed, and those that are left come after them
abbrev pub invariant-loop-batch : goal.invariant-loop-batch
invariant-loop-batch l = (run : RunId) → listed run l.groups ++ part_of run (drop l.batch-index l.batches) ≡ part_of run l.batches
