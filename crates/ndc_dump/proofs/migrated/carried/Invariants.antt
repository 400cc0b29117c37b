use Rattle.std.proofs.Common.{◌≡◌, ◌++◌, map, drop}
use Rattle.ndc_dump.specs.Migrated.{is_carried}
use Rattle.ndc_dump.proofs.migrated.carried.Given as goal

-- the marks so far, and those of the batches left
abbrev pub invariant-loop-batch : goal.invariant-loop-batch
invariant-loop-batch l = l.marks.items ++ map (is_carried l.batches) (drop l.batch-index l.batches) ≡ map (is_carried l.batches) l.batches
