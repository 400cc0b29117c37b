use Rattle.std.proofs.Common.{◌≡◌, ◌++◌, map, take, drop}
use Rattle.ndc_dump.specs.Migrated.{with_carrier_in}
use Rattle.ndc_dump.proofs.migrated.set_carriers.Given as goal

-- the batches so far have their carriers, the others are as they were
abbrev pub invariant-loop-place : goal.invariant-loop-place
invariant-loop-place l = l.batches ≡ map (with_carrier_in l.initial.batches) (take l.place l.initial.batches) ++ drop l.place l.initial.batches
