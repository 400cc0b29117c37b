use Rattle.std.proofs.Common.{◌≡◌, None, drop}
use Rattle.std.specs.Map.{lookup}
use Rattle.ndc_model_sets.specs.Branches.{same_run}
use Rattle.ndc_dump_causes.specs.Chains.{first_loose}
use Rattle.ndc_dump_causes.proofs.chains.first_loose.Given as goal

-- the last batch of each run is known
abbrev pub invariant-loop-batch : goal.invariant-loop-batch
invariant-loop-batch l = first_loose (λ run. lookup (same_run run) l.last) (drop l.batch-index l.batches) ≡ first_loose (λ run. None) l.batches
