use Rattle.std.proofs.Common.{◌≡◌, map, drop}
use Rattle.ndc_model_cells.specs.Cells.{carries}
use Rattle.ndc_shard_workflows.specs.Messages.{least_of}
use Rattle.ndc_shard_workflows.proofs.carried.least_carried.Given as goal

-- with the others, all are gone over
abbrev pub invariant-loop-other : goal.invariant-loop-other
invariant-loop-other l = least_of (carries l.batch) (map (λ b. b.now) (drop l.other-index l.others)) l.least ≡ least_of (carries l.batch) (map (λ b. b.now) l.others) l.fn.found
