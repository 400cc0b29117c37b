use Rattle.std.proofs.Common.{◌≡◌, drop, map}
use Rattle.std.specs.List.{list_any}
use Rattle.ndc_shard_workflows.specs.Lacking.{tells_of_lacked}
use Rattle.ndc_shard_workflows.proofs.standing.tell_of_lacked.Given as goal

-- where one of all tells of it, one of those that are left does
abbrev pub invariant-loop-batch : goal.invariant-loop-batch
invariant-loop-batch l = list_any (tells_of_lacked l.terms l.runs) (map (λ b. b.now) (drop l.batch-index l.batches)) ≡ list_any (tells_of_lacked l.terms l.runs) (map (λ b. b.now) l.batches)
