use Rattle.std.proofs.Common.{◌≡◌, map, drop}
use Rattle.ndc_event.specs.declared.key.BatchKey.{BatchKey}
use Rattle.ndc_shard_workflows.specs.Messages.{is_under, least_of, noted_at}
use Rattle.ndc_shard_workflows.proofs.carried.Carried.note_all.Given as goal

-- with the others, all are gone over
abbrev pub invariant-loop-batch : goal.invariant-loop-batch
invariant-loop-batch l = (one : BatchKey) → least_of (is_under l.workflow.arrived one) (map (λ b. b.now) (drop l.batch-index l.batches)) (noted_at one l.self) ≡ least_of (is_under l.workflow.arrived one) (map (λ b. b.now) l.batches) (noted_at one l.fn.self)
