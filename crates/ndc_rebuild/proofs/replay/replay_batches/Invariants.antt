use Rattle.std.proofs.Common.{◌≡◌, length, map, drop}
use Rattle.ndc_state.specs.Replay.{history_of, replay, allowed_count}
use Rattle.ndc_rebuild.proofs.PathLemmas.{Counts}
use Rattle.ndc_rebuild.proofs.replay.replay_batches.Given as goal

-- the batches left, applied to the state now, are all batches applied to the state before
abbrev pub invariant-loop-batch : goal.invariant-loop-batch
invariant-loop-batch g l = record {
  rest : replay l.state (history_of (drop l.batch-index (map (λ b. b.now) l.batches))) ≡ replay l.fn.state (history_of (map (λ b. b.now) l.batches));
  counts : Counts l.fn.steps l.steps l.state (history_of (drop l.batch-index (map (λ b. b.now) l.batches))) (length (history_of (map (λ b. b.now) l.batches))) (allowed_count l.fn.state (history_of (map (λ b. b.now) l.batches)));
}
