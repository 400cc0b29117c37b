use Rattle.std.proofs.Common.{◌≡◌, map, drop}
use Rattle.ndc_state.specs.Replay.{history_of, collected}
use Rattle.ndc_rebuild.proofs.checkpoints.refilled.Given as goal

-- the origins of the batches left, after those now, are all; nothing else changes
abbrev pub invariant-loop-batch : goal.invariant-loop-batch
invariant-loop-batch l = record {
  rest : collected l.copy.run l.copy.origins (history_of (drop l.batch-index (map (λ b. b.now) l.batches))) ≡ collected l.state.run l.state.origins (history_of (map (λ b. b.now) l.batches));
  same : l.copy ≡ record l.state { origins = l.copy.origins };
}
