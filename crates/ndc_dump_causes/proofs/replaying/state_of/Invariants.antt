use Rattle.std.proofs.Common.{◌≡◌, drop, map}
use Rattle.ndc_state.specs.Replay.{history_of, replay, replay_of}
use Rattle.ndc_dump_causes.proofs.replaying.state_of.Given as goal

-- the batches left, applied to the state now, are all batches applied to that of no event
abbrev pub invariant-loop-batch : goal.invariant-loop-batch
invariant-loop-batch l = replay l.state (history_of (map (λ b. b.now) (drop l.batch-index l.path))) ≡ replay_of l.fn.run (history_of (map (λ b. b.now) l.path))
