use Rattle.std.proofs.Common.{◌≡◌, ◌+◌, drop, length, map}
use Rattle.ndc_state.specs.Replay.{history_of}
use Rattle.ndc_world_answers.proofs.reading.count_events.Given as goal

-- the events counted, with those of the batches that are left, are all
abbrev pub invariant-loop-batch : goal.invariant-loop-batch
invariant-loop-batch l = l.count + length (history_of (map (λ b. b.now) (drop l.batch-index l.path))) ≡ length (history_of (map (λ b. b.now) l.path))
