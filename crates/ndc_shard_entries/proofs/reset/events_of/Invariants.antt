use Rattle.std.proofs.Common.{◌≡◌, ◌++◌, drop, map}
use Rattle.ndc_state.specs.Replay.{history_of}
use Rattle.ndc_shard_entries.proofs.reset.events_of.Given as goal

-- the events so far, with those of the batches that are left, are the whole
abbrev pub invariant-loop-batch : goal.invariant-loop-batch
invariant-loop-batch l = map (λ e. e.now) l.events.items ++ history_of (map (λ b. b.now) (drop l.batch-index l.batches)) ≡ history_of (map (λ b. b.now) l.batches)
