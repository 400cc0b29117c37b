use Rattle.std.proofs.Common.{◌≡◌, drop}
use Rattle.ndc_model_sets.specs.Origins.{signals_in}
use Rattle.ndc_shard_runs.specs.Kept.{is_empty}
use Rattle.ndc_shard_runs.proofs.kept.has_no_signal.Given as goal

-- none of the events gone over is a signal
abbrev pub invariant-loop-event : goal.invariant-loop-event
invariant-loop-event l = is_empty (signals_in l.batch.run (drop l.event-index l.event-items)) ≡ is_empty (signals_in l.batch.run l.event-items)
