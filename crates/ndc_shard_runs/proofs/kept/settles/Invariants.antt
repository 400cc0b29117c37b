use Rattle.std.proofs.Common.{◌≡◌, drop}
use Rattle.ndc_model_sets.specs.Origins.{origins_in}
use Rattle.ndc_state.specs.Origins.{is_among}
use Rattle.ndc_shard_runs.proofs.kept.settles.Given as goal

-- none of the events gone over has it
abbrev pub invariant-loop-event : goal.invariant-loop-event
invariant-loop-event l = is_among l.origin (origins_in l.batch.run (drop l.event-index l.event-items)) ≡ is_among l.origin (origins_in l.batch.run l.event-items)
