use Rattle.std.proofs.Common.{◌≡◌, ◌++◌, drop}
use Rattle.ndc_model_sets.specs.Origins.{origins_in}
use Rattle.ndc_dump_causes.proofs.replaying.push_origins.Given as goal

abbrev pub invariant-loop-event : goal.invariant-loop-event
invariant-loop-event l = l.origins.items ++ origins_in l.run (drop l.event-index l.events) ≡ l.initial.origins.items ++ origins_in l.run l.events
