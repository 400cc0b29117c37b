use Rattle.std.proofs.Common.{◌≡◌, drop}
use Rattle.ndc_event.specs.Batch.{follow_from, are_consecutive}
use Rattle.ndc_event.proofs.batch.are_consecutive.Given as goal

-- what is left rises from the id before exactly where all events rise
abbrev pub invariant-loop-event : goal.invariant-loop-event
invariant-loop-event l = follow_from l.previous (drop l.event-index l.rest) ≡ are_consecutive l.events
