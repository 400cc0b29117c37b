use Rattle.std.proofs.Common.{◌≡◌, drop}
use Rattle.std.specs.List.{list_all}
use Rattle.ndc_shard_runs.specs.Copies.{is_fit_to}
use Rattle.ndc_shard_runs.proofs.copies.are_fit_to.Given as goal

-- none of the events gone over is a copy that does not fit
abbrev pub invariant-loop-event : goal.invariant-loop-event
invariant-loop-event l = list_all (λ event. is_fit_to l.batch event.kind) (drop l.event-index l.events) ≡ list_all (λ event. is_fit_to l.batch event.kind) l.events
