use Rattle.std.proofs.Common.{◌≡◌, drop}
use Rattle.std.specs.List.{list_all}
use Rattle.ndc_shard_runs.specs.Copies.{is_named_copy}
use Rattle.ndc_shard_runs.proofs.runs.Runs.has_no_copies.Given as goal

-- each copy among the events gone over names an event
abbrev pub invariant-loop-event : goal.invariant-loop-event
invariant-loop-event l =
    list_all (λ event. is_named_copy l.self l.batch event.kind) (drop l.event-index l.event-items) ≡ list_all (λ event. is_named_copy l.self l.batch event.kind) l.event-items
