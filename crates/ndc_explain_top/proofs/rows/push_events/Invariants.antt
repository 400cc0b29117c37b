use Rattle.std.proofs.Common.{◌≡◌, ◌++◌, drop}
use Rattle.std.specs.List.{flat_map}
use Rattle.ndc_explain_top.specs.Rows.{event_behind}
use Rattle.ndc_explain_top.proofs.rows.push_events.Given as goal

abbrev pub invariant-loop-event : goal.invariant-loop-event
invariant-loop-event l = l.text.items ++ flat_map event_behind (drop l.event-index l.events) ≡ l.initial.text.items ++ flat_map event_behind l.events
