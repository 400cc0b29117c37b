use Rattle.std.proofs.Common.{◌≡◌, take, map}
use Rattle.serde_json.specs.View.{view}
use Rattle.ndc_text.specs.Text.{event_data}
use Rattle.ndc_text.proofs.print.events_value.Given as goal

-- the values so far are those of the events so far
abbrev pub invariant-loop-event : goal.invariant-loop-event
invariant-loop-event l = map view l.list.items ≡ map event_data (take l.event-index l.events)
