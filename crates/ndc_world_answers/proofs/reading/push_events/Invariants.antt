use Rattle.std.proofs.Common.{◌≡◌, ◌++◌, drop}
use Rattle.std.specs.List.{flat_map}
use Rattle.ndc_model.specs.Texts.{event_line}
use Rattle.ndc_world_answers.proofs.reading.push_events.Given as goal

-- the text so far, with what is left, is the whole
abbrev pub invariant-loop-event : goal.invariant-loop-event
invariant-loop-event l = l.text.items ++ flat_map event_line (drop l.event-index l.events) ≡ l.initial.text.items ++ flat_map event_line l.events
