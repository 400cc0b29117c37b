use Rattle.std.proofs.Common.{◌≡◌, ◌++◌, drop, map}
use Rattle.ndc_explain_picture.proofs.blocks.push_events.Given as goal

-- the events so far, with the others, are all
abbrev pub invariant-loop-event : goal.invariant-loop-event
invariant-loop-event l = map (λ event. event.now) l.list.items ++ drop l.event-index l.events ≡ map (λ event. event.now) l.initial.list.items ++ l.events
