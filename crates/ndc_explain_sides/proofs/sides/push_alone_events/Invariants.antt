use Rattle.std.proofs.Common.{◌≡◌, ◌++◌, drop}
use Rattle.ndc_explain_sides.specs.Sides.{alone_in}
use Rattle.ndc_explain_sides.proofs.sides.push_alone_events.Given as goal

-- the events so far, with those of the other events, are all
abbrev pub invariant-loop-event : goal.invariant-loop-event
invariant-loop-event l = l.alone.items ++ alone_in l.least l.end l.batch (drop l.event-index l.events) ≡ l.initial.alone.items ++ alone_in l.least l.end l.batch l.events
