use Rattle.std.proofs.Common.{◌≡◌, ◌++◌, drop}
use Rattle.ndc_explain_sides.specs.Sides.{lost_in}
use Rattle.ndc_explain_sides.proofs.sides.push_lost_events.Given as goal

-- the events so far, with those of the other events, are all
abbrev pub invariant-loop-event : goal.invariant-loop-event
invariant-loop-event l = l.lost.items ++ lost_in l.latest l.parting l.batch (drop l.event-index l.events) ≡ l.initial.lost.items ++ lost_in l.latest l.parting l.batch l.events
