use Rattle.std.proofs.Common.{◌≡◌, ◌++◌, drop}
use Rattle.ndc_model_sets.specs.Origins.{signals_in}
use Rattle.ndc_explain.proofs.signals.push_signals.Given as goal

-- the signals so far, and those of the other events, are all
abbrev pub invariant-loop-event : goal.invariant-loop-event
invariant-loop-event l = l.list.items ++ signals_in l.run (drop l.event-index l.events) ≡ l.initial.list.items ++ signals_in l.run l.events
