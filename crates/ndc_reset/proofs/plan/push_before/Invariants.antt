use Rattle.std.proofs.Common.{◌≡◌, ◌++◌, drop, map}
use Rattle.ndc_reset.specs.Reset.{repeated_kinds, events_before}
use Rattle.ndc_reset.proofs.plan.push_before.Given as goal

-- with those ahead, the kinds are all
abbrev pub invariant-loop-event : goal.invariant-loop-event
invariant-loop-event l =
    l.kinds.items ++ repeated_kinds l.run (events_before l.point (map (λ e. e.now) (drop l.event-index l.history))) ≡ l.initial.kinds.items ++ repeated_kinds l.run (events_before l.point (map (λ e. e.now) l.history))
