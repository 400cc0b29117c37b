use Rattle.std.proofs.Common.{◌≡◌, drop, map}
use Rattle.ndc_reset.specs.Reset.{is_point}
use Rattle.ndc_reset.proofs.plan.is_point.Given as goal

-- the point is among the events that are left exactly where it is among all
abbrev pub invariant-loop-event : goal.invariant-loop-event
invariant-loop-event l = is_point l.point (map (λ e. e.now) (drop l.event-index l.history)) ≡ is_point l.point (map (λ e. e.now) l.history)
