use Rattle.std.proofs.Common.{◌≡◌, ◌||◌, drop}
use Rattle.ndc_event.specs.declared.key.Origin.{Origin}
use Rattle.ndc_state.specs.Origins.{is_among}
use Rattle.ndc_reapply.proofs.order.set_of.Given as goal

-- an origin is in the set or among those ahead exactly where it is among all
abbrev pub invariant-loop-origin : goal.invariant-loop-origin
invariant-loop-origin l = (o : Origin) → (is_among o l.set.keys || is_among o (drop l.origin-index l.origins)) ≡ is_among o l.origins
