use Rattle.std.proofs.Common.{◌≡◌, false}
use Rattle.ndc_dump_causes.specs.Causes.{has_origin_twice}
use Rattle.ndc_dump_causes.specs.Trails.{AreKnown, IsTrail}
use Rattle.ndc_dump_causes.proofs.trail.keys_without_origin_twice.Given as goal

-- the trail is one of the set, and on the paths of what is listed no origin stands twice
abbrev pub invariant-loop-step : goal.invariant-loop-step
invariant-loop-step l = record {
  trail : IsTrail l.batches l.trail;
  known : AreKnown (λ b. has_origin_twice l.batches b ≡ false) l.batches l.keys;
}
