use Rattle.std.proofs.Common.{◌≡◌, ◌<◌, ◌^◌}
use Rattle.ndc_event.specs.Front.{digits}
use Rattle.ndc_event.proofs.name.front_of.Given as goal

-- the number is that of as many bytes, and has as many digits
abbrev pub invariant-loop-place : goal.invariant-loop-place
invariant-loop-place l = (l.front ≡ digits 0 l.place l.bytes) × (l.front < 256 ^ l.place)
