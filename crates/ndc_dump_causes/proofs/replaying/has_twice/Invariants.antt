use Rattle.std.proofs.Common.{◌≡◌, drop}
use Rattle.ndc_dump_causes.specs.Causes.{comes_again, has_twice}
use Rattle.ndc_dump_causes.proofs.replaying.has_twice.Given as goal

-- what was seen does not come again, but with what is left
abbrev pub invariant-loop-origin : goal.invariant-loop-origin
invariant-loop-origin l = comes_again l.seen.keys (drop l.origin-index l.origins) ≡ has_twice l.origins
