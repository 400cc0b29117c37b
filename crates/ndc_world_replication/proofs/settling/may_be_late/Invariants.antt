use Rattle.std.proofs.Common.{drop}
use Rattle.ndc_world_replication.specs.OnTime.{IsOnTime}
use Rattle.ndc_world_replication.proofs.settling.may_be_late.Given as goal

abbrev pub invariant-loop-link : goal.invariant-loop-link
invariant-loop-link l = IsOnTime l.reader (drop l.link-index l.links) → IsOnTime l.reader l.links
