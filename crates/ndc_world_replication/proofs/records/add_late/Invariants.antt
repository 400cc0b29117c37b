use Rattle.std.proofs.Common.{◌≡◌, ◌++◌, drop, map, take}
use Rattle.ndc_world_replication.specs.Tables.{with_late_domain}
use Rattle.ndc_world_replication.proofs.records.add_late.Given as goal

abbrev pub invariant-loop-place : goal.invariant-loop-place
invariant-loop-place l = l.links.items ≡ map (with_late_domain l.reader l.source l.domain) (take l.place l.initial.links.items) ++ drop l.place l.initial.links.items
