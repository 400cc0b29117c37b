use Rattle.std.proofs.Common.{◌≡◌}
use Rattle.ndc_world_replication.proofs.taking.look_all.Given as goal

abbrev pub invariant-loop-link : goal.invariant-loop-link
invariant-loop-link l = l.links ≡ l.initial.links
