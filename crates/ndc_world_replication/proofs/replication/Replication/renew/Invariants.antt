use Rattle.std.proofs.Common.{◌≡◌, ◌≤◌, ◌++◌, drop, map, take}
use Rattle.ndc_model.specs.Moves.{renewed_link}
use Rattle.ndc_world_replication.specs.Replications.{world_of}
use Rattle.ndc_world_replication.proofs.replication.Replication.renew.Given as goal

abbrev pub invariant-loop-place : goal.invariant-loop-place
invariant-loop-place g l = record {
  seen : world_of l.self-inside.publishers.items l.fn.self.links l.self-inside.handovers.items ≡ l.fn.self;
  most : l.place ≤ l.last;
  links : l.self-inside.links.items ≡ map (renewed_link l.fn.self l.reader) (take l.place l.fn.self.links) ++ drop l.place l.fn.self.links;
}
