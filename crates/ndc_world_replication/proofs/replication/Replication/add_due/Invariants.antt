use Rattle.std.proofs.Common.{◌≡◌, ◌++◌, drop, map}
use Rattle.std.specs.List.{flat_map}
use Rattle.ndc_model.specs.Moves.{arrives, due}
use Rattle.ndc_world_replication.specs.Places.{links_at}
use Rattle.ndc_world_replication.proofs.replication.Replication.add_due.Given as goal

abbrev pub invariant-loop-place : goal.invariant-loop-place
invariant-loop-place g l =
    l.jobs.items ++ map (arrives l.shard) (flat_map (due l.self l.shard) (links_at (drop l.place-index l.places) l.self.links))
    ≡ l.initial.jobs.items ++ map (arrives l.shard) (flat_map (due l.self l.shard) (links_at l.places l.self.links))
