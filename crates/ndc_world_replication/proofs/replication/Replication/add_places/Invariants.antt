use Rattle.std.proofs.Common.{◌≡◌, ◌++◌, drop, map}
use Rattle.std.specs.List.{flat_map}
use Rattle.ndc_model.specs.Again.{sent_again_at}
use Rattle.ndc_model.specs.Moves.{arrives}
use Rattle.ndc_world_replication.proofs.replication.Replication.add_places.Given as goal

abbrev pub invariant-loop-place : goal.invariant-loop-place
invariant-loop-place g l =
    l.jobs.items ++ map (arrives l.shard) (flat_map (sent_again_at l.header l.reader l.self l.shard) (drop l.place-index l.places))
    ≡ l.initial.jobs.items ++ map (arrives l.shard) (flat_map (sent_again_at l.header l.reader l.self l.shard) l.places)
