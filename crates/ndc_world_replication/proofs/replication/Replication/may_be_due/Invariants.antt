use Rattle.std.proofs.Common.{◌≡◌, ℕ, ◌<◌, ◌≤◌, ◌++◌, drop, length}
use Rattle.std.specs.List.{AllByRecursion, flat_map}
use Rattle.ndc_model.specs.Moves.{by_link, due}
use Rattle.ndc_world_replication.specs.Places.{links_at}
use Rattle.ndc_world_replication.proofs.replication.Replication.may_be_due.Given as goal

abbrev pub invariant-loop-place : goal.invariant-loop-place
invariant-loop-place g l = record {
  most : l.place ≤ l.last;
  within : AllByRecursion (λ place. place < length l.self.links) l.places.items;
  due : (shard : ℕ) → shard < l.header.shards
      → flat_map (due l.self shard) (links_at l.places.items l.self.links) ++ by_link l.reader (due l.self) (drop l.place l.self.links) shard ≡ by_link l.reader (due l.self) l.self.links shard;
}
