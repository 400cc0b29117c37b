use Rattle.std.proofs.Common.{◌≡◌, ◌≤◌, drop, min}
use Rattle.std.specs.List.{fold}
use Rattle.ndc_model.specs.Moves.{done_levels}
use Rattle.ndc_world_replication.proofs.trimming.done_level.Given as goal

abbrev pub invariant-loop-link : goal.invariant-loop-link
invariant-loop-link l = record {
  least : fold min l.level (done_levels l.source l.shard (drop l.link-index l.links)) ≡ fold min l.most (done_levels l.source l.shard l.links);
  most : l.level ≤ l.most;
}
