use Rattle.std.proofs.Common.{◌≡◌}
use Rattle.std.specs.List.{range_with_len}
use Rattle.ndc_model.specs.Moves.{all_arrive, by_link, due}
use Rattle.ndc_world_replication.proofs.replication.Replication.due_jobs.Given as goal

abbrev pub invariant-loop-shard : goal.invariant-loop-shard
invariant-loop-shard g l = l.jobs.items ≡ all_arrive (by_link l.fn.reader (due l.self) l.self.links) (range_with_len 0 l.shard)
