use Rattle.std.proofs.Common.{◌≡◌}
use Rattle.std.specs.List.{range_with_len}
use Rattle.ndc_model.specs.Moves.{all_arrive, sent_again}
use Rattle.ndc_world_replication.proofs.replication.Replication.again_jobs.Given as goal

abbrev pub invariant-loop-shard : goal.invariant-loop-shard
invariant-loop-shard g l = l.jobs.items ≡ all_arrive (sent_again l.header l.reader l.self) (range_with_len 0 l.shard)
