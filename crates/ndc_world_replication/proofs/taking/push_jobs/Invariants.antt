use Rattle.std.proofs.Common.{◌≡◌, ◌++◌, map}
use Rattle.ndc_model.specs.Moves.{arrives}
use Rattle.ndc_world_replication.proofs.taking.push_jobs.Given as goal

abbrev pub invariant-loop-message : goal.invariant-loop-message
invariant-loop-message l = l.jobs.items ≡ l.initial.jobs.items ++ map (arrives l.shard) l.yielded
