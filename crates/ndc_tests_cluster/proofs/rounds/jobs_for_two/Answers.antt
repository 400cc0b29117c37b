use Rattle.std.proofs.Common.{◌<◌, arith}
use Rattle.ndc_cluster.proofs.RoundLemmas.{all_more}
use Rattle.ndc_model_cells.specs.declared.job.ShardJob.{ShardJob}
use Rattle.ndc_tests_cluster.proofs.rounds.jobs_for_two.Goals as goal

pub loop-place-preserved : goal.loop-place-preserved
loop-place-preserved c = all_more (λ (asked : ShardJob). asked.shard < 2) c.loop-place.jobs.items _ _ c.in_ok-push.ensures.items c.loop-place.invariant (omega arith)
