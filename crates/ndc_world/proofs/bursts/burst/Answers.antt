use Rattle.std.proofs.Common.{◌<◌, length, sym, subst, ◌∙◌}
use Rattle.std.specs.List.{AllByRecursion}
use Rattle.ndc_model_cells.specs.declared.job.ShardJob.{ShardJob}
use Rattle.ndc_model.specs.World.{cluster_at}
use Rattle.ndc_world.proofs.BurstLemmas.{jobs_there}
use Rattle.ndc_world.proofs.bursts.burst.Goals as goal

pub do_jobs-requires-clause-shards : goal.do_jobs-requires-clause-shards
do_jobs-requires-clause-shards g c κs within =
    subst (AllByRecursion (λ (asked : ShardJob). asked.shard < length (cluster_at c.args.cluster c.args.replication.now).cells)) (sym (c.as_slice.ensures.value ∙ c.in_ok-jobs.ensures))
    (jobs_there c.args.header.now c.args.cluster c.args.burst.now c.args.replication.now c.requires.shaped c.requires.cluster c.requires.shards)
