use Rattle.std.proofs.Common.{◌<◌, List, length, ap, sym, subst, ◌∙◌}
use Rattle.std.specs.List.{AllByRecursion}
use Rattle.ndc_model_cells.specs.Jobs.{cells_after, replies_to}
use Rattle.ndc_model_cells.specs.declared.job.ShardJob.{ShardJob}
use Rattle.ndc_model.specs.Moves.{jobs_done, notes_of}
use Rattle.ndc_model.specs.World.{cluster_at, home_at, with_cells}
use Rattle.ndc_model.specs.Conditions.{MayDoAll}
use Rattle.ndc_world_replication.proofs.replication.Replication.do_all.Goals as goal

pub do_jobs-requires-clause-shards : goal.do_jobs-requires-clause-shards
do_jobs-requires-clause-shards g c κs within =
    subst (AllByRecursion (λ (asked : ShardJob). asked.shard < length (cluster_at c.args.cluster c.args.self.now).cells)) (sym c.as_slice-asked.ensures.value) c.requires.shards

pub do_jobs-requires-clause-allowed : goal.do_jobs-requires-clause-allowed
do_jobs-requires-clause-allowed g c κs within =
    subst (λ (jobs : List ShardJob). MayDoAll g.C.Cell.allows c.args.header.now c.args.cluster jobs c.args.self.now) (sym c.as_slice-asked.ensures.value) c.requires.allowed

pub returns-clause-done : goal.returns-clause-done
unfolding jobs_done
returns-clause-done g c =
    c.in_ok-replies.ensures.done
    ∙ ap (λ (jobs : List ShardJob). with_cells c.args.cluster (cells_after (home_at c.args.header.now c.args.cluster c.args.self.now) jobs (cluster_at c.args.cluster c.args.self.now).cells) c.args.self.now)
    c.as_slice-asked.ensures.value

pub returns-clause-notes : goal.returns-clause-notes
unfolding jobs_done
returns-clause-notes g c =
    ap (notes_of c.args.cluster c.args.jobs.items)
    (c.in_ok-replies.ensures.replies
    ∙ ap (λ (jobs : List ShardJob). replies_to (home_at c.args.header.now c.args.cluster c.args.self.now) jobs (cluster_at c.args.cluster c.args.self.now).cells)
    c.as_slice-asked.ensures.value)
