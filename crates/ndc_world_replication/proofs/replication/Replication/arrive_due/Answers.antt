use Rattle.std.proofs.Common.{◌<◌, List, length, ap, sym, subst, ◌∙◌}
use Rattle.std.specs.List.{AllByRecursion}
use Rattle.ndc_model_cells.specs.declared.job.ShardJob.{ShardJob}
use Rattle.ndc_model.specs.Moves.{by_link, due, due_arrived, from_world, jobs_done}
use Rattle.ndc_model.specs.World.{cluster_at}
use Rattle.ndc_world_replication.proofs.ShardLemmas.{arriving_there}
use Rattle.ndc_model.specs.Conditions.{MayDoAll}
use Rattle.ndc_world_replication.proofs.replication.Replication.arrive_due.Goals as goal

pub do_all-requires-clause-shards : goal.do_all-requires-clause-shards
do_all-requires-clause-shards g c κs within =
    subst (AllByRecursion (λ (asked : ShardJob). asked.shard < length (cluster_at c.args.reader c.args.self.now).cells)) (sym c.in_ok-jobs.ensures)
    (arriving_there c.args.header.now c.args.self.now c.args.reader c.requires.reader c.requires.orderly.shaped (by_link c.args.reader (due c.args.self.now) c.args.self.now.links))

pub do_all-requires-clause-allowed : goal.do_all-requires-clause-allowed
do_all-requires-clause-allowed g c κs within =
    subst (λ (jobs : List ShardJob). MayDoAll g.C.Cell.allows c.args.header.now c.args.reader jobs c.args.self.now) (sym c.in_ok-jobs.ensures) c.requires.allowed

pub returns-clause-arrived : goal.returns-clause-arrived
unfolding due_arrived
returns-clause-arrived g c =
    c.in_ok-done.ensures.done ∙ ap (λ (jobs : List ShardJob). (jobs_done c.args.header.now c.args.reader jobs (from_world c.args.self.now)).world) c.in_ok-jobs.ensures

pub returns-clause-notes : goal.returns-clause-notes
unfolding due_arrived
returns-clause-notes g c =
    c.in_ok-done.ensures.notes ∙ ap (λ (jobs : List ShardJob). (jobs_done c.args.header.now c.args.reader jobs (from_world c.args.self.now)).notes) c.in_ok-jobs.ensures
