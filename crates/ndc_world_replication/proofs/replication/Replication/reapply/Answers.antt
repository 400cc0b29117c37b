use Rattle.std.proofs.Common.{◌<◌, List, length, ap, sym, subst, ◌∙◌, arith}
use Rattle.std.specs.List.{AllByRecursion, range_with_len}
use Rattle.ndc_model.specs.Conditions.{MayDoAll}
use Rattle.ndc_model.specs.Moves.{jobs_done, reapplied_all}
use Rattle.ndc_model.specs.World.{cluster_at, home_at, with_cells}
use Rattle.ndc_model_cells.specs.Cells.{Cell}
use Rattle.ndc_model_cells.specs.Jobs.{cells_after, replies_to}
use Rattle.ndc_model_cells.specs.Writing.{Desk}
use Rattle.ndc_model_cells.specs.declared.job.ShardJob.{ShardJob}
use Rattle.ndc_world_replication.proofs.ChosenLemmas.{chosen_allowed, chosen_cells, chosen_notes, chosen_there}
use Rattle.ndc_world_replication.proofs.ShardLemmas.{cells_there, cluster_there}
use Rattle.ndc_world_replication.specs.Dones.{notes_passing}
use Rattle.ndc_world_replication.proofs.replication.Replication.reapply.Goals as goal

pub do_jobs-requires-clause-cluster : goal.do_jobs-requires-clause-cluster
do_jobs-requires-clause-cluster g c κs within = cluster_there c.args.header.now c.args.self.now c.args.cluster c.requires.cluster c.requires.shaped

pub do_jobs-requires-clause-shards : goal.do_jobs-requires-clause-shards
do_jobs-requires-clause-shards g c κs within =
    let cells : List Cell = (cluster_at c.args.cluster c.args.self.now).cells in
    subst (AllByRecursion (λ (asked : ShardJob). asked.shard < length cells)) (sym c.as_slice-asked.ensures.value)
    (chosen_there (home_at c.args.header.now c.args.cluster c.args.self.now) (length cells) c.args.header.now.shards 0 cells c.in_ok-jobs.jobs.items
    (omega (arith, cells_there c.args.header.now c.args.self.now c.args.cluster c.requires.cluster c.requires.shaped)) c.in_ok-jobs.ensures)

pub do_jobs-requires-clause-allowed : goal.do_jobs-requires-clause-allowed
do_jobs-requires-clause-allowed g c κs within =
    subst (λ (jobs : List ShardJob). MayDoAll g.C.Cell.allows c.args.header.now c.args.cluster jobs c.args.self.now) (sym c.as_slice-asked.ensures.value)
    (chosen_allowed (home_at c.args.header.now c.args.cluster c.args.self.now) g.C.Cell.allows c.args.header.now.shards 0 (cluster_at c.args.cluster c.args.self.now).cells c.in_ok-jobs.jobs.items c.in_ok-jobs.ensures
    c.requires.allowed)

pub returns-clause-reapplied : goal.returns-clause-reapplied
unfolding reapplied_all jobs_done
returns-clause-reapplied g c =
    let desk : Desk = home_at c.args.header.now c.args.cluster c.args.self.now in
    let cells : List Cell = (cluster_at c.args.cluster c.args.self.now).cells in
    c.in_ok-replies.ensures.done
    ∙ ap (λ (these : List Cell). with_cells c.args.cluster these c.args.self.now)
    (ap (λ (jobs : List ShardJob). cells_after desk jobs cells) c.as_slice-asked.ensures.value ∙ chosen_cells desk c.args.header.now.shards 0 cells c.in_ok-jobs.jobs.items c.in_ok-jobs.ensures)

pub returns-clause-notes : goal.returns-clause-notes
unfolding reapplied_all jobs_done
returns-clause-notes g c =
    let desk : Desk = home_at c.args.header.now c.args.cluster c.args.self.now in
    let cells : List Cell = (cluster_at c.args.cluster c.args.self.now).cells in
    ap (notes_passing c.args.cluster (range_with_len 0 c.args.header.now.shards) c.in_ok-jobs.jobs.items)
    (c.in_ok-replies.ensures.replies ∙ ap (λ (jobs : List ShardJob). replies_to desk jobs cells) c.as_slice-asked.ensures.value)
    ∙ chosen_notes desk c.args.cluster c.args.header.now.shards 0 cells c.in_ok-jobs.jobs.items c.in_ok-jobs.ensures
