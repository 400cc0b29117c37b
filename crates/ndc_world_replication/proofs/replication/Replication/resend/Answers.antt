use Rattle.std.proofs.Common.{◌<◌, List, length, ap, sym, subst, ◌∙◌}
use Rattle.std.specs.List.{AllByRecursion}
use Rattle.ndc_model_cells.specs.declared.job.ShardJob.{ShardJob}
use Rattle.ndc_model.specs.Moves.{from_world, jobs_done, renewed, resent, sent_again}
use Rattle.ndc_model.specs.World.{World, cluster_at}
use Rattle.ndc_world_replication.proofs.AgainLemmas.{orderly_sometime}
use Rattle.ndc_world_replication.proofs.OrderlyLemmas.{orderly_jobs}
use Rattle.ndc_world_replication.proofs.ShardLemmas.{arriving_there}
use Rattle.ndc_model.specs.Conditions.{MayDoAll}
use Rattle.ndc_world_replication.specs.Orderly.{IsOrderly}
use Rattle.ndc_world_replication.proofs.replication.Replication.resend.Goals as goal

pub do_all-requires-clause-shards : goal.do_all-requires-clause-shards
do_all-requires-clause-shards g c κs within =
    subst (AllByRecursion (λ (asked : ShardJob). asked.shard < length (cluster_at c.args.reader c.args.self.now).cells)) (sym c.in_ok-jobs.ensures)
    (arriving_there c.args.header.now c.args.self.now c.args.reader c.requires.reader c.requires.reached.reached.shaped (sent_again c.args.header.now c.args.reader c.args.self.now))

pub do_all-requires-clause-allowed : goal.do_all-requires-clause-allowed
do_all-requires-clause-allowed g c κs within =
    subst (λ (jobs : List ShardJob). MayDoAll g.C.Cell.allows c.args.header.now c.args.reader jobs c.args.self.now) (sym c.in_ok-jobs.ensures) c.requires.allowed

pub renew-requires-clause-orderly : goal.renew-requires-clause-orderly
renew-requires-clause-orderly g c =
    subst (IsOrderly c.args.header.now) (sym c.in_ok-done.ensures.done)
    (orderly_jobs c.args.header.now (from_world c.args.self.now) (orderly_sometime c.args.header.now c.args.self.now c.requires.reached) c.args.reader c.in_ok-jobs.jobs.items c.requires.reader)

pub returns-clause-resent : goal.returns-clause-resent
unfolding resent
returns-clause-resent g c =
    c.renew.ensures
    ∙ ap (λ (v : World). renewed v c.args.reader)
    (c.in_ok-done.ensures.done ∙ ap (λ (jobs : List ShardJob). (jobs_done c.args.header.now c.args.reader jobs (from_world c.args.self.now)).world) c.in_ok-jobs.ensures)

pub returns-clause-notes : goal.returns-clause-notes
unfolding resent
returns-clause-notes g c =
    c.in_ok-done.ensures.notes ∙ ap (λ (jobs : List ShardJob). (jobs_done c.args.header.now c.args.reader jobs (from_world c.args.self.now)).notes) c.in_ok-jobs.ensures
