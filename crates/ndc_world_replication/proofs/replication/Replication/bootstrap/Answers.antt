use Rattle.std.proofs.Common.{◌<◌, List, length, sym, subst, ◌∙◌}
use Rattle.std.specs.List.{AllByRecursion}
use Rattle.ndc_model_cells.specs.declared.job.ShardJob.{ShardJob}
use Rattle.ndc_model.specs.Moves.{from_world}
use Rattle.ndc_model_cells.specs.Domains.{learned_of_domains}
use Rattle.ndc_model.specs.World.{cell_at, cluster_at, link_at}
use Rattle.ndc_world_replication.proofs.OrderlyLemmas.{orderly_jobs, orderly_late_ended}
use Rattle.ndc_world_replication.proofs.ShardLemmas.{arriving_there}
use Rattle.ndc_world_replication.proofs.TraceLemmas.{bootstrapped_notes, bootstrapped_world}
use Rattle.ndc_model.specs.Conditions.{MayDoAll}
use Rattle.ndc_world_replication.specs.Dones.{notes_in}
use Rattle.ndc_world_replication.specs.Orderly.{IsOrderly}
use Rattle.ndc_world_replication.proofs.replication.Replication.bootstrap.Goals as goal

pub do_all-requires-clause-shards : goal.do_all-requires-clause-shards
do_all-requires-clause-shards g c κs within =
    subst (AllByRecursion (λ (asked : ShardJob). asked.shard < length (cluster_at c.args.reader c.args.self.now).cells)) (sym c.in_ok-jobs.ensures)
    (arriving_there c.args.header.now c.args.self.now c.args.reader c.requires.reader c.requires.orderly.shaped
    (λ shard. learned_of_domains (link_at c.args.reader c.args.source c.args.self.now).late (cell_at c.args.source shard c.args.self.now)))

pub do_all-requires-clause-allowed : goal.do_all-requires-clause-allowed
do_all-requires-clause-allowed g c κs within =
    subst (λ (jobs : List ShardJob). MayDoAll g.C.Cell.allows c.args.header.now c.args.reader jobs c.args.self.now) (sym c.in_ok-jobs.ensures) c.requires.allowed

pub renew-requires-clause-orderly : goal.renew-requires-clause-orderly
renew-requires-clause-orderly g c =
    subst (IsOrderly c.args.header.now) (sym c.end_late.ensures)
    (orderly_late_ended c.args.header.now c.do_all.new.self
    (subst (IsOrderly c.args.header.now) (sym c.in_ok-done.ensures.done)
    (orderly_jobs c.args.header.now (from_world c.args.self.now) c.requires.orderly c.args.reader c.in_ok-jobs.jobs.items c.requires.reader)) c.args.reader c.args.source)

pub returns-clause-bootstrapped : goal.returns-clause-bootstrapped
returns-clause-bootstrapped g c =
    c.renew.ensures
    ∙ bootstrapped_world c.args.header.now c.args.reader c.args.source c.args.self.now c.do_all.new.self c.end_late.new.self c.in_ok-jobs.jobs.items c.in_ok-jobs.ensures c.in_ok-done.ensures.done c.end_late.ensures

pub returns-clause-notes : goal.returns-clause-notes
returns-clause-notes g c =
    bootstrapped_notes c.args.header.now c.args.reader c.args.source c.args.self.now c.do_all.new.self c.end_late.new.self c.in_ok-jobs.jobs.items c.in_ok-jobs.ensures (notes_in c.in_ok-done.done) c.in_ok-done.ensures.notes
