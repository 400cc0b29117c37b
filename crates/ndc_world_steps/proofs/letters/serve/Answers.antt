use Rattle.std.proofs.Common.{◌<◌, length, subst, sym, ◌∙◌}
use Rattle.std.specs.List.{AllByRecursion}
use Rattle.ndc_model_cells.specs.declared.job.ShardJob.{ShardJob}
use Rattle.ndc_model.specs.Allowed.{letter_jobs}
use Rattle.ndc_model.specs.World.{cluster_at}
use Rattle.ndc_world_steps.proofs.MergeLemmas.{letter_jobs_there, served_notes, served_world}
use Rattle.ndc_world_steps.proofs.letters.serve.Goals as goal

pub do_jobs-requires-clause-shards : goal.do_jobs-requires-clause-shards
do_jobs-requires-clause-shards g c κs within =
    subst (AllByRecursion (λ (asked : ShardJob). asked.shard < length (cluster_at c.args.reader c.args.replication.now).cells)) (sym (c.as_slice-asked.ensures.value ∙ c.in_ok-jobs.ensures))
    (letter_jobs_there c.args.header.now c.args.replication.now c.args.reader c.requires.shaped c.requires.reader c.requires.shards)

pub returns-clause-world : goal.returns-clause-world
returns-clause-world g c =
    served_world c.args.header.now c.args.reader c.args.replication.now c.do_jobs.new.self c.replace_letters.new.self c.as_slice-asked.result.now (letter_jobs c.args.header.now c.args.reader c.args.replication.now) c.new.result
    (c.as_slice-asked.ensures.value ∙ c.in_ok-jobs.ensures) c.in_ok-replies.ensures.done c.new.ensures c.replace_letters.ensures.replaced

pub returns-clause-notes : goal.returns-clause-notes
returns-clause-notes g c =
    served_notes c.args.header.now c.args.reader c.args.replication.now c.in_ok-jobs.jobs.items c.as_slice-asked.result.now (letter_jobs c.args.header.now c.args.reader c.args.replication.now) c.in_ok-replies.replies.items
    c.in_ok-jobs.ensures (c.as_slice-asked.ensures.value ∙ c.in_ok-jobs.ensures) c.in_ok-replies.ensures.replies
