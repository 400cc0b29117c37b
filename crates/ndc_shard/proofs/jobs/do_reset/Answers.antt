use Rattle.std.proofs.Common.{◌∙◌}
use Rattle.ndc_model_cells.specs.Jobs.{after_job, outcome_of, learned_in}
use Rattle.ndc_model_cells.specs.Writing.{reset_at}
use Rattle.ndc_shard.proofs.ReplyLemmas.{cell-same, reply-same}
use Rattle.ndc_shard.proofs.jobs.do_reset.Goals as goal

pub returns-clause-cell : goal.returns-clause-cell
unfolding after_job
returns-clause-cell c =
    cell-same (reset_at c.args.desk.now c.args.domain.now c.args.workflow.now c.args.event c.args.shard.now) c.write_reset-written.result c.args.shard.now c.write_reset-written.new.self
    c.write_reset-written.ensures.batches c.in_ok-reply.ensures.calm c.write_reset-written.ensures.cell c.write_reset-written.ensures.unchanged

pub returns-clause-reply : goal.returns-clause-reply
unfolding outcome_of learned_in
returns-clause-reply c =
    c.in_ok-reply.ensures.reply ∙ reply-same (reset_at c.args.desk.now c.args.domain.now c.args.workflow.now c.args.event c.args.shard.now) c.write_reset-written.result c.write_reset-written.ensures.batches c.in_ok-reply.ensures.calm
