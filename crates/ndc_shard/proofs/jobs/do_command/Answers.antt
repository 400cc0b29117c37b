use Rattle.std.proofs.Common.{◌∙◌}
use Rattle.ndc_model_cells.specs.Jobs.{after_job, outcome_of, learned_in}
use Rattle.ndc_model_cells.specs.Writing.{command_of}
use Rattle.ndc_shard.proofs.ReplyLemmas.{cell-same, reply-same}
use Rattle.ndc_shard.proofs.jobs.do_command.Goals as goal

pub returns-clause-cell : goal.returns-clause-cell
unfolding after_job
returns-clause-cell c =
    cell-same (command_of c.args.desk.now c.args.domain.now c.args.workflow.now c.args.command.now c.args.shard.now) c.write_command-written.result c.args.shard.now c.write_command-written.new.self
    c.write_command-written.ensures.batches c.in_ok-reply.ensures.calm c.write_command-written.ensures.cell c.write_command-written.ensures.unchanged

pub returns-clause-reply : goal.returns-clause-reply
unfolding outcome_of learned_in
returns-clause-reply c =
    c.in_ok-reply.ensures.reply ∙ reply-same (command_of c.args.desk.now c.args.domain.now c.args.workflow.now c.args.command.now c.args.shard.now) c.write_command-written.result c.write_command-written.ensures.batches c.in_ok-reply.ensures.calm
