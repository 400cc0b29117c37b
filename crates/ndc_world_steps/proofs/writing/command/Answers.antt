use Rattle.std.proofs.Common.{◌≡◌, subst}
use Rattle.std.specs.Prelude.{IfOk}
use Rattle.ndc_model_cells.specs.declared.job.ShardJob.{ShardJob}
use Rattle.ndc_model.specs.Steps.{command_step, writing_step}
use Rattle.ndc_world_steps.specs.Told.{leaving}
use Rattle.ndc_world_steps.proofs.AskLemmas.{command_is}
use Rattle.ndc_world_replication.proofs.ShapeLemmas.{shard_known}
use Rattle.ndc_world_steps.proofs.writing.command.Goals as goal

pub ask-requires-clause-shard : goal.ask-requires-clause-shard
ask-requires-clause-shard g c κs within = shard_known c.args.domain.now c.args.workflow.now c.args.header.now.shards c.shard_of.result c.requires.shards c.shard_of.ensures

pub returns : goal.returns
unfolding command_step
returns g c =
    subst (λ (a : ShardJob). IfOk c.ask.result (λ step. leaving c.ask.new.replication step ≡ writing_step c.args.header.now c.args.cluster a c.args.replication.now))
    (command_is c.args.header.now c.args.domain.now c.args.workflow.now c.in_ok-try_copy.field-0 c.in_ok-try_copy-2.field-0 c.args.command.now c.in_ok-try_copy-3.field-0 c.shard_of.result c.shard_of.ensures
    c.in_ok-try_copy.ensures c.in_ok-try_copy-2.ensures c.in_ok-try_copy-3.ensures)
    c.ask.ensures
