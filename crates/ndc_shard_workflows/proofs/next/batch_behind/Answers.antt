use Rattle.std.proofs.Common.{arith, sym}
use Rattle.ndc_shard_workflows.proofs.NextLemmas.{none-next}
use Rattle.ndc_shard_workflows.proofs.next.batch_behind.Goals as goal

pub returns-then-greatest_task-key : goal.returns-then-greatest_task-key
returns-then-greatest_task-key c = sym (none-next c.args.key c.args.runs.now (omega (arith, c.if-greatest_task-key.true, c.greatest_task.ensures)))
