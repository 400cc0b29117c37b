use Rattle.std.proofs.Common.{sym}
use Rattle.ndc_shard_entries.proofs.AgainLemmas.{applied_below}
use Rattle.ndc_shard_entries.proofs.reapplication.reapplication_entry.Goals as goal

pub returns : goal.returns
returns c =
    applied_below c.args.domain.now c.args.workflow.now c.args.version c.args.runs.now c.args.list.now c.in-Some.tip.batch.now c.in-Some.tip.state.now c.next_key.result c.in_ok-kinds.kinds.items c.in_ok-batch.batch c.alone.result
    (sym c.if-is_empty.ensures) c.requires.strays c.in-Some.ensures.0 c.in-Some.ensures.1 (sym c.if-not-is_running.ensures) c.in_ok-kinds.ensures c.next_key.ensures c.in_ok-batch.ensures c.alone.ensures
