use Rattle.std.proofs.lemmas.List.{drop_all, length-set}
use Rattle.ndc_cluster.proofs.RoundLemmas.{shard_there}
use Rattle.ndc_cluster.proofs.TurnLemmas.{cells_end, next_done, replies_end}
use Rattle.ndc_cluster.proofs.in_turn.do_in_turn.Goals as goal

pub loop-asked-preserved : goal.loop-asked-preserved
loop-asked-preserved g c =
    next_done g.C.Cell.allows g.C.Cell.cell c.args.desk.now c.args.jobs.now c.loop-asked.asked-index c.asked-item.result c.args.cells.now.items c.loop-asked.cells.items c.loop-asked.replies.items c.push.new.self.items
    c.index_mut-cell.result.now c.do_job.new.self c.in_ok-reply.reply c.loop-asked-test.true c.asked-item.is
    (shard_there c.args.jobs.now c.loop-asked.asked-index c.asked-item.result _ _ c.loop-asked-test.true c.asked-item.is c.loop-asked.invariant.many c.requires.shards)
    c.index_mut-cell.ensures.value c.in_ok-reply.ensures.done c.in_ok-reply.ensures.reply c.in_ok-push.ensures.items (length-set c.loop-asked.cells.items c.asked-item.result.shard c.do_job.new.self) c.loop-asked.invariant

pub returns-clause-cells : goal.returns-clause-cells
returns-clause-cells g c =
    cells_end g.C.Cell.allows g.C.Cell.cell c.args.desk.now c.args.jobs.now c.loop-asked.asked-index c.args.cells.now.items c.loop-asked.cells.items c.loop-asked.replies.items
    (drop_all c.loop-asked.asked-index c.args.jobs.now c.loop-asked-test.false) c.loop-asked.invariant

pub returns-clause-replies : goal.returns-clause-replies
returns-clause-replies g c =
    replies_end g.C.Cell.allows g.C.Cell.cell c.args.desk.now c.args.jobs.now c.loop-asked.asked-index c.args.cells.now.items c.loop-asked.cells.items c.loop-asked.replies.items
    (drop_all c.loop-asked.asked-index c.args.jobs.now c.loop-asked-test.false) c.loop-asked.invariant
