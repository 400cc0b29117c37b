use Rattle.ndc_cluster_links.proofs.IdleLemmas.{idle-pull, idle-put}
use Rattle.ndc_cluster_links.proofs.lane.Lane.pull.Goals as goal

pub returns-then-has_read-clause-pulled : goal.returns-then-has_read-clause-pulled
returns-then-has_read-clause-pulled c = λ whole it. idle-pull c.args.reader c.args.table.now c.args.count c.args.queue.now c.args.self.now whole it (c.has_read.ensures c.if-has_read.true)

pub returns-then-has_read-clause-count : goal.returns-then-has_read-clause-count
returns-then-has_read-clause-count c = λ whole it. idle-put c.args.reader c.args.table.now c.args.count c.args.queue.now c.args.self.now whole it (c.has_read.ensures c.if-has_read.true)
