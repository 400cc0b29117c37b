use Rattle.ndc_shard.proofs.TriedLemmas.{tried-all, tried-next, tried-some}
use Rattle.ndc_shard_workflows.proofs.ResultLemmas.{on-any-err}
use Rattle.ndc_shard.proofs.shard.Shard.try_reapply_among.Goals as goal

pub loop-domain-preserved : goal.loop-domain-preserved
loop-domain-preserved g c =
    tried-next c.args.desk.now c.args.list.items c.args.self.now c.loop-domain.yielded c.loop-domain.domain-iterator.rest.items c.next.new.self.rest.items (c.in-Some.domain, c.in-Some.workflow)
    c.loop-domain.told.written.items c.try_reapply_one.new.told.written.items c.loop-domain.told.skipped.items c.try_reapply_one.new.told.skipped.items c.loop-domain.self c.try_reapply_one.new.self
    c.in-Some.ensures.steps.0 c.in_ok-try_reapply_one.ensures.ok c.loop-domain.invariant
