use Rattle.std.proofs.Common.{◌∙◌}
use Rattle.ndc_shard_workflows.proofs.FrontLemmas.{front-first}
use Rattle.ndc_shard_workflows.proofs.ResultLemmas.{on-any-err}
use Rattle.ndc_shard.proofs.SoFarLemmas.{done-more}
use Rattle.ndc_shard.proofs.shard.Shard.reapply_among.Goals as goal

pub loop-domain-preserved : goal.loop-domain-preserved
loop-domain-preserved g c =
    done-more c.args.desk.now c.args.list.items c.args.self.now c.loop-domain.yielded c.loop-domain.domain-iterator.rest.items c.next.new.self.rest.items (c.in-Some.domain, c.in-Some.workflow)
    c.loop-domain.batches.items c.reapply_in.new.batches.items c.loop-domain.self c.reapply_in.new.self c.in-Some.ensures.steps.0
    c.in_ok-reapply_in.ensures.cell c.in_ok-reapply_in.ensures.batches c.loop-domain.invariant

pub returns-in_err-reapply_in-clause-err : goal.returns-in_err-reapply_in-clause-err
returns-in_err-reapply_in-clause-err g c =
    let so = c.loop-domain.invariant in
    on-any-err c.from_residual.result
    (front-first c.args.desk.now c.loop-domain.yielded c.loop-domain.domain-iterator.rest.items c.args.list.items c.args.self.now c.reapply_in.new.self so.3
    (c.in_err-reapply_in.ensures.err ∙ so.4))
