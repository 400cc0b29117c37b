use Rattle.ndc_shard_workflows.proofs.ForgetLemmas.{behind-left, due-left}
use Rattle.ndc_shard_workflows.proofs.workflows.Workflows.forget.Goals as goal

pub invariant_of-self : goal.invariant_of-self
invariant_of-self c =
    let d = c.args.domain.now in
    let n = c.args.workflow.now in (
      due-left c.forget_in.result d n c.args.key c.self.inside.domains c.forget_in.new.domains c.self.inside.due c.forget_in.ensures.ok c.forget_in.ensures.err (c.is_in_order.ensures.workflows d n) c.self.invariant.0,
      behind-left c.forget_in.result d n c.args.key c.self.inside.domains c.forget_in.new.domains c.self.inside.behind c.forget_in.ensures.ok c.forget_in.ensures.err (c.is_in_order.ensures.workflows d n) c.self.invariant.1,
      c.forget_in.ensures.counted,
    )
