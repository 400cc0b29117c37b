use Rattle.std.proofs.Common.{◌≡◌, List, Some, sym, ◌∙◌, ap, subst}
use Rattle.std.specs.List.{AllByRecursion}
use Rattle.ndc_event.specs.declared.batch.Batch.{Batch}
use Rattle.ndc_model_cells.specs.Messages.{HasSmallIds, batches_of}
use Rattle.ndc_model_cells.specs.Workflow.{WorkflowValue}
use Rattle.ndc_model_cells.specs.declared.message.Message.{Message}
use Rattle.ndc_model_sets.specs.Learned.{has_key}
use Rattle.ndc_shard_waiting.proofs.LearnLemmas.{learned_is}
use Rattle.ndc_shard_waiting.specs.Learning.{ArePutOff}
use Rattle.ndc_shard_workflows.proofs.ForgetLemmas.{all-but, put-off-but, without-none}
use Rattle.ndc_shard_workflows.proofs.PutOffLemmas.{beside-is}
use Rattle.ndc_shard_workflows.specs.Forgetting.{but_for, without}
use Rattle.ndc_shard_workflows.specs.Workflow.{IsWorkflow, beside}
use Rattle.ndc_shard_workflows.proofs.workflow.Workflow.forget.Goals as goal

pub returns-then-not-has-clause-ok : goal.returns-then-not-has-clause-ok
returns-then-not-has-clause-ok c =
    sym (without-none c.args.key c.args.self.now (subst IsWorkflow c.self.view_is (beside-is c.self.inside.runs c.self.inside.waiting c.self.invariant.apart))
    (ap (λ (v : WorkflowValue). has_key (Some c.args.key) (batches_of v.waiting)) (sym c.self.view_is) ∙ sym c.has.ensures ∙ c.if-not-has.true))

pub invariant_of-self : goal.invariant_of-self
invariant_of-self c = record {
  apart = subst (ArePutOff c.self.inside.runs) (sym c.in_ok-kept.ensures) (put-off-but c.args.key c.self.inside.runs c.self.inside.waiting c.self.invariant.apart);
  small = subst (λ (l : List Message). AllByRecursion HasSmallIds (batches_of l)) (sym c.in_ok-kept.ensures) (all-but c.args.key HasSmallIds c.self.inside.waiting c.self.invariant.small);
}

pub returns-clause-ok : goal.returns-clause-ok
returns-clause-ok c =
    ap (beside c.self.inside.runs) c.in_ok-kept.ensures
    ∙ ap (λ (l : List Batch). beside l (but_for c.args.key c.self.inside.waiting)) (sym (learned_is c.self.inside.runs c.self.inside.waiting c.self.invariant.apart))
    ∙ ap (without c.args.key) c.self.view_is
