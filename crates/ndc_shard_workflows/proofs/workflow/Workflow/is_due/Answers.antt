use Rattle.std.proofs.Common.{◌≡◌, IfOk, List, sym, ◌∙◌, subst, ap}
use Rattle.ndc_event.specs.declared.batch.Batch.{Batch}
use Rattle.ndc_shard_runs.specs.Kept.{is_due}
use Rattle.ndc_model_sets.specs.Learned.{learned}
use Rattle.ndc_shard_waiting.proofs.LearnLemmas.{learned_is}
use Rattle.ndc_model_cells.specs.Workflow.{WorkflowValue}
use Rattle.ndc_shard_workflows.proofs.workflow.Workflow.is_due.Goals as goal

pub returns-clause-due : goal.returns-clause-due
returns-clause-due c =
    subst (λ (l : List Batch). IfOk c.is_due.result (λ due. due ≡ is_due l))
    (sym (learned_is c.self.inside.runs c.self.inside.waiting c.self.invariant.apart) ∙ ap (λ (w : WorkflowValue). learned w.arrived) c.self.view_is) c.is_due.ensures.due
