use Rattle.std.proofs.Common.{◌≡◌, Some, IfOk, Option, sym, ◌∙◌, subst, ap}
use Rattle.std.proofs.lemmas.Map.Steps.{set_value_same}
use Rattle.ndc_shard_runs.specs.Kept.{is_due}
use Rattle.ndc_model_sets.specs.Learned.{learned}
use Rattle.ndc_model_cells.specs.Workflow.{WorkflowValue}
use Rattle.ndc_shard_workflows.specs.Named.{under}
use Rattle.ndc_shard_workflows.specs.Workflows.{workflow_or_empty}
use Rattle.ndc_shard_workflows.proofs.domain.Domain.is_due.Goals as goal

pub returns-in-Some-clause-due : goal.returns-in-Some-clause-due
returns-in-Some-clause-due c =
    let at : Some c.in-Some.found.now ≡ under c.args.workflow.now c.args.self.now = c.in-Some.ensures.value ∙ ap (under c.args.workflow.now) c.self.view_is in
    subst (λ (o : Option WorkflowValue). IfOk c.is_due.result (λ due. due ≡ is_due (learned (workflow_or_empty o).arrived))) at c.is_due.ensures.due

pub returns-in-Some-clause-same : goal.returns-in-Some-clause-same
returns-in-Some-clause-same c =
    let w = c.get_mut.follows.holds c.is_due.new.self in
    w.0 ∙ set_value_same _ c.self.inside.workflows.entries c.is_due.new.self (sym (ap Some c.is_due.ensures.same ∙ c.in-Some.ensures.value)) ∙ c.self.view_is
