use Rattle.std.proofs.Common.{sym, ◌∙◌, subst, ap}
use Rattle.ndc_model_sets.specs.Learned.{learned}
use Rattle.ndc_shard_waiting.proofs.LearnLemmas.{learned_is}
use Rattle.ndc_model_cells.specs.Workflow.{WorkflowValue}
use Rattle.ndc_shard_workflows.specs.Workflow.{IsWorkflow}
use Rattle.ndc_shard_workflows.proofs.PutOffLemmas.{beside-is}
use Rattle.ndc_shard_workflows.proofs.workflow.Workflow.runs.Goals as goal

pub returns-clause-learned : goal.returns-clause-learned
returns-clause-learned c = sym (learned_is c.self.inside.runs c.self.inside.waiting c.self.invariant.apart) ∙ ap (λ (w : WorkflowValue). learned w.arrived) c.self.view_is

pub returns-clause-workflow : goal.returns-clause-workflow
returns-clause-workflow c = subst IsWorkflow c.self.view_is (beside-is c.self.inside.runs c.self.inside.waiting c.self.invariant.apart)
