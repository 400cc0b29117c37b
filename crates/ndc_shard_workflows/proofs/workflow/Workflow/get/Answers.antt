use Rattle.std.proofs.Common.{◌∙◌, ap}
use Rattle.ndc_model_sets.specs.Sets.{batch_at}
use Rattle.ndc_model_cells.specs.Workflow.{WorkflowValue}
use Rattle.ndc_shard_workflows.proofs.PutOffLemmas.{found-known, found-waiting}
use Rattle.ndc_shard_workflows.proofs.workflow.Workflow.get.Goals as goal

pub returns-in-Some : goal.returns-in-Some
returns-in-Some c =
    found-known c.self.inside.runs c.self.inside.waiting c.self.invariant.apart c.args.key c.in-Some.batch.now c.in-Some.ensures
    ∙ ap (λ (w : WorkflowValue). batch_at c.args.key w.arrived) c.self.view_is

pub returns-in-None : goal.returns-in-None
returns-in-None c =
    c.get-in-None.ensures ∙ found-waiting c.self.inside.runs c.self.inside.waiting c.self.invariant.apart c.args.key c.in-None.ensures
    ∙ ap (λ (w : WorkflowValue). batch_at c.args.key w.arrived) c.self.view_is
