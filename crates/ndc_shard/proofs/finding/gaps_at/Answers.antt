use Rattle.std.proofs.Common.{◌≡◌, IfOk, sym, ◌∙◌, subst, ap}
use Rattle.ndc_model_cells.specs.Workflow.{WorkflowValue}
use Rattle.ndc_shard_workflows.specs.Workflow.{IsWorkflow}
use Rattle.ndc_resend.specs.PutOff.{gaps_in}
use Rattle.ndc_shard.proofs.finding.gaps_at.Goals as goal

pub gaps_in-requires : goal.gaps_in-requires
gaps_in-requires c = subst IsWorkflow (sym c.in-Some.ensures.found) c.in-Some.ensures.workflow

pub returns-in-Some : goal.returns-in-Some
returns-in-Some c = subst (λ (w : WorkflowValue). IfOk c.gaps_in.result (λ list. list.items ≡ gaps_in w)) c.in-Some.ensures.found c.gaps_in.ensures

pub returns-in-None : goal.returns-in-None
returns-in-None c = c.new.ensures.items ∙ ap gaps_in (sym c.in-None.ensures.none)
