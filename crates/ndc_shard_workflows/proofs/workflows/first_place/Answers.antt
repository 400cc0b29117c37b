use Rattle.std.proofs.Common.{◌≡◌, IfOk, sym, subst, ap}
use Rattle.std.specs.Option.{option_map}
use Rattle.ndc_model_cells.specs.Places.{place_of}
use Rattle.ndc_model_cells.specs.Workflow.{WorkflowValue}
use Rattle.ndc_shard_workflows.specs.Workflow.{IsWorkflow, off_in}
use Rattle.ndc_shard_workflows.specs.Behind.{first_batch}
use Rattle.ndc_shard_workflows.proofs.workflows.first_place.Goals as goal

pub first_put_off-requires : goal.first_put_off-requires
first_put_off-requires c = subst IsWorkflow (sym c.in-Some.ensures.found) c.in-Some.ensures.workflow

pub returns-in-Some : goal.returns-in-Some
returns-in-Some c =
    subst (λ (w : WorkflowValue). IfOk c.first_put_off.result (λ place. place ≡ option_map place_of (first_batch (off_in w)))) c.in-Some.ensures.found c.first_put_off.ensures

pub returns-in-None : goal.returns-in-None
returns-in-None c = ap (λ (w : WorkflowValue). option_map place_of (first_batch (off_in w))) (sym c.in-None.ensures.none)
