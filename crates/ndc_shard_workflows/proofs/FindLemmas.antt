-- A workflow that is found, or none.
use Rattle.std.proofs.Common.{◌≡◌, Bor, Option, Some, None, IfSome, sym, List, ◌∙◌, ap}
use Rattle.std.specs.Prelude.{IfNone}
use Rattle.std.specs.Option.{option_copied}
use Rattle.ndc_event.specs.declared.name.Name.{Name}
use Rattle.ndc_model_cells.specs.Workflow.{WorkflowValue, workflow_of}
use Rattle.ndc_shard_workflows.specs.Workflow.{empty_workflow}
use Rattle.ndc_shard_workflows.specs.Named.{under}
use Rattle.ndc_shard_workflows.specs.Workflows.{DomainValue, AreDomains, cell_of, workflow_or_empty, workflows_in}
use Rattle.ndc_shard_workflows.proofs.DomainLemmas.{workflow-there}

pub found-some : (r : Option (Bor WorkflowValue)) (w : WorkflowValue) → w ≡ workflow_or_empty (option_copied r) → IfSome r (λ found. found.now ≡ w)
found-some None w e = tt
found-some (Some x) w e = sym e

pub found-none : (r : Option (Bor WorkflowValue)) (w : WorkflowValue) → w ≡ workflow_or_empty (option_copied r) → IfNone r (w ≡ empty_workflow)
found-none None w e = e
found-none (Some x) w e = tt

pub always-none : {A P : Type 0} (r : Option A) → P → IfNone r P
always-none None p = p
always-none (Some x) p = tt

-- by what stands under the domain's name
pub found-under : (domains : List (Name × DomainValue)) → AreDomains domains → (domain workflow : Name) (o : Option DomainValue) → o ≡ under domain domains
    → workflow_of domain workflow (cell_of domains) ≡ workflow_or_empty (under workflow (workflows_in o))
found-under domains are domain workflow o e = workflow-there domains are domain workflow ∙ ap (λ x. workflow_or_empty (under workflow (workflows_in x))) (sym e)
