-- The workflows of a cell, by domain and then by workflow.
use Rattle.std.specs.Prelude.{◌≡◌, true, false, List, [], Option, Some, None}
use Rattle.std.specs.List.{AllByRecursion}
use Rattle.ndc_admission.specs.Faults.{first_fault}
use Rattle.ndc_model_cells.specs.declared.message.Message.{Message}
use Rattle.ndc_model_cells.specs.Cells.{Cell, learned_of}
use Rattle.ndc_model_cells.specs.Places.{is_of}
use Rattle.ndc_event.specs.declared.batch.Batch.{Batch}
use Rattle.ndc_event.specs.declared.name.Name.{Name}
use Rattle.ndc_model_sets.specs.Learned.{learned}
use Rattle.ndc_model_sets.specs.Sound.{IsSound}
use Rattle.ndc_model_cells.specs.Workflow.{WorkflowValue, workflow_of}
use Rattle.ndc_shard_workflows.specs.Admitting.{IsAdmitted}
use Rattle.ndc_shard_workflows.specs.Arriving.{ComesFrom}
use Rattle.ndc_shard_workflows.specs.Terms.{TermsValue}
use Rattle.ndc_shard_workflows.specs.declared.admission.Admission.{Admission}
use Rattle.ndc_shard_workflows.specs.declared.admission.Admission.TheVariants as admission
use Rattle.ndc_shard_workflows.specs.declared.admission.NotAdmitted.TheVariants as refused
use Rattle.ndc_shard_workflows.specs.Workflow.{IsWorkflow, empty_workflow}
use Rattle.ndc_shard_workflows.specs.Named.{HoldUnder, all_under, under}

-- the workflows of a domain by name
abbrev pub DomainValue : Type 0
DomainValue = List (Name × WorkflowValue)

-- what has arrived in a domain, and what waits there
abbrev pub arrived_in : DomainValue → List Batch
arrived_in workflows = all_under (λ w. w.arrived) workflows

abbrev pub waiting_in : DomainValue → List Message
waiting_in workflows = all_under (λ w. w.waiting) workflows

-- the cell of all domains, which has written nothing
abbrev pub cell_of : List (Name × DomainValue) → Cell
cell_of domains = record { arrived = all_under arrived_in domains; written = []; waiting = all_under waiting_in domains }

-- the workflow, where there is one
abbrev pub workflow_or_empty : Option WorkflowValue → WorkflowValue
workflow_or_empty None = empty_workflow
workflow_or_empty (Some w) = w

-- the workflows of a domain, where there are some
abbrev pub workflows_in : Option DomainValue → DomainValue
workflows_in None = []
workflows_in (Some workflows) = workflows

-- the workflow of these names
abbrev pub found : Name → Name → List (Name × DomainValue) → Option WorkflowValue
found domain workflow domains = under workflow (workflows_in (under domain domains))

-- a workflow of these names: all that has arrived and all that waits is of them, and what is learned is sound
pub record IsOwn (domain workflow : Name) (w : WorkflowValue) : Type 0 where
  pub is : IsWorkflow w
  pub sound : IsSound (learned w.arrived)
  pub arrived : AllByRecursion (λ b. is_of domain workflow b ≡ true) w.arrived
  pub waiting : AllByRecursion (λ sent. is_of domain workflow sent.batch ≡ true) w.waiting

-- the workflows of a domain, each under its name
abbrev pub AreOwn : Name → DomainValue → Type 0
AreOwn domain workflows = HoldUnder (IsOwn domain) workflows

-- the domains of a cell, each under its name
abbrev pub AreDomains : List (Name × DomainValue) → Type 0
AreDomains domains = HoldUnder AreOwn domains

-- each workflow but that of a batch is as it was
abbrev pub OthersStay : Batch → Cell → Cell → Type 0
OthersStay b before after = (domain workflow : Name) → is_of domain workflow b ≡ false → workflow_of domain workflow after ≡ workflow_of domain workflow before

-- a message that nobody vouches for was handed to its workflow in a cell on these terms: this came of it there, what is learned of the workflow came
-- from what was learned by messages that arrived, and each other workflow is as it was
pub record IsHandedTo (terms : TermsValue) (sent : Message) (told : Admission) (before after : Cell) : Type 0 where
  pub own : IsAdmitted terms sent told (workflow_of sent.batch.domain sent.batch.workflow before) (workflow_of sent.batch.domain sent.batch.workflow after)
  pub grows : ComesFrom (learned_of sent.batch.domain sent.batch.workflow before) (learned_of sent.batch.domain sent.batch.workflow after)
  pub others : OthersStay sent.batch before after

-- what comes of a message that is handed to a cell: it is not one that cells send, and nothing changes, or it is handed to its workflow
abbrev pub IsAdmittedTo : TermsValue → Message → Admission → Cell → Cell → Type 0
IsAdmittedTo terms sent (admission.Refused (refused.Fault fault)) before after = (first_fault sent terms.clusters ≡ Some fault) × (after ≡ before)
IsAdmittedTo terms sent told before after = (first_fault sent terms.clusters ≡ None) × IsHandedTo terms sent told before after
