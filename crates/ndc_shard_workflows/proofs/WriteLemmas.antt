-- What may be written to a workflow of a cell of domains may be written to what stands under its names.
use Rattle.std.proofs.Common.{◌≡◌, List, Option, Some, sym, ◌∙◌, subst, ap}
use Rattle.ndc_model_cells.specs.Writing.{Entry, with_batches}
use Rattle.ndc_event.specs.declared.name.Name.{Name}
use Rattle.ndc_model_cells.specs.Messages.{carrying}
use Rattle.ndc_model_cells.specs.Workflow.{WorkflowValue, workflow_of}
use Rattle.ndc_shard_workflows.specs.Workflow.{with_written}
use Rattle.ndc_shard_workflows.specs.Named.{under, IsPut}
use Rattle.ndc_shard_workflows.specs.Workflows.{DomainValue, AreDomains, cell_of, workflow_or_empty, workflows_in}
use Rattle.ndc_shard_workflows.specs.Writing.{MayBeWrittenTogether}
use Rattle.ndc_shard_workflows.proofs.BehindLemmas.{batches-behind, found-others, found-there}
use Rattle.ndc_shard_workflows.proofs.DomainLemmas.{workflow-there}

-- the workflow of these names, in what stands under the domain
pub found-in : (domain workflow : Name) (domains : List (Name × DomainValue)) → AreDomains domains → (o : Option DomainValue) → under domain domains ≡ o
    → workflow_of domain workflow (cell_of domains) ≡ workflow_or_empty (under workflow (workflows_in o))
found-in domain workflow domains are o at = workflow-there domains are domain workflow ∙ ap (λ x. workflow_or_empty (under workflow (workflows_in x))) at

-- what may be written to a workflow in what stands under its domain may be written to it
pub may-back : (entry : Entry) (domains : List (Name × DomainValue)) → AreDomains domains → (o : Option DomainValue) → under entry.batch.domain domains ≡ o
    → MayBeWrittenTogether (carrying entry.batch entry.second) (workflow_or_empty (under entry.batch.workflow (workflows_in o)))
    → MayBeWrittenTogether (carrying entry.batch entry.second) (workflow_of entry.batch.domain entry.batch.workflow (cell_of domains))
may-back entry domains are o at may = subst (MayBeWrittenTogether (carrying entry.batch entry.second)) (sym (found-in entry.batch.domain entry.batch.workflow domains are o at)) may

module _ (entry : Entry) (domains : List (Name × DomainValue)) (are : AreDomains domains)
    (may : MayBeWrittenTogether (carrying entry.batch entry.second) (workflow_of entry.batch.domain entry.batch.workflow (cell_of domains))) (o : Option DomainValue)
    (at : under entry.batch.domain domains ≡ o) where
  -- its workflow, in what stands under its domain
  abbrev pub there : WorkflowValue
  there = workflow_or_empty (under entry.batch.workflow (workflows_in o))

  own-there : workflow_of entry.batch.domain entry.batch.workflow (cell_of domains) ≡ there
  own-there = found-in entry.batch.domain entry.batch.workflow domains are o at

  pub may-there : MayBeWrittenTogether (carrying entry.batch entry.second) there
  may-there = subst (MayBeWrittenTogether (carrying entry.batch entry.second)) own-there may

  -- the cell after it
  pub cell-there : (workflows : DomainValue) (after : List (Name × DomainValue)) → IsPut entry.batch.domain workflows domains after → AreDomains after
      → IsPut entry.batch.workflow (with_written (carrying entry.batch entry.second) there) (workflows_in o) workflows → cell_of after ≡ with_batches entry (cell_of domains)
  cell-there workflows after outer later inner =
      batches-behind entry domains after are later may.together may.own
      (found-there entry.batch.domain entry.batch.workflow (with_written (carrying entry.batch entry.second) there) workflows domains after outer inner'
      ∙ ap (λ w. Some (with_written (carrying entry.batch entry.second) w)) (sym own-there))
      (found-others entry.batch.domain entry.batch.workflow (with_written (carrying entry.batch entry.second) there) workflows domains after outer inner')
    where
      inner' : IsPut entry.batch.workflow (with_written (carrying entry.batch entry.second) there) (workflows_in (under entry.batch.domain domains)) workflows
      inner' = subst (λ x. IsPut entry.batch.workflow (with_written (carrying entry.batch entry.second) there) (workflows_in x) workflows) (sym at) inner
