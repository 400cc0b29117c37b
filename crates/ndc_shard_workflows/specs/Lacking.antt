-- Whether a cell knows of batches of its own cluster that it has not learned.
use Rattle.std.specs.Prelude.{◌≡◌, Bool, true, false, ◌&&◌, ◌||◌, not, List, Option, Some, None}
use Rattle.std.specs.List.{list_any}
use Rattle.ndc_event.specs.declared.batch.Batch.{Batch}
use Rattle.ndc_event.specs.declared.key.BatchKey.{BatchKey}
use Rattle.ndc_model_cells.specs.Messages.{batches_of}
use Rattle.ndc_model_cells.specs.Workflow.{WorkflowValue}
use Rattle.ndc_model_sets.specs.Learned.{has_key, learned}
use Rattle.ndc_event.specs.declared.name.Name.{Name}
use Rattle.ndc_model_cells.specs.Cells.{Cell}
use Rattle.ndc_model_cells.specs.Workflow.{workflow_of}
use Rattle.ndc_shard_workflows.specs.Terms.{TermsValue, is_own, name_unknown_own}
use Rattle.ndc_shard_workflows.specs.Workflows.{DomainValue}

-- whether a key, where there is one, is of the cell's own cluster and not learned
abbrev pub is_lacked : TermsValue → List Batch → Option BatchKey → Bool
is_lacked terms known None = false
is_lacked terms known (Some key) = is_own terms key.version && not (has_key (Some key) known)

-- whether a batch names such a key as that of its parent or of its carrier
abbrev pub names_lacked : TermsValue → List Batch → Batch → Bool
names_lacked terms known b = is_lacked terms known b.parent || is_lacked terms known b.carrier

-- whether a batch is one of the cell's own cluster that is not learned, or names one as its parent, as its carrier or as the origin of a copied signal
abbrev pub tells_of_lacked : TermsValue → List Batch → Batch → Bool
tells_of_lacked terms known b =
    is_lacked terms known (Some b.key) || (names_lacked terms known b || name_unknown_own terms known b.events)

-- whether a batch that is learned, or one that is put off, tells of one of the cell's own cluster that is not learned
abbrev pub lacks_own : TermsValue → WorkflowValue → Bool
lacks_own terms w =
    list_any (tells_of_lacked terms (learned w.arrived)) (learned w.arrived) || list_any (tells_of_lacked terms (learned w.arrived)) (batches_of w.waiting)

-- a workflow of the cell, by its names, tells of one
pub record LacksOwn (terms : TermsValue) (cell : Cell) : Type 0 where
  pub domain : Name
  pub workflow : Name
  pub lacks : lacks_own terms (workflow_of domain workflow cell) ≡ true

-- none does
abbrev pub LacksNoOwn : TermsValue → Cell → Type 0
LacksNoOwn terms cell = (domain workflow : Name) → lacks_own terms (workflow_of domain workflow cell) ≡ false

-- whether one of these workflows of a domain does, or one of these domains
abbrev pub one_lacks_own : TermsValue → DomainValue → Bool
one_lacks_own terms workflows = list_any (λ entry. lacks_own terms entry.1) workflows

abbrev pub some_lack_own : TermsValue → List (Name × DomainValue) → Bool
some_lack_own terms domains = list_any (λ entry. one_lacks_own terms entry.1) domains
