-- The workflows of some domains of a cell, and what is learned of them.
use Rattle.std.specs.Prelude.{◌≡◌, ◌&&◌, List, [], ◌∷◌, ◌++◌, map, if◌then◌else◌}
use Rattle.std.specs.List.{AllByRecursion, filter, flat_map, list_any}
use Rattle.std.specs.Map.{values_of}
use Rattle.std.specs.Str.{bytes_eq}
use Rattle.ndc_model_cells.specs.Cells.{Cell, is_learned_in}
use Rattle.ndc_model_cells.specs.Jobs.{workflows_of}
use Rattle.ndc_event.specs.declared.name.Name.{Name}
use Rattle.ndc_model_sets.specs.Last.{is_nil}
use Rattle.ndc_model_sets.specs.Learned.{learned}
use Rattle.ndc_model_cells.specs.Workflow.{WorkflowValue, workflow_of}
use Rattle.ndc_shard_workflows.specs.Workflows.{DomainValue}

-- the workflows of these domains, in order
abbrev pub workflows_named : List Name → List (Name × DomainValue) → List WorkflowValue
workflows_named names [] = []
workflows_named names (entry ∷ entries) = (if list_any (λ name. bytes_eq name entry.0) names then values_of entry.1 else []) ++ workflows_named names entries

-- each batch that has arrived in a workflow is of a workflow of the cell that is this one
abbrev pub IsIn : Cell → WorkflowValue → Type 0
IsIn cell w = AllByRecursion (λ b. workflow_of b.domain b.workflow cell ≡ w) w.arrived

-- workflows of a cell that hold, in order, all that is learned of these domains
pub record HoldLearned (names : List Name) (list : List WorkflowValue) (cell : Cell) : Type 0 where
  pub batches : flat_map (λ w. learned w.arrived) list ≡ filter (λ b. is_learned_in cell b && list_any (λ name. bytes_eq name b.domain) names) cell.arrived
  pub each : AllByRecursion (IsIn cell) list

-- the workflows of which a cell has learned something, each as its domain and its name, in order
abbrev pub learned_workflows : Cell → List (Name × Name)
learned_workflows cell = map (λ b. (b.domain, b.workflow)) (workflows_of (filter (is_learned_in cell) cell.arrived))

-- a workflow of these names, where something of it is learned
abbrev pub named_where_learned : Name → Name → WorkflowValue → List (Name × Name)
named_where_learned domain workflow w = if is_nil (learned w.arrived) then [] else (domain, workflow) ∷ []

-- the workflows of a domain of which something is learned
abbrev pub learned_in_domain : Name → DomainValue → List (Name × Name)
learned_in_domain domain [] = []
learned_in_domain domain (entry ∷ entries) = named_where_learned domain entry.0 entry.1 ++ learned_in_domain domain entries

-- those of all domains
abbrev pub learned_in_all : List (Name × DomainValue) → List (Name × Name)
learned_in_all [] = []
learned_in_all (entry ∷ entries) = learned_in_domain entry.0 entry.1 ++ learned_in_all entries
