-- The dumps of each workflow.
use Rattle.std.specs.Prelude.{Bool, ◌&&◌, List, [], ◌∷◌, ◌++◌, unwrap_or}
use Rattle.std.specs.Map.{lookup}
use Rattle.std.specs.Str.{bytes_eq}
use Rattle.indexmap.specs.IndexMap.{insert_entry}
use Rattle.ndc_explain_union.specs.Takings.{Taking}
use Rattle.ndc_explain_union.specs.declared.groups.WorkflowName.{WorkflowName}

-- whether two workflows are one
abbrev pub same_workflow : WorkflowName → WorkflowName → Bool
same_workflow one two = bytes_eq one.domain two.domain && bytes_eq one.workflow two.workflow

-- the workflow that a dump is of
abbrev pub workflow_of : Taking → WorkflowName
workflow_of taking = record { domain = taking.dump.domain; workflow = taking.dump.workflow }

-- workflows, each with its dumps
abbrev pub Grouped : Type 0
Grouped = List (WorkflowName × List Taking)

-- the dumps of a workflow
abbrev pub dumps_of : WorkflowName → Grouped → List Taking
dumps_of workflow groups = unwrap_or (lookup (same_workflow workflow) groups) []

-- a dump goes last among those of its workflow, which goes last where it is new
abbrev pub with_taking : Taking → Grouped → Grouped
with_taking taking groups = insert_entry same_workflow groups (workflow_of taking) (dumps_of (workflow_of taking) groups ++ taking ∷ [])

abbrev pub with_takings : List Taking → Grouped → Grouped
with_takings [] groups = groups
with_takings (taking ∷ takings) groups = with_takings takings (with_taking taking groups)

-- the workflows of dumps, in the order of their first dumps, each with its dumps
abbrev pub groups_of : List Taking → Grouped
groups_of takings = with_takings takings []
