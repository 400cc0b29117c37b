-- How it is told what each dump of a workflow has, and where they differ.
use Rattle.std.specs.Prelude.{ℕ, Bool, false, not, ◌||◌, List, [], ◌++◌, codes, decimal, length, Option, Some, None, if◌then◌else◌}
use Rattle.std.specs.List.{flat_map, list_all, list_any}
use Rattle.std.specs.Str.{bytes_eq}
use Rattle.ndc_domain.specs.Clusters.{ClusterList}
use Rattle.ndc_event.specs.declared.batch.Batch.{Batch}
use Rattle.ndc_event.specs.declared.batch.Event.{Event}
use Rattle.ndc_event.specs.declared.name.Name.{Name}
use Rattle.ndc_model_sets.specs.Learned.{has_key}
use Rattle.ndc_model_sets.specs.Sets.{batch_at}
use Rattle.ndc_explain.specs.Explanation.{workflow_line}
use Rattle.ndc_explain.specs.Losses.{batch_named, event_named}
use Rattle.ndc_explain_union.specs.Takings.{Taking}
use Rattle.ndc_explain_union.specs.Unions.{are_same, is_same, united}
use Rattle.ndc_explain_union.specs.declared.groups.WorkflowName.{WorkflowName}
use Rattle.ndc_explain_union.specs.declared.taken.Spot.{Spot}

-- what is told of together: the clusters that the input names, a workflow, its dumps, and the batches of these
pub record Gathered : Type 0 where
  pub named : List Name
  pub workflow : WorkflowName
  pub dumps : List Taking
  pub union : List Batch

abbrev pub gathered : List Name → WorkflowName → List Taking → Gathered
gathered named workflow dumps = record { named = named; workflow = workflow; dumps = dumps; union = united dumps }

-- ` of` and the name of a cluster, where there is one
abbrev pub of_text : Option Name → List ℕ
of_text None = []
of_text (Some name) = codes " of " ++ name

-- a dump by its number and its cluster
unfoldable pub spot_text : Spot → List ℕ
spot_text spot = codes "dump " ++ (decimal spot.number ++ of_text spot.cluster)

-- how many of the batches a dump has
unfoldable pub row_line : ℕ → Taking → List ℕ
row_line all taking =
    spot_text taking.spot ++ (codes ": " ++ (decimal (length taking.dump.view.batches) ++ (codes " of " ++ (decimal all ++ codes " batches\n"))))

-- whether a dump is this cluster's
abbrev pub is_of : Name → Option Name → Bool
is_of name None = false
is_of name (Some cluster) = bytes_eq cluster name

abbrev pub has_dump : List Taking → Name → Bool
has_dump dumps name = list_any (λ taking. is_of name taking.spot.cluster) dumps

-- the line of a cluster of which there is no dump of the workflow
unfoldable pub missing_line : Name → List ℕ
missing_line name = codes "cluster " ++ (name ++ codes ": no dump\n")

unfoldable pub missing_told : List Taking → Name → List ℕ
missing_told dumps name = if has_dump dumps name then [] else missing_line name

-- an event, after others
unfoldable pub event_behind : Event → List ℕ
event_behind event = codes "; " ++ event_named event

-- a batch with its events
unfoldable pub batch_told : Option ClusterList → Batch → List ℕ
batch_told clusters b = batch_named clusters b.key ++ (flat_map event_behind b.events ++ codes "\n")

-- the line of a batch that a dump lacks
unfoldable pub lack_line : Option ClusterList → Spot → Batch → List ℕ
lack_line clusters spot b = spot_text spot ++ (codes " lacks " ++ batch_told clusters b)

-- the line of a batch that has another content in a dump before
unfoldable pub other_line : Option ClusterList → Spot → Batch → List ℕ
other_line clusters spot b = codes "equivocation: " ++ (spot_text spot ++ (codes " has another " ++ batch_told clusters b))

-- how a dump differs from the union in a batch, of which it has this one or none
abbrev pub difference_told : Option ClusterList → Spot → Option Batch → Batch → List ℕ
difference_told clusters spot None b = lack_line clusters spot b
difference_told clusters spot (Some own) b = if is_same own b then [] else other_line clusters spot own

-- how it differs in this batch of all
unfoldable pub difference_at : Option ClusterList → Taking → Batch → List ℕ
difference_at clusters taking b = difference_told clusters taking.spot (batch_at b.key taking.dump.view.batches) b

-- how a dump differs from the union
unfoldable pub differences_told : Option ClusterList → List Batch → Taking → List ℕ
differences_told clusters union taking = flat_map (difference_at clusters taking) union

-- the lines of a workflow before its explanation: what each dump has, which cluster has none, and which batches each dump lacks
unfoldable pub rows_told : Option ClusterList → Gathered → List ℕ
rows_told clusters it =
    workflow_line it.workflow.domain it.workflow.workflow
    ++ (flat_map (row_line (length it.union)) it.dumps
    ++ (flat_map (missing_told it.dumps) it.named ++ flat_map (differences_told clusters it.union) it.dumps))

-- whether a dump has all batches
abbrev pub has_all : List Batch → Taking → Bool
has_all union taking = list_all (λ b. has_key (Some b.key) taking.dump.view.batches) union

-- whether all dumps have one content under each key
abbrev pub are_of_one : Gathered → Bool
are_of_one it = list_all (λ taking. are_same taking.dump.view.batches it.union) it.dumps

-- whether the clusters differ: a dump lacks a batch, or a cluster has no dump
abbrev pub are_short : Gathered → Bool
are_short it = not (list_all (has_all it.union) it.dumps) || not (list_all (has_dump it.dumps) it.named)
