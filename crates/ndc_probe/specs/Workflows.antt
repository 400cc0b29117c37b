-- What clusters have learned of a domain.
use Rattle.std.specs.Prelude.{ℕ, List, [], ◌∷◌, ◌++◌, codes, Option, Some, None, if◌then◌else◌}
use Rattle.std.specs.List.{concat, flat_map, list_any}
use Rattle.std.specs.Str.{bytes_eq}
use Rattle.ndc_domain.specs.Clusters.{name_of}
use Rattle.ndc_domain.specs.declared.clusters.ClusterNo.{ClusterNo}
use Rattle.ndc_event.specs.declared.name.Name.{Name}
use Rattle.ndc_model.specs.Reading.{learned_at}
use Rattle.ndc_model.specs.World.{World, cell_at, shards_of}
use Rattle.ndc_model_sets.specs.View.{view_of}
use Rattle.ndc_model_sets.specs.declared.view.View.{View}
use Rattle.ndc_script_types.specs.declared.script.Header.{Header}
use Rattle.ndc_shard_runs.specs.View.{view_at}
use Rattle.ndc_shard_workflows.specs.Reading.{learned_workflows}
use Rattle.ndc_text.specs.Views.{dump_text}
use Rattle.ndc_world_queries.specs.Same.{same_batches}
use Rattle.ndc_probe.specs.Learned.{fork_line, lines_or_none, quoted, workflow_line}

-- of workflows with their domains those of one domain
abbrev pub named_in : Name → List (Name × Name) → List Name
named_in domain [] = []
named_in domain (pair ∷ pairs) = if bytes_eq pair.0 domain then pair.1 ∷ named_in domain pairs else named_in domain pairs

-- the workflows of a domain of which a cluster has learned something in a shard
abbrev pub workflows_in : ClusterNo → Name → World → ℕ → List Name
workflows_in cluster domain w shard = named_in domain (learned_workflows (cell_at cluster shard w))

-- the workflows of a domain of which a cluster has learned something, by shard and then by name
abbrev pub workflows_at : Header → ClusterNo → Name → World → List Name
workflows_at header cluster domain w = flat_map (workflows_in cluster domain w) (shards_of header)

-- the lines of the runs of a workflow that have several branches
abbrev pub forks_in : Header → ClusterNo → Name → World → Name → List ℕ
forks_in header cluster domain w workflow = flat_map (fork_line workflow) (view_of (learned_at header cluster domain workflow w)).runs

-- the runs of a domain that have several branches at a cluster
unfoldable pub forks_text : Header → ClusterNo → Name → World → List ℕ
forks_text header cluster domain w =
    lines_or_none (codes "no run has several branches\n") (codes "runs with several branches\n") (flat_map (forks_in header cluster domain w) (workflows_at header cluster domain w))

-- a dump, where there is a view
abbrev pub dump_where : Name → Name → Option View → List ℕ
dump_where domain workflow None = []
dump_where domain workflow (Some view) = quoted (dump_text domain workflow view)

-- the dump of a workflow
abbrev pub dump_in : Header → ClusterNo → Name → World → Name → List ℕ
dump_in header cluster domain w workflow = dump_where domain workflow (view_at (learned_at header cluster domain workflow w))

-- what stands before the dumps of a cluster: its name
unfoldable pub dumps_head : Header → ClusterNo → List ℕ
dumps_head header cluster = concat (codes "its dumps\n| cluster " ∷ name_of header.clusters cluster ∷ codes "\n" ∷ [])

-- the dumps of a domain at a cluster, after a line that names it
unfoldable pub dumps_text : Header → ClusterNo → Name → World → List ℕ
dumps_text header cluster domain w =
    dumps_head header cluster ++ flat_map (dump_in header cluster domain w) (workflows_at header cluster domain w)

-- of workflows those that are none of others
abbrev pub not_among : List Name → List Name → List Name
not_among known [] = []
not_among known (name ∷ names) = if list_any (λ one. bytes_eq one name) known then not_among known names else name ∷ not_among known names

-- the workflows of a domain of which one of two clusters has learned something: those of the first, and then the others
abbrev pub workflows_of_both : Header → ClusterNo → ClusterNo → Name → World → List Name
workflows_of_both header one two domain w = workflows_at header one domain w ++ not_among (workflows_at header one domain w) (workflows_at header two domain w)

-- a line for a workflow of which two clusters have not learned the same
abbrev pub differ_in : Header → ClusterNo → ClusterNo → Name → World → Name → List ℕ
differ_in header one two domain w workflow =
    if same_batches (learned_at header one domain workflow w) (learned_at header two domain workflow w) then [] else workflow_line workflow

-- the workflows of a domain of which two clusters have not learned the same
unfoldable pub differs_text : Header → ClusterNo → ClusterNo → Name → World → List ℕ
differs_text header one two domain w =
    lines_or_none (codes "none differs\n") (codes "these differ\n")
    (flat_map (differ_in header one two domain w) (workflows_of_both header one two domain w))
