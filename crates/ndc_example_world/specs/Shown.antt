-- What clusters show of a workflow, and who is a member of a domain.
use Rattle.std.specs.Prelude.{ℕ, Bool, List, [], Option, Some, None}
use Rattle.ndc_domain.specs.Records.{record_of}
use Rattle.ndc_domain.specs.declared.clusters.ClusterNo.{ClusterNo}
use Rattle.ndc_event.specs.declared.batch.Batch.{Batch}
use Rattle.ndc_event.specs.declared.name.Name.{Name}
use Rattle.ndc_model.specs.Queues.{names_cluster}
use Rattle.ndc_model.specs.World.{World, cluster_at}
use Rattle.ndc_model_sets.specs.declared.view.View.{View}
use Rattle.ndc_shard_runs.specs.View.{view_at}
use Rattle.ndc_text.specs.Views.{dump_text}

-- the dump of a view, nothing where there is none
abbrev pub text_of : Name → Name → Option View → List ℕ
text_of domain workflow None = []
text_of domain workflow (Some view) = dump_text domain workflow view

-- what is shown of a workflow of which this is learned
abbrev pub shown_of : Name → Name → List Batch → List ℕ
shown_of domain workflow batches = text_of domain workflow (view_at batches)

-- whether a cluster's record of a domain names it
abbrev pub is_member : ClusterNo → Name → World → Bool
is_member at domain w = names_cluster at (record_of (cluster_at at w).table domain)
