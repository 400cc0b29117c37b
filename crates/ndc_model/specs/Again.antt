-- What a reader is sent again, workflow by workflow, and what asking for what it has put off brings.
use Rattle.std.specs.Prelude.{ℕ, List, Option, Some, None}
use Rattle.std.specs.List.{filter}
use Rattle.ndc_script_types.specs.declared.script.Header.{Header}
use Rattle.ndc_model_cells.specs.declared.message.Message.{Message}
use Rattle.ndc_model_cells.specs.declared.place.Place.{Place}
use Rattle.ndc_model_cells.specs.Cells.{Cell, empty_cell}
use Rattle.ndc_model_cells.specs.Places.{is_of}
use Rattle.ndc_model_cells.specs.Workflow.{workflow_of}
use Rattle.ndc_domain.specs.Clusters.{writer_of}
use Rattle.ndc_domain.specs.declared.clusters.ClusterNo.{ClusterNo}
use Rattle.ndc_event.specs.declared.name.Name.{Name}
use Rattle.ndc_model.specs.Moves.{all_written, messages_among, missing_ancestors}
use Rattle.ndc_model.specs.World.{World, cell_at}
use Rattle.ndc_resend.specs.declared.asking.GapOf.{GapOf}
use Rattle.ndc_resend.specs.Bringing.{brought_to, new_of}
use Rattle.ndc_resend.specs.Serving.{served_for}

-- what a reader is sent again for a shard of a workflow
abbrev pub sent_again_of : Header → ClusterNo → World → ℕ → Name → Name → List Message
sent_again_of header reader w shard domain workflow =
    messages_among (all_written header shard w) (filter (is_of domain workflow) (missing_ancestors (all_written header shard w) (cell_at reader shard w)))

-- the same of the workflow of a place
abbrev pub sent_again_at : Header → ClusterNo → World → ℕ → Place → List Message
sent_again_at header reader w shard place = sent_again_of header reader w shard place.domain place.workflow

-- the cell of a cluster for a shard, where there is a cluster
abbrev pub cell_by : ℕ → World → Option ClusterNo → Cell
cell_by shard w None = empty_cell
cell_by shard w (Some cluster) = cell_at cluster shard w

-- what the author of a batch that is put off, the cluster that writes with its version, serves for the gap before it
abbrev pub served_by_author : Header → ℕ → World → GapOf → List Message
served_by_author header shard w gap = served_for gap (cell_by shard w (writer_of header.clusters gap.key.version))

-- what a reader is brought of a workflow, where it asks for what it has put off, in key order: of each message that has not arrived one
abbrev pub brought_again : Header → ClusterNo → World → ℕ → Name → Name → List Message
brought_again header reader w shard domain workflow =
    new_of (cell_at reader shard w) (brought_to (served_by_author header shard w) (workflow_of domain workflow (cell_at reader shard w)))
