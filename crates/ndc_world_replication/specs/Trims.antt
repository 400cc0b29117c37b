-- Queues of a cluster that are trimmed, shard by shard.
use Rattle.std.specs.Prelude.{ℕ, ◌-◌, List, length, max, min}
use Rattle.std.specs.List.{fold}
use Rattle.ndc_model_cells.specs.Cells.{Cell}
use Rattle.ndc_model_cells.specs.Jobs.{cell_for}
use Rattle.ndc_domain.specs.declared.clusters.ClusterNo.{ClusterNo}
use Rattle.ndc_model.specs.Moves.{done_levels}
use Rattle.ndc_model.specs.World.{Link}
use Rattle.ndc_world_replication.specs.Publishers.{PublisherValue}

-- a publisher whose queues are trimmed so far
abbrev pub with_trimmed : List ℕ → PublisherValue → PublisherValue
with_trimmed levels publisher = record publisher { trimmed = levels }

-- how far a queue of a source comes to be trimmed: up to where all readers are done, and never less than before
abbrev pub raised_level : ClusterNo → List Link → List Cell → ℕ → ℕ → ℕ
raised_level source links cells shard before = max before (fold min (length (cell_for shard cells).written) (done_levels source shard links))

-- how many entries are dropped then
abbrev pub dropped_now : ClusterNo → List Link → List Cell → ℕ → ℕ → ℕ
dropped_now source links cells shard before = raised_level source links cells shard before - before
