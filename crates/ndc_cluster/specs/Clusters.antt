-- Clusters: domain records and cells.
use Rattle.std.specs.Prelude.{ℕ, List, [], replicate}
use Rattle.ndc_domain.specs.declared.record.DomainRecord.{DomainRecord}
use Rattle.ndc_model_cells.specs.Cells.{Cell, empty_cell}

-- a cluster: its domain records, and its cells by shard
pub record ClusterValue : Type 0 where
  pub table : List DomainRecord
  pub cells : List Cell

-- a cluster in which nothing has happened
abbrev pub new_cluster : ℕ → ClusterValue
new_cluster shards = record { table = []; cells = replicate shards empty_cell }

-- a cluster with other domain records
abbrev pub with_records : List DomainRecord → ClusterValue → ClusterValue
with_records table cluster = record cluster { table = table }

-- a cluster with other cells
abbrev pub with_cells : List Cell → ClusterValue → ClusterValue
with_cells cells cluster = record cluster { cells = cells }
