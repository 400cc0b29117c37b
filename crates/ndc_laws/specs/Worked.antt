-- What work leaves at a cluster.
use Rattle.std.specs.Prelude.{◌≡◌, ℕ, ◌<◌, [], Ok}
use Rattle.ndc_script_types.specs.declared.script.Header.{Header}
use Rattle.ndc_model_cells.specs.Cells.{Cell, learned_of}
use Rattle.ndc_model_cells.specs.Writing.{Desk, may_write}
use Rattle.ndc_domain.specs.declared.clusters.ClusterNo.{ClusterNo}
use Rattle.ndc_event.specs.declared.name.Name.{Name}
use Rattle.ndc_laws.specs.Promised.{WaitsForAncestors}
use Rattle.ndc_model.specs.World.{World, cell_at, cell_of, flight_at, home_at}
use Rattle.ndc_model_sets.specs.Current.{HasNoStray}

-- a cell has applied again what it may to a workflow: where it may write to it, and the current run is open there, it has no stray of it
abbrev pub HasApplied : Desk → Name → Name → Cell → Type 0
HasApplied home domain workflow cell = (version : ℕ) → may_write home domain workflow cell ≡ Ok version → HasNoStray (learned_of domain workflow cell)

-- a cluster has worked: nothing is in flight to it, what is put off there is what lacks an ancestor, and it has applied again what it may
pub record HasWorked (header : Header) (cluster : ClusterNo) (w : World) : Type 0 where
  pub flight : (source : ClusterNo) (shard : ℕ) → flight_at cluster source shard w ≡ []
  pub waiting : (shard : ℕ) → shard < header.shards → WaitsForAncestors header (cell_at cluster shard w) w
  pub applied : (domain workflow : Name) → HasApplied (home_at header cluster w) domain workflow (cell_of header cluster domain workflow w)
