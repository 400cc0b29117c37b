-- Lists in flight that are emptied, shard by shard.
use Rattle.std.specs.Prelude.{ℕ, [], ◌++◌, drop, map, take, if◌then◌else◌}
use Rattle.ndc_model_cells.specs.Writing.{same_cluster}
use Rattle.ndc_domain.specs.declared.clusters.ClusterNo.{ClusterNo}
use Rattle.ndc_cluster_links.specs.Links.{with_flight_in}
use Rattle.ndc_model.specs.Moves.{link_without_flights, without_flight}
use Rattle.ndc_model.specs.World.{Link}

-- nothing is in flight for a shard over a link, where it is this reader's
abbrev pub emptied_at : ClusterNo → ℕ → Link → Link
emptied_at reader shard link = if same_cluster link.reader reader then with_flight_in shard [] link else link

-- nothing is in flight for the shards below this one over a link, where it is this reader's
abbrev pub emptied_below : ClusterNo → ℕ → Link → Link
emptied_below reader shard link =
    if same_cluster link.reader reader then record link { lanes = map without_flight (take shard link.lanes) ++ drop shard link.lanes } else link

-- nothing is in flight over a link, where it is this reader's
abbrev pub emptied : ClusterNo → Link → Link
emptied reader link = if same_cluster link.reader reader then link_without_flights link else link
