-- Cells of the clusters of a header.
use Rattle.std.proofs.Common.{◌≡◌, ℕ, zero, suc, ◌<◌, List, [], ◌∷◌, length, slice_index_or, arith}
use Rattle.std.specs.List.{AllByRecursion}
use Rattle.ndc_script_types.specs.WellFormed.{IsCluster}
use Rattle.ndc_script_types.specs.declared.script.Header.{Header}
use Rattle.ndc_model_cells.specs.Shards.{shard_of}
use Rattle.ndc_domain.specs.declared.clusters.ClusterNo.{ClusterNo}
use Rattle.ndc_event.specs.declared.name.Name.{Name}
use Rattle.ndc_laws_reached.proofs.LetterLemmas.{shard-below}
use Rattle.ndc_model.specs.Fair.{IsShaped}
use Rattle.ndc_model.specs.World.{Cluster, World, cluster_at, new_cluster}

cells-at : (shards : ℕ) (clusters : List Cluster) (i : ℕ) → AllByRecursion (λ c. length c.cells ≡ shards) clusters → i < length clusters → length (slice_index_or clusters i (new_cluster 0)).cells ≡ shards
cells-at shards [] i all below = absurd (omega (arith, below))
cells-at shards (c ∷ clusters) zero all below = all.0
cells-at shards (c ∷ clusters) (suc i) all below = cells-at shards clusters i all.1 (omega (arith, below))

-- each cluster of the header is there
pub there : (header : Header) (w : World) → IsShaped header w → (cluster : ClusterNo) → IsCluster header cluster → cluster.number < length w.clusters
there header w shaped cluster known = omega (arith, known, shaped.clusters)

-- there is a cell for each shard
pub cells_there : (header : Header) (w : World) (cluster : ClusterNo) → IsShaped header w → IsCluster header cluster → length (cluster_at cluster w).cells ≡ header.shards
cells_there header w cluster shaped known = cells-at header.shards w.clusters cluster.number shaped.cells (omega (arith, known, shaped.clusters))

-- and one for each workflow
pub shard_there : (header : Header) (w : World) (cluster : ClusterNo) (domain workflow : Name) (shard : ℕ) → IsShaped header w → IsCluster header cluster → 0 < header.shards → shard ≡ shard_of domain workflow header.shards
    → shard < length (cluster_at cluster w).cells
shard_there header w cluster domain workflow shard shaped known some is =
    let below : shard_of domain workflow header.shards < header.shards = shard-below domain workflow header.shards some in
    let same : length (cluster_at cluster w).cells ≡ header.shards = cells_there header w cluster shaped known in
    omega (arith, below, same, is)

pub shard_known : (domain workflow : Name) (shards shard : ℕ) → 0 < shards → shard ≡ shard_of domain workflow shards → shard < shards
shard_known domain workflow shards shard some is = let below : shard_of domain workflow shards < shards = shard-below domain workflow shards some in omega (arith, below, is)
