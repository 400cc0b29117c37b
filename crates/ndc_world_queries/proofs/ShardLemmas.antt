-- The cells of all clusters for a shard.
use Rattle.std.proofs.Common.{◌≡◌, ◌<◌, ◌+◌, ℕ, List, [], ◌∷◌, length, map, ap, sym, subst, ◌∙◌, arith}
use Rattle.std.specs.List.{AllByRecursion, fold, range_with_len}
use Rattle.std.proofs.lemmas.List.FromFn.{map-range_with_len_more}
use Rattle.std.proofs.lemmas.List.Sums.{fold_push}
use Rattle.std.proofs.lemmas.Simd.{map-map}
use Rattle.ndc_script_types.specs.declared.script.Header.{Header}
use Rattle.ndc_model_cells.specs.Jobs.{cell_for}
use Rattle.ndc_model.specs.Fair.{IsShaped}
use Rattle.ndc_model.specs.World.{Cluster, World}
use Rattle.ndc_world_replication.specs.Publishers.{PublisherValue}
use Rattle.ndc_world_queries.specs.Summaries.{added, cells_of}
use Rattle.ndc_world_queries.specs.declared.parts.Totals.{Totals}

from-clusters : (shards shard : ℕ) (publishers : List PublisherValue) → shard < shards → AllByRecursion (λ (cluster : Cluster). length cluster.cells ≡ shards) (map (λ (publisher : PublisherValue). publisher.cluster) publishers)
    → AllByRecursion (λ (publisher : PublisherValue). shard < length publisher.cluster.cells) publishers
from-clusters shards shard [] below all = tt
from-clusters shards shard (publisher ∷ publishers) below all = (omega (arith, below, all.0), from-clusters shards shard publishers below all.1)

-- each cluster has a cell for each shard
pub cells_there : (header : Header) (w : World) (shard : ℕ) (publishers : List PublisherValue) → IsShaped header w → shard < header.shards → map (λ (publisher : PublisherValue). publisher.cluster) publishers ≡ w.clusters
    → AllByRecursion (λ (publisher : PublisherValue). shard < length publisher.cluster.cells) publishers
cells_there header w shard publishers shaped below same =
    from-clusters header.shards shard publishers below (subst (AllByRecursion (λ (cluster : Cluster). length cluster.cells ≡ header.shards)) (sym same) shaped.cells)

-- and these are the cells of the shard
pub cells_same : (w : World) (shard : ℕ) (publishers : List PublisherValue) → map (λ (publisher : PublisherValue). publisher.cluster) publishers ≡ w.clusters
    → map (λ (publisher : PublisherValue). cell_for shard publisher.cluster.cells) publishers ≡ cells_of w shard
cells_same w shard publishers same =
    sym (map-map (λ (cluster : Cluster). cell_for shard cluster.cells) (λ (publisher : PublisherValue). publisher.cluster) publishers) ∙ ap (map (λ (cluster : Cluster). cell_for shard cluster.cells)) same

-- the tables of all clusters
pub tables_same : (w : World) (publishers : List PublisherValue) → map (λ (publisher : PublisherValue). publisher.cluster) publishers ≡ w.clusters
    → map (λ (publisher : PublisherValue). publisher.cluster.table) publishers ≡ map (λ (cluster : Cluster). cluster.table) w.clusters
tables_same w publishers same = sym (map-map (λ (cluster : Cluster). cluster.table) (λ (publisher : PublisherValue). publisher.cluster) publishers) ∙ ap (map (λ (cluster : Cluster). cluster.table)) same

-- the part of one shard more is added
pub whole_more : (start : Totals) (part : ℕ → Totals) (shard : ℕ)
    → added (fold added start (map part (range_with_len 0 shard))) (part shard) ≡ fold added start (map part (range_with_len 0 (shard + 1)))
whole_more start part shard =
    sym (ap (fold added start) (map-range_with_len_more part 0 shard shard (omega arith)) ∙ fold_push added start (map part (range_with_len 0 shard)) (part shard))
