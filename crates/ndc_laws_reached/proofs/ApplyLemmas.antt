-- Reapplication in a cell is reapplication in one of its workflows after the other.
use Rattle.std.proofs.Common.{◌≡◌, ℕ, ◌<◌, List, [], ◌∷◌, length, slice_set, sym, ◌∙◌, ap, arith}
use Rattle.std.proofs.lemmas.List.{get_or-set_same}
use Rattle.ndc_script_types.specs.declared.script.Header.{Header}
use Rattle.ndc_model_cells.specs.declared.job.Job.TheVariants.{Reapply}
use Rattle.ndc_model_cells.specs.declared.job.ShardJob.{ShardJob}
use Rattle.ndc_model_cells.specs.Cells.{Cell, empty_cell}
use Rattle.ndc_model_cells.specs.Jobs.{after_job, cell_for, cells_after, reapplied_in, workflows_of}
use Rattle.ndc_model_cells.specs.Writing.{Desk}
use Rattle.ndc_domain.specs.declared.clusters.ClusterNo.{ClusterNo}
use Rattle.ndc_event.specs.declared.batch.Batch.{Batch}
use Rattle.ndc_model.proofs.ListLemmas.{set-twice, set-length}
use Rattle.ndc_model.specs.World.{Cluster, World, cell_at, cluster_at, home_at, new_cluster}
use Rattle.ndc_model.proofs.WorldLemmas.{same-cells, set-same}
use Rattle.ndc_laws_reached.specs.Writing.{applied_in, cell_applied, with_cell}
use Rattle.ndc_laws_reached.proofs.BringLemmas.{world_after}

-- the job in which a cell applies its strays again
abbrev pub reapplies : ℕ → ShardJob
reapplies shard = record { shard = shard; job = Reapply }

-- a cluster has a cell for a shard
pub record HasCell (cluster : ClusterNo) (shard : ℕ) (w : World) : Type 0 where
  pub cluster_below : cluster.number < length w.clusters
  pub shard_below : shard < length (cluster_at cluster w).cells

-- a cell that was put
module _ (cluster : ClusterNo) (shard : ℕ) (w : World) (has : HasCell cluster shard w) (cell : Cell) where
  abbrev put : Cluster
  put = record (cluster_at cluster w) { cells = slice_set (cluster_at cluster w).cells shard cell }

  cluster-put : cluster_at cluster (with_cell cluster shard cell w) ≡ put
  cluster-put = get_or-set_same w.clusters cluster.number put (new_cluster 0) has.cluster_below

  pub cell-put : cell_at cluster shard (with_cell cluster shard cell w) ≡ cell
  cell-put = ap (λ (c : Cluster). cell_for shard c.cells) cluster-put ∙ get_or-set_same (cluster_at cluster w).cells shard cell empty_cell has.shard_below

  has-put : HasCell cluster shard (with_cell cluster shard cell w)
  has-put = record {
    cluster_below = omega (arith, has.cluster_below, set-length w.clusters cluster.number put);
    shard_below = omega (arith, has.shard_below, ap (λ (c : Cluster). length c.cells) cluster-put, set-length (cluster_at cluster w).cells shard cell);
  }

  home-put : (header : Header) → home_at header cluster (with_cell cluster shard cell w) ≡ home_at header cluster w
  home-put header = ap (λ (c : Cluster). record { clusters = header.clusters; me = cluster; limit = header.limit; table = c.table }) cluster-put

  put-twice : (other : Cell) → with_cell cluster shard other (with_cell cluster shard cell w) ≡ with_cell cluster shard other w
  put-twice other =
      ap (λ (c : Cluster). record w { clusters = slice_set (slice_set w.clusters cluster.number put) cluster.number (record c { cells = slice_set c.cells shard other }) }) cluster-put
      ∙ ap (λ (l : List Cluster). record w { clusters = l }) (set-twice w.clusters cluster.number put (record put { cells = slice_set put.cells shard other }))
      ∙ ap (λ (l : List Cell). record w { clusters = slice_set w.clusters cluster.number (record (cluster_at cluster w) { cells = l }) }) (set-twice (cluster_at cluster w).cells shard cell other)

-- the same cell is the same world
pub same-cell : (cluster : ClusterNo) (shard : ℕ) (w : World) → with_cell cluster shard (cell_at cluster shard w) w ≡ w
same-cell cluster shard w =
    ap (λ (l : List Cell). record w { clusters = slice_set w.clusters cluster.number (record (cluster_at cluster w) { cells = l }) }) (set-same (cluster_at cluster w).cells shard empty_cell)
    ∙ same-cells cluster w

-- reapplication in the workflows of these batches, one after the other
abbrev pub applied_all : Header → ClusterNo → ℕ → List Batch → World → World
applied_all header cluster shard [] w = w
applied_all header cluster shard (b ∷ bs) w = applied_all header cluster shard bs (applied_in header cluster shard b w)

module _ (header : Header) (cluster : ClusterNo) (shard : ℕ) where
  all-applied : (bs : List Batch) (w : World) → HasCell cluster shard w
      → with_cell cluster shard (reapplied_in (home_at header cluster w) bs (cell_at cluster shard w)) w ≡ applied_all header cluster shard bs w
  all-applied [] w has = same-cell cluster shard w
  all-applied (b ∷ bs) w has =
      sym (put-twice cluster shard w has new (reapplied_in (home_at header cluster w) bs new))
      ∙ ap (λ (home : Desk). with_cell cluster shard (reapplied_in home bs new) v) (sym (home-put cluster shard w has new header))
      ∙ ap (λ (cell : Cell). with_cell cluster shard (reapplied_in (home_at header cluster v) bs cell) v) (sym (cell-put cluster shard w has new))
      ∙ all-applied bs v (has-put cluster shard w has new)
    where
      new : Cell
      new = cell_applied header cluster shard b w

      v : World
      v = applied_in header cluster shard b w

  -- the job of a shard
  pub one-shard : (w : World) → HasCell cluster shard w → world_after header cluster (reapplies shard ∷ []) w ≡ applied_all header cluster shard (workflows_of (cell_at cluster shard w).arrived) w
  unfolding cells_after after_job
  one-shard w has = all-applied (workflows_of (cell_at cluster shard w).arrived) w has
