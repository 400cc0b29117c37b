-- Messages that arrive one after the other at a cluster.
use Rattle.std.proofs.Common.{◌≡◌, ◌≢◌, ℕ, zero, suc, ◌<◌, true, List, [], ◌∷◌, length, slice_index_or, slice_set, Option, Some, None, refl, sym, ◌∙◌, subst, ap, arith, true≢false}
use Rattle.std.specs.List.{AllByRecursion, filter}
use Rattle.std.specs.Prelude.{is_some}
use Rattle.ndc_script_types.specs.WellFormed.{IsCluster}
use Rattle.ndc_script_types.specs.declared.script.Header.{Header}
use Rattle.ndc_model_cells.specs.declared.job.Job.TheVariants.{Arrive}
use Rattle.ndc_model_cells.specs.declared.job.ShardJob.{ShardJob}
use Rattle.ndc_model_cells.specs.declared.message.Message.{Message}
use Rattle.ndc_model_cells.specs.declared.place.Place.{Place}
use Rattle.ndc_model_cells.specs.Arrival.{arrived_at, has_arrived}
use Rattle.ndc_model_cells.specs.Cells.{Cell, empty_cell, own_message}
use Rattle.ndc_model_cells.specs.Jobs.{after_job, cell_for, cells_after, cells_behind}
use Rattle.ndc_model_cells.specs.Places.{batch_there, is_of, place_of}
use Rattle.ndc_model_cells.specs.Writing.{Desk}
use Rattle.ndc_domain.specs.declared.clusters.ClusterNo.{ClusterNo}
use Rattle.ndc_domain.specs.declared.record.DomainRecord.{DomainRecord}
use Rattle.ndc_event.specs.declared.batch.Batch.{Batch}
use Rattle.ndc_model.proofs.ListLemmas.{set-twice, set-there}
use Rattle.ndc_model.specs.Facts.{IsReached}
use Rattle.ndc_model.specs.Fair.{IsMessageTrue, IsShaped, is_named}
use Rattle.ndc_model.specs.Moves.{Trace, arrives, jobs_done}
use Rattle.ndc_model.specs.World.{Cluster, World, cell_at, cluster_at, home_at, new_cluster, with_cells}
use Rattle.ndc_laws_reached.proofs.FrameLemmas.{named_by}
use Rattle.ndc_laws_reached.proofs.ArrivalLemmas.{arrival-grown, arrived-itself, arrived-stays, second-arrived}
use Rattle.ndc_laws_reached.proofs.CellLemmas.{IsGrown, IsKept, by-cell, cell-grown}

-- the world after jobs of a cluster
abbrev pub world_after : Header → ClusterNo → List ShardJob → World → World
world_after header cluster jobs w = with_cells cluster (cells_after (home_at header cluster w) jobs (cluster_at cluster w).cells) w

pub done-world : (header : Header) (cluster : ClusterNo) (jobs : List ShardJob) (t : Trace) → (jobs_done header cluster jobs t).world ≡ world_after header cluster jobs t.world
unfolding jobs_done
done-world header cluster jobs t = refl

module _ (header : Header) (cluster : ClusterNo) (w : World) (shaped : IsShaped header w) (known : IsCluster header cluster) where
  within : cluster.number < length w.clusters
  within = omega (arith, known, shaped.clusters)

  cluster-there : (cells : List Cell) → cluster_at cluster (with_cells cluster cells w) ≡ record (cluster_at cluster w) { cells = cells }
  cluster-there cells = set-there w.clusters cluster.number (record (cluster_at cluster w) { cells = cells }) (new_cluster 0) within

  cells-twice : (one two : List Cell) → with_cells cluster two (with_cells cluster one w) ≡ with_cells cluster two w
  cells-twice one two =
      ap (λ (c : Cluster). record w { clusters = slice_set (slice_set w.clusters cluster.number (record (cluster_at cluster w) { cells = one })) cluster.number (record c { cells = two }) }) (cluster-there one)
      ∙ ap (λ (l : List Cluster). record w { clusters = l }) (set-twice w.clusters cluster.number (record (cluster_at cluster w) { cells = one }) (record (cluster_at cluster w) { cells = two }))

  home-there : (cells : List Cell) → home_at header cluster (with_cells cluster cells w) ≡ home_at header cluster w
  home-there cells = ap (λ (c : Cluster). record { clusters = header.clusters; me = cluster; limit = header.limit; table = c.table }) (cluster-there cells)

  -- jobs in two parts
  pub after-more : (asked : ShardJob) (jobs : List ShardJob) → world_after header cluster jobs (world_after header cluster (asked ∷ []) w) ≡ world_after header cluster (asked ∷ jobs) w
  unfolding cells_after
  after-more asked jobs =
      ap (λ (c : Cluster). with_cells cluster (cells_after (home_at header cluster (with_cells cluster first w)) jobs c.cells) (with_cells cluster first w)) (cluster-there first)
      ∙ ap (λ (home : Desk). with_cells cluster (cells_after home jobs first) (with_cells cluster first w)) (home-there first)
      ∙ cells-twice first (cells_after (home_at header cluster w) jobs first)
    where
      first : List Cell
      first = cells_behind (home_at header cluster w) asked (cluster_at cluster w).cells

-- a message that may arrive at a cluster: it is true, and of a domain that names the cluster
pub record MayArrive (header : Header) (cluster : ClusterNo) (shard : ℕ) (w : World) (sent : Message) : Type 0 where
  pub is_true : IsMessageTrue header shard w sent
  pub named : is_named header cluster w sent.batch.domain ≡ true

-- a job in which such a message arrives
pub record IsArrival (header : Header) (cluster : ClusterNo) (w : World) (asked : ShardJob) : Type 0 where
  pub sent : Message
  pub job : asked.job ≡ Arrive sent
  pub below : asked.shard < header.shards
  pub may : MayArrive header cluster asked.shard w sent

-- worlds that are kept, one after the other
pub kept-none : (header : Header) (lines : ℕ) (w : World) → IsReached header lines w → IsKept header lines w w
kept-none header lines w is = record { reached = is; batches = refl; tables = refl; queues = refl; links = refl }

pub kept-then : (header : Header) (lines : ℕ) (u v w : World) → IsKept header lines u v → IsKept header lines v w → IsKept header lines u w
kept-then header lines u v w one two = record {
  reached = two.reached;
  batches = two.batches ∙ one.batches;
  tables = two.tables ∙ one.tables;
  queues = two.queues ∙ one.queues;
  links = two.links ∙ one.links;
}

-- what may arrive may arrive still
pub may-still : (header : Header) (lines : ℕ) (w v : World) (cluster : ClusterNo) (shard : ℕ) (sent : Message) → IsKept header lines w v → MayArrive header cluster shard w sent → MayArrive header cluster shard v sent
may-still header lines w v cluster shard sent kept may = record {
  is_true = subst (λ (f : ℕ → List Batch). (batch_there (f shard) (place_of sent.batch) ≡ Some sent.batch)
      × (own_message (filter (is_of sent.batch.domain sent.batch.workflow) (f shard)) (f shard) sent.batch ≡ Some sent)) (sym kept.batches) may.is_true;
  named = subst (λ (t : ClusterNo → List DomainRecord). named_by header t cluster sent.batch.domain ≡ true) (sym kept.tables) may.named;
}

-- a world to whose cluster messages were brought: what had arrived there has arrived still, and other clusters' cells are as they were
pub record IsBrought (header : Header) (lines : ℕ) (cluster : ClusterNo) (w v : World) : Type 0 where
  pub kept : IsKept header lines w v
  pub grows : (shard : ℕ) (place : Place) (b : Batch) → batch_there (cell_at cluster shard w).arrived place ≡ Some b → batch_there (cell_at cluster shard v).arrived place ≡ Some b
  pub others : (other : ClusterNo) (shard : ℕ) → other.number ≢ cluster.number → cell_at other shard v ≡ cell_at other shard w

-- the batches of a message have arrived at a cluster
pub record HasCome (cluster : ClusterNo) (shard : ℕ) (v : World) (sent : Message) : Type 0 where
  pub batch : has_arrived sent.batch (cell_at cluster shard v) ≡ true
  pub second : (s : Batch) → sent.second ≡ Some s → has_arrived s (cell_at cluster shard v) ≡ true

pub brought-none : (header : Header) (lines : ℕ) (cluster : ClusterNo) (w : World) → IsReached header lines w → IsBrought header lines cluster w w
brought-none header lines cluster w is = record { kept = kept-none header lines w is; grows = λ shard place b h. h; others = λ other shard apart. refl }

pub brought-then : (header : Header) (lines : ℕ) (cluster : ClusterNo) (u v w : World) → IsBrought header lines cluster u v → IsBrought header lines cluster v w → IsBrought header lines cluster u w
brought-then header lines cluster u v w one two = record {
  kept = kept-then header lines u v w one.kept two.kept;
  grows = λ shard place b h. two.grows shard place b (one.grows shard place b h);
  others = λ other shard apart. two.others other shard apart ∙ one.others other shard apart;
}

-- what has arrived has arrived after what is brought
some-grows : (header : Header) (lines : ℕ) (cluster : ClusterNo) (w v : World) → IsBrought header lines cluster w v → (shard : ℕ) (b : Batch) → has_arrived b (cell_at cluster shard w) ≡ true → has_arrived b (cell_at cluster shard v) ≡ true
some-grows header lines cluster w v brought shard b h = by (batch_there (cell_at cluster shard w).arrived (place_of b)) refl h
  where
    by : (o : Option Batch) → batch_there (cell_at cluster shard w).arrived (place_of b) ≡ o → is_some o ≡ true → has_arrived b (cell_at cluster shard v) ≡ true
    by None e h = absurd (true≢false (sym h))
    by (Some x) e h = ap is_some (brought.grows shard (place_of b) x e)

pub come-still : (header : Header) (lines : ℕ) (cluster : ClusterNo) (w v : World) → IsBrought header lines cluster w v → (shard : ℕ) (sent : Message) → HasCome cluster shard w sent → HasCome cluster shard v sent
come-still header lines cluster w v brought shard sent come = record {
  batch = some-grows header lines cluster w v brought shard sent.batch come.batch;
  second = λ s e. some-grows header lines cluster w v brought shard s (come.second s e);
}

module _ (header : Header) (lines : ℕ) (cluster : ClusterNo) (known : IsCluster header cluster) where
  -- one message arrives
  pub one-arrives : (w : World) (shard : ℕ) (sent : Message) → IsReached header lines w → shard < header.shards → MayArrive header cluster shard w sent
      → IsBrought header lines cluster w (world_after header cluster (arrives shard sent ∷ []) w) × HasCome cluster shard (world_after header cluster (arrives shard sent ∷ []) w) sent
  unfolding cells_after after_job
  one-arrives w shard sent is below may = (
    record {
      kept = cell-grown header lines w is cluster shard known below new grown;
      grows = λ place at b. by-cell header lines w is cluster shard known below new grown (λ o p c. batch_there (cell_at o p w).arrived at ≡ Some b → batch_there c.arrived at ≡ Some b)
          (arrived-stays header lines w is cluster shard known below sent may.is_true may.named at b) cluster place (λ h. h);
      others = λ other place. by-cell header lines w is cluster shard known below new grown (λ o p c. o.number ≢ cluster.number → c ≡ cell_at o p w) (λ apart. absurd (apart refl)) other place (λ apart. refl);
    },
    record {
      batch = subst (λ (c : Cell). has_arrived sent.batch c ≡ true) (sym there) (arrived-itself header lines w is cluster shard known below sent may.is_true may.named);
      second = λ s e. subst (λ (c : Cell). has_arrived s c ≡ true) (sym there) (second-arrived header lines w is cluster shard known below sent may.is_true may.named s e);
    },
  )
    where
      new : Cell
      new = arrived_at sent (cell_at cluster shard w)

      grown : IsGrown header w shard cluster (cell_at cluster shard w) (arrived_at sent (cell_at cluster shard w))
      grown = arrival-grown header lines w is cluster shard known below sent may.is_true may.named

      there : cell_at cluster shard (with_cells cluster (slice_set (cluster_at cluster w).cells shard (arrived_at sent (cell_at cluster shard w))) w) ≡ arrived_at sent (cell_at cluster shard w)
      there =
          ap (λ (c : Cluster). cell_for shard c.cells) (cluster-there header cluster w is.shaped known (slice_set (cluster_at cluster w).cells shard (arrived_at sent (cell_at cluster shard w))))
          ∙ set-there (cluster_at cluster w).cells shard (arrived_at sent (cell_at cluster shard w)) empty_cell (omega (arith, below, cells-many w.clusters cluster.number is.shaped.cells (within header cluster w is.shaped known)))
        where
          cells-many : (clusters : List Cluster) (i : ℕ) → AllByRecursion (λ c. length c.cells ≡ header.shards) clusters → i < length clusters → length (slice_index_or clusters i (new_cluster 0)).cells ≡ header.shards
          cells-many [] i all less = absurd (omega (arith, less))
          cells-many (c ∷ cs) zero all less = all.0
          cells-many (c ∷ cs) (suc i) all less = cells-many cs i all.1 (omega (arith, less))
