-- The author of a batch has learned it.
use Rattle.std.specs.List.{flat_map}
use Rattle.std.proofs.Common.{ℕ, ◌<◌, List, [], Option, ◌⊎◌, inl, inr, sym, subst}
use Rattle.ndc_script_types.specs.WellFormed.{IsCluster}
use Rattle.ndc_script_types.specs.declared.script.Header.{Header}
use Rattle.ndc_model.specs.Again.{cell_by}
use Rattle.ndc_model_cells.specs.Cells.{both, learned_of}
use Rattle.ndc_domain.specs.Clusters.{count_of, writer_of}
use Rattle.ndc_domain.specs.declared.clusters.ClusterNo.{ClusterNo}
use Rattle.ndc_event.specs.declared.batch.Batch.{Batch}
use Rattle.ndc_laws_reached.proofs.WrittenLemmas.{flat-among, in_order-among}
use Rattle.ndc_model.specs.Facts.{IsReached}
use Rattle.ndc_model.specs.Fair.{IsOwn}
use Rattle.ndc_model.specs.Moves.{all_written}
use Rattle.ndc_model.specs.World.{World, all_clusters, cell_at, cluster_at}
use Rattle.ndc_model.proofs.FairLemmas.{clusters-among}
use Rattle.ndc_model_sets.specs.Sets.{Has}
use Rattle.ndc_model_sets.proofs.Lists.{Among, all-among}

module _ (header : Header) (lines : ℕ) (w : World) (is : IsReached header lines w) (shard : ℕ) (below : shard < header.shards) where
  abbrev all : List Batch
  all = all_written header shard w

  -- a batch that was written is one of a cluster's own
  pub record HasAuthor (b : Batch) : Type 0 where
    pub author : ClusterNo
    pub known : IsCluster header author
    pub own : IsOwn header author shard (cluster_at author w).table (cell_at author shard w) b

  pub has-author : (b : Batch) → Among b all → HasAuthor b
  has-author b among = by (in_order-among (flat_map (λ c. flat_map both (cell_at c shard w).written) (all_clusters header)) [] b among)
    where
      by : Among b [] ⊎ Among b (flat_map (λ c. flat_map both (cell_at c shard w).written) (all_clusters header)) → HasAuthor b
      by (inl none) = absurd none
      by (inr there) =
          let f = flat-among (λ c. flat_map both (cell_at c shard w).written) (all_clusters header) b there in
          let known : IsCluster header f.0 = clusters-among (count_of header.clusters) f.0 f.1 in
          record {
            author = f.0;
            known = known;
            own = all-among (IsOwn header f.0 shard (cluster_at f.0 w).table (cell_at f.0 shard w)) (flat_map both (cell_at f.0 shard w).written) b (is.fair.writers f.0 shard known below) f.2;
          }

  pub author-learned : (b : Batch) → Among b all → Has (learned_of b.domain b.workflow (cell_by shard w (writer_of header.clusters b.key.version))) b
  author-learned b among =
      let h = has-author b among in
      subst (λ (o : Option ClusterNo). Has (learned_of b.domain b.workflow (cell_by shard w o)) b) (sym h.own.version) h.own.learned
