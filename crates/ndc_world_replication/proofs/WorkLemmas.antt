-- A world of which one cluster is another.
use Rattle.std.proofs.Common.{◌≡◌, ◌<◌, true, false, [], List, ◌++◌, length, map, get_or, set, refl, ap, sym, ◌∙◌}
use Rattle.std.proofs.Math.Seq.{map-set_same}
use Rattle.std.proofs.lemmas.List.{map-set, set-get_or}
use Rattle.ndc_model_cells.specs.Cells.{Cell}
use Rattle.ndc_model_cells.specs.Jobs.{cells_after, replies_to}
use Rattle.ndc_model_cells.specs.declared.job.JobReply.{JobReply}
use Rattle.ndc_model_cells.specs.declared.job.ShardJob.{ShardJob}
use Rattle.ndc_model_cells.specs.Writing.{Desk, same_cluster}
use Rattle.ndc_domain.specs.declared.clusters.ClusterNo.{ClusterNo}
use Rattle.ndc_domain.specs.declared.record.DomainRecord.{DomainRecord}
use Rattle.ndc_graceful.specs.declared.handover.Handover.{Handover}
use Rattle.ndc_letters.specs.declared.letter.Letter.{Letter}
use Rattle.ndc_model.specs.Letters.{with_letters}
use Rattle.ndc_model.specs.World.{Cluster, Link, World, cluster_at, new_cluster, newly_naming, with_cells, with_cluster, with_late, with_table}
use Rattle.ndc_world_replication.proofs.LinkLemmas.{stands}
use Rattle.ndc_world_replication.specs.Replications.{StandsAt, world_of}
use Rattle.ndc_world_replication.specs.Publishers.{PublisherValue, with_publisher_cells}

-- where there is no job, a cluster's cells stay, and none is replied to
pub no_job_done : (home : Desk) (jobs : List ShardJob) (cluster : ClusterNo) (w : World) → jobs ≡ [] → w ≡ with_cells cluster (cells_after home jobs (cluster_at cluster w).cells) w
unfolding cells_after
no_job_done home jobs cluster w none =
    sym (ap (λ (list : List ShardJob). with_cells cluster (cells_after home list (cluster_at cluster w).cells) w) none
    ∙ ap (λ (clusters : List Cluster). record w { clusters = clusters }) (set-get_or w.clusters cluster.number (new_cluster 0)))

pub no_job_replied : (home : Desk) (jobs : List ShardJob) (cells : List Cell) (replies : List JobReply) → jobs ≡ [] → replies ≡ [] → replies ≡ replies_to home jobs cells
unfolding replies_to
no_job_replied home jobs cells replies none empty = empty ∙ sym (ap (λ (list : List ShardJob). replies_to home list cells) none)

module _ (publishers : List PublisherValue) (links : List Link) (handovers : List Handover) (cluster : ClusterNo) (publisher : PublisherValue)
    (below : cluster.number < length publishers) (at : publisher ≡ get_or publishers cluster.number publisher) where
  -- one cluster is changed, its queues are trimmed as before, and nothing else is changed
  pub cluster_change : (change : Cluster → Cluster) → world_of (set publishers cluster.number (record publisher { cluster = change publisher.cluster })) links handovers
      ≡ with_cluster cluster (change (cluster_at cluster (world_of publishers links handovers))) (world_of publishers links handovers)
  cluster_change change =
      let own : StandsAt (world_of publishers links handovers) cluster publisher = stands publishers links handovers cluster publisher below at in
      let new : PublisherValue = record publisher { cluster = change publisher.cluster } in
      let changed : map (λ (s : PublisherValue). s.cluster) (set publishers cluster.number new) ≡ set (map (λ (s : PublisherValue). s.cluster) publishers) cluster.number (change (cluster_at cluster (world_of publishers links handovers))) =
      map-set (λ (s : PublisherValue). s.cluster) publishers cluster.number new ∙ ap (λ (c : Cluster). set (map (λ (s : PublisherValue). s.cluster) publishers) cluster.number (change c)) (sym own.cluster_is) in
      let kept : map (λ (s : PublisherValue). s.trimmed) (set publishers cluster.number new) ≡ map (λ (s : PublisherValue). s.trimmed) publishers =
      map-set_same (λ (s : PublisherValue). s.trimmed) publishers cluster.number new publisher (ap (λ (s : PublisherValue). s.trimmed) at) in
      λ i. record { clusters = changed i; links = links; trimmed = kept i; handovers = handovers }

  pub cells_change : (cells : List Cell) → world_of (set publishers cluster.number (with_publisher_cells cells publisher)) links handovers ≡ with_cells cluster cells (world_of publishers links handovers)
  cells_change cells = cluster_change (λ (c : Cluster). record c { cells = cells })

  pub letters_change : (letters : List Letter) → world_of (set publishers cluster.number (record publisher { cluster = record publisher.cluster { letters = letters } })) links handovers ≡ with_letters cluster letters (world_of publishers links handovers)
  letters_change letters = cluster_change (λ (c : Cluster). record c { letters = letters })

  -- its table is another, and the links become those of readers that noted what comes to name them
  pub table_change : (table : List DomainRecord) → world_of (set publishers cluster.number (record publisher { cluster = record publisher.cluster { table = table } })) (map (with_late cluster publisher.cluster.table table) links) handovers
      ≡ with_table cluster table (world_of publishers links handovers)
  unfolding with_table
  table_change table =
      let own : StandsAt (world_of publishers links handovers) cluster publisher = stands publishers links handovers cluster publisher below at in
      ap (λ (w : World). record w { links = map (with_late cluster publisher.cluster.table table) links }) (cluster_change (λ (c : Cluster). record c { table = table }))
      ∙ ap (λ (c : Cluster). record (with_cluster cluster (record (cluster_at cluster (world_of publishers links handovers)) { table = table }) (world_of publishers links handovers)) { links = map (with_late cluster c.table table) links }) (sym own.cluster_is)

-- the readers of a source note what comes to name them
pub late_own : (source : ClusterNo) (before after : List DomainRecord) (link : Link) → same_cluster link.source source ≡ true → record link { late = link.late ++ newly_naming link.reader before after } ≡ with_late source before after link
late_own source before after link own = rw own refl

-- those of other sources do not
pub late_other : (source : ClusterNo) (before after : List DomainRecord) (link : Link) → same_cluster link.source source ≡ false → link ≡ with_late source before after link
late_other source before after link other = rw other refl
