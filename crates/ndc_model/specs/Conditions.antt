-- What must hold so that clusters may do the jobs of a move.
use Rattle.std.specs.Prelude.{List, [], ◌∷◌}
use Rattle.std.specs.List.{fold}
use Rattle.ndc_script_types.specs.declared.script.Header.{Header}
use Rattle.ndc_model_cells.specs.declared.job.ShardJob.{ShardJob}
use Rattle.ndc_domain.specs.declared.clusters.ClusterNo.{ClusterNo}
use Rattle.ndc_model.specs.Moves.{Trace, all_arrive, all_reapply, bootstrapped, by_link, due, due_arrived, flights_arrived, from_world, in_flight, merged_all, quietly, reapplied_all, sent_again, settled_once, without_flights}
use Rattle.ndc_model_cells.specs.Domains.{learned_of_domains}
use Rattle.ndc_model.specs.World.{World, all_clusters, cell_at, cluster_at, home_at, link_at, others_of, shards_of}
use Rattle.ndc_model_cells.specs.Conditions.{AreAllowed, Condition}

-- a cluster may do these jobs, each in the cells that those before it leave
abbrev pub MayDoAll : Condition → Header → ClusterNo → List ShardJob → World → Type 0
MayDoAll allows header cluster jobs w = AreAllowed allows (home_at header cluster w) jobs (cluster_at cluster w).cells

-- the jobs in which all arrives that is in flight to a reader
abbrev pub flight_jobs : Header → ClusterNo → World → List ShardJob
flight_jobs header reader w = all_arrive (by_link reader in_flight w.links) (shards_of header)

-- the jobs in which all arrives that is due to a reader
abbrev pub due_jobs : Header → ClusterNo → World → List ShardJob
due_jobs header reader w = all_arrive (by_link reader (due w) w.links) (shards_of header)

-- the jobs in which all arrives that a source has learned of the domains of which a reader is a member late
abbrev pub late_jobs : Header → ClusterNo → ClusterNo → World → List ShardJob
late_jobs header reader source w = all_arrive (λ shard. learned_of_domains (link_at reader source w).late (cell_at source shard w)) (shards_of header)

-- the jobs in which the ancestors of what is put off arrive, that have not arrived
abbrev pub again_jobs : Header → ClusterNo → World → List ShardJob
again_jobs header reader w = all_arrive (sent_again header reader w) (shards_of header)

-- a cluster may work: what is in flight to it may arrive, and then each cell may apply its strays again
pub record MayWork (allows : Condition) (header : Header) (reader : ClusterNo) (w : World) : Type 0 where
  pub arrive : MayDoAll allows header reader (flight_jobs header reader w) w
  pub reapply : MayDoAll allows header reader (all_reapply header) (flights_arrived header reader w).world

-- a condition holds before each step over a list
abbrev pub EachStep : {X Y : Type 0} → (Y → X → Type 0) → (Y → X → Y) → Y → List X → Type 0
EachStep holds step y [] = Unit {0}
EachStep holds step y (x ∷ xs) = holds y x × EachStep holds step (step y x) xs

-- the first parts of a round of settlement: tables are merged; members that are late take what they lack; what is due arrives
abbrev pub tables_merged : Header → World → World
tables_merged header w = fold (merged_all header) w (all_clusters header)

abbrev pub reader_bootstrapped : Header → Trace → ClusterNo → Trace
reader_bootstrapped header t reader = fold (bootstrapped header reader) t (others_of header reader)

abbrev pub all_bootstrapped : Header → Trace → Trace
all_bootstrapped header t = fold (reader_bootstrapped header) t (all_clusters header)

abbrev pub all_due_arrived : Header → Trace → Trace
all_due_arrived header t = fold (due_arrived header) t (all_clusters header)

-- a reader may take from each source what it lacks, one after the other
abbrev pub MayBootstrap : Condition → Header → Trace → ClusterNo → Type 0
MayBootstrap allows header t reader =
    EachStep (λ v source. MayDoAll allows header reader (late_jobs header reader source v.world) v.world) (bootstrapped header reader) t (others_of header reader)

-- the jobs of a round of settlement may be done, each after those before it
pub record MaySettleOnce (allows : Condition) (header : Header) (t : Trace) : Type 0 where
  pub bootstrap : EachStep (MayBootstrap allows header) (reader_bootstrapped header) (quietly (tables_merged header) t) (all_clusters header)
  pub due : EachStep (λ v reader. MayDoAll allows header reader (due_jobs header reader v.world) v.world) (due_arrived header)
      (all_bootstrapped header (quietly (tables_merged header) t)) (all_clusters header)
  pub reapply : EachStep (λ v cluster. MayDoAll allows header cluster (all_reapply header) v.world) (reapplied_all header)
      (all_due_arrived header (all_bootstrapped header (quietly (tables_merged header) t))) (all_clusters header)

-- the jobs of both rounds of a settlement may be done
pub record MaySettle (allows : Condition) (header : Header) (w : World) : Type 0 where
  pub first : MaySettleOnce allows header (from_world (without_flights w))
  pub second : MaySettleOnce allows header (settled_once header (from_world (without_flights w)))
