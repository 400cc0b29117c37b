-- How messages move: pulls, work, resending, bootstrap, settlement.
use Rattle.std.specs.Prelude.{ℕ, suc, not, List, [], ◌∷◌, ◌++◌, map, drop, slice_set, Option, Some, None, if◌then◌else◌, max}
use Rattle.std.specs.List.{filter, filter_map, flat_map, fold}
use Rattle.ndc_model_cells.specs.declared.job.Job.TheVariants.{Arrive, Reapply}
use Rattle.ndc_model_cells.specs.declared.job.Job.{Job}
use Rattle.ndc_model_cells.specs.declared.job.JobReply.{JobReply}
use Rattle.ndc_model_cells.specs.declared.job.ShardJob.{ShardJob}
use Rattle.ndc_model_cells.specs.declared.message.Message.{Message}
use Rattle.ndc_model_cells.specs.Arrival.{has_arrived}
use Rattle.ndc_model_cells.specs.Cells.{Cell, ancestry, both, own_message, put_off_in}
use Rattle.ndc_model_cells.specs.Jobs.{cells_after, replies_to}
use Rattle.ndc_model_cells.specs.Places.{in_order, is_of}
use Rattle.ndc_model_cells.specs.Writing.{same_cluster}
use Rattle.ndc_domain.specs.declared.clusters.ClusterNo.{ClusterNo}
use Rattle.ndc_domain.specs.Merge.{merged}
use Rattle.ndc_event.specs.declared.batch.Batch.{Batch}
use Rattle.ndc_script_types.specs.declared.script.Header.{Header}
use Rattle.ndc_queue.specs.Levels.{trim_level}
use Rattle.ndc_model.specs.Queues.{Lane, after_pull, after_renewal, after_rewind, is_addressed}
use Rattle.ndc_model.specs.World.{Link, World, all_clusters, cell_at, cluster_at, home_at, lane_at, lane_in, link_at, others_of, queue_at, shards_of, trimmed_at, with_cells, with_lane, with_link, with_table}
use Rattle.ndc_model_cells.specs.Domains.{learned_of_domains}

-- a list changed item by item, each by its place, counted from this one
abbrev pub map_from : {X Y : Type 0} → (ℕ → X → Y) → ℕ → List X → List Y
map_from f place [] = []
map_from f place (x ∷ xs) = f place x ∷ map_from f (suc place) xs

-- a lane after a pull: of all, or of at most so many entries
abbrev pub pulled_lane : World → Option ℕ → Link → ℕ → Lane → Lane
pulled_lane w count link shard lane = after_pull link.reader (cluster_at link.source w).table count (queue_at link.source shard w) lane

-- a pull for every shard
abbrev pub pulled_link : World → Link → Link
pulled_link w link = record link { lanes = map_from (pulled_lane w None link) 0 link.lanes }

-- a pull of a reader from a source
unfoldable pub pulled_all : ClusterNo → ClusterNo → World → World
pulled_all reader source w = with_link reader source (pulled_link w) w

-- a pull of a reader from a source for a shard, of at most so many entries
unfoldable pub pulled_shard : ClusterNo → ClusterNo → ℕ → ℕ → World → World
pulled_shard reader source shard count w = with_lane reader source shard (pulled_lane w (Some count) (link_at reader source w) shard (lane_at reader source shard w)) w

-- a lane whose levels are renewed
abbrev pub renewed_lane : World → Link → ℕ → Lane → Lane
renewed_lane w link shard lane = after_renewal link.reader (cluster_at link.source w).table (cell_at link.reader shard w) (queue_at link.source shard w) lane

-- the levels of a link are renewed, where it is this reader's
abbrev pub renewed_link : World → ClusterNo → Link → Link
renewed_link w reader link = if same_cluster link.reader reader then record link { lanes = map_from (renewed_lane w link) 0 link.lanes } else link

-- the levels of a reader are renewed, for each source and shard
unfoldable pub renewed : World → ClusterNo → World
renewed w reader = record w { links = map (renewed_link w reader) w.links }

-- what was read and is not done is read again, for every shard
unfoldable pub rewound : ClusterNo → ClusterNo → World → World
rewound reader source w = with_link reader source (λ link. record link { lanes = map after_rewind link.lanes }) w

-- how far the readers of a source are done for a shard, link by link
abbrev pub done_levels : ClusterNo → ℕ → List Link → List ℕ
done_levels source shard links = flat_map (λ link. if same_cluster link.source source then (lane_in link shard).levels.done ∷ [] else []) links

-- how far the queue of a source comes to be trimmed for a shard: never less than before
abbrev pub trimmed_level : ClusterNo → World → ℕ → ℕ
trimmed_level source w shard = max (trimmed_at source w shard) (trim_level (queue_at source shard w) (done_levels source shard w.links))

-- the queues of a source are trimmed
unfoldable pub trimmed_all : Header → ClusterNo → World → World
trimmed_all header source w = record w { trimmed = slice_set w.trimmed source.number (map (trimmed_level source w) (shards_of header)) }

-- a job that was done: the cluster that did it, and its reply
pub record Note : Type 0 where
  pub cluster : ClusterNo
  pub job : Job
  pub reply : JobReply

-- a world, and the jobs that led to it
pub record Trace : Type 0 where
  pub world : World
  pub notes : List Note

-- a world before any job
abbrev pub from_world : World → Trace
from_world w = record { world = w; notes = [] }

-- a change of the world that is not a job
abbrev pub quietly : (World → World) → Trace → Trace
quietly change t = record t { world = change t.world }

-- jobs with their replies
abbrev pub notes_of : ClusterNo → List ShardJob → List JobReply → List Note
notes_of cluster [] replies = []
notes_of cluster (asked ∷ jobs) [] = []
notes_of cluster (asked ∷ jobs) (reply ∷ replies) = record { cluster = cluster; job = asked.job; reply = reply } ∷ notes_of cluster jobs replies

-- a cluster does jobs, one after the other
unfoldable pub jobs_done : Header → ClusterNo → List ShardJob → Trace → Trace
jobs_done header cluster jobs t = record {
  world = with_cells cluster (cells_after (home_at header cluster t.world) jobs (cluster_at cluster t.world).cells) t.world;
  notes = t.notes ++ notes_of cluster jobs (replies_to (home_at header cluster t.world) jobs (cluster_at cluster t.world).cells);
}

-- the job in which a message arrives
abbrev pub arrives : ℕ → Message → ShardJob
arrives shard sent = record { shard = shard; job = Arrive sent }

-- the jobs in which messages arrive that are known by shard
abbrev pub all_arrive : (ℕ → List Message) → List ℕ → List ShardJob
all_arrive messages shards = flat_map (λ shard. map (arrives shard) (messages shard)) shards

-- the jobs in which each cell applies its strays again
abbrev pub all_reapply : Header → List ShardJob
all_reapply header = map (λ shard. record { shard = shard; job = Reapply }) (shards_of header)

-- what the links of a reader hold for a shard, link by link
abbrev pub by_link : ClusterNo → (ℕ → Link → List Message) → List Link → ℕ → List Message
by_link reader messages links shard = flat_map (λ link. if same_cluster link.reader reader then messages shard link else []) links

-- what is in flight over a link for a shard
abbrev pub in_flight : ℕ → Link → List Message
in_flight shard link = (lane_in link shard).flight

-- nothing is in flight in a lane
abbrev pub without_flight : Lane → Lane
without_flight lane = record lane { flight = [] }

-- nothing is in flight from a source to a reader
abbrev pub link_without_flights : Link → Link
link_without_flights link = record link { lanes = map without_flight link.lanes }

-- nothing is in flight to a reader
abbrev pub without_flights_to : ClusterNo → World → World
without_flights_to reader w = record w { links = map (λ link. if same_cluster link.reader reader then link_without_flights link else link) w.links }

-- all that is in flight to a reader arrives, by shard, then source, then place
unfoldable pub flights_arrived : Header → ClusterNo → World → Trace
flights_arrived header reader w = jobs_done header reader (all_arrive (by_link reader in_flight w.links) (shards_of header)) (from_world (without_flights_to reader w))

-- a cluster reapplies, by shard, then workflow
unfoldable pub reapplied_all : Header → Trace → ClusterNo → Trace
reapplied_all header t cluster = jobs_done header cluster (all_reapply header) t

-- a cluster works: what is in flight to it arrives, it reapplies, and its levels are renewed
unfoldable pub worked : Header → ClusterNo → World → Trace
worked header reader w = quietly (λ v. renewed v reader) (reapplied_all header (flights_arrived header reader w) reader)

-- all batches that any cluster has written in a shard, in order of place
abbrev pub all_written : Header → ℕ → World → List Batch
all_written header shard w = in_order (flat_map (λ cluster. flat_map both (cell_at cluster shard w).written) (all_clusters header))

-- the ancestors of a batch among these
abbrev pub ancestors_of : List Batch → Batch → List Batch
ancestors_of batches b = (ancestry b (filter (is_of b.domain b.workflow) batches)).path

-- the ancestors of what a cell has put off that have not arrived there, in order of place
abbrev pub missing_ancestors : List Batch → Cell → List Batch
missing_ancestors all cell = filter (λ b. not (has_arrived b cell)) (in_order (flat_map (ancestors_of all) (put_off_in cell)))

-- the messages of batches among all that was written, in order: a carried one comes with its carrier
abbrev pub messages_among : List Batch → List Batch → List Message
messages_among all batches = filter_map (λ b. own_message (filter (is_of b.domain b.workflow) all) all b) batches

-- what a reader is sent again for a shard
abbrev pub sent_again : Header → ClusterNo → World → ℕ → List Message
sent_again header reader w shard = messages_among (all_written header shard w) (missing_ancestors (all_written header shard w) (cell_at reader shard w))

-- all ancestors of what is put off arrive, by shard and place, and the levels are renewed
unfoldable pub resent : Header → ClusterNo → World → Trace
resent header reader w =
    quietly (λ v. renewed v reader) (jobs_done header reader (all_arrive (sent_again header reader w) (shards_of header)) (from_world w))

-- a reader takes from a source what this has learned of the domains of which it is a member late; then none is late, and its levels are renewed
unfoldable pub bootstrapped : Header → ClusterNo → Trace → ClusterNo → Trace
bootstrapped header reader t source =
    quietly (λ v. renewed v reader)
    (quietly (with_link reader source (λ link. record link { late = [] }))
    (jobs_done header reader (all_arrive (λ shard. learned_of_domains (link_at reader source t.world).late (cell_at source shard t.world)) (shards_of header)) t))

-- a cluster merges the tables of all others, in header order
abbrev pub merged_all : Header → World → ClusterNo → World
merged_all header w cluster =
    fold (λ v other. with_table cluster (merged (cluster_at cluster v).table (cluster_at other v).table) v) w (others_of header cluster)

-- what is due over a link for a shard: the entries of the queue from `done` on that are addressed to the reader
abbrev pub due : World → ℕ → Link → List Message
due w shard link = filter (is_addressed link.reader (cluster_at link.source w).table) (drop (lane_in link shard).levels.done (queue_at link.source shard w))

-- all that is due to a reader arrives, by shard, then source
unfoldable pub due_arrived : Header → Trace → ClusterNo → Trace
due_arrived header t reader = jobs_done header reader (all_arrive (by_link reader (due t.world) t.world.links) (shards_of header)) t

-- one round of settlement: tables are merged, members that are late take what they lack, what is due arrives, and all reapply
unfoldable pub settled_once : Header → Trace → Trace
settled_once header t =
    fold (reapplied_all header)
    (fold (due_arrived header)
    (fold (λ v reader. fold (bootstrapped header reader) v (others_of header reader))
    (quietly (λ w. fold (merged_all header) w (all_clusters header)) t) (all_clusters header)) (all_clusters header)) (all_clusters header)

-- nothing is in flight
abbrev pub without_flights : World → World
without_flights w = record w { links = map link_without_flights w.links }

-- settlement: two rounds, and then all levels are renewed
unfoldable pub after_settlement : Header → World → Trace
after_settlement header w = quietly (λ v. fold renewed v (all_clusters header)) (settled_once header (settled_once header (from_world (without_flights w))))
