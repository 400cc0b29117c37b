-- Steps that leave each cluster's table.
use Rattle.std.proofs.Common.{◌≡◌, ℕ, Bool, true, false, List, [], ◌∷◌, ◌++◌, Option, Some, None, Result, Ok, Err, slice_index_or, if◌then◌else◌, refl, sym, ◌∙◌, ap}
use Rattle.std.specs.Prelude.{codes, remove, slice_get}
use Rattle.std.specs.List.{filter_map}
use Rattle.ndc_script_types.specs.WellFormed.{IsCluster}
use Rattle.ndc_script_types.specs.declared.script.Header.{Header}
use Rattle.ndc_model_cells.specs.declared.job.ShardJob.{ShardJob}
use Rattle.ndc_model_cells.specs.declared.message.Message.{Message}
use Rattle.ndc_command.specs.declared.command.Command.{Command}
use Rattle.ndc_command.specs.declared.refusal.CommandError.{CommandError}
use Rattle.ndc_domain.specs.Records.{IsTable}
use Rattle.ndc_domain.specs.declared.clusters.ClusterNo.{ClusterNo}
use Rattle.ndc_event.specs.declared.name.Name.{Name}
use Rattle.ndc_letters.specs.Letters.{is_whole, letter_of}
use Rattle.ndc_letters.specs.declared.letter.Letter.{Letter}
use Rattle.ndc_model.specs.Letters.{damage_at, damage_step, damaged, letter_job, letters_merged, mergeletters_step, purge_step, with_letters}
use Rattle.ndc_model.specs.Moves.{Trace, bootstrapped, due_arrived, flights_arrived, from_world, jobs_done, pulled_all, pulled_shard, reapplied_all, renewed, resent, rewound, trimmed_all, without_flights_to, worked}
use Rattle.ndc_model.specs.Progress.{beat_by, beat_step, beat_unless, sync_step, told_of}
use Rattle.ndc_model.specs.Sending.{flight_step, pull_some_step, pull_step, resend_step, trim_step, work_step}
use Rattle.ndc_model.specs.Steps.{answered, command_step, reset_step}
use Rattle.ndc_model.specs.Texts.{ok}
use Rattle.ndc_model.specs.World.{Cluster, World, cell_of, cluster_at, flight_at, home_at, new_cluster, with_cluster, with_flight}
use Rattle.ndc_model.proofs.WorldLemmas.{set-cases}
use Rattle.ndc_progress.specs.Reports.{held, stale_by}
use Rattle.ndc_progress.specs.declared.report.ActivityRef.{ActivityRef}

-- each cluster has the same table in another world
abbrev pub TablesStay : World → World → Type 0
TablesStay w v = (one : ClusterNo) → (cluster_at one v).table ≡ (cluster_at one w).table

-- each cluster of the header has a table as it should be
abbrev pub AreTables : Header → World → Type 0
AreTables header w = (cluster : ClusterNo) → IsCluster header cluster → IsTable (cluster_at cluster w).table

-- a cluster with the same table takes the place of another
pub cluster-stays : (cluster : ClusterNo) (new : Cluster) (w : World) → new.table ≡ (cluster_at cluster w).table → TablesStay w (with_cluster cluster new w)
cluster-stays cluster new w same one =
    set-cases (λ (c : Cluster). c.table ≡ (cluster_at one w).table) w.clusters cluster.number one.number new (new_cluster 0)
    (λ at. same ∙ ap (λ (n : ℕ). (slice_index_or w.clusters n (new_cluster 0)).table) (sym at)) refl

-- jobs
pub jobs-stay : (header : Header) (cluster : ClusterNo) (jobs : List ShardJob) (t : Trace) → TablesStay t.world (jobs_done header cluster jobs t).world
unfolding jobs_done
jobs-stay header cluster jobs t = cluster-stays cluster _ t.world refl

pub reapplied-stay : (header : Header) (t : Trace) (cluster : ClusterNo) → TablesStay t.world (reapplied_all header t cluster).world
unfolding reapplied_all
reapplied-stay header t cluster = jobs-stay header cluster _ t

pub due-stay : (header : Header) (t : Trace) (reader : ClusterNo) → TablesStay t.world (due_arrived header t reader).world
unfolding due_arrived
due-stay header t reader = jobs-stay header reader _ t

pub bootstrap-stay : (header : Header) (reader : ClusterNo) (t : Trace) (source : ClusterNo) → TablesStay t.world (bootstrapped header reader t source).world
unfolding bootstrapped renewed
bootstrap-stay header reader t source = jobs-stay header reader _ t

pub renewed-stay : (w : World) (reader : ClusterNo) → TablesStay w (renewed w reader)
unfolding renewed
renewed-stay w reader one = refl

-- lines that write
pub command-stay : (header : Header) (cluster : ClusterNo) (domain workflow : Name) (command : Command) (w : World) → TablesStay w (command_step header cluster domain workflow command w).world
unfolding command_step
command-stay header cluster domain workflow command w = jobs-stay header cluster _ (from_world w)

pub reset-stay : (header : Header) (cluster : ClusterNo) (domain workflow : Name) (event : ℕ) (w : World) → TablesStay w (reset_step header cluster domain workflow event w).world
unfolding reset_step
reset-stay header cluster domain workflow event w = jobs-stay header cluster _ (from_world w)

-- lines on queues
pub pull-stay : (reader source : ClusterNo) (w : World) → TablesStay w (pull_step reader source w).world
unfolding pulled_all
pull-stay reader source w one = refl

pub pull-some-stay : (reader source : ClusterNo) (shard count : ℕ) (w : World) → TablesStay w (pull_some_step reader source shard count w).world
unfolding pulled_shard
pull-some-stay reader source shard count w one = refl

pub flight-stay : (reader source : ClusterNo) (shard : ℕ) (w : World) (flight : Option (List Message)) → TablesStay w (flight_step reader source shard w flight).world
flight-stay reader source shard w None one = refl
flight-stay reader source shard w (Some flight) one = refl

pub rewound-stay : (reader source : ClusterNo) (w : World) → TablesStay w (rewound reader source w)
unfolding rewound
rewound-stay reader source w one = refl

pub trim-stay : (header : Header) (source : ClusterNo) (w : World) → TablesStay w (trim_step header source w).world
unfolding trimmed_all
trim-stay header source w one = refl

pub flights-stay : (header : Header) (reader : ClusterNo) (w : World) → TablesStay w (flights_arrived header reader w).world
unfolding flights_arrived
flights-stay header reader w = jobs-stay header reader _ (from_world (without_flights_to reader w))

pub work-stay : (header : Header) (cluster : ClusterNo) (w : World) → TablesStay w (work_step header cluster w).world
unfolding worked renewed
work-stay header cluster w one = reapplied-stay header (flights_arrived header cluster w) cluster one ∙ flights-stay header cluster w one

pub resend-stay : (header : Header) (cluster : ClusterNo) (w : World) → TablesStay w (resend_step header cluster w).world
unfolding resent renewed
resend-stay header cluster w = jobs-stay header cluster _ (from_world w)

-- lines on letters
pub damage-stay : (reader source : ClusterNo) (shard place cut : ℕ) (w : World) → TablesStay w (damage_step reader source shard place cut w).world
damage-stay reader source shard place cut w one = by (slice_get (flight_at reader source shard w) place)
  where
    of-letter : (letter : Letter) → (cluster_at one (damaged reader source shard place w letter).world).table ≡ (cluster_at one w).table
    of-letter letter = elim (is_whole letter) as (λ (t : Bool). (cluster_at one (if t then answered w (ok (codes "whole" ∷ []))
        else answered (with_letters reader ((cluster_at reader w).letters ++ letter ∷ []) (with_flight reader source shard (remove (flight_at reader source shard w) place) w)) (ok (codes "aside" ∷ []))).world).table ≡ (cluster_at one w).table) [
          | true ↦ refl
          | false ↦ cluster-stays reader (record (cluster_at reader w) { letters = (cluster_at reader w).letters ++ letter ∷ [] }) (with_flight reader source shard (remove (flight_at reader source shard w) place) w) refl one
        ]

    by : (o : Option Message) → (cluster_at one (damage_at reader source shard place cut w o).world).table ≡ (cluster_at one w).table
    by None = refl
    by (Some sent) = of-letter (letter_of source cut sent.batch)

pub purge-stay : (reader : ClusterNo) (w : World) → TablesStay w (purge_step reader w).world
purge-stay reader w = cluster-stays reader (record (cluster_at reader w) { letters = [] }) w refl

pub mergeletters-stay : (header : Header) (reader : ClusterNo) (w : World) → TablesStay w (mergeletters_step header reader w).world
unfolding letters_merged renewed
mergeletters-stay header reader w one =
    cluster-stays reader (record (cluster_at reader came) { letters = [] }) came refl one ∙ jobs-stay header reader (filter_map (letter_job header w) (cluster_at reader w).letters) (from_world w) one
  where
    came : World
    came = (jobs_done header reader (filter_map (letter_job header w) (cluster_at reader w).letters) (from_world w)).world

-- lines on progress
pub beat-stay : (header : Header) (cluster : ClusterNo) (domain workflow id details : Name) (w : World) → TablesStay w (beat_step header cluster domain workflow id details w).world
beat-stay header cluster domain workflow id details w one = by (told_of (home_at header cluster w) domain workflow id (cell_of header cluster domain workflow w))
  where
    unless : (version : ℕ) (activity : ActivityRef) (o : Option ℕ) → (cluster_at one (beat_unless cluster version activity details w o).world).table ≡ (cluster_at one w).table
    unless version activity (Some stale) = refl
    unless version activity None = cluster-stays cluster _ w refl one

    by : (r : Result (ℕ × ActivityRef) CommandError) → (cluster_at one (beat_by cluster details w r).world).table ≡ (cluster_at one w).table
    by (Err error) = refl
    by (Ok told) = unless told.0 told.1 (stale_by told.0 (held told.1 (cluster_at cluster w).reports))

pub sync-stay : (to from : ClusterNo) (w : World) → TablesStay w (sync_step to from w).world
sync-stay to from w = cluster-stays to _ w refl
