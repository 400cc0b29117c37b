-- Steps that write nothing below the versions of records.
use Rattle.std.proofs.Common.{◌≡◌, ℕ, Bool, true, false, List, [], ◌∷◌, ◌++◌, ◌⊎◌, inl, inr, Option, Some, None, Result, Ok, Err, if◌then◌else◌, refl, sym, ◌∙◌, subst, ap, arith}
use Rattle.std.specs.List.{AllByRecursion, filter_map, flat_map}
use Rattle.std.specs.Prelude.{codes, is_some, remove, slice_get}
use Rattle.ndc_script_types.specs.declared.script.Header.{Header}
use Rattle.ndc_model_cells.specs.Cells.{Cell, both}
use Rattle.ndc_model_cells.specs.Jobs.{cell_for, cells_after}
use Rattle.ndc_model_cells.specs.declared.job.ShardJob.{ShardJob}
use Rattle.ndc_model_cells.specs.declared.message.Message.{Message}
use Rattle.ndc_command.specs.declared.command.Command.{Command}
use Rattle.ndc_command.specs.declared.refusal.CommandError.{CommandError}
use Rattle.ndc_domain.specs.Merge.{merged}
use Rattle.ndc_domain.specs.Records.{only_of}
use Rattle.ndc_domain.specs.declared.clusters.ClusterNo.{ClusterNo}
use Rattle.ndc_domain.specs.declared.record.DomainRecord.{DomainRecord}
use Rattle.ndc_domain.specs.declared.record.JoinError.{JoinError}
use Rattle.ndc_event.specs.declared.batch.Batch.{Batch}
use Rattle.ndc_event.specs.declared.name.Name.{Name}
use Rattle.ndc_laws_reached.proofs.ManyLemmas.{among-flat}
use Rattle.ndc_laws_reached.proofs.WrittenLemmas.{flat-among}
use Rattle.ndc_laws.specs.Grown.{TablesGrow}
use Rattle.ndc_laws.proofs.AboveLemmas.{HoldsOfWritten, IsAbove, cells-kept}
use Rattle.ndc_laws.proofs.GrowLemmas.{stay-grow}
use Rattle.ndc_laws.proofs.StayLemmas.{flights-stay, jobs-stay}
use Rattle.ndc_graceful.specs.Begin.{begin_of}
use Rattle.ndc_graceful.specs.declared.handover.BeginError.{BeginError}
use Rattle.ndc_graceful.specs.declared.handover.Handover.{Handover}
use Rattle.ndc_graceful.specs.declared.handover.ReadyError.{ReadyError}
use Rattle.ndc_graceful.specs.declared.handover.ReadyError.TheVariants.{BootstrapDue, NotYet, Overtaken}
use Rattle.ndc_letters.specs.Letters.{is_whole, letter_of}
use Rattle.ndc_letters.specs.declared.letter.Letter.{Letter}
use Rattle.ndc_model.specs.Handovers.{complete_by, complete_open, complete_step, handover_begun, handover_step, handover_to, open_handover, queue_ends, ready_in}
use Rattle.ndc_model.specs.Letters.{damage_at, damage_step, damaged, letter_job, letters_merged, mergeletters_step, purge_step, with_letters}
use Rattle.ndc_model.specs.Moves.{Trace, bootstrapped, due_arrived, flights_arrived, from_world, jobs_done, pulled_all, pulled_shard, reapplied_all, renewed, resent, rewound, trimmed_all, without_flights_to, worked}
use Rattle.ndc_model.specs.Progress.{beat_by, beat_step, beat_unless, sync_step, told_of}
use Rattle.ndc_model.specs.Sending.{flight_step, pull_some_step, pull_step, resend_step, trim_step, work_step}
use Rattle.ndc_model.specs.Steps.{answered, command_step, reset_step}
use Rattle.ndc_model.specs.Tables.{join_step, table_step}
use Rattle.ndc_model.specs.Texts.{ok, refused}
use Rattle.ndc_model.specs.World.{Cluster, World, cell_at, cell_of, cluster_at, flight_at, home_at, new_cluster, queue_at, with_cluster, with_flight, with_table}
use Rattle.ndc_model.proofs.ListLemmas.{all-weaker}
use Rattle.ndc_model.proofs.WorldLemmas.{cells-cases, set-cases}
use Rattle.ndc_progress.specs.Reports.{held, stale_by}
use Rattle.ndc_progress.specs.declared.report.ActivityRef.{ActivityRef}
use Rattle.ndc_model_sets.proofs.Lists.{Among, all-among, all-from}

-- a batch was written in the cell of a cluster for a shard, or has no lower version than the cluster's record
abbrev pub WasOrIsAbove : World → ClusterNo → ℕ → Batch → Type 0
WasOrIsAbove w cluster shard b = Among b (flat_map both (queue_at cluster shard w)) ⊎ IsAbove (cluster_at cluster w).table b

-- each batch written in another world was written before, or has no lower version than its writer's record had
abbrev pub WritesAbove : World → World → Type 0
WritesAbove w v = (cluster : ClusterNo) (shard : ℕ) → HoldsOfWritten (WasOrIsAbove w cluster shard) (cell_at cluster shard v)

-- each queue is the same in another world
abbrev pub QueuesStay : World → World → Type 0
QueuesStay w v = (cluster : ClusterNo) (shard : ℕ) → queue_at cluster shard v ≡ queue_at cluster shard w

pub above-none : (w : World) → WritesAbove w w
above-none w cluster shard =
    all-from (λ sent. AllByRecursion (WasOrIsAbove w cluster shard) (both sent)) (queue_at cluster shard w)
    (λ sent among. all-from (WasOrIsAbove w cluster shard) (both sent) (λ b there. inl (among-flat both (queue_at cluster shard w) sent b among there)))

pub stay-above : (w v : World) → QueuesStay w v → WritesAbove w v
stay-above w v stay cluster shard = subst (λ (q : List Message). AllByRecursion (λ sent. AllByRecursion (WasOrIsAbove w cluster shard) (both sent)) q) (sym (stay cluster shard)) (above-none w cluster shard)

-- of a batch in a queue
pub above-one : (w v : World) → WritesAbove w v → (cluster : ClusterNo) (shard : ℕ) (b : Batch) → Among b (flat_map both (queue_at cluster shard v)) → WasOrIsAbove w cluster shard b
above-one w v above cluster shard b among =
    let f = flat-among both (queue_at cluster shard v) b among in
    all-among (WasOrIsAbove w cluster shard) (both f.0) b (all-among (λ sent. AllByRecursion (WasOrIsAbove w cluster shard) (both sent)) (queue_at cluster shard v) f.0 (above cluster shard) f.1) f.2

pub above-then : (u v w : World) → TablesGrow u v → WritesAbove u v → WritesAbove v w → WritesAbove u w
above-then u v w grown first second cluster shard =
    all-weaker (λ sent. AllByRecursion (WasOrIsAbove v cluster shard) (both sent)) (λ sent. AllByRecursion (WasOrIsAbove u cluster shard) (both sent))
    (λ sent. all-weaker (WasOrIsAbove v cluster shard) (WasOrIsAbove u cluster shard) each (both sent)) (queue_at cluster shard w) (second cluster shard)
  where
    each : (b : Batch) → WasOrIsAbove v cluster shard b → WasOrIsAbove u cluster shard b
    each b (inl among) = above-one u v first cluster shard b among
    each b (inr above) =
        inr
        (λ old h.
        let g = grown cluster b.domain old h in
        let grew = g.2.version in
        let least = above g.0 g.1 in
        omega (arith, grew, least))

-- a cluster with the same cells takes the place of another
pub cluster-queues : (cluster : ClusterNo) (new : Cluster) (w : World) → new.cells ≡ (cluster_at cluster w).cells → QueuesStay w (with_cluster cluster new w)
cluster-queues cluster new w same one shard =
    set-cases (λ (c : Cluster). (cell_for shard c.cells).written ≡ queue_at one shard w) w.clusters cluster.number one.number new (new_cluster 0)
    (λ at. ap (λ (cells : List Cell). (cell_for shard cells).written) same ∙ ap (λ (n : ℕ). queue_at (record { number = n }) shard w) (sym at)) refl

pub table-queues : (cluster : ClusterNo) (table : List DomainRecord) (w : World) → QueuesStay w (with_table cluster table w)
unfolding with_table
table-queues cluster table w = cluster-queues cluster (record (cluster_at cluster w) { table = table }) w refl

-- jobs
pub jobs-above : (header : Header) (cluster : ClusterNo) (jobs : List ShardJob) (t : Trace) → WritesAbove t.world (jobs_done header cluster jobs t).world
unfolding jobs_done
jobs-above header cluster jobs t one shard =
    cells-cases (HoldsOfWritten (WasOrIsAbove t.world one shard)) cluster one shard after t.world
    (λ at. let same : cluster ≡ one = λ i. record { number = sym at i } in
    subst (λ (c : ClusterNo). HoldsOfWritten (WasOrIsAbove t.world c shard) (cell_for shard after)) same
    (cells-kept (home_at header cluster t.world) (WasOrIsAbove t.world cluster) (λ s b above. inr above) jobs (cluster_at cluster t.world).cells (above-none t.world cluster) shard))
    (above-none t.world one shard)
  where
    after : List Cell
    after = cells_after (home_at header cluster t.world) jobs (cluster_at cluster t.world).cells

pub reapplied-above : (header : Header) (t : Trace) (cluster : ClusterNo) → WritesAbove t.world (reapplied_all header t cluster).world
unfolding reapplied_all
reapplied-above header t cluster = jobs-above header cluster _ t

pub due-above : (header : Header) (t : Trace) (reader : ClusterNo) → WritesAbove t.world (due_arrived header t reader).world
unfolding due_arrived
due-above header t reader = jobs-above header reader _ t

pub bootstrap-above : (header : Header) (reader : ClusterNo) (t : Trace) (source : ClusterNo) → WritesAbove t.world (bootstrapped header reader t source).world
unfolding bootstrapped renewed
bootstrap-above header reader t source = jobs-above header reader _ t

pub renewed-above : (w : World) (reader : ClusterNo) → WritesAbove w (renewed w reader)
unfolding renewed
renewed-above w reader = above-none w

-- lines that write
pub command-above : (header : Header) (cluster : ClusterNo) (domain workflow : Name) (command : Command) (w : World) → WritesAbove w (command_step header cluster domain workflow command w).world
unfolding command_step
command-above header cluster domain workflow command w = jobs-above header cluster _ (from_world w)

pub reset-above : (header : Header) (cluster : ClusterNo) (domain workflow : Name) (event : ℕ) (w : World) → WritesAbove w (reset_step header cluster domain workflow event w).world
unfolding reset_step
reset-above header cluster domain workflow event w = jobs-above header cluster _ (from_world w)

-- lines on queues
pub pull-above : (reader source : ClusterNo) (w : World) → WritesAbove w (pull_step reader source w).world
unfolding pulled_all
pull-above reader source w = above-none w

pub pull-some-above : (reader source : ClusterNo) (shard count : ℕ) (w : World) → WritesAbove w (pull_some_step reader source shard count w).world
unfolding pulled_shard
pull-some-above reader source shard count w = above-none w

pub flight-above : (reader source : ClusterNo) (shard : ℕ) (w : World) (flight : Option (List Message)) → WritesAbove w (flight_step reader source shard w flight).world
flight-above reader source shard w None = above-none w
flight-above reader source shard w (Some flight) = above-none w

pub rewound-above : (reader source : ClusterNo) (w : World) → WritesAbove w (rewound reader source w)
unfolding rewound
rewound-above reader source w = above-none w

pub trim-above : (header : Header) (source : ClusterNo) (w : World) → WritesAbove w (trim_step header source w).world
unfolding trimmed_all
trim-above header source w = above-none w

flights-above : (header : Header) (reader : ClusterNo) (w : World) → WritesAbove w (flights_arrived header reader w).world
unfolding flights_arrived
flights-above header reader w = jobs-above header reader _ (from_world (without_flights_to reader w))

pub work-above : (header : Header) (cluster : ClusterNo) (w : World) → WritesAbove w (work_step header cluster w).world
unfolding worked renewed
work-above header cluster w =
    above-then w (flights_arrived header cluster w).world (reapplied_all header (flights_arrived header cluster w) cluster).world (stay-grow w (flights_arrived header cluster w).world (flights-stay header cluster w))
    (flights-above header cluster w) (reapplied-above header (flights_arrived header cluster w) cluster)

pub resend-above : (header : Header) (cluster : ClusterNo) (w : World) → WritesAbove w (resend_step header cluster w).world
unfolding resent renewed
resend-above header cluster w = jobs-above header cluster _ (from_world w)

-- lines on letters
damage-queues : (reader source : ClusterNo) (shard place cut : ℕ) (w : World) → QueuesStay w (damage_step reader source shard place cut w).world
damage-queues reader source shard place cut w one in_shard = by (slice_get (flight_at reader source shard w) place)
  where
    of-letter : (letter : Letter) → queue_at one in_shard (damaged reader source shard place w letter).world ≡ queue_at one in_shard w
    of-letter letter = elim (is_whole letter) as (λ (t : Bool). queue_at one in_shard (if t then answered w (ok (codes "whole" ∷ []))
        else answered (with_letters reader ((cluster_at reader w).letters ++ letter ∷ []) (with_flight reader source shard (remove (flight_at reader source shard w) place) w)) (ok (codes "aside" ∷ []))).world ≡ queue_at one in_shard w) [
          | true ↦ refl
          | false ↦ cluster-queues reader (record (cluster_at reader w) { letters = (cluster_at reader w).letters ++ letter ∷ [] }) (with_flight reader source shard (remove (flight_at reader source shard w) place) w) refl one in_shard
        ]

    by : (o : Option Message) → queue_at one in_shard (damage_at reader source shard place cut w o).world ≡ queue_at one in_shard w
    by None = refl
    by (Some sent) = of-letter (letter_of source cut sent.batch)

pub damage-above : (reader source : ClusterNo) (shard place cut : ℕ) (w : World) → WritesAbove w (damage_step reader source shard place cut w).world
damage-above reader source shard place cut w = stay-above w (damage_step reader source shard place cut w).world (damage-queues reader source shard place cut w)

pub purge-above : (reader : ClusterNo) (w : World) → WritesAbove w (purge_step reader w).world
purge-above reader w = stay-above w (purge_step reader w).world (cluster-queues reader (record (cluster_at reader w) { letters = [] }) w refl)

pub mergeletters-above : (header : Header) (reader : ClusterNo) (w : World) → WritesAbove w (mergeletters_step header reader w).world
unfolding letters_merged renewed
mergeletters-above header reader w =
    above-then w came (with_letters reader [] came) (stay-grow w came (jobs-stay header reader jobs (from_world w))) (jobs-above header reader jobs (from_world w))
    (stay-above came (with_letters reader [] came) (cluster-queues reader (record (cluster_at reader came) { letters = [] }) came refl))
  where
    jobs : List ShardJob
    jobs = filter_map (letter_job header w) (cluster_at reader w).letters

    came : World
    came = (jobs_done header reader jobs (from_world w)).world

-- lines on progress
beat-queues : (header : Header) (cluster : ClusterNo) (domain workflow id details : Name) (w : World) → QueuesStay w (beat_step header cluster domain workflow id details w).world
beat-queues header cluster domain workflow id details w one shard = by (told_of (home_at header cluster w) domain workflow id (cell_of header cluster domain workflow w))
  where
    unless : (version : ℕ) (activity : ActivityRef) (o : Option ℕ) → queue_at one shard (beat_unless cluster version activity details w o).world ≡ queue_at one shard w
    unless version activity (Some stale) = refl
    unless version activity None = cluster-queues cluster _ w refl one shard

    by : (r : Result (ℕ × ActivityRef) CommandError) → queue_at one shard (beat_by cluster details w r).world ≡ queue_at one shard w
    by (Err error) = refl
    by (Ok told) = unless told.0 told.1 (stale_by told.0 (held told.1 (cluster_at cluster w).reports))

pub beat-above : (header : Header) (cluster : ClusterNo) (domain workflow id details : Name) (w : World) → WritesAbove w (beat_step header cluster domain workflow id details w).world
beat-above header cluster domain workflow id details w = stay-above w (beat_step header cluster domain workflow id details w).world (beat-queues header cluster domain workflow id details w)

pub sync-above : (to from : ClusterNo) (w : World) → WritesAbove w (sync_step to from w).world
sync-above to from w = stay-above w (sync_step to from w).world (cluster-queues to _ w refl)

-- a table takes the place of a cluster's
pub table-above : (cluster : ClusterNo) (table : List DomainRecord) (w : World) → WritesAbove w (with_table cluster table w)
table-above cluster table w = stay-above w (with_table cluster table w) (table-queues cluster table w)

-- lines on tables
pub table-step-above : {E : Type 0} (words : E → List (List ℕ)) (at : ClusterNo) (w : World) (r : Result (ℕ × List DomainRecord) E) → WritesAbove w (table_step words at w r).world
table-step-above words at w (Ok answer) = table-above at answer.1 w
table-step-above words at w (Err error) = above-none w

pub join-above : (at : ClusterNo) (w : World) (r : Result (List DomainRecord) JoinError) → WritesAbove w (join_step at w r).world
join-above at w (Ok table) = table-above at table w
join-above at w (Err error) = above-none w

pub handover-above : (header : Header) (at target : ClusterNo) (domain : Name) (w : World) → WritesAbove w (handover_step header at domain target w).world
unfolding handover_step
handover-above header at target domain w = by (is_some (open_handover domain w))
  where
    begun : (r : Result (Handover × List DomainRecord) BeginError) → WritesAbove w (handover_begun at w r).world
    begun (Ok answer) = table-above at answer.1 w
    begun (Err error) = above-none w

    by : (t : Bool)
        → WritesAbove w (if t then answered w (refused (codes "HandoverOpen" ∷ [])) else handover_begun at w (begin_of header.clusters at domain target (queue_ends header at w) (cluster_at at w).table)).world
    by true = above-none w
    by false = begun (begin_of header.clusters at domain target (queue_ends header at w) (cluster_at at w).table)

pub complete-above : (at : ClusterNo) (domain : Name) (w : World) → WritesAbove w (complete_step at domain w).world
unfolding complete_step
complete-above at domain w = by (handover_to at domain w)
  where
    completed : (handover : Handover) (r : Result (Unit {0}) ReadyError) → WritesAbove w (complete_by handover w r).world
    completed handover (Ok ready) = table-above handover.to (merged (cluster_at handover.to w).table (only_of (cluster_at handover.from w).table handover.domain)) w
    completed handover (Err (Overtaken version)) = above-none w
    completed handover (Err BootstrapDue) = above-none w
    completed handover (Err (NotYet shard done place)) = above-none w

    by : (o : Option Handover) → WritesAbove w (complete_open w o).world
    by None = above-none w
    by (Some handover) = completed handover (ready_in handover w)
