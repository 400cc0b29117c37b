-- Lines that are not on progress reports leave those that clusters have.
use Rattle.std.proofs.Common.{◌≡◌, ℕ, zero, suc, Bool, true, false, List, [], ◌∷◌, ◌++◌, map, codes, slice_get, slice_index_or, slice_set, remove, Option, Some, None, Result, Ok, Err, refl, ◌∙◌, ap, if◌then◌else◌}
use Rattle.std.specs.Prelude.{is_some}
use Rattle.std.specs.List.{filter_map, fold}
use Rattle.ndc_script_types.specs.declared.script.Act.{Act}
use Rattle.ndc_script_types.specs.declared.script.Act.TheVariants as act
use Rattle.ndc_script_types.specs.declared.script.Header.{Header}
use Rattle.ndc_model_cells.specs.declared.job.ShardJob.{ShardJob}
use Rattle.ndc_model_cells.specs.declared.message.Message.{Message}
use Rattle.ndc_domain.specs.Merge.{merged}
use Rattle.ndc_domain.specs.Records.{failover_of, join_of, only_of, register_of, retain_of}
use Rattle.ndc_domain.specs.declared.clusters.ClusterNo.{ClusterNo}
use Rattle.ndc_domain.specs.declared.record.DomainRecord.{DomainRecord}
use Rattle.ndc_domain.specs.declared.record.JoinError.{JoinError}
use Rattle.ndc_event.specs.declared.name.Name.{Name}
use Rattle.ndc_graceful.specs.Begin.{begin_of}
use Rattle.ndc_graceful.specs.declared.handover.BeginError.{BeginError}
use Rattle.ndc_graceful.specs.declared.handover.Handover.{Handover}
use Rattle.ndc_graceful.specs.declared.handover.ReadyError.{ReadyError}
use Rattle.ndc_graceful.specs.declared.handover.ReadyError.TheVariants.{BootstrapDue, NotYet, Overtaken}
use Rattle.ndc_letters.specs.declared.letter.Letter.{Letter}
use Rattle.ndc_letters.specs.Letters.{is_whole, letter_of}
use Rattle.ndc_model.specs.Handovers.{complete_by, complete_open, complete_step, handover_begun, handover_step, handover_to, open_handover, queue_ends, ready_in}
use Rattle.ndc_model.specs.Letters.{damage_at, damaged, letter_job, letters_merged, with_letters}
use Rattle.ndc_model.specs.Lines.{act_step}
use Rattle.ndc_model.specs.Moves.{Trace, after_settlement, all_reapply, bootstrapped, due_arrived, flights_arrived, from_world, jobs_done, merged_all, pulled_all, pulled_shard, quietly, reapplied_all, renewed, resent, rewound, settled_once, trimmed_all, without_flights, without_flights_to, worked}
use Rattle.ndc_model.specs.Sending.{flight_step}
use Rattle.ndc_model.specs.Steps.{Stepped, answered, command_step, reset_step, writing_step}
use Rattle.ndc_model.specs.Tables.{failover_words, join_step, register_words, retain_words, table_step}
use Rattle.ndc_model.specs.Texts.{ok, refused}
use Rattle.ndc_model.specs.World.{Cluster, World, all_clusters, cluster_at, flight_at, new_cluster, others_of, with_flight, with_table}
use Rattle.ndc_queue.specs.Lists.{after_loss, after_move, after_repeat}
use Rattle.ndc_model.specs.Bare.{is_on_reports}
use Rattle.ndc_model.specs.Standing.{reports_of}
use Rattle.ndc_progress.specs.declared.report.Report.{Report}

-- a cluster takes the place of another that has the same reports
put-keeps : (clusters : List Cluster) (i : ℕ) (c : Cluster) → c.reports ≡ (slice_index_or clusters i (new_cluster 0)).reports
    → map (λ (d : Cluster). d.reports) (slice_set clusters i c) ≡ map (λ (d : Cluster). d.reports) clusters
put-keeps [] i c e = refl
put-keeps (d ∷ clusters) zero c e = ap (λ (l : List Report). l ∷ map (λ (b : Cluster). b.reports) clusters) e
put-keeps (d ∷ clusters) (suc i) c e = ap (λ l. d.reports ∷ l) (put-keeps clusters i c e)

table-keeps : (cluster : ClusterNo) (table : List DomainRecord) (w : World) → reports_of (with_table cluster table w) ≡ reports_of w
unfolding with_table
table-keeps cluster table w = put-keeps w.clusters cluster.number (record (cluster_at cluster w) { table = table }) refl

letters-keep : (cluster : ClusterNo) (letters : List Letter) (w : World) → reports_of (with_letters cluster letters w) ≡ reports_of w
letters-keep cluster letters w = put-keeps w.clusters cluster.number (record (cluster_at cluster w) { letters = letters }) refl

-- folds over what keeps reports
fold-keeps : {X : Type 0} (f : World → X → World) → ((w : World) (x : X) → reports_of (f w x) ≡ reports_of w) → (w : World) (xs : List X) → reports_of (fold f w xs) ≡ reports_of w
fold-keeps f same w [] = refl
fold-keeps f same w (x ∷ xs) = fold-keeps f same (f w x) xs ∙ same w x

trace-keeps : {X : Type 0} (f : Trace → X → Trace) → ((t : Trace) (x : X) → reports_of (f t x).world ≡ reports_of t.world) → (t : Trace) (xs : List X) → reports_of (fold f t xs).world ≡ reports_of t.world
trace-keeps f same t [] = refl
trace-keeps f same t (x ∷ xs) = trace-keeps f same (f t x) xs ∙ same t x

module _ (header : Header) where
  jobs-keep : (cluster : ClusterNo) (jobs : List ShardJob) (t : Trace) → reports_of (jobs_done header cluster jobs t).world ≡ reports_of t.world
  unfolding jobs_done
  jobs-keep cluster jobs t = put-keeps t.world.clusters cluster.number _ refl

  reapply-keeps : (t : Trace) (cluster : ClusterNo) → reports_of (reapplied_all header t cluster).world ≡ reports_of t.world
  unfolding reapplied_all
  reapply-keeps t cluster = jobs-keep cluster (all_reapply header) t

  arrival-keeps : (reader : ClusterNo) (w : World) → reports_of (flights_arrived header reader w).world ≡ reports_of w
  unfolding flights_arrived
  arrival-keeps reader w = jobs-keep reader _ (from_world (without_flights_to reader w))

  work-keeps : (reader : ClusterNo) (w : World) → reports_of (worked header reader w).world ≡ reports_of w
  unfolding worked renewed
  work-keeps reader w = reapply-keeps (flights_arrived header reader w) reader ∙ arrival-keeps reader w

  resend-keeps : (reader : ClusterNo) (w : World) → reports_of (resent header reader w).world ≡ reports_of w
  unfolding resent renewed
  resend-keeps reader w = jobs-keep reader _ (from_world w)

  bootstrap-keeps : (reader : ClusterNo) (t : Trace) (source : ClusterNo) → reports_of (bootstrapped header reader t source).world ≡ reports_of t.world
  unfolding bootstrapped renewed
  bootstrap-keeps reader t source = jobs-keep reader _ t

  due-keeps : (t : Trace) (reader : ClusterNo) → reports_of (due_arrived header t reader).world ≡ reports_of t.world
  unfolding due_arrived
  due-keeps t reader = jobs-keep reader _ t

  merge-keeps : (w : World) (cluster : ClusterNo) → reports_of (merged_all header w cluster) ≡ reports_of w
  merge-keeps w cluster =
      fold-keeps (λ v other. with_table cluster (merged (cluster_at cluster v).table (cluster_at other v).table) v)
      (λ v other. table-keeps cluster (merged (cluster_at cluster v).table (cluster_at other v).table) v) w (others_of header cluster)

  once-keeps : (t : Trace) → reports_of (settled_once header t).world ≡ reports_of t.world
  unfolding settled_once
  once-keeps t =
      trace-keeps (reapplied_all header) reapply-keeps (fold (due_arrived header) (fold boot merged_trace (all_clusters header)) (all_clusters header)) (all_clusters header)
      ∙ trace-keeps (due_arrived header) due-keeps (fold boot merged_trace (all_clusters header)) (all_clusters header)
      ∙ trace-keeps boot (λ v reader. trace-keeps (bootstrapped header reader) (bootstrap-keeps reader) v (others_of header reader)) merged_trace (all_clusters header)
      ∙ fold-keeps (merged_all header) merge-keeps t.world (all_clusters header)
    where
      boot : Trace → ClusterNo → Trace
      boot v reader = fold (bootstrapped header reader) v (others_of header reader)

      merged_trace : Trace
      merged_trace = quietly (λ w. fold (merged_all header) w (all_clusters header)) t

  renew-keeps : (w : World) (reader : ClusterNo) → reports_of (renewed w reader) ≡ reports_of w
  unfolding renewed
  renew-keeps w reader = refl

  settle-keeps : (w : World) → reports_of (after_settlement header w).world ≡ reports_of w
  unfolding after_settlement
  settle-keeps w =
      fold-keeps renewed renew-keeps (settled_once header (settled_once header (from_world (without_flights w)))).world (all_clusters header)
      ∙ once-keeps (settled_once header (from_world (without_flights w)))
      ∙ once-keeps (from_world (without_flights w))

  letter-merge-keeps : (reader : ClusterNo) (w : World) → reports_of (letters_merged header reader w).world ≡ reports_of w
  unfolding letters_merged renewed
  letter-merge-keeps reader w = letters-keep reader [] (jobs_done header reader (filter_map (letter_job header w) (cluster_at reader w).letters) (from_world w)).world ∙ jobs-keep reader _ (from_world w)

  writing-keeps : (cluster : ClusterNo) (asked : ShardJob) (w : World) → reports_of (writing_step header cluster asked w).world ≡ reports_of w
  writing-keeps cluster asked w = jobs-keep cluster (asked ∷ []) (from_world w)

module _ (w : World) where
  table-step-keeps : {E : Type 0} (words : E → List (List ℕ)) (cluster : ClusterNo) (r : Result (ℕ × List DomainRecord) E) → reports_of (table_step words cluster w r).world ≡ reports_of w
  table-step-keeps words cluster (Ok answer) = table-keeps cluster answer.1 w
  table-step-keeps words cluster (Err error) = refl

  join-step-keeps : (cluster : ClusterNo) (r : Result (List DomainRecord) JoinError) → reports_of (join_step cluster w r).world ≡ reports_of w
  join-step-keeps cluster (Ok table) = table-keeps cluster table w
  join-step-keeps cluster (Err error) = refl

  flight-keeps : (reader source : ClusterNo) (shard : ℕ) (flight : Option (List Message)) → reports_of (flight_step reader source shard w flight).world ≡ reports_of w
  flight-keeps reader source shard None = refl
  flight-keeps reader source shard (Some flight) = refl

  begun-keeps : (at : ClusterNo) (r : Result (Handover × List DomainRecord) BeginError) → reports_of (handover_begun at w r).world ≡ reports_of w
  begun-keeps at (Ok begun) = table-keeps at begun.1 w
  begun-keeps at (Err error) = refl

  handover-keeps : (header : Header) (at : ClusterNo) (domain : Name) (target : ClusterNo) → reports_of (handover_step header at domain target w).world ≡ reports_of w
  unfolding handover_step
  handover-keeps header at domain target = by (is_some (open_handover domain w))
    where
      begun : Stepped
      begun = handover_begun at w (begin_of header.clusters at domain target (queue_ends header at w) (cluster_at at w).table)

      by : (t : Bool) → reports_of (if t then answered w (refused (codes "HandoverOpen" ∷ [])) else begun).world ≡ reports_of w
      by true = refl
      by false = begun-keeps at (begin_of header.clusters at domain target (queue_ends header at w) (cluster_at at w).table)

  complete-by-keeps : (handover : Handover) (r : Result (Unit {0}) ReadyError) → reports_of (complete_by handover w r).world ≡ reports_of w
  complete-by-keeps handover (Ok ready) = table-keeps handover.to (merged (cluster_at handover.to w).table (only_of (cluster_at handover.from w).table handover.domain)) w
  complete-by-keeps handover (Err (Overtaken version)) = refl
  complete-by-keeps handover (Err BootstrapDue) = refl
  complete-by-keeps handover (Err (NotYet shard done place)) = refl

  complete-open-keeps : (o : Option Handover) → reports_of (complete_open w o).world ≡ reports_of w
  complete-open-keeps None = refl
  complete-open-keeps (Some handover) = complete-by-keeps handover (ready_in handover w)

  complete-keeps : (at : ClusterNo) (domain : Name) → reports_of (complete_step at domain w).world ≡ reports_of w
  unfolding complete_step
  complete-keeps at domain = complete-open-keeps (handover_to at domain w)

  damaged-keeps : (reader source : ClusterNo) (shard place : ℕ) (letter : Letter) → reports_of (damaged reader source shard place w letter).world ≡ reports_of w
  damaged-keeps reader source shard place letter = by (is_whole letter)
    where
      aside : World
      aside = with_flight reader source shard (remove (flight_at reader source shard w) place) w

      by : (t : Bool) → reports_of (if t then answered w (ok (codes "whole" ∷ [])) else answered (with_letters reader ((cluster_at reader w).letters ++ letter ∷ []) aside) (ok (codes "aside" ∷ []))).world ≡ reports_of w
      by true = refl
      by false = letters-keep reader ((cluster_at reader w).letters ++ letter ∷ []) aside

  damage-keeps : (reader source : ClusterNo) (shard place cut : ℕ) (o : Option Message) → reports_of (damage_at reader source shard place cut w o).world ≡ reports_of w
  damage-keeps reader source shard place cut None = refl
  damage-keeps reader source shard place cut (Some sent) = damaged-keeps reader source shard place (letter_of source cut sent.batch)

-- every line that is not on progress reports
pub line-keeps : (header : Header) (line : Act) (w : World) → is_on_reports line ≡ false → reports_of (act_step header line w).world ≡ reports_of w
unfolding act_step command_step reset_step rewound pulled_all pulled_shard trimmed_all
line-keeps header (act.Command cluster domain workflow command) w other = writing-keeps header cluster _ w
line-keeps header (act.Register at domain target days members) w other = table-step-keeps w register_words at (register_of header.clusters at domain target days members (cluster_at at w).table)
line-keeps header (act.Retain at domain days) w other = table-step-keeps w retain_words at (retain_of at domain days (cluster_at at w).table)
line-keeps header (act.Join at domain member) w other = join-step-keeps w at (join_of at domain member (cluster_at at w).table)
line-keeps header (act.Failover at domain target) w other = table-step-keeps w failover_words at (failover_of header.clusters domain target (cluster_at at w).table)
line-keeps header (act.Domains to from) w other = table-keeps to (merged (cluster_at to w).table (cluster_at from w).table) w
line-keeps header (act.Lose reader source shard place) w other = flight-keeps w reader source shard (after_loss place (flight_at reader source shard w))
line-keeps header (act.Repeat reader source shard place) w other = flight-keeps w reader source shard (after_repeat place (flight_at reader source shard w))
line-keeps header (act.Move reader source shard place to) w other = flight-keeps w reader source shard (after_move place to (flight_at reader source shard w))
line-keeps header (act.Work cluster) w other = work-keeps header cluster w
line-keeps header (act.Resend cluster) w other = resend-keeps header cluster w
line-keeps header (act.Bootstrap reader source) w other = bootstrap-keeps header reader (from_world w) source
line-keeps header act.Settle w other = settle-keeps header w
line-keeps header (act.Handover at domain target) w other = handover-keeps w header at domain target
line-keeps header (act.Complete at domain) w other = complete-keeps w at domain
line-keeps header (act.Reset cluster domain workflow event) w other = writing-keeps header cluster _ w
line-keeps header (act.Damage reader source shard place cut) w other = damage-keeps w reader source shard place cut (slice_get (flight_at reader source shard w) place)
line-keeps header (act.Purge reader) w other = letters-keep reader [] w
line-keeps header (act.MergeLetters reader) w other = letter-merge-keeps header reader w
line-keeps header (act.Beat cluster domain workflow id details) w other = absurd (cc)
line-keeps header (act.Sync to from) w other = absurd (cc)
line-keeps header _ w other = refl
