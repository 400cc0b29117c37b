-- Lines that are not on progress reports do not look at them.
use Rattle.std.proofs.Common.{◌≡◌, ℕ, suc, Bool, true, false, List, [], ◌∷◌, ◌++◌, ◌-◌, length, map, sum, decimal, codes, slice_get, remove, Option, Some, None, Result, Ok, Err, refl, ◌∙◌, ap, if◌then◌else◌}
use Rattle.std.specs.Prelude.{is_some, option_map}
use Rattle.std.specs.List.{cons_option, filter, filter_map, flat_map}
use Rattle.ndc_script_types.specs.declared.script.Act.{Act}
use Rattle.ndc_script_types.specs.declared.script.Act.TheVariants as act
use Rattle.ndc_script_types.specs.declared.script.Header.{Header}
use Rattle.ndc_model_cells.specs.declared.job.Job.TheVariants as job
use Rattle.ndc_model_cells.specs.declared.job.ShardJob.{ShardJob}
use Rattle.ndc_model_cells.specs.declared.message.Message.{Message}
use Rattle.ndc_model_cells.specs.Cells.{arrived_of, is_learned_in, learned_of, message_at, missing_of, put_off_in}
use Rattle.ndc_model_cells.specs.Jobs.{cell_for, outcome_of}
use Rattle.ndc_model_cells.specs.Places.{is_of}
use Rattle.ndc_model_cells.specs.Shards.{shard_of}
use Rattle.ndc_domain.specs.Merge.{merge_count, merged}
use Rattle.ndc_domain.specs.Records.{failover_of, join_of, only_of, record_of, register_of, retain_of}
use Rattle.ndc_domain.specs.declared.clusters.ClusterNo.{ClusterNo}
use Rattle.ndc_domain.specs.declared.record.DomainRecord.{DomainRecord}
use Rattle.ndc_domain.specs.declared.record.JoinError.{JoinError}
use Rattle.ndc_event.specs.declared.batch.Batch.{Batch}
use Rattle.ndc_event.specs.declared.name.Name.{Name}
use Rattle.ndc_graceful.specs.Begin.{begin_of}
use Rattle.ndc_graceful.specs.Ready.{ready_of}
use Rattle.ndc_graceful.specs.declared.handover.BeginError.{BeginError}
use Rattle.ndc_graceful.specs.declared.handover.Handover.{Handover}
use Rattle.ndc_graceful.specs.declared.handover.ReadyError.{ReadyError}
use Rattle.ndc_graceful.specs.declared.handover.ReadyError.TheVariants.{BootstrapDue, NotYet, Overtaken}
use Rattle.ndc_letters.specs.declared.letter.Letter.{Letter}
use Rattle.ndc_letters.specs.Letters.{is_whole, letter_of, place_of_letter}
use Rattle.ndc_model.specs.Handovers.{complete_by, complete_open, complete_step, handed_over, handover_begun, handover_step, handover_to, levels_of, open_handover, queue_ends, ready_in, taken_version, version_or_zero, with_handover, without_handover}
use Rattle.ndc_model.specs.Letters.{damage_at, damaged, letter_job, letters_answer, letters_merged, purge_step, with_letters}
use Rattle.ndc_model.specs.Lines.{act_step}
use Rattle.ndc_model.specs.Moves.{Trace, arrives, from_world, jobs_done, map_from, pulled_all, pulled_shard, quietly, renewed, rewound, trimmed_all, trimmed_level}
use Rattle.ndc_model.specs.Reading.{branches_answer, compare_answer, current_answer, dump_answer, history_answer, learned_at, read_answer, state_answer}
use Rattle.ndc_model.specs.Sending.{arrived_words, flight_step, gap_line, gap_lines, gaps_answer, levels_answer, missing_text, pull_count, pull_some_step, pull_step, trim_step, work_words}
use Rattle.ndc_model.specs.Steps.{answered, applied_by, command_step, learned_by, moved, outcome_answer, reset_step, seen_of, total, writing_step}
use Rattle.ndc_model.specs.Tables.{domain_answer, domains_step, failover_words, join_step, members_answer, register_words, retain_words, table_step}
use Rattle.ndc_model.specs.Queues.{Lane, put_in_flight}
use Rattle.ndc_queue.specs.Lists.{after_loss, after_move, after_repeat}
use Rattle.ndc_model.specs.Texts.{ok, refused}
use Rattle.ndc_history.specs.Common.{item_or_zero}
use Rattle.ndc_model_sets.specs.Paths.{first_id, last_item_of, path_to}
use Rattle.ndc_state.specs.Replay.{history_of}
use Rattle.ndc_text.specs.Views.{item_text, key_text}
use Rattle.ndc_model.specs.World.{Link, World, cell_at, cluster_at, home_at, flight_at, is_late_in, lane_at, link_at, shards_of, trimmed_at, with_flight, with_table}
use Rattle.ndc_model.specs.Bare.{bare, bare_step, bare_trace, is_on_reports}
use Rattle.ndc_laws_jobs.proofs.MoveLemmas.{all-written-bare, bootstrap-bare, changed-bare, flat-same, jobs-bare, level-bare, map-same, pull-bare, pull-some-bare, renew-bare, resend-bare, same-at, settle-bare, table-bare, trim-bare, work-bare}

-- functions that agree on each item pick alike
picked-same : {X Y : Type 0} (f g : X → Option Y) → ((x : X) → f x ≡ g x) → (xs : List X) → filter_map f xs ≡ filter_map g xs
picked-same {X} {Y} f g same [] = refl
picked-same {X} {Y} f g same (x ∷ xs) = by (f x) (g x) (same x) (picked-same f g same xs)
  where
    by : (o p : Option Y) → o ≡ p → filter_map f xs ≡ filter_map g xs → cons_option o (filter_map f xs) ≡ cons_option p (filter_map g xs)
    by o p e rest = ap (λ q. cons_option q (filter_map f xs)) e ∙ ap (cons_option p) rest

module _ (header : Header) (w : World) where
  writing-bare : (cluster : ClusterNo) (asked : ShardJob) → writing_step header cluster asked (bare w) ≡ bare_step (writing_step header cluster asked w)
  writing-bare cluster asked =
      ap (λ (t : Trace). record {
        world = t.world;
        answer = outcome_answer (outcome_of (home_at header cluster (bare w)) asked.job (cell_at cluster asked.shard (bare w)));
        seen = seen_of t.notes;
      }) (jobs-bare header cluster (asked ∷ []) (from_world w))
      ∙ same-at w (λ c. record {
        world = bare (jobs_done header cluster (asked ∷ []) (from_world w)).world;
        answer = outcome_answer (outcome_of (record { clusters = header.clusters; me = cluster; limit = header.limit; table = c.table }) asked.job (cell_for asked.shard c.cells));
        seen = seen_of (jobs_done header cluster (asked ∷ []) (from_world w)).notes;
      }) cluster (λ c. refl)

  -- what a change of a table answers
  table-step-bare : {E : Type 0} (words : E → List (List ℕ)) (cluster : ClusterNo) (r : Result (ℕ × List DomainRecord) E) → table_step words cluster (bare w) r ≡ bare_step (table_step words cluster w r)
  table-step-bare words cluster (Ok answer) = ap (λ v. answered v (ok (decimal answer.0 ∷ []))) (table-bare w cluster answer.1)
  table-step-bare words cluster (Err error) = refl

  join-step-bare : (cluster : ClusterNo) (r : Result (List DomainRecord) JoinError) → join_step cluster (bare w) r ≡ bare_step (join_step cluster w r)
  join-step-bare cluster (Ok table) = ap (λ v. answered v (ok [])) (table-bare w cluster table)
  join-step-bare cluster (Err error) = refl

  -- what is made of a cluster's table
  on-table : {X : Type 0} (f : List DomainRecord → X) (cluster : ClusterNo) → f (cluster_at cluster (bare w)).table ≡ f (cluster_at cluster w).table
  on-table f cluster = same-at w (λ c. f c.table) cluster (λ c. refl)

  on-learned : {X : Type 0} (f : List Batch → X) (cluster : ClusterNo) (domain workflow : Name) → f (learned_at header cluster domain workflow (bare w)) ≡ f (learned_at header cluster domain workflow w)
  on-learned f cluster domain workflow = same-at w (λ c. f (learned_of domain workflow (cell_for (shard_of domain workflow header.shards) c.cells))) cluster (λ c. refl)

  flight-bare : (reader source : ClusterNo) (shard : ℕ) (flight : Option (List Message)) → flight_step reader source shard (bare w) flight ≡ bare_step (flight_step reader source shard w flight)
  flight-bare reader source shard None = refl
  flight-bare reader source shard (Some flight) = refl

  -- how much a pull puts in flight
  count-bare : (count : Option ℕ) (link : Link) (shard : ℕ) (lane : Lane) → pull_count (bare w) count link shard lane ≡ pull_count w count link shard lane
  count-bare count link shard lane = same-at w (λ c. length (put_in_flight link.reader c.table count (cell_for shard c.cells).written lane)) link.source (λ c. refl)

  counts-bare : (link : Link) (shard : ℕ) (lanes : List Lane) → map_from (pull_count (bare w) None link) shard lanes ≡ map_from (pull_count w None link) shard lanes
  counts-bare link shard [] = refl
  counts-bare link shard (lane ∷ lanes) =
      ap (λ n. n ∷ map_from (pull_count (bare w) None link) (suc shard) lanes) (count-bare None link shard lane)
      ∙ ap (λ l. pull_count w None link shard lane ∷ l) (counts-bare link (suc shard) lanes)

  pull-step-bare : (reader source : ClusterNo) → pull_step reader source (bare w) ≡ bare_step (pull_step reader source w)
  pull-step-bare reader source =
      ap (λ v. answered v (ok (decimal (sum (map_from (pull_count (bare w) None (link_at reader source w)) 0 (link_at reader source w).lanes)) ∷ []))) (pull-bare w reader source)
      ∙ ap (λ (l : List ℕ). answered (bare (pulled_all reader source w)) (ok (decimal (sum l) ∷ []))) (counts-bare (link_at reader source w) 0 (link_at reader source w).lanes)

  pull-some-step-bare : (reader source : ClusterNo) (shard count : ℕ) → pull_some_step reader source shard count (bare w) ≡ bare_step (pull_some_step reader source shard count w)
  pull-some-step-bare reader source shard count =
      ap (λ v. answered v (ok (decimal (pull_count (bare w) (Some count) (link_at reader source w) shard (lane_at reader source shard w)) ∷ []))) (pull-some-bare w reader source shard count)
      ∙ ap (λ (n : ℕ). answered (bare (pulled_shard reader source shard count w)) (ok (decimal n ∷ []))) (count-bare (Some count) (link_at reader source w) shard (lane_at reader source shard w))

  trim-step-bare : (source : ClusterNo) → trim_step header source (bare w) ≡ bare_step (trim_step header source w)
  trim-step-bare source =
      ap (λ v. answered v (ok (decimal (sum (map (λ shard. trimmed_level source (bare w) shard - trimmed_at source w shard) (shards_of header))) ∷ []))) (trim-bare w header source)
      ∙ ap (λ (l : List ℕ). answered (bare (trimmed_all header source w)) (ok (decimal (sum l) ∷ [])))
      (map-same (λ shard. trimmed_level source (bare w) shard - trimmed_at source w shard) (λ shard. trimmed_level source w shard - trimmed_at source w shard)
      (λ shard. ap (λ n. n - trimmed_at source w shard) (level-bare w source shard)) (shards_of header))

  levels-bare : (reader source : ClusterNo) (shard : ℕ) → levels_answer reader source shard (bare w) ≡ levels_answer reader source shard w
  levels-bare reader source shard =
      same-at w (λ c. ok (codes "queue" ∷ decimal (length (cell_for shard c.cells).written) ∷ codes "trimmed" ∷ decimal (trimmed_at source w shard)
      ∷ codes "read" ∷ decimal (lane_at reader source shard w).levels.read ∷ codes "done" ∷ decimal (lane_at reader source shard w).levels.done
      ∷ codes "flight" ∷ decimal (length (flight_at reader source shard w)) ∷ [])) source (λ c. refl)

  domains-bare : (to from : ClusterNo) → domains_step to from (bare w) ≡ bare_step (domains_step to from w)
  domains-bare to from =
      on-table (λ table. answered (with_table to (merged table (cluster_at from (bare w)).table) (bare w)) (ok (decimal (merge_count table (cluster_at from (bare w)).table) ∷ []))) to
      ∙ on-table (λ table. answered (with_table to (merged (cluster_at to w).table table) (bare w)) (ok (decimal (merge_count (cluster_at to w).table table) ∷ []))) from
      ∙ ap (λ v. answered v (ok (decimal (merge_count (cluster_at to w).table (cluster_at from w).table) ∷ []))) (table-bare w to (merged (cluster_at to w).table (cluster_at from w).table))

  gap-bare : (cluster : ClusterNo) (shard : ℕ) → gap_lines header cluster (bare w) shard ≡ gap_lines header cluster w shard
  gap-bare cluster shard =
      same-at w (λ c. flat_map (gap_line header shard (bare w) (cell_for shard c.cells)) (put_off_in (cell_for shard c.cells))) cluster (λ c. refl)
      ∙ flat-same (gap_line header shard (bare w) (cell_at cluster shard w)) (gap_line header shard w (cell_at cluster shard w)) each (put_off_in (cell_at cluster shard w))
    where
      each : (b : Batch) → gap_line header shard (bare w) (cell_at cluster shard w) b ≡ gap_line header shard w (cell_at cluster shard w) b
      each b = ap (λ (all : List Batch). gap_line_of all b) (all-written-bare w header shard)
        where
          gap_line_of : List Batch → Batch → List ℕ
          gap_line_of all b =
              codes "gap " ++ b.domain ++ codes " " ++ b.workflow ++ codes " " ++ key_text b.key
              ++ codes " after " ++ item_text (item_or_zero (last_item_of (history_of (filter (is_learned_in (cell_at cluster shard w)) (path_to b.key (filter (is_of b.domain b.workflow) all))))))
              ++ codes " before " ++ item_text (record { id = first_id b.events; version = b.key.version })
              ++ codes " missing " ++ missing_text (missing_of b (arrived_of b.domain b.workflow (cell_at cluster shard w))) ++ codes "\n"

  gaps-bare : (cluster : ClusterNo) → gaps_answer header cluster (bare w) ≡ gaps_answer header cluster w
  gaps-bare cluster =
      ap (λ (l : List ℕ). ok (decimal (sum l) ∷ []) ++ flat_map (gap_lines header cluster (bare w)) (shards_of header))
      (map-same (λ shard. length (put_off_in (cell_at cluster shard (bare w)))) (λ shard. length (put_off_in (cell_at cluster shard w)))
      (λ shard. same-at w (λ c. length (put_off_in (cell_for shard c.cells))) cluster (λ c. refl)) (shards_of header))
      ∙ ap (λ (l : List ℕ). ok (decimal (sum (map (λ shard. length (put_off_in (cell_at cluster shard w))) (shards_of header))) ∷ []) ++ l)
      (flat-same (gap_lines header cluster (bare w)) (gap_lines header cluster w) (gap-bare cluster) (shards_of header))

  -- handovers
  begun-bare : (at : ClusterNo) (r : Result (Handover × List DomainRecord) BeginError) → handover_begun at (bare w) r ≡ bare_step (handover_begun at w r)
  begun-bare at (Ok begun) = ap (λ v. answered (with_handover begun.0 v) (ok (decimal begun.0.new ∷ []))) (table-bare w at begun.1)
  begun-bare at (Err error) = refl

  ends-bare : (at : ClusterNo) → queue_ends header at (bare w) ≡ queue_ends header at w
  ends-bare at = map-same (λ shard. length (cell_at at shard (bare w)).written) (λ shard. length (cell_at at shard w).written) (λ shard. same-at w (λ c. length (cell_for shard c.cells).written) at (λ c. refl)) (shards_of header)

  handover-bare : (at : ClusterNo) (domain : Name) (target : ClusterNo) → handover_step header at domain target (bare w) ≡ bare_step (handover_step header at domain target w)
  unfolding handover_step
  handover-bare at domain target = by (is_some (open_handover domain w))
    where
      begun : handover_begun at (bare w) (begin_of header.clusters at domain target (queue_ends header at (bare w)) (cluster_at at (bare w)).table)
          ≡ bare_step (handover_begun at w (begin_of header.clusters at domain target (queue_ends header at w) (cluster_at at w).table))
      begun =
          ap (λ (ends : List ℕ). handover_begun at (bare w) (begin_of header.clusters at domain target ends (cluster_at at (bare w)).table)) (ends-bare at)
          ∙ on-table (λ table. handover_begun at (bare w) (begin_of header.clusters at domain target (queue_ends header at w) table)) at
          ∙ begun-bare at (begin_of header.clusters at domain target (queue_ends header at w) (cluster_at at w).table)

      by : (t : Bool)
          → (if t then answered (bare w) (refused (codes "HandoverOpen" ∷ [])) else handover_begun at (bare w) (begin_of header.clusters at domain target (queue_ends header at (bare w)) (cluster_at at (bare w)).table))
          ≡ bare_step (if t then answered w (refused (codes "HandoverOpen" ∷ [])) else handover_begun at w (begin_of header.clusters at domain target (queue_ends header at w) (cluster_at at w).table))
      by true = refl
      by false = begun

  over-bare : (handover : Handover) → handed_over handover (bare w) ≡ bare (handed_over handover w)
  over-bare handover =
      on-table (λ table. without_handover handover.domain (with_table handover.to (merged table (only_of (cluster_at handover.from (bare w)).table handover.domain)) (bare w))) handover.to
      ∙ on-table (λ table. without_handover handover.domain (with_table handover.to (merged (cluster_at handover.to w).table (only_of table handover.domain)) (bare w))) handover.from
      ∙ ap (without_handover handover.domain) (table-bare w handover.to (merged (cluster_at handover.to w).table (only_of (cluster_at handover.from w).table handover.domain)))

  complete-by-bare : (handover : Handover) (r : Result (Unit {0}) ReadyError) → complete_by handover (bare w) r ≡ bare_step (complete_by handover w r)
  complete-by-bare handover (Ok ready) =
      ap (λ v. answered v (ok (decimal (taken_version handover v) ∷ []))) (over-bare handover)
      ∙ ap (λ n. answered (bare (handed_over handover w)) (ok (decimal n ∷ []))) (same-at (handed_over handover w) (λ c. version_or_zero (record_of c.table handover.domain)) handover.to (λ c. refl))
  complete-by-bare handover (Err (Overtaken version)) = refl
  complete-by-bare handover (Err BootstrapDue) = refl
  complete-by-bare handover (Err (NotYet shard done place)) = refl

  complete-open-bare : (o : Option Handover) → complete_open (bare w) o ≡ bare_step (complete_open w o)
  complete-open-bare None = refl
  complete-open-bare (Some handover) =
      on-table (λ table. complete_by handover (bare w) (ready_of handover (levels_of handover.to handover.from w) (is_late_in handover.domain (link_at handover.to handover.from w)) table)) handover.to
      ∙ complete-by-bare handover (ready_in handover w)

  complete-bare : (at : ClusterNo) (domain : Name) → complete_step at domain (bare w) ≡ bare_step (complete_step at domain w)
  unfolding complete_step
  complete-bare at domain = complete-open-bare (handover_to at domain w)

  -- letters
  letters-bare : (reader : ClusterNo) (letters : List Letter → List Letter) → with_letters reader (letters (cluster_at reader (bare w)).letters) (bare w) ≡ bare (with_letters reader (letters (cluster_at reader w).letters) w)
  letters-bare reader letters = changed-bare w reader (λ c. record c { letters = letters c.letters }) (λ c. refl)

  purge-bare : (reader : ClusterNo) → purge_step reader (bare w) ≡ bare_step (purge_step reader w)
  purge-bare reader =
      ap (λ v. answered v (ok (decimal (length (cluster_at reader (bare w)).letters) ∷ []))) (letters-bare reader (λ l. []))
      ∙ same-at w (λ c. answered (bare (with_letters reader [] w)) (ok (decimal (length c.letters) ∷ []))) reader (λ c. refl)

  letter-job-bare : (letter : Letter) → letter_job header (bare w) letter ≡ letter_job header w letter
  letter-job-bare letter =
      same-at w (λ c. option_map (arrives (shard_of letter.domain letter.workflow header.shards)) (message_at (cell_for (shard_of letter.domain letter.workflow header.shards) c.cells) (place_of_letter letter))) letter.source (λ c. refl)

  jobs-of-letters : (letters : List Letter) → filter_map (letter_job header (bare w)) letters ≡ filter_map (letter_job header w) letters
  jobs-of-letters letters = picked-same (letter_job header (bare w)) (letter_job header w) letter-job-bare letters

damaged-bare : (w : World) (reader source : ClusterNo) (shard place : ℕ) (letter : Letter) → damaged reader source shard place (bare w) letter ≡ bare_step (damaged reader source shard place w letter)
damaged-bare w reader source shard place letter = by (is_whole letter)
  where
    aside : World
    aside = with_flight reader source shard (remove (flight_at reader source shard w) place) w

    set : with_letters reader ((cluster_at reader (bare aside)).letters ++ letter ∷ []) (bare aside) ≡ bare (with_letters reader ((cluster_at reader aside).letters ++ letter ∷ []) aside)
    set = changed-bare aside reader (λ c. record c { letters = c.letters ++ letter ∷ [] }) (λ c. refl)

    by : (t : Bool)
        → (if t then answered (bare w) (ok (codes "whole" ∷ [])) else answered (with_letters reader ((cluster_at reader (bare aside)).letters ++ letter ∷ []) (bare aside)) (ok (codes "aside" ∷ [])))
        ≡ bare_step (if t then answered w (ok (codes "whole" ∷ [])) else answered (with_letters reader ((cluster_at reader w).letters ++ letter ∷ []) aside) (ok (codes "aside" ∷ [])))
    by true = refl
    by false = ap (λ v. answered v (ok (codes "aside" ∷ []))) set

damage-bare : (w : World) (reader source : ClusterNo) (shard place cut : ℕ) (o : Option Message) → damage_at reader source shard place cut (bare w) o ≡ bare_step (damage_at reader source shard place cut w o)
damage-bare w reader source shard place cut None = refl
damage-bare w reader source shard place cut (Some sent) = damaged-bare w reader source shard place (letter_of source cut sent.batch)

merge-bare : (header : Header) (w : World) (reader : ClusterNo) → letters_merged header reader (bare w) ≡ bare_trace (letters_merged header reader w)
unfolding letters_merged renewed jobs_done
merge-bare header w reader =
    same-at w (λ c. again (jobs_done header reader (filter_map (letter_job header (bare w)) c.letters) (from_world (bare w)))) reader (λ c. refl)
    ∙ ap (λ (jobs : List ShardJob). again (jobs_done header reader jobs (from_world (bare w)))) (jobs-of-letters header w (cluster_at reader w).letters)
    ∙ ap again (jobs-bare header reader jobs (from_world w))
    ∙ ap (λ v. quietly (λ u. renewed u reader) (record done { world = v })) (changed-bare done.world reader (λ c. record c { letters = [] }) (λ c. refl))
    ∙ ap (λ v. record done { world = v }) (renew-bare (with_letters reader [] done.world) reader)
  where
    again : Trace → Trace
    again t = quietly (λ v. renewed v reader) (quietly (with_letters reader []) t)

    jobs : List ShardJob
    jobs = filter_map (letter_job header w) (cluster_at reader w).letters

    done : Trace
    done = jobs_done header reader jobs (from_world w)

-- every line that is not on progress reports
pub line-bare : (header : Header) (line : Act) (w : World) → is_on_reports line ≡ false → act_step header line (bare w) ≡ bare_step (act_step header line w)
unfolding act_step command_step reset_step rewound
line-bare header (act.Command cluster domain workflow command) w other = writing-bare header w cluster (record { shard = shard_of domain workflow header.shards; job = job.Command domain workflow command })
line-bare header (act.Burst cluster jobs) w other = refl
line-bare header (act.Register at domain target days members) w other =
    on-table header w (λ table. table_step register_words at (bare w) (register_of header.clusters at domain target days members table)) at ∙ table-step-bare header w register_words at (register_of header.clusters at domain target days members (cluster_at at w).table)
line-bare header (act.Retain at domain days) w other =
    on-table header w (λ table. table_step retain_words at (bare w) (retain_of at domain days table)) at ∙ table-step-bare header w retain_words at (retain_of at domain days (cluster_at at w).table)
line-bare header (act.Join at domain member) w other =
    on-table header w (λ table. join_step at (bare w) (join_of at domain member table)) at ∙ join-step-bare header w at (join_of at domain member (cluster_at at w).table)
line-bare header (act.Failover at domain target) w other =
    on-table header w (λ table. table_step failover_words at (bare w) (failover_of header.clusters domain target table)) at ∙ table-step-bare header w failover_words at (failover_of header.clusters domain target (cluster_at at w).table)
line-bare header (act.Domains to from) w other = domains-bare header w to from
line-bare header (act.Domain at domain) w other = on-table header w (λ table. answered (bare w) (domain_answer header (record_of table domain))) at
line-bare header (act.MembersOf at domain) w other = on-table header w (λ table. answered (bare w) (members_answer header (record_of table domain))) at
line-bare header (act.Pull reader source) w other = pull-step-bare header w reader source
line-bare header (act.PullSome reader source shard count) w other = pull-some-step-bare header w reader source shard count
line-bare header (act.Lose reader source shard place) w other = flight-bare header w reader source shard (after_loss place (flight_at reader source shard w))
line-bare header (act.Repeat reader source shard place) w other = flight-bare header w reader source shard (after_repeat place (flight_at reader source shard w))
line-bare header (act.Move reader source shard place to) w other = flight-bare header w reader source shard (after_move place to (flight_at reader source shard w))
line-bare header (act.Work cluster) w other = ap (λ (t : Trace). moved t (work_words t.notes)) (work-bare header cluster w)
line-bare header (act.Rewind reader source) w other = refl
line-bare header (act.Trim source) w other = trim-step-bare header w source
line-bare header (act.LevelsOf reader source shard) w other = ap (answered (bare w)) (levels-bare header w reader source shard)
line-bare header (act.Gaps cluster) w other = ap (answered (bare w)) (gaps-bare header w cluster)
line-bare header (act.Resend cluster) w other = ap (λ (t : Trace). moved t (arrived_words t.notes)) (resend-bare header cluster w)
line-bare header (act.Bootstrap reader source) w other =
    ap (λ (t : Trace). moved t (codes "domains" ∷ decimal (length (link_at reader source w).late) ∷ arrived_words t.notes)) (bootstrap-bare header reader (from_world w) source)
line-bare header act.Settle w other = ap (λ (t : Trace). moved t (codes "learned" ∷ total learned_by t.notes ∷ codes "reapplied" ∷ total applied_by t.notes ∷ [])) (settle-bare header w)
line-bare header (act.History cluster domain workflow) w other = on-learned header w (λ l. answered (bare w) (read_answer history_answer l)) cluster domain workflow
line-bare header (act.Branches cluster domain workflow) w other = on-learned header w (λ l. answered (bare w) (read_answer branches_answer l)) cluster domain workflow
line-bare header (act.Current cluster domain workflow) w other = on-learned header w (λ l. answered (bare w) (read_answer current_answer l)) cluster domain workflow
line-bare header (act.StateOf cluster domain workflow) w other = on-learned header w (λ l. answered (bare w) (read_answer state_answer l)) cluster domain workflow
line-bare header (act.Dump cluster domain workflow) w other = on-learned header w (λ l. answered (bare w) (read_answer (dump_answer domain workflow) l)) cluster domain workflow
line-bare header (act.Compare one two domain workflow) w other =
    on-learned header w (λ l. answered (bare w) (compare_answer domain workflow l (learned_at header two domain workflow (bare w)))) one domain workflow
    ∙ on-learned header w (λ l. answered (bare w) (compare_answer domain workflow (learned_at header one domain workflow w) l)) two domain workflow
line-bare header (act.Handover at domain target) w other = handover-bare header w at domain target
line-bare header (act.Complete at domain) w other = complete-bare header w at domain
line-bare header (act.Reset cluster domain workflow event) w other = writing-bare header w cluster (record { shard = shard_of domain workflow header.shards; job = job.Reset domain workflow event })
line-bare header (act.Damage reader source shard place cut) w other = damage-bare w reader source shard place cut (slice_get (flight_at reader source shard w) place)
line-bare header (act.LettersOf reader) w other = same-at w (λ c. answered (bare w) (letters_answer header c.letters)) reader (λ c. refl)
line-bare header (act.Purge reader) w other = purge-bare header w reader
line-bare header (act.MergeLetters reader) w other = ap (λ (t : Trace). moved t (arrived_words t.notes)) (merge-bare header w reader)
line-bare header (act.Beat cluster domain workflow id details) w other = absurd (cc)
line-bare header (act.Sync to from) w other = absurd (cc)
line-bare header (act.ProgressOf cluster domain workflow id) w other = absurd (cc)
