-- Lines that change nothing.
use Rattle.std.proofs.Common.{◌≡◌, ℕ, Bool, true, false, List, [], ◌∷◌, ◌++◌, remove, slice_set, Option, Some, None, Result, Ok, Err, is_some, codes, cond, find, if◌then◌else◌, refl, sym, subst, ap, ◌∙◌, true≢false}
use Rattle.std.proofs.lemmas.Bool.{and_parts}
use Rattle.std.proofs.lemmas.Slice.Eq.{bytes_eq-Decides}
use Rattle.ndc_command.specs.declared.refusal.CommandError.{CommandError}
use Rattle.ndc_command.specs.declared.refusal.CommandError.TheVariants.{Refused, Memory}
use Rattle.ndc_event.specs.declared.batch.Batch.{Batch}
use Rattle.ndc_model_cells.specs.Cells.{empty_cell}
use Rattle.ndc_domain.specs.declared.clusters.ClusterNo.{ClusterNo}
use Rattle.ndc_domain.specs.declared.record.DomainRecord.{DomainRecord}
use Rattle.ndc_domain.specs.declared.record.JoinError.{JoinError}
use Rattle.ndc_event.specs.declared.name.Name.{Name}
use Rattle.ndc_script_types.specs.declared.script.Act.{Act}
use Rattle.ndc_script_types.specs.declared.script.Act.TheVariants as act
use Rattle.ndc_script_types.specs.declared.script.Header.{Header}
use Rattle.ndc_model_cells.specs.declared.job.Job.{Job}
use Rattle.ndc_model_cells.specs.declared.job.Job.TheVariants as job
use Rattle.ndc_model_cells.specs.declared.message.Message.{Message}
use Rattle.ndc_model_cells.specs.Jobs.{after_job, cells_after, learned_in, outcome_of, replies_to, written_at, written_now, written_outcome}
use Rattle.ndc_model_cells.specs.Shards.{shard_of}
use Rattle.ndc_model_cells.specs.Writing.{Entry, command_of, reset_at, same_cluster}
use Rattle.ndc_graceful.specs.Begin.{begin_of}
use Rattle.ndc_graceful.specs.declared.handover.BeginError.{BeginError}
use Rattle.ndc_graceful.specs.declared.handover.Handover.{Handover}
use Rattle.ndc_graceful.specs.declared.handover.ReadyError.{ReadyError}
use Rattle.ndc_graceful.specs.declared.handover.ReadyError.TheVariants.{BootstrapDue, NotYet, Overtaken}
use Rattle.ndc_letters.specs.declared.letter.Letter.{Letter}
use Rattle.ndc_letters.specs.Letters.{is_whole, letter_of}
use Rattle.ndc_progress.specs.declared.report.ActivityRef.{ActivityRef}
use Rattle.ndc_model.specs.Handovers.{complete_by, complete_open, complete_step, handover_begun, handover_step, handover_to, is_handover_of, open_handover, queue_ends, ready_in, without_handover}
use Rattle.ndc_model.specs.Laws.{ChangesNothing, is_overtaken, is_reading, is_refusal}
use Rattle.ndc_model.specs.Letters.{damage_at, with_letters}
use Rattle.ndc_model.specs.Lines.{act_step}
use Rattle.ndc_model.specs.Progress.{beat_by, beat_unless}
use Rattle.ndc_model.specs.Sending.{flight_step}
use Rattle.ndc_model.specs.Moves.{jobs_done}
use Rattle.ndc_model.specs.Steps.{Stepped, answered, command_step, outcome_answer, reset_step, seen_of}
use Rattle.ndc_model.specs.Tables.{join_step, table_step}
use Rattle.ndc_model.specs.Texts.{ok, refused}
use Rattle.ndc_model.specs.World.{World, cell_at, cluster_at, flight_at, home_at, with_cells, with_flight}
use Rattle.ndc_model.proofs.WorldLemmas.{same-cells, set-same}

-- a step that changes nothing where it refuses; an answer that ends a handover aside
abbrev pub IsQuietRefusal : World → Stepped → Type 0
IsQuietRefusal w step = is_refusal step.answer ≡ true → is_overtaken step.answer ≡ false → ChangesNothing w step

-- what is answered without a change
quiet : (w : World) (answer : List ℕ) → IsQuietRefusal w (answered w answer)
quiet w answer r o = record { world = refl; seen = refl }

-- a step, by a test
either : (w : World) (test : Bool) (one two : Stepped) → IsQuietRefusal w one → IsQuietRefusal w two → IsQuietRefusal w (if test then one else two)
either w true one two first second = first
either w false one two first second = second

of-table : {E : Type 0} (words : E → List (List ℕ)) (at : ClusterNo) (w : World) (result : Result (ℕ × List DomainRecord) E) → IsQuietRefusal w (table_step words at w result)
of-table words at w (Ok answer) r o = absurd (true≢false (sym r))
of-table words at w (Err error) r o = record { world = refl; seen = refl }

of-join : (at : ClusterNo) (w : World) (result : Result (List DomainRecord) JoinError) → IsQuietRefusal w (join_step at w result)
of-join at w (Ok table) r o = absurd (true≢false (sym r))
of-join at w (Err error) r o = record { world = refl; seen = refl }

of-flight : (reader source : ClusterNo) (shard : ℕ) (w : World) (flight : Option (List Message)) → IsQuietRefusal w (flight_step reader source shard w flight)
of-flight reader source shard w None r o = record { world = refl; seen = refl }
of-flight reader source shard w (Some flight) r o = absurd (true≢false (sym r))

-- what a cell was to write, as a step
abbrev pub written_as : ClusterNo → ℕ → Job → World → Result (List Entry) CommandError → Stepped
written_as cluster shard asked w result = record {
  world = with_cells cluster (slice_set (cluster_at cluster w).cells shard (written_at result (cell_at cluster shard w))) w;
  answer = outcome_answer (written_outcome result);
  seen = seen_of (record { cluster = cluster; job = asked; reply = record { outcome = written_outcome result; learned = written_now result } } ∷ []);
}

of-writing : (cluster : ClusterNo) (shard : ℕ) (asked : Job) (w : World) (result : Result (List Entry) CommandError) → IsQuietRefusal w (written_as cluster shard asked w result)
of-writing cluster shard asked w (Ok []) r o = absurd (true≢false (sym r))
of-writing cluster shard asked w (Ok (entry ∷ entries)) r o = by entry.second entries r
  where
    by : (second : Option Batch) (entries : List Entry) → is_refusal (outcome_answer (written_outcome (Ok (record { batch = entry.batch; second = second } ∷ entries)))) ≡ true
        → ChangesNothing w (written_as cluster shard asked w (Ok (entry ∷ entries)))
    by (Some second) entries r = absurd (true≢false (sym r))
    by None [] r = absurd (true≢false (sym r))
    by None (more ∷ entries) r = absurd (true≢false (sym r))
of-writing cluster shard asked w (Err (Refused refusal)) r o = record {
  world = ap (λ cells. with_cells cluster cells w) (set-same (cluster_at cluster w).cells shard empty_cell) ∙ same-cells cluster w;
  seen = refl;
}
of-writing cluster shard asked w (Err Memory) r o = absurd (true≢false (sym r))

of-begun : (at : ClusterNo) (w : World) (result : Result (Handover × List DomainRecord) BeginError) → IsQuietRefusal w (handover_begun at w result)
of-begun at w (Ok begun) r o = absurd (true≢false (sym r))
of-begun at w (Err error) r o = record { world = refl; seen = refl }

of-completed : (handover : Handover) (w : World) (ready : Result (Unit {0}) ReadyError) → IsQuietRefusal w (complete_by handover w ready)
of-completed handover w (Ok ready) r o = absurd (true≢false (sym r))
of-completed handover w (Err (Overtaken version)) r o = absurd (true≢false o)
of-completed handover w (Err BootstrapDue) r o = record { world = refl; seen = refl }
of-completed handover w (Err (NotYet shard done place)) r o = record { world = refl; seen = refl }

of-complete : (w : World) (found : Option Handover) → IsQuietRefusal w (complete_open w found)
of-complete w None = quiet w _
of-complete w (Some handover) = of-completed handover w (ready_in handover w)

of-damage : (reader source : ClusterNo) (shard place cut : ℕ) (w : World) (found : Option Message) → IsQuietRefusal w (damage_at reader source shard place cut w found)
of-damage reader source shard place cut w None = quiet w _
of-damage reader source shard place cut w (Some sent) = by (is_whole letter)
  where
    letter : Letter
    letter = letter_of source cut sent.batch

    after : World
    after =
        with_letters reader ((cluster_at reader w).letters ++ letter ∷ [])
        (with_flight reader source shard (remove (flight_at reader source shard w) place) w)

    by : (whole : Bool) → IsQuietRefusal w (if whole then answered w (ok (codes "whole" ∷ [])) else answered after (ok (codes "aside" ∷ [])))
    by true r o = absurd (true≢false (sym r))
    by false r o = absurd (true≢false (sym r))

of-unless : (cluster : ClusterNo) (version : ℕ) (activity : ActivityRef) (details : Name) (w : World) (stale : Option ℕ) → IsQuietRefusal w (beat_unless cluster version activity details w stale)
of-unless cluster version activity details w (Some stale) r o = record { world = refl; seen = refl }
of-unless cluster version activity details w None r o = absurd (true≢false (sym r))

of-beat : (cluster : ClusterNo) (details : Name) (w : World) (result : Result (ℕ × ActivityRef) CommandError) → IsQuietRefusal w (beat_by cluster details w result)
of-beat cluster details w (Err error) = quiet w _
of-beat cluster details w (Ok told) = of-unless cluster told.0 told.1 details w _

-- a refused line changes nothing, but where a handover is overtaken
pub refused_changes_nothing : (header : Header) (a : Act) (w : World) → IsQuietRefusal w (act_step header a w)
unfolding act_step handover_step complete_step command_step reset_step jobs_done cells_after replies_to after_job outcome_of learned_in
refused_changes_nothing header (act.Command cluster domain workflow command) w =
    of-writing cluster (shard_of domain workflow header.shards) (job.Command domain workflow command) w (command_of (home_at header cluster w) domain workflow command (cell_at cluster (shard_of domain workflow header.shards) w))
refused_changes_nothing header (act.Burst cluster jobs) w = quiet w _
refused_changes_nothing header (act.Register at domain target days members) w = of-table _ at w _
refused_changes_nothing header (act.Retain at domain days) w = of-table _ at w _
refused_changes_nothing header (act.Join at domain member) w = of-join at w _
refused_changes_nothing header (act.Failover at domain target) w = of-table _ at w _
refused_changes_nothing header (act.Domains to from) w = λ r _. absurd (true≢false (sym r))
refused_changes_nothing header (act.Domain at domain) w = quiet w _
refused_changes_nothing header (act.MembersOf at domain) w = quiet w _
refused_changes_nothing header (act.Pull reader source) w = λ r _. absurd (true≢false (sym r))
refused_changes_nothing header (act.PullSome reader source shard count) w = λ r _. absurd (true≢false (sym r))
refused_changes_nothing header (act.Lose reader source shard place) w = of-flight reader source shard w _
refused_changes_nothing header (act.Repeat reader source shard place) w = of-flight reader source shard w _
refused_changes_nothing header (act.Move reader source shard place to) w = of-flight reader source shard w _
refused_changes_nothing header (act.Work cluster) w = λ r _. absurd (true≢false (sym r))
refused_changes_nothing header (act.Rewind reader source) w = λ r _. absurd (true≢false (sym r))
refused_changes_nothing header (act.Trim source) w = λ r _. absurd (true≢false (sym r))
refused_changes_nothing header (act.LevelsOf reader source shard) w = quiet w _
refused_changes_nothing header (act.Gaps cluster) w = quiet w _
refused_changes_nothing header (act.Resend cluster) w = λ r _. absurd (true≢false (sym r))
refused_changes_nothing header (act.Bootstrap reader source) w = λ r _. absurd (true≢false (sym r))
refused_changes_nothing header act.Settle w = λ r _. absurd (true≢false (sym r))
refused_changes_nothing header (act.History cluster domain workflow) w = quiet w _
refused_changes_nothing header (act.Branches cluster domain workflow) w = quiet w _
refused_changes_nothing header (act.Current cluster domain workflow) w = quiet w _
refused_changes_nothing header (act.StateOf cluster domain workflow) w = quiet w _
refused_changes_nothing header (act.Dump cluster domain workflow) w = quiet w _
refused_changes_nothing header (act.Compare one two domain workflow) w = quiet w _
refused_changes_nothing header (act.Handover at domain target) w =
    either w (is_some (open_handover domain w)) (answered w (refused (codes "HandoverOpen" ∷ [])))
    (handover_begun at w (begin_of header.clusters at domain target (queue_ends header at w) (cluster_at at w).table))
    (quiet w _) (of-begun at w (begin_of header.clusters at domain target (queue_ends header at w) (cluster_at at w).table))
refused_changes_nothing header (act.Complete at domain) w = of-complete w (handover_to at domain w)
refused_changes_nothing header (act.Reset cluster domain workflow event) w =
    of-writing cluster (shard_of domain workflow header.shards) (job.Reset domain workflow event) w (reset_at (home_at header cluster w) domain workflow event (cell_at cluster (shard_of domain workflow header.shards) w))
refused_changes_nothing header (act.Damage reader source shard place cut) w = of-damage reader source shard place cut w _
refused_changes_nothing header (act.LettersOf reader) w = quiet w _
refused_changes_nothing header (act.Purge reader) w = λ r _. absurd (true≢false (sym r))
refused_changes_nothing header (act.MergeLetters reader) w = λ r _. absurd (true≢false (sym r))
refused_changes_nothing header (act.Beat cluster domain workflow id details) w = of-beat cluster details w _
refused_changes_nothing header (act.Sync to from) w = λ r _. absurd (true≢false (sym r))
refused_changes_nothing header (act.ProgressOf cluster domain workflow id) w = quiet w _

-- a line that only reads changes nothing
pub reading_changes_nothing : (header : Header) (a : Act) (w : World) → is_reading a ≡ true → ChangesNothing w (act_step header a w)
unfolding act_step
reading_changes_nothing header (act.Domain at domain) w r = record { world = refl; seen = refl }
reading_changes_nothing header (act.MembersOf at domain) w r = record { world = refl; seen = refl }
reading_changes_nothing header (act.LevelsOf reader source shard) w r = record { world = refl; seen = refl }
reading_changes_nothing header (act.Gaps cluster) w r = record { world = refl; seen = refl }
reading_changes_nothing header (act.History cluster domain workflow) w r = record { world = refl; seen = refl }
reading_changes_nothing header (act.Branches cluster domain workflow) w r = record { world = refl; seen = refl }
reading_changes_nothing header (act.Current cluster domain workflow) w r = record { world = refl; seen = refl }
reading_changes_nothing header (act.StateOf cluster domain workflow) w r = record { world = refl; seen = refl }
reading_changes_nothing header (act.Dump cluster domain workflow) w r = record { world = refl; seen = refl }
reading_changes_nothing header (act.Compare one two domain workflow) w r = record { world = refl; seen = refl }
reading_changes_nothing header (act.LettersOf reader) w r = record { world = refl; seen = refl }
reading_changes_nothing header (act.ProgressOf cluster domain workflow id) w r = record { world = refl; seen = refl }
reading_changes_nothing header _ w r = absurd (true≢false (sym r))

-- what an overtaken handover leaves
by-overtaken : (handover : Handover) (w : World) (ready : Result (Unit {0}) ReadyError) → is_overtaken (complete_by handover w ready).answer ≡ true
    → ChangesNothing (without_handover handover.domain w) (complete_by handover w ready)
by-overtaken handover w (Err (Overtaken version)) o = record { world = refl; seen = refl }
by-overtaken handover w (Ok ready) o = absurd (true≢false (sym o))
by-overtaken handover w (Err BootstrapDue) o = absurd (true≢false (sym o))
by-overtaken handover w (Err (NotYet shard done place)) o = absurd (true≢false (sym o))

-- what is found passes the test
found-passes : {X : Type 0} (test : X → Bool) (xs : List X) (x : X) → find test xs ≡ Some x → test x ≡ true
found-passes test [] x e = absurd (cc)
found-passes test (y ∷ ys) x e = by (test y) refl e (found-passes test ys x)
  where
    by : (t : Bool) → test y ≡ t → cond t (Some y) (find test ys) ≡ Some x → (find test ys ≡ Some x → test x ≡ true) → test x ≡ true
    by true passes e rest = let same : y ≡ x = cc in subst (λ z. test z ≡ true) same passes
    by false passes e rest = rest e

-- an overtaken handover is ended, and nothing else changes
pub overtaken_ends : (header : Header) (at : ClusterNo) (domain : Name) (w : World) → is_overtaken (act_step header (act.Complete at domain) w).answer ≡ true
    → ChangesNothing (without_handover domain w) (act_step header (act.Complete at domain) w)
unfolding act_step complete_step
overtaken_ends header at domain w = by (handover_to at domain w) refl
  where
    by : (found : Option Handover) → handover_to at domain w ≡ found → is_overtaken (complete_open w found).answer ≡ true
        → ChangesNothing (without_handover domain w) (complete_open w found)
    by None e o = absurd (true≢false (sym o))
    by (Some handover) e o =
        let passes = and_parts (is_handover_of domain handover) (same_cluster handover.to at) (found-passes _ w.handovers handover e) in
        let of_it : handover.domain ≡ domain = (bytes_eq-Decides handover.domain domain).0 passes.0 in
        subst (λ (d : Name). ChangesNothing (without_handover d w) (complete_open w (Some handover))) of_it (by-overtaken handover w (ready_in handover w) o)
