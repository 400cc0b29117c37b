-- Progress of activities, told beside the histories.
use Rattle.std.specs.Prelude.{ℕ, ◌==◌, not, List, [], ◌∷◌, ◌++◌, codes, decimal, Option, Some, None, Result, Ok, Err, if◌then◌else◌}
use Rattle.ndc_command.specs.Stage.{needs_started, refuse, stage_of, ◌>>◌}
use Rattle.ndc_command.specs.declared.refusal.CommandError.{CommandError}
use Rattle.ndc_command.specs.declared.refusal.CommandError.TheVariants.{Refused}
use Rattle.ndc_command.specs.declared.refusal.Refusal.TheVariants.{ActivityNotStarted, Closed, NoSuchActivity, NoWorkflow}
use Rattle.ndc_domain.specs.declared.clusters.ClusterNo.{ClusterNo}
use Rattle.ndc_event.specs.Outcome.{◌>>=◌}
use Rattle.ndc_event.specs.declared.batch.Batch.{Batch}
use Rattle.ndc_event.specs.declared.batch.Event.{Event}
use Rattle.ndc_event.specs.declared.name.Name.{Name}
use Rattle.ndc_script_types.specs.declared.script.Header.{Header}
use Rattle.ndc_model_sets.specs.Branches.{workflow_tip}
use Rattle.ndc_model_sets.specs.Current.{state_to}
use Rattle.ndc_model_sets.specs.Paths.{events_to}
use Rattle.ndc_state.specs.Pendings.{pending_of}
use Rattle.ndc_state.specs.Value.{StateValue}
use Rattle.ndc_state.specs.declared.pendings.Pending.{Pending}
use Rattle.ndc_model_cells.specs.Cells.{Cell, learned_of}
use Rattle.ndc_progress.specs.declared.report.ActivityRef.{ActivityRef}
use Rattle.ndc_progress.specs.declared.report.Report.{Report}
use Rattle.ndc_progress.specs.Reports.{held, merge_count, next_beat, next_report, stale_by}
use Rattle.ndc_model.specs.Reading.{learned_at, read_answer, tip_answer}
use Rattle.ndc_model.specs.Steps.{Stepped, answered, error_answer}
use Rattle.ndc_model.specs.Texts.{ok, refused}
use Rattle.ndc_model.specs.World.{World, cell_of, cluster_at, home_at, with_cluster}
use Rattle.ndc_model_cells.specs.Writing.{Desk, as_command_error, may_write}

-- the reports of a cluster become others
abbrev pub with_reports : ClusterNo → List Report → World → World
with_reports cluster reports w = with_cluster cluster (record (cluster_at cluster w) { reports = reports }) w

-- the version of the event with this id, 0 where there is none
abbrev pub version_of_event : ℕ → List Event → ℕ
version_of_event id [] = 0
version_of_event id (event ∷ events) = if event.id == id then event.version else version_of_event id events

-- an activity that is pending in the state of these events: it is named by the event that scheduled it
abbrev pub activity_of : Name → Name → StateValue → List Event → Option Pending → Result ActivityRef CommandError
activity_of domain workflow s events None = Err (Refused NoSuchActivity)
activity_of domain workflow s events (Some pending) =
    Ok (record { domain = domain; workflow = workflow; run = s.run; scheduled = pending.scheduled; version = version_of_event pending.scheduled events })

-- the pending activity of this id on the branch of a tip
abbrev pub pending_activity : Name → Name → Name → List Batch → Batch → Result ActivityRef CommandError
pending_activity domain workflow id batches tip =
    activity_of domain workflow (state_to tip.run tip.key batches) (events_to tip.key batches) (pending_of id (state_to tip.run tip.key batches).activities)

-- the same, where the run is open and the activity is started
abbrev pub started_activity : Name → Name → Name → List Batch → Option Batch → Result ActivityRef CommandError
started_activity domain workflow id batches None = Err (Refused NoWorkflow)
started_activity domain workflow id batches (Some tip) =
    refuse (not (state_to tip.run tip.key batches).running) Closed
    >> (needs_started (stage_of (pending_of id (state_to tip.run tip.key batches).activities)) NoSuchActivity ActivityNotStarted
    >> pending_activity domain workflow id batches tip)

-- the version with which a cluster may tell of an activity, and the activity, or the first refusal
abbrev pub told_of : Desk → Name → Name → Name → Cell → Result (ℕ × ActivityRef) CommandError
told_of home domain workflow id cell =
    as_command_error (may_write home domain workflow cell)
    >>= λ version. started_activity domain workflow id (learned_of domain workflow cell) (workflow_tip (learned_of domain workflow cell))
    >>= λ activity. Ok (version, activity)

-- a report is told, where the held one has no greater version
abbrev pub beat_unless : ClusterNo → ℕ → ActivityRef → Name → World → Option ℕ → Stepped
beat_unless cluster version activity details w (Some stale) = answered w (refused (codes "Stale" ∷ decimal stale ∷ []))
beat_unless cluster version activity details w None =
    answered
    (with_reports cluster ((cluster_at cluster w).reports ++ next_report activity version details (cluster_at cluster w).reports ∷ []) w)
    (ok (decimal version ∷ decimal (next_beat version (held activity (cluster_at cluster w).reports)) ∷ []))

-- a report is told, or the line is refused
abbrev pub beat_by : ClusterNo → Name → World → Result (ℕ × ActivityRef) CommandError → Stepped
beat_by cluster details w (Err error) = answered w (error_answer error)
beat_by cluster details w (Ok told) = beat_unless cluster told.0 told.1 details w (stale_by told.0 (held told.1 (cluster_at cluster w).reports))

-- `beat`
abbrev pub beat_step : Header → ClusterNo → Name → Name → Name → Name → World → Stepped
beat_step header cluster domain workflow id details w =
    beat_by cluster details w (told_of (home_at header cluster w) domain workflow id (cell_of header cluster domain workflow w))

-- `sync`: one cluster takes the reports of another; those count that it now holds in place of its own
abbrev pub sync_step : ClusterNo → ClusterNo → World → Stepped
sync_step to from w =
    answered (with_reports to ((cluster_at to w).reports ++ (cluster_at from w).reports) w)
    (ok (decimal (merge_count (cluster_at to w).reports (cluster_at from w).reports) ∷ []))

-- what is held of an activity: version, beat and details
abbrev pub report_answer : Option Report → List ℕ
report_answer None = refused (codes "NoProgress" ∷ [])
report_answer (Some report) = ok (decimal report.version ∷ decimal report.beat ∷ report.details ∷ [])

-- what is held of an activity, or why there is none
abbrev pub activity_answer : List Report → Result ActivityRef CommandError → List ℕ
activity_answer reports (Err error) = error_answer error
activity_answer reports (Ok activity) = report_answer (held activity reports)

-- `progress`
abbrev pub progress_answer : Header → ClusterNo → Name → Name → Name → World → List ℕ
progress_answer header cluster domain workflow id w =
    read_answer
    (λ batches. tip_answer (λ tip. activity_answer (cluster_at cluster w).reports (pending_activity domain workflow id batches tip)) (workflow_tip batches))
    (learned_at header cluster domain workflow w)
