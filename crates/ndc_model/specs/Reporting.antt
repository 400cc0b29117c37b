-- What a cluster tells of activities by the reports that it holds.
use Rattle.std.specs.Prelude.{ℕ, List, [], ◌∷◌, codes, decimal, Option, Some, None, Result, Ok, Err}
use Rattle.ndc_script_types.specs.declared.script.Header.{Header}
use Rattle.ndc_command.specs.declared.refusal.CommandError.{CommandError}
use Rattle.ndc_domain.specs.declared.clusters.ClusterNo.{ClusterNo}
use Rattle.ndc_event.specs.declared.batch.Batch.{Batch}
use Rattle.ndc_event.specs.declared.name.Name.{Name}
use Rattle.ndc_model.specs.Progress.{activity_answer, pending_activity, told_of}
use Rattle.ndc_model.specs.Reading.{read_answer, tip_answer}
use Rattle.ndc_model.specs.Steps.{error_answer}
use Rattle.ndc_model.specs.Texts.{ok, refused}
use Rattle.ndc_model.specs.World.{World, cell_of, home_at}
use Rattle.ndc_progress.specs.Reports.{held, next_beat, next_report, stale_by, with_report}
use Rattle.ndc_progress.specs.declared.report.ActivityRef.{ActivityRef}
use Rattle.ndc_progress.specs.declared.report.Report.{Report}
use Rattle.ndc_model_sets.specs.Branches.{workflow_tip}

-- what a cluster answers, and the reports that it holds then
pub record Reported : Type 0 where
  pub answer : List ℕ
  pub reports : List Report

-- an activity is told of, where the held report has no greater version
abbrev pub told_unless : ℕ → ActivityRef → Name → List Report → Option ℕ → Reported
told_unless version activity details own (Some stale) = record { answer = refused (codes "Stale" ∷ decimal stale ∷ []); reports = own }
told_unless version activity details own None = record {
  answer = ok (decimal version ∷ decimal (next_beat version (held activity own)) ∷ []);
  reports = with_report own (next_report activity version details own);
}

-- an activity is told of, or the line is refused
abbrev pub told_by : Name → List Report → Result (ℕ × ActivityRef) CommandError → Reported
told_by details own (Err error) = record { answer = error_answer error; reports = own }
told_by details own (Ok told) = told_unless told.0 told.1 details own (stale_by told.0 (held told.1 own))

-- the version with which a cluster may tell of an activity of a workflow, and the activity, or why it may not
abbrev pub told_at : Header → ClusterNo → Name → Name → Name → World → Result (ℕ × ActivityRef) CommandError
told_at header cluster domain workflow id v = told_of (home_at header cluster v) domain workflow id (cell_of header cluster domain workflow v)

-- what is shown of an activity by these reports, where this is learned of its workflow
abbrev pub shown_of : Name → Name → Name → List Report → List Batch → List ℕ
shown_of domain workflow id own batches = read_answer (λ l. tip_answer (λ tip. activity_answer own (pending_activity domain workflow id l tip)) (workflow_tip l)) batches
