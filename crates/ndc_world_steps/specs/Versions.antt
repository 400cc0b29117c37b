-- Activities that a cluster may tell of, and the versions of events.
use Rattle.std.specs.Prelude.{ℕ, ◌==◌, nat_lt, List, [], ◌∷◌, Result, Ok, if◌then◌else◌}
use Rattle.ndc_model_cells.specs.Writing.{as_command_error}
use Rattle.ndc_command.specs.declared.refusal.CommandError.{CommandError}
use Rattle.ndc_command.specs.declared.refusal.Refusal.{Refusal}
use Rattle.ndc_event.specs.Outcome.{◌>>=◌}
use Rattle.ndc_event.specs.declared.batch.Batch.{Batch}
use Rattle.ndc_event.specs.declared.name.Name.{Name}
use Rattle.ndc_model.specs.Progress.{started_activity}
use Rattle.ndc_progress.specs.declared.report.ActivityRef.{ActivityRef}
use Rattle.ndc_model_sets.specs.Branches.{workflow_tip}
use Rattle.ndc_history.specs.declared.item.Item.{Item}

-- the version of the first of these items that reaches this id, 0 where none does
abbrev pub version_reaching : ℕ → List Item → ℕ
version_reaching id [] = 0
version_reaching id (item ∷ items) = if nat_lt item.id id then version_reaching id items else item.version

-- the version of the event with this id on a path with this version history: ids count from 1
abbrev pub version_in : ℕ → List Item → ℕ
version_in id items = if id == 0 then 0 else version_reaching id items

-- the version with which a cluster may tell of an activity, which is that with which it may write, and the activity, where this is learned of its
-- workflow
abbrev pub told_from : Result ℕ Refusal → Name → Name → Name → List Batch → Result (ℕ × ActivityRef) CommandError
told_from may domain workflow id batches =
    as_command_error may
    >>= λ version. started_activity domain workflow id batches (workflow_tip batches)
    >>= λ activity. Ok (version, activity)
