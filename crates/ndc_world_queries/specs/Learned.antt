-- What is learned of a workflow, where anything may be.
use Rattle.std.specs.Prelude.{ℕ, true, List, [], ◌∷◌, ◌++◌, length, decimal, Option}
use Rattle.std.specs.List.{flat_map}
use Rattle.std.specs.Option.{option_map}
use Rattle.ndc_event.specs.Key.{run_text}
use Rattle.ndc_event.specs.declared.batch.Batch.{Batch}
use Rattle.ndc_event.specs.declared.key.BatchKey.{BatchKey}
use Rattle.ndc_model.specs.Texts.{event_line, ok}
use Rattle.ndc_model_sets.specs.Branches.{workflow_tip}
use Rattle.ndc_model_sets.specs.Current.{status_of}
use Rattle.ndc_state.specs.Replay.{history_of}
use Rattle.ndc_state.specs.Value.{StateValue}
use Rattle.ndc_text.specs.Views.{key_text, status_text}
use Rattle.ndc_world_replication.specs.Found.{batches_or_none}

-- the answer of a line on the current run, by the tip of its current branch and the state of it
abbrev pub current_text : Batch → StateValue → List ℕ
current_text tip s = ok (run_text tip.run ∷ key_text tip.key ∷ status_text (status_of s.running true) s.close ∷ [])

-- the answer of a line on the history, by the path to the tip, where there is one
abbrev pub history_text : Option (List Batch) → List ℕ
history_text path = ok (decimal (length (history_of (batches_or_none path))) ∷ []) ++ flat_map event_line (history_of (batches_or_none path))

-- the key of the workflow's tip, which is the greatest of all, where anything is learned
abbrev pub last_key : List Batch → Option BatchKey
last_key batches = option_map (λ tip. tip.key) (workflow_tip batches)
