-- Lines that read a workflow.
use Rattle.std.specs.Prelude.{ℕ, Bool, true, false, ◌&&◌, ◌||◌, List, [], ◌∷◌, ◌++◌, length, codes, decimal, Option, Some, None, if◌then◌else◌}
use Rattle.std.specs.List.{flat_map}
use Rattle.std.specs.Str.{bytes_eq}
use Rattle.ndc_domain.specs.declared.clusters.ClusterNo.{ClusterNo}
use Rattle.ndc_event.specs.declared.batch.Batch.{Batch}
use Rattle.ndc_event.specs.declared.name.Name.{Name}
use Rattle.ndc_script_types.specs.declared.script.Header.{Header}
use Rattle.ndc_model_sets.specs.Branches.{workflow_tip}
use Rattle.ndc_model_sets.specs.Current.{run_status, state_to}
use Rattle.ndc_model_sets.specs.Paths.{events_to}
use Rattle.ndc_model_sets.specs.View.{view_of}
use Rattle.ndc_state.specs.Text.{state_text}
use Rattle.ndc_event.specs.Key.{run_text}
use Rattle.ndc_text.specs.Views.{dump_text, key_text, run_lines, status_text}
use Rattle.ndc_model_cells.specs.Cells.{learned_of}
use Rattle.ndc_model.specs.Texts.{event_line, ok, refused}
use Rattle.ndc_model.specs.World.{World, cell_of}

-- what is learned of a workflow at a cluster
abbrev pub learned_at : Header → ClusterNo → Name → Name → World → List Batch
learned_at header cluster domain workflow w = learned_of domain workflow (cell_of header cluster domain workflow w)

-- the answer of a line that reads a workflow: refused where nothing of it is learned
abbrev pub read_answer : (List Batch → List ℕ) → List Batch → List ℕ
read_answer answer [] = refused (codes "NoWorkflow" ∷ [])
read_answer answer (b ∷ batches) = answer (b ∷ batches)

-- the answer of a line that reads the current branch of the current run; there is one where anything is learned
abbrev pub tip_answer : (Batch → List ℕ) → Option Batch → List ℕ
tip_answer answer None = []
tip_answer answer (Some tip) = answer tip

-- `history`
abbrev pub history_answer : List Batch → List ℕ
history_answer batches =
    tip_answer (λ tip. ok (decimal (length (events_to tip.key batches)) ∷ []) ++ flat_map event_line (events_to tip.key batches)) (workflow_tip batches)

-- `branches`
abbrev pub branches_answer : List Batch → List ℕ
branches_answer batches = ok (decimal (length (view_of batches).runs) ∷ []) ++ flat_map run_lines (view_of batches).runs

-- `current`
abbrev pub current_answer : List Batch → List ℕ
current_answer batches =
    tip_answer (λ tip. ok (run_text tip.run ∷ key_text tip.key ∷ status_text (run_status tip.run batches) (state_to tip.run tip.key batches).close ∷ [])) (workflow_tip batches)

-- `state`
abbrev pub state_answer : List Batch → List ℕ
state_answer batches = tip_answer (λ tip. ok (state_text (state_to tip.run tip.key batches) ∷ [])) (workflow_tip batches)

-- `dump`
abbrev pub dump_answer : Name → Name → List Batch → List ℕ
dump_answer domain workflow batches = ok (decimal (length batches) ∷ []) ++ dump_text domain workflow (view_of batches)

-- whether nothing is learned
abbrev pub is_nothing : List Batch → Bool
is_nothing [] = true
is_nothing (b ∷ batches) = false

-- whether two clusters show the same of a workflow: nothing of it is learned at either, or their dumps are equal
abbrev pub shows_same : Name → Name → List Batch → List Batch → Bool
shows_same domain workflow one two =
    (is_nothing one && is_nothing two) || bytes_eq (dump_text domain workflow (view_of one)) (dump_text domain workflow (view_of two))

-- `compare`
abbrev pub compare_answer : Name → Name → List Batch → List Batch → List ℕ
compare_answer domain workflow one two = ok ((if shows_same domain workflow one two then codes "same" else codes "differ") ∷ [])
