-- What becomes of a batch that is handed to a run.
use Rattle.std.specs.Prelude.{◌≡◌, Bool, true, false, not, ◌&&◌, List, ◌++◌, Option, Some, None, Result, Ok, Err, if◌then◌else◌}
use Rattle.ndc_event.specs.Key.{key_lt}
use Rattle.ndc_event.specs.Outcome.{◌>>=◌}
use Rattle.ndc_event.specs.declared.batch.Batch.{Batch}
use Rattle.ndc_event.specs.declared.key.BatchKey.{BatchKey}
use Rattle.ndc_event.specs.declared.key.RunId.{RunId}
use Rattle.ndc_state.specs.declared.rule.StateError.{StateError}
use Rattle.ndc_state.specs.Replay.{replay_of}
use Rattle.ndc_state.specs.Value.{StateValue}
use Rattle.ndc_model_sets.specs.Branches.{current_tip}
use Rattle.ndc_model_sets.specs.Current.{state_to}
use Rattle.ndc_model_sets.specs.Paths.{is_wanted, events_to}
use Rattle.ndc_model_sets.specs.Sets.{arrived}
use Rattle.ndc_tree.specs.declared.answer.Inserted.{Inserted}
use Rattle.ndc_tree.specs.declared.answer.Inserted.TheVariants.{Known}
use Rattle.ndc_tree.specs.declared.answer.TreeError.{TreeError}
use Rattle.ndc_tree.specs.Inserting.{inserted}
use Rattle.ndc_model_sets.specs.Reading.{path_of}
use Rattle.ndc_tree.specs.Tips.{tip_keys}
use Rattle.ndc_model_sets.specs.Keys.{is_key_among}
use Rattle.ndc_run.specs.declared.answer.Learned.{Learned}
use Rattle.ndc_run.specs.declared.answer.Learned.TheVariants.{New}
use Rattle.ndc_run.specs.declared.answer.RunError.{RunError}
use Rattle.ndc_run.specs.declared.answer.RunError.TheVariants.{MissingParent, NotWellFormed, Invalid, Memory}
use Rattle.ndc_state.specs.declared.rule.StateError.TheVariants as state
use Rattle.ndc_tree.specs.declared.answer.TreeError.TheVariants as tree

-- an error of a state, as one of a run
abbrev pub of_state_error : StateError → RunError
of_state_error (state.Invalid id rule) = Invalid id rule
of_state_error state.Memory = Memory

-- an error of a tree, as one of a run
abbrev pub of_tree_error : TreeError → RunError
of_tree_error (tree.MissingParent key) = MissingParent key
of_tree_error (tree.NotWellFormed key) = NotWellFormed key
of_tree_error tree.Memory = Memory

-- an answer with another type of error
abbrev pub or_error : {X E F : Type 0} → (E → F) → Result X E → Result X F
or_error f (Ok x) = Ok x
or_error f (Err e) = Err (f e)

-- the state of the path to a batch, once it is there
abbrev pub state_with : RunId → List Batch → Batch → Result StateValue RunError
state_with run batches b = or_error of_state_error (replay_of run (events_to b.key (arrived b batches)))

-- whether a batch comes after this tip, where there is one, without going on from it
abbrev pub passes_by : Batch → Option Batch → Bool
passes_by b None = false
passes_by b (Some tip) = key_lt tip.key b.key && not (is_wanted b.parent tip)

-- what becomes of a batch that the tree takes: it is new, or one of its events is forbidden
abbrev pub joined : RunId → List Batch → Batch → Result Learned RunError
joined run batches b = state_with run batches b >>= (λ after. Ok (New (passes_by b (current_tip run batches))))

-- what becomes of a batch that is not there: what the tree says of it comes first
abbrev pub learned : RunId → List Batch → Batch → Result Learned RunError
learned run batches b = or_error of_tree_error (inserted run batches b) >>= (λ place. joined run batches b)

-- whether an answer tells that the batch was there
abbrev pub is_known : Inserted → Bool
is_known Known = true
is_known _ = false

-- whether the key comes after this one, where there is one
abbrev pub leads_over : BatchKey → Option BatchKey → Bool
leads_over key None = false
leads_over key (Some other) = key_lt other key

-- the path of the current branch
abbrev pub current_path : RunId → List Batch → List Batch
current_path run batches = path_of (current_tip run batches) batches

-- a path begins with another one
abbrev pub BeginsWith : List Batch → List Batch → Type 0
BeginsWith path front = (rest : List Batch) × (path ≡ front ++ rest)

-- the state of the branch with this tip, where it is one
abbrev pub tip_state : RunId → List Batch → BatchKey → Option StateValue
tip_state run batches key = if is_key_among key (tip_keys run batches) then Some (state_to run key batches) else None
