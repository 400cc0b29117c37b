-- What some batches of a workflow tell of its strays.
use Rattle.std.specs.Prelude.{Bool, not, ◌&&◌, is_none, List, [], ◌∷◌, ◌++◌, Option, Some, None, if◌then◌else◌}
use Rattle.std.specs.List.{cons_option, filter, flat_map}
use Rattle.ndc_event.specs.declared.batch.Batch.{Batch}
use Rattle.ndc_event.specs.declared.batch.Event.{Event}
use Rattle.ndc_event.specs.declared.key.Origin.{Origin}
use Rattle.ndc_event.specs.declared.key.RunId.{RunId}
use Rattle.ndc_reapply.specs.declared.stray.Stray.{Stray}
use Rattle.ndc_model_sets.specs.Current.{settled_by}
use Rattle.ndc_model_sets.specs.Origins.{signal_of}
use Rattle.ndc_shard_runs.specs.Kept.{is_unlisted}
use Rattle.ndc_state.specs.Value.{StateValue}

-- the origins that a run with this state settles, where it is the current run or not
abbrev pub settled_with : StateValue → Bool → List Origin
settled_with state is_current = if state.running && not is_current then [] else state.origins

-- the origins that the run of a batch settles, where the batch is the first of its run
abbrev pub settled_from : List Batch → Batch → List Origin
settled_from batches b = if is_none b.parent then settled_by b.run batches else []

-- the origins that a state has seen, where there is one
abbrev pub seen_by : Option StateValue → List Origin
seen_by None = []
seen_by (Some state) = state.origins

-- the origins that these states have seen
abbrev pub origins_seen : List StateValue → List Origin
origins_seen states = flat_map (λ s. s.origins) states

-- the signals among these events of a run whose origins are none of these
abbrev pub unsettled_in : List Origin → RunId → List Event → List Stray
unsettled_in origins run [] = []
unsettled_in origins run (event ∷ events) = filter (is_unlisted origins) (cons_option (signal_of run event.id event.version event.kind) []) ++ unsettled_in origins run events

-- the signals of these batches whose origins are none of these
abbrev pub unsettled : List Origin → List Batch → List Stray
unsettled origins [] = []
unsettled origins (b ∷ batches) = unsettled_in origins b.run b.events ++ unsettled origins batches
