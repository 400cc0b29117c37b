-- The fields of what is kept of a run's states.
use Rattle.std.specs.Prelude.{◌≡◌, Box, List, [], Option, Some, None}
use Rattle.ndc_event.specs.declared.key.BatchKey.{BatchKey}
use Rattle.ndc_event.specs.declared.key.RunId.{RunId}
use Rattle.ndc_rebuild.specs.Kept.{Kept}
use Rattle.ndc_state.specs.Value.{StateValue}
use Rattle.ndc_run.specs.declared.copies.Copies.TheInside.{Inside}

-- the states in a box, and none where there is no box
abbrev pub states_in : {Z : Type 0} → Option (Box Kept Z) → List (BatchKey × StateValue)
states_in None = []
states_in (Some box) = box.value.states

abbrev pub kept_of : Inside → Kept
kept_of c = record { run = c.run; states = states_in c.held }

-- what is in a box is kept of this run
abbrev pub IsKeptOf : {Z : Type 0} → RunId → Option (Box Kept Z) → Type 0
IsKeptOf run None = Unit {0}
IsKeptOf run (Some box) = box.value.run ≡ run

abbrev pub IsOfRun : Inside → Type 0
IsOfRun c = IsKeptOf c.run c.held
