-- The signals of batches, and their origins.
use Rattle.std.specs.Prelude.{ℕ, List, [], ◌∷◌, ◌++◌, Option, Some, None}
use Rattle.std.specs.List.{cons_option}
use Rattle.ndc_event.specs.declared.batch.Batch.{Batch}
use Rattle.ndc_event.specs.declared.batch.Event.{Event}
use Rattle.ndc_event.specs.declared.key.Origin.{Origin}
use Rattle.ndc_event.specs.declared.key.RunId.{RunId}
use Rattle.ndc_event.specs.declared.kind.EventKind.{EventKind}
use Rattle.ndc_event.specs.declared.kind.EventKind.TheVariants.{WorkflowExecutionSignaled}
use Rattle.ndc_reapply.specs.declared.stray.Stray.{Stray}
use Rattle.ndc_reapply.specs.Strays.{origins_of}
use Rattle.ndc_state.specs.Origins.{origin_of}

-- the signal that an event of this kind is, by its origin
abbrev pub signal_of : RunId → ℕ → ℕ → EventKind → Option Stray
signal_of run id version (WorkflowExecutionSignaled name input from) = Some (record { origin = origin_of run id version from; name = name; input = input })
signal_of run id version _ = None

-- the signals among these events of a run
abbrev pub signals_in : RunId → List Event → List Stray
signals_in run [] = []
signals_in run (event ∷ events) = cons_option (signal_of run event.id event.version event.kind) (signals_in run events)

-- the origins of the signals among these events of a run
abbrev pub origins_in : RunId → List Event → List Origin
origins_in run events = origins_of (signals_in run events)

-- the signals of these batches
abbrev pub signals : List Batch → List Stray
signals [] = []
signals (b ∷ batches) = signals_in b.run b.events ++ signals batches
