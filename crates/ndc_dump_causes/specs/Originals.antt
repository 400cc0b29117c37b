-- What is known of the events that origins name, as an index of a set's events.
use Rattle.std.specs.Prelude.{Bool, true, false, not, ◌&&◌, List, [], ◌∷◌, Option, Some, None, if◌then◌else◌}
use Rattle.std.specs.List.{list_any}
use Rattle.std.specs.Map.{lookup}
use Rattle.std.specs.Str.{bytes_eq}
use Rattle.indexmap.specs.IndexMap.{insert_entry}
use Rattle.ndc_event.specs.declared.batch.Batch.{Batch}
use Rattle.ndc_event.specs.declared.batch.Event.{Event}
use Rattle.ndc_event.specs.declared.key.Origin.{Origin}
use Rattle.ndc_event.specs.declared.key.RunId.{RunId}
use Rattle.ndc_event.specs.declared.kind.EventKind.{EventKind}
use Rattle.ndc_event.specs.declared.kind.EventKind.TheVariants.{WorkflowExecutionSignaled}
use Rattle.ndc_event.specs.declared.name.Name.{Name}
use Rattle.ndc_state.specs.Origins.{same_origin}
use Rattle.ndc_dump_causes.specs.declared.originals.Signal.{Signal}

-- whether two signals have one name and one input
abbrev pub same_signal : Signal → Signal → Bool
same_signal one two = bytes_eq one.name two.name && bytes_eq one.input two.input

-- the original signal that an event of this kind is
abbrev pub signal_in : EventKind → Option Signal
signal_in (WorkflowExecutionSignaled name input None) = Some (record { name = name; input = input })
signal_in _ = None

-- whether it is another signal than this, or none
abbrev pub is_unlike : Signal → Option Signal → Bool
is_unlike wanted None = true
is_unlike wanted (Some signal) = not (same_signal signal wanted)

-- whether an event is known that is not this signal
abbrev pub misfits : Signal → Option (Option Signal) → Bool
misfits wanted None = false
misfits wanted (Some known) = is_unlike wanted known

-- the signal that both are
abbrev pub both : Option Signal → Option Signal → Option Signal
both None new = None
both (Some known) None = None
both (Some known) (Some new) = if same_signal known new then Some new else None

-- what is known with one event more
abbrev pub joined : Option (Option Signal) → Option Signal → Option Signal
joined None new = new
joined (Some known) new = both known new

-- the origin that names an event of a run
abbrev pub place_of : RunId → Event → Origin
place_of run event = record { run = run; event = event.id; version = event.version }

-- what is known with an event of a run
abbrev pub with_event : RunId → Event → List (Origin × Option Signal) → List (Origin × Option Signal)
with_event run event known = insert_entry same_origin known (place_of run event) (joined (lookup (same_origin (place_of run event)) known) (signal_in event.kind))

-- the same with events of a run, and with all those of batches
abbrev pub with_events : RunId → List Event → List (Origin × Option Signal) → List (Origin × Option Signal)
with_events run [] known = known
with_events run (event ∷ events) known = with_events run events (with_event run event known)

abbrev pub with_batches : List Batch → List (Origin × Option Signal) → List (Origin × Option Signal)
with_batches [] known = known
with_batches (b ∷ batches) known = with_batches batches (with_events b.run b.events known)

-- whether an origin names an event that is not an original signal of this name and input
abbrev pub misfits_in : List (Origin × Option Signal) → Origin → Name → Name → Bool
misfits_in known origin name input = misfits (record { name = name; input = input }) (lookup (same_origin origin) known)

-- whether an event of this kind is a copied signal whose origin names an event that is not its original
abbrev pub is_unfit_among : List (Origin × Option Signal) → EventKind → Bool
is_unfit_among known (WorkflowExecutionSignaled name input (Some origin)) = misfits_in known origin name input
is_unfit_among known _ = false

-- whether there is such a copy among these events
abbrev pub has_unfit_among : List (Origin × Option Signal) → List Event → Bool
has_unfit_among known events = list_any (λ event. is_unfit_among known event.kind) events
