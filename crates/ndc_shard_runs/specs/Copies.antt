-- Copied signals, and the events that their origins name.
use Rattle.std.specs.Prelude.{Bool, true, false, ◌&&◌, ◌||◌, is_some, List, [], ◌∷◌, Option, Some, None}
use Rattle.std.specs.List.{AllByRecursion, list_all}
use Rattle.std.specs.Str.{bytes_eq}
use Rattle.ndc_event.specs.declared.batch.Batch.{Batch}
use Rattle.ndc_event.specs.declared.batch.Event.{Event}
use Rattle.ndc_event.specs.declared.key.Origin.{Origin}
use Rattle.ndc_event.specs.declared.kind.EventKind.{EventKind}
use Rattle.ndc_event.specs.declared.kind.EventKind.TheVariants.{WorkflowExecutionSignaled}
use Rattle.ndc_event.specs.declared.name.Name.{Name}
use Rattle.ndc_model_sets.specs.Sets.{Has}
use Rattle.ndc_model_sets.specs.Sound.{IsCopyFit}
use Rattle.ndc_tree.specs.Events.{event_at}
use Rattle.ndc_shard_runs.specs.RunMap.{part_of}

-- the event that an origin names, in a batch of its run
abbrev pub event_of : Origin → List Batch → Option Event
event_of origin batches = event_at origin.version origin.event (part_of origin.run batches)

-- where a copied signal of a batch names an event of it or of one of the others, this is an original signal of the same name and input
pub record CopiesFitInto (batches : List Batch) (b : Batch) : Type 0 where
  pub own : AllByRecursion (λ copy. AllByRecursion (IsCopyFit copy b.run) b.events) b.events
  pub others : (other : Batch) → Has batches other → AllByRecursion (λ copy. AllByRecursion (IsCopyFit copy other.run) other.events) b.events

-- whether an event of this kind is an original signal of this name and input
abbrev pub is_original : Name → Name → EventKind → Bool
is_original name input (WorkflowExecutionSignaled other more None) = bytes_eq other name && bytes_eq more input
is_original name input _ = false

-- whether an event, where there is one, is an original signal of this name and input
abbrev pub is_none_or_original : Name → Name → Option Event → Bool
is_none_or_original name input None = true
is_none_or_original name input (Some event) = is_original name input event.kind

-- whether an event of a batch of this kind is not a copied signal, or names nothing but its original in the batch and in the others
abbrev pub is_fit_copy : List Batch → Batch → EventKind → Bool
is_fit_copy batches b (WorkflowExecutionSignaled name input (Some origin)) = is_none_or_original name input (event_of origin (b ∷ [])) && is_none_or_original name input (event_of origin batches)
is_fit_copy batches b _ = true

-- whether this holds of each event of a batch
abbrev pub are_fit_copies : List Batch → Batch → Bool
are_fit_copies batches b = list_all (λ event. is_fit_copy batches b event.kind) b.events

-- whether an event of this kind is not a copied signal, or names an event of a batch or of the others
abbrev pub is_named_copy : List Batch → Batch → EventKind → Bool
is_named_copy batches b (WorkflowExecutionSignaled name input (Some origin)) = is_some (event_of origin (b ∷ [])) || is_some (event_of origin batches)
is_named_copy batches b _ = true

-- whether each copied signal of a batch names an event of it or of the others
abbrev pub are_named_copies : List Batch → Batch → Bool
are_named_copies batches b = list_all (λ event. is_named_copy batches b event.kind) b.events

-- whether an event of this kind is not a copied signal, or names nothing but its original in a batch
abbrev pub is_fit_to : Batch → EventKind → Bool
is_fit_to b (WorkflowExecutionSignaled name input (Some origin)) = is_none_or_original name input (event_of origin (b ∷ []))
is_fit_to b _ = true

-- whether this holds of each of these events
abbrev pub are_fit_to : Batch → List Event → Bool
are_fit_to b events = list_all (λ event. is_fit_to b event.kind) events

-- a copied signal is open in a set where its original is not there: whether an event of this kind is none, or names nothing but its original
-- in a batch
abbrev pub is_open_fit : List Batch → Batch → EventKind → Bool
is_open_fit batches b (WorkflowExecutionSignaled name input (Some origin)) = is_some (event_of origin batches) || is_none_or_original name input (event_of origin (b ∷ []))
is_open_fit batches b _ = true

-- whether this holds of each of these events
abbrev pub are_open_fit : List Batch → Batch → List Event → Bool
are_open_fit batches b events = list_all (λ event. is_open_fit batches b event.kind) events

-- whether each copied signal of the set that is open there names nothing but its original in a batch
abbrev pub open_copies_fit : List Batch → Batch → Bool
open_copies_fit batches b = list_all (λ other. are_open_fit batches b other.events) batches

-- whether the copied signals of a batch fit it and the others, and those of the others that are open there fit the batch
abbrev pub copies_fit_both_ways : List Batch → Batch → Bool
copies_fit_both_ways batches b = are_fit_copies batches b && open_copies_fit batches b

-- the same of a batch that is learned with another one, which comes before it
abbrev pub second_copies_fit : List Batch → Batch → Batch → Bool
second_copies_fit batches b second = copies_fit_both_ways batches second && (are_fit_to b second.events && are_fit_to second b.events)
