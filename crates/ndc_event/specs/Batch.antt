-- Batches of events, and what a batch may not be.
use Rattle.std.specs.Prelude.{ℕ, ◌+◌, Bool, true, ◌&&◌, ◌==◌, not, nat_lt, is_some, Option, Some, None, List, [], ◌∷◌, if◌then◌else◌}
use Rattle.std.specs.List.{list_all}
use Rattle.ndc_event.specs.declared.batch.Batch.{Batch}
use Rattle.ndc_event.specs.declared.batch.Event.{Event}
use Rattle.ndc_event.specs.declared.batch.BatchFault.{BatchFault}
use Rattle.ndc_event.specs.declared.batch.BatchFault.TheVariants.{NoEvents, IdsNotConsecutive, MixedVersions, BadFirst, BadParent, BadCarrier}
use Rattle.ndc_event.specs.declared.key.BatchKey.{BatchKey}
use Rattle.ndc_event.specs.Key.{run_of}

-- each id is one more than the id before
abbrev pub follow_from : ℕ → List Event → Bool
follow_from id [] = true
follow_from id (event ∷ events) = (event.id == id + 1) && follow_from event.id events

-- the ids of the events rise by one
abbrev pub are_consecutive : List Event → Bool
are_consecutive [] = true
are_consecutive (event ∷ events) = follow_from event.id events

-- the events have this version
abbrev pub are_of_version : ℕ → List Event → Bool
are_of_version version events = list_all (λ event. event.version == version) events

-- a first batch begins with event 1 and names its own run; another one begins with a later event
abbrev pub is_first_fit : Batch → ℕ → Option BatchKey → Bool
is_first_fit b id None = (id == 1) && (b.run.value == (run_of b.key).value)
is_first_fit b id (Some parent) = nat_lt 1 id

-- the parent is of no later version, and its task is an earlier one
abbrev pub is_parent_fit : BatchKey → Option BatchKey → Bool
is_parent_fit key None = true
is_parent_fit key (Some parent) = not (nat_lt key.version parent.version) && nat_lt parent.task key.task

-- the carrier is the batch just before, of the same version, and there is no parent beside it
abbrev pub is_carrier_fit : BatchKey → Option BatchKey → Option BatchKey → Bool
is_carrier_fit key parent None = true
is_carrier_fit key parent (Some carrier) = not (is_some parent) && ((carrier.version == key.version) && (carrier.task + 1 == key.task))

-- the first fault of a batch whose first event has this id
abbrev pub fault_from : Batch → ℕ → Option BatchFault
fault_from b id =
    if not (are_consecutive b.events) then Some IdsNotConsecutive
    else if not (are_of_version b.key.version b.events) then Some MixedVersions
    else if not (is_first_fit b id b.parent) then Some BadFirst
    else if not (is_parent_fit b.key b.parent) then Some BadParent
    else if not (is_carrier_fit b.key b.parent b.carrier) then Some BadCarrier
    else None

-- the first fault of these events as those of the batch
abbrev pub fault_at : Batch → List Event → Option BatchFault
fault_at b [] = Some NoEvents
fault_at b (event ∷ events) = fault_from b event.id

-- the first fault of a batch
abbrev pub fault_of : Batch → Option BatchFault
fault_of b = fault_at b b.events
