-- The two sides: what stands on no current branch, and what happened on a current branch alone.
use Rattle.std.specs.Prelude.{Bool, true, false, not, ◌&&◌, ◌||◌, List, [], ◌∷◌, map, Option, Some, None, if◌then◌else◌}
use Rattle.std.specs.List.{filter, flat_map}
use Rattle.std.specs.Map.{lookup}
use Rattle.ndc_event.specs.Key.{key_lt}
use Rattle.ndc_event.specs.declared.batch.Batch.{Batch}
use Rattle.ndc_event.specs.declared.batch.Event.{Event}
use Rattle.ndc_event.specs.declared.key.BatchKey.{BatchKey}
use Rattle.ndc_event.specs.declared.key.RunId.{RunId}
use Rattle.ndc_dump_causes.specs.Keys.{is_listed}
use Rattle.ndc_explain_sides.specs.Partings.{Ends, Partings, end_of, parting_of, with_ends, with_partings}
use Rattle.ndc_explain_sides.specs.Subjects.{deed_label, is_signal, same_label, scope_label, sort_of, subject_label}
use Rattle.ndc_explain_sides.specs.Traces.{Latest, Least, Traced, traced, with_lost, with_standing}
use Rattle.ndc_explain_sides.specs.declared.parting.Parting.{Parting}

-- an event that stands on no current branch: its run, the key of its batch, the event, whether it happened on a current branch as well,
-- and the event there: the last one in which that happened, or else the last one about the same
pub record Lost : Type 0 where
  pub run : RunId
  pub key : BatchKey
  pub event : Event
  pub is_both : Bool
  pub beside : Option Traced

-- a standing event faces a batch that parts here, where it is matched up to a later batch
abbrev pub facing : BatchKey → Option Traced → Option Traced
facing since None = None
facing since (Some trace) = if key_lt since trace.reach then Some trace else None

-- the last event that faces a batch and in which this happened
abbrev pub twin_of : Latest → Parting → Event → Option Traced
twin_of latest parting event = facing parting.since (lookup (same_label (deed_label parting.scope event.kind)) latest)

-- the last event that faces a batch and is about the same
abbrev pub kin_of : Latest → Parting → Event → Option Traced
kin_of latest parting event = facing parting.since (lookup (same_label (subject_label parting.scope event.kind)) latest)

-- an event that has this twin, or none
abbrev pub lost_with : Latest → Parting → Batch → Event → Option Traced → Lost
lost_with latest parting b event None = record { run = b.run; key = b.key; event = event; is_both = false; beside = kin_of latest parting event }
lost_with latest parting b event (Some twin) = record { run = b.run; key = b.key; event = event; is_both = true; beside = Some twin }

-- an event of a batch that parts so, unless it is a signal
abbrev pub lost_at : Latest → Parting → Batch → Event → List Lost
lost_at latest parting b event = if is_signal (sort_of event.kind) then [] else lost_with latest parting b event (twin_of latest parting event) ∷ []

-- these events of a batch that parts so
abbrev pub lost_in : Latest → Parting → Batch → List Event → List Lost
lost_in latest parting b events = flat_map (lost_at latest parting b) events

-- the events of those of the batches whose keys are not listed
abbrev pub lost_of : List BatchKey → Partings → Latest → List Batch → List Lost
lost_of keys partings latest batches = flat_map (λ b. if is_listed b.key keys then [] else lost_in latest (parting_of keys partings b) b b.events) batches

-- whether a batch up to which an event is matched comes after where a lost one parts, where there is one
abbrev pub is_after : BatchKey → Option BatchKey → Bool
is_after reach None = false
is_after reach (Some since) = key_lt since reach

-- whether an event that is matched up to this batch faces a lost batch
abbrev pub faces : Least → Option RunId → BatchKey → Bool
faces least scope reach = is_after reach (lookup (same_label (scope_label scope)) least)

-- whether it faces one in which the same happened
abbrev pub meets : Least → Option RunId → BatchKey → Event → Bool
meets least scope reach event = is_after reach (lookup (same_label (deed_label scope event.kind)) least)

-- whether an event of a standing batch, whose run ends so, faces a lost batch, in its run or over all runs
abbrev pub faces_any : Least → BatchKey → Batch → Bool
faces_any least end b = faces least (Some b.run) b.key || faces least None end

-- whether it faces one in which the same happened
abbrev pub meets_any : Least → BatchKey → Batch → Event → Bool
meets_any least end b event = meets least (Some b.run) b.key event || meets least None end event

-- whether it faces a lost batch, and what happened in it happened in none that it faces
abbrev pub is_alone : Least → BatchKey → Batch → Event → Bool
is_alone least end b event = faces_any least end b && not (meets_any least end b event)

-- a standing event that happened on a current branch alone, unless it is a signal
abbrev pub alone_at : Least → BatchKey → Batch → Event → List Traced
alone_at least end b event = if not (is_signal (sort_of event.kind)) && is_alone least end b event then traced end b event ∷ [] else []

abbrev pub alone_in : Least → BatchKey → Batch → List Event → List Traced
alone_in least end b events = flat_map (alone_at least end b) events

-- those of a batch, where its key is listed
abbrev pub alone_with : List BatchKey → Ends → Least → Batch → List Traced
alone_with keys ends least b = if is_listed b.key keys then alone_in least (end_of ends b) b b.events else []

-- those of the batches whose keys are listed
abbrev pub alone_of : List BatchKey → Ends → Least → List Batch → List Traced
alone_of keys ends least batches = flat_map (alone_with keys ends least) batches

-- what both sides had
pub record Sided : Type 0 where
  pub lost : List Lost
  pub alone : List Traced

-- the sides of these batches, where those whose keys are listed stand on current branches
abbrev pub sides_of : List BatchKey → List Batch → Sided
sides_of keys batches = record {
  lost = lost_of keys (with_partings keys batches []) (with_standing keys (with_ends keys batches []) batches []) batches;
  alone = alone_of keys (with_ends keys batches []) (with_lost keys (with_partings keys batches []) batches []) batches;
}

-- an event with its run and the key of its batch
abbrev pub Placed : Type 0
Placed = RunId × BatchKey × Event

-- a lost event without what stands beside it
abbrev pub placed_of : Lost → Placed
placed_of loss = (loss.run, loss.key, loss.event)

abbrev pub placed_in : Batch → Event → Placed
placed_in b event = (b.run, b.key, event)

abbrev pub is_no_signal : Event → Bool
is_no_signal event = not (is_signal (sort_of event.kind))

-- the events of those of the batches whose keys are not listed, in the order of the batches, but for signals
abbrev pub events_beside : List BatchKey → List Batch → List Placed
events_beside keys batches = flat_map (λ b. if is_listed b.key keys then [] else map (placed_in b) (filter is_no_signal b.events)) batches
