-- The events of the two sides, by what they are about and by what happened in them.
use Rattle.std.specs.Prelude.{Bool, true, false, not, List, [], ◌∷◌, ℕ, Option, Some, None, if◌then◌else◌}
use Rattle.std.specs.Map.{lookup}
use Rattle.indexmap.specs.IndexMap.{insert_entry}
use Rattle.ndc_event.specs.Key.{key_lt}
use Rattle.ndc_event.specs.declared.batch.Batch.{Batch}
use Rattle.ndc_event.specs.declared.batch.Event.{Event}
use Rattle.ndc_event.specs.declared.key.BatchKey.{BatchKey}
use Rattle.ndc_event.specs.declared.key.RunId.{RunId}
use Rattle.ndc_dump_causes.specs.Keys.{is_listed}
use Rattle.ndc_explain_sides.specs.Partings.{Ends, Partings, end_of, parting_of}
use Rattle.ndc_explain_sides.specs.Subjects.{deed_label, same_label, scope_label, subject_label}
use Rattle.ndc_explain_sides.specs.declared.parting.Parting.{Parting}

-- an event that stands: its run, the key of its batch, the event, and the batch up to which it is matched
pub record Traced : Type 0 where
  pub run : RunId
  pub key : BatchKey
  pub event : Event
  pub reach : BatchKey

-- of each label the standing event that reaches furthest
abbrev pub Latest : Type 0
Latest = List (List ℕ × Traced)

-- whether what is known does not reach further
abbrev pub reaches : BatchKey → Option Traced → Bool
reaches reach None = true
reaches reach (Some trace) = not (key_lt reach trace.reach)

abbrev pub with_trace : List ℕ → Traced → Latest → Latest
with_trace label trace known = if reaches trace.reach (lookup (same_label label) known) then insert_entry same_label known label trace else known

-- with an event in a scope: by what it is about, and by what happened in it
abbrev pub with_event_in : Option RunId → Traced → Latest → Latest
with_event_in scope trace known = with_trace (deed_label scope trace.event.kind) trace (with_trace (subject_label scope trace.event.kind) trace known)

-- an event of a batch, matched up to this one
abbrev pub traced : BatchKey → Batch → Event → Traced
traced reach b event = record { run = b.run; key = b.key; event = event; reach = reach }

-- with an event of a standing batch, whose run ends so: in its run it is matched up to its batch, over all runs up to the end of its run
abbrev pub with_standing_event : BatchKey → Batch → Event → Latest → Latest
with_standing_event end b event known = with_event_in None (traced end b event) (with_event_in (Some b.run) (traced b.key b event) known)

abbrev pub with_standing_events : BatchKey → Batch → List Event → Latest → Latest
with_standing_events end b [] known = known
with_standing_events end b (event ∷ events) known = with_standing_events end b events (with_standing_event end b event known)

-- with the events of those of the batches whose keys are listed
abbrev pub with_standing : List BatchKey → Ends → List Batch → Latest → Latest
with_standing keys ends [] known = known
with_standing keys ends (b ∷ batches) known =
    with_standing keys ends batches (if is_listed b.key keys then with_standing_events (end_of ends b) b b.events known else known)

-- of each label where the first batch parts that has an event of it and does not stand
abbrev pub Least : Type 0
Least = List (List ℕ × BatchKey)

-- whether what is known parts later
abbrev pub comes_first : BatchKey → Option BatchKey → Bool
comes_first since None = true
comes_first since (Some known) = key_lt since known

abbrev pub with_since : List ℕ → BatchKey → Least → Least
with_since label since known = if comes_first since (lookup (same_label label) known) then insert_entry same_label known label since else known

abbrev pub with_lost_events : Parting → List Event → Least → Least
with_lost_events parting [] known = known
with_lost_events parting (event ∷ events) known = with_lost_events parting events (with_since (deed_label parting.scope event.kind) parting.since known)

-- with a batch that parts so
abbrev pub with_lost_batch : Parting → Batch → Least → Least
with_lost_batch parting b known = with_lost_events parting b.events (with_since (scope_label parting.scope) parting.since known)

-- with those of the batches whose keys are not listed
abbrev pub with_lost : List BatchKey → Partings → List Batch → Least → Least
with_lost keys partings [] known = known
with_lost keys partings (b ∷ batches) known = with_lost keys partings batches (if is_listed b.key keys then known else with_lost_batch (parting_of keys partings b) b known)
