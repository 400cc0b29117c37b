-- Events that are one.
use Rattle.std.specs.Prelude.{◌≡◌, take, List}
use Rattle.std.specs.List.{IsAmong}
use Rattle.ndc_event.specs.declared.batch.Batch.{Batch}
use Rattle.ndc_event.specs.declared.batch.Event.{Event}
use Rattle.ndc_model_sets.specs.Paths.{events_to}
use Rattle.ndc_model_sets.specs.Sets.{Has}

-- two events of two histories are one, and the histories are one up to it
pub record AreOne (first second : List Event) (one two : Event) : Type 0 where
  pub same : one ≡ two
  pub past : take one.id first ≡ take two.id second

-- events of one run, id and version are one event with one past, on whichever paths they stand
abbrev pub EventsAreOne : List Batch → Type 0
EventsAreOne batches = (a b : Batch) (one two : Event) → Has batches a → Has batches b → a.run ≡ b.run
    → IsAmong (events_to a.key batches) one → IsAmong (events_to b.key batches) two → one.id ≡ two.id → one.version ≡ two.version
    → AreOne (events_to a.key batches) (events_to b.key batches) one two
