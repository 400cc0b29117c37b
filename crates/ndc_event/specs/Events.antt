-- Events as a list holds them.
use Rattle.std.specs.Prelude.{List}
use Rattle.std.specs.Arc.{arc_value}
use Rattle.ndc_event.specs.declared.batch.Event.{Event}
use Rattle.ndc_event.specs.declared.batch.Held.{Held}
use Rattle.ndc_event.specs.declared.batch.Held.TheVariants.{Own, Shared}

-- the events, held alone or shared
abbrev pub events_of : Held → List Event
events_of (Own events) = events.items
events_of (Shared events) = (arc_value events).items
