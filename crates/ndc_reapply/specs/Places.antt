-- Strays under their places in the order.
use Rattle.std.specs.Prelude.{List, map}
use Rattle.ndc_event.specs.declared.key.Origin.{Origin}
use Rattle.ndc_reapply.specs.declared.order.Place.{Place}
use Rattle.ndc_reapply.specs.declared.stray.Stray.{Stray}

-- the place of an origin in the order
abbrev pub place_of : Origin → Place
place_of origin = record { version = origin.version; event = origin.event; run = origin.run }

-- each signal under the place of its origin
abbrev pub by_place : List Stray → List (Place × Stray)
by_place signals = map (λ signal. (place_of signal.origin, signal)) signals
