-- What signals in order are seen as.
use Rattle.std.specs.Prelude.{◌≡◌, List}
use Rattle.std.specs.Map.{values_of}
use Rattle.ndc_reapply.specs.declared.order.Ordered.TheInside.{Inside}
use Rattle.ndc_reapply.specs.declared.stray.Stray.{Stray}
use Rattle.ndc_reapply.specs.Places.{by_place}

abbrev pub signals_of : Inside → List Stray
signals_of ordered = values_of ordered.signals.entries

-- each signal stands under the place of its origin
abbrev pub AreInPlace : Inside → Type 0
AreInPlace ordered = ordered.signals.entries ≡ by_place (values_of ordered.signals.entries)
