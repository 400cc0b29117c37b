-- Each signal is told once.
use Rattle.std.proofs.Common.{◌≡◌, Bool, true, false, ◌&&◌, List, [], refl, ◌∙◌}
use Rattle.ndc_event.specs.declared.key.Origin.{Origin}
use Rattle.ndc_reapply.specs.declared.stray.Stray.{Stray}
use Rattle.ndc_reapply.specs.Strays.{origins_of, strays_of}
use Rattle.ndc_reapply.proofs.LawProofs.{unsettled_origins}
use Rattle.ndc_state.specs.Origins.{is_among}

and-true : (t : Bool) → (t && true) ≡ t
and-true true = refl
and-true false = refl

-- the origins of signals that are put in order are those of the signals
pub same_origins : (signals : List Stray) (origin : Origin) → is_among origin (origins_of (strays_of signals [])) ≡ is_among origin (origins_of signals)
same_origins signals origin = unsettled_origins origin signals [] ∙ and-true (is_among origin (origins_of signals))
