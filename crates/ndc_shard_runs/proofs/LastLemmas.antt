-- The last of some events.
use Rattle.std.proofs.Common.{◌≡◌, ℕ, ◌-◌, List, [], ◌∷◌, length, Some, slice_get, refl, sym, ap, ◌∙◌}
use Rattle.ndc_event.specs.declared.batch.Event.{Event}
use Rattle.ndc_model_sets.specs.Paths.{last_event, last_from}
use Rattle.ndc_model_sets.proofs.EventLemmas.{before-suc}

last-up : (first : Event) (events : List Event) (n : ℕ) (event : Event) → n ≡ length events → slice_get (first ∷ events) n ≡ Some event → last_from first events ≡ event
last-up first [] n event e h = let at : slice_get (first ∷ []) 0 ≡ Some event = sym (ap (slice_get (first ∷ [])) e) ∙ h in cc
last-up first (next ∷ events) n event e h = last-up next events (length events) event refl (sym (ap (slice_get (first ∷ next ∷ events)) e) ∙ h)

-- the event at the last place is the last one
pub last-event-at : (events : List Event) (event : Event) → slice_get events (length events - 1) ≡ Some event → last_event events ≡ Some event
last-event-at [] event h = absurd (cc)
last-event-at (first ∷ events) event h =
    ap Some (last-up first events (length events) event refl (sym (ap (slice_get (first ∷ events)) (before-suc (length events))) ∙ h))
