-- The last of a batch's events.
use Rattle.std.proofs.Common.{◌≡◌, ℕ, zero, suc, ◌-◌, List, [], ◌∷◌, length, Some, slice_get, refl, ap, sym, ◌∙◌, arith}
use Rattle.ndc_event.specs.declared.batch.Event.{Event}
use Rattle.ndc_model_sets.specs.Paths.{last_from, last_id}

last-up : (first : Event) (events : List Event) (i : ℕ) (event : Event) → length events ≡ i → slice_get (first ∷ events) i ≡ Some event → event ≡ last_from first events
last-up first [] zero event n h = cc
last-up first [] (suc i) event n h = absurd (cc)
last-up first (next ∷ events) zero event n h = absurd (cc)
last-up first (next ∷ events) (suc i) event n h = last-up next events i event (omega (arith, n)) h

pub before-suc : (n : ℕ) → suc n - 1 ≡ n
before-suc n = omega arith

-- the event at the last place has the last id
pub last-id-at : (events : List Event) (event : Event) → slice_get events (length events - 1) ≡ Some event → event.id ≡ last_id events
last-id-at [] event h = absurd (cc)
last-id-at (first ∷ events) event h =
    ap (λ (e : Event). e.id) (last-up first events (length events) event refl (sym (ap (slice_get (first ∷ events)) (before-suc (length events))) ∙ h))
